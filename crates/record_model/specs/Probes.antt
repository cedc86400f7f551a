-- The work of one line about a name: it asks for the values of buckets, one after the other, and for at most one write.
use Rattle.std.specs.Prelude.{ℕ, zero, suc, ◌+◌, nat_lt, List, [], Option, Some, None, slice_set, if◌then◌else◌}
use Rattle.std.specs.Option.{option_or}
use Rattle.std.specs.Str.{bytes_eq}
use Rattle.record_model.specs.declared.names.Bucket.{Bucket}
use Rattle.record_model.specs.declared.names.Bucket.TheVariants.{Free, Tombstone, Entry, Strange}
use Rattle.record_model.specs.declared.names.Job.{Job}
use Rattle.record_model.specs.declared.names.Job.TheVariants.{Find, Put, Remove}
use Rattle.record_model.specs.declared.names.Ask.{Ask}
use Rattle.record_model.specs.declared.names.Ask.TheVariants.{Read, Write, End}
use Rattle.record_model.specs.declared.names.NameAnswer.TheVariants as answer
use Rattle.record_model.specs.State.{Content, content_at}
use Rattle.record_model.specs.Names.{entry, bucket_of, probed, bucket_count}

-- what is to be done with which name among how many buckets, how many values were told, the record of the first
-- tombstone among them, and what comes next
pub record Probe : Type 0 where
  pub job : Job
  pub name : List ℕ
  pub buckets : ℕ
  pub told : ℕ
  pub tombstone : Option ℕ
  pub next : Ask

abbrev pub ask : Probe → Ask
ask p = p.next

-- the record of the bucket that is probed so many steps from home
abbrev pub record_at : List ℕ → ℕ → ℕ → ℕ
record_at name buckets steps = buckets + probed name buckets steps

abbrev pub begun : Job → List ℕ → ℕ → Probe
begun job name buckets = record {
  job = job;
  name = name;
  buckets = buckets;
  told = 0;
  tombstone = None;
  next = Read (record_at name buckets 0);
}

-- what comes where the name's entry is met, in this record and with this value
abbrev pub met : Job → List ℕ → ℕ → List ℕ → Ask
met Find name number value = End (answer.Found value)
met (Put new) name number value = Write number (entry name new)
met Remove name number value = Write number []

-- what comes where the probing ended without it, and this record, if there is one, can have a new entry
abbrev pub missed : Job → List ℕ → ℕ → Option ℕ → Ask
missed Find name buckets free = End answer.Nothing
missed Remove name buckets free = End answer.Nothing
missed (Put new) name buckets (Some number) = Write number (entry name new)
missed (Put new) name buckets None = End (answer.NamesFull buckets)

-- on to the next bucket, while there is one
abbrev pub passed_on : Probe → Probe
passed_on p = record p {
  next = if nat_lt p.told p.buckets then Read (record_at p.name p.buckets p.told)
      else missed p.job p.name p.buckets p.tombstone;
}

-- what this bucket, in this record, leaves of a probe that counts it as told
abbrev pub after_bucket : Probe → ℕ → Bucket → Probe
after_bucket p number Free = record p { next = missed p.job p.name p.buckets (option_or p.tombstone (Some number)) }
after_bucket p number Tombstone = passed_on (record p { tombstone = option_or p.tombstone (Some number) })
after_bucket p number (Entry name value) =
    if bytes_eq name p.name then record p { next = met p.job p.name number value } else passed_on p
after_bucket p number Strange = record p { next = End (answer.Strange number) }

-- what the value of the record that it asked for leaves
abbrev pub after_told : Probe → Content → Probe
after_told p value =
    after_bucket (record p { told = p.told + 1 }) (record_at p.name p.buckets p.told) (bucket_of value)

-- what is left when the write that it asked for was made
abbrev pub after_written : Probe → Probe
after_written p = record p { next = End answer.Done }

-- a probe that is told of a table what it asks for, so many times, unless it asks for a write or ends before
abbrev pub told_of : List Content → Ask → Probe → Probe
told_of table (Read number) p = after_told p (content_at table number)
told_of table (Write number value) p = p
told_of table (End reached) p = p

abbrev pub told_times : List Content → ℕ → Probe → Probe
told_times table zero p = p
told_times table (suc times) p = told_times table times (told_of table p.next p)

-- a probe when it was told the values of a table, at most as many as there are buckets
abbrev pub run_over : List Content → Job → List ℕ → Probe
run_over table job name = told_times table (bucket_count table) (begun job name (bucket_count table))

-- a table when the write that is asked for was made, if one is
abbrev pub with_write : Ask → List Content → List Content
with_write (Read number) table = table
with_write (Write number value) table = slice_set table number (Some value)
with_write (End reached) table = table
