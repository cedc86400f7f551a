-- The work of one tidy: it looks for a tombstone, and frees it, or moves into it the first entry behind it whose way
-- from home leads over it.
use Rattle.std.specs.Prelude.{ℕ, zero, suc, ◌+◌, ◌-◌, ◌%◌, ◌<◌, ◌≤◌, ◌^◌, nat_lt, min, List, [], Some, None, slice_set}
use Rattle.std.specs.Prelude.{Bool, true, false, if◌then◌else◌}
use Rattle.record_model.specs.declared.names.Bucket.{Bucket}
use Rattle.record_model.specs.declared.names.Bucket.TheVariants.{Free, Tombstone, Entry, Strange}
use Rattle.name_table.specs.declared.tidying.TidyAsk.{TidyAsk}
use Rattle.name_table.specs.declared.tidying.TidyAsk.TheVariants as asks
use Rattle.name_table.specs.declared.tidying.Walk.{Walk}
use Rattle.record_model.specs.State.{Content, content_at}
use Rattle.record_model.specs.Names.{bucket_of, home, bucket_count}

-- the bucket so many steps up from a place, from the last one on to the first
abbrev pub up : ℕ → ℕ → ℕ → ℕ
up place steps buckets = (place + steps) % buckets

-- the steps from one place up to another
abbrev pub way : ℕ → ℕ → ℕ → ℕ
way from to buckets = (to + buckets - from) % buckets

-- whether the way from a name's home up to this place leads over the tombstone
abbrev pub leads_over : List ℕ → ℕ → ℕ → ℕ → Bool
leads_over name buckets tombstone place =
    nat_lt (way (home name buckets) tombstone buckets) (way (home name buckets) place buckets)

-- Among how many buckets it is done, the place from which steps are counted, how many of them the next bucket is up,
-- whether that place is the tombstone's, which was met, or where it began to look, and what comes next
pub record Tidying : Type 0 where
  pub buckets : ℕ
  pub from : ℕ
  pub steps : ℕ
  pub behind : Bool
  pub next : TidyAsk

abbrev pub tidy_ask : Tidying → TidyAsk
tidy_ask t = t.next

-- the place of the bucket that it reads next
abbrev pub place_of : Tidying → ℕ
place_of t = up t.from t.steps t.buckets

-- how many buckets it looks at for a tombstone
abbrev pub looks : ℕ → ℕ
looks buckets = min 64 buckets

abbrev pub tidy_begun : ℕ → ℕ → Tidying
tidy_begun from buckets = record {
  buckets = buckets;
  from = from % buckets;
  steps = 0;
  behind = false;
  next = asks.Read (buckets + up (from % buckets) 0 buckets);
}

-- what comes after so many steps: where it looks, and behind the tombstone, which is freed if no bucket is left
abbrev pub look_on : ℕ → ℕ → ℕ → TidyAsk
look_on buckets from steps =
    if nat_lt steps (looks buckets) then asks.Read (buckets + up from steps buckets)
    else asks.End false (up from steps buckets)

abbrev pub read_on : ℕ → ℕ → ℕ → TidyAsk
read_on buckets from steps =
    if nat_lt steps buckets then asks.Read (buckets + up from steps buckets) else asks.Free (buckets + from)

abbrev pub asking : Tidying → TidyAsk → Tidying
asking t next = record t { next = next }

-- on to the next bucket
abbrev pub looked_on : Tidying → Tidying
looked_on t = record t { steps = t.steps + 1; next = look_on t.buckets t.from (t.steps + 1) }

abbrev pub passed_behind : Tidying → Tidying
passed_behind t = record t { steps = t.steps + 1; next = read_on t.buckets t.from (t.steps + 1) }

-- a tombstone was met
abbrev pub met_tombstone : Tidying → Tidying
met_tombstone t = record t { from = place_of t; steps = 1; behind = true; next = read_on t.buckets (place_of t) 1 }

-- what is in a record that has a value
abbrev pub octets_in : Content → List ℕ
octets_in None = []
octets_in (Some octets) = octets

-- what a bucket leaves: one that it looks at, and one behind the tombstone, whose record has this value
abbrev pub after_looked : Tidying → Bucket → Tidying
after_looked t Free = looked_on t
after_looked t Tombstone = met_tombstone t
after_looked t (Entry name more) = looked_on t
after_looked t Strange = looked_on t

abbrev pub after_entry : Tidying → List ℕ → List ℕ → Tidying
after_entry t octets name =
    if leads_over name t.buckets t.from (place_of t)
    then asking t (asks.Move (t.buckets + place_of t) (t.buckets + t.from) octets) else passed_behind t

abbrev pub after_behind : Tidying → List ℕ → Bucket → Tidying
after_behind t octets Free = asking t (asks.Free (t.buckets + t.from))
after_behind t octets Tombstone = passed_behind t
after_behind t octets (Entry name more) = after_entry t octets name
after_behind t octets Strange = asking t (asks.End false (up t.from 1 t.buckets))

-- what the value of the record that it asked for leaves
abbrev pub tidy_told : Tidying → Content → Tidying
tidy_told t value =
    if t.behind then after_behind t (octets_in value) (bucket_of value) else after_looked t (bucket_of value)

-- what is left when the change that it asked for was made
abbrev pub tidy_changed : Tidying → Tidying
tidy_changed t = asking t (asks.End true (up t.from 1 t.buckets))

-- whether a read is asked for, and whether a change is
abbrev pub AsksRead : TidyAsk → Type 0
AsksRead (asks.Read number) = Unit {0}
AsksRead (asks.Move entry tombstone octets) = ⊥
AsksRead (asks.Free number) = ⊥
AsksRead (asks.End changed from) = ⊥

abbrev pub AsksChange : TidyAsk → Type 0
AsksChange (asks.Read number) = ⊥
AsksChange (asks.Move entry tombstone octets) = Unit {0}
AsksChange (asks.Free number) = Unit {0}
AsksChange (asks.End changed from) = ⊥

-- a tidy that is told of a table what it asks for, so many times, unless it asks for a change or ends before
abbrev pub tidy_told_of : List Content → TidyAsk → Tidying → Tidying
tidy_told_of table (asks.Read number) t = tidy_told t (content_at table number)
tidy_told_of table (asks.Move entry tombstone octets) t = t
tidy_told_of table (asks.Free number) t = t
tidy_told_of table (asks.End changed from) t = t

abbrev pub tidy_told_times : List Content → ℕ → Tidying → Tidying
tidy_told_times table zero t = t
tidy_told_times table (suc times) t = tidy_told_times table times (tidy_told_of table t.next t)

-- a tidy when it was told the values of a table: it reads at most so many
abbrev pub most_reads : ℕ → ℕ
most_reads buckets = buckets + 63

abbrev pub tidy_over : List Content → ℕ → Tidying
tidy_over table from =
    tidy_told_times table (most_reads (bucket_count table)) (tidy_begun from (bucket_count table))

-- a table when the change that is asked for was made, if one is: the entry moves as it is, and leaves a tombstone
abbrev pub with_change : TidyAsk → List Content → List Content
with_change (asks.Read number) table = table
with_change (asks.Move entry tombstone octets) table =
    slice_set (slice_set table tombstone (Some octets)) entry (Some [])
with_change (asks.Free number) table = slice_set table number None
with_change (asks.End changed from) table = table

-- the sizes of what a tidy has
pub record IsWalk (walk : Walk) : Type 0 where
  pub some : 1 ≤ walk.buckets
  pub few : walk.buckets ≤ 2 ^ 20
  pub among : walk.from < walk.buckets

-- and there are buckets left where it asks for one
pub record IsTidying (walk : Walk) (next : TidyAsk) : Type 0 where
  pub is_walk : IsWalk walk
  pub left : AsksRead next → walk.steps < walk.buckets
