-- What holds of each probe.
use Rattle.std.specs.Prelude.{◌≡◌, ℕ, ◌<◌, ◌≤◌, ◌^◌, nat_lt, List, length, Option, Some, if◌then◌else◌}
use Rattle.std.specs.Option.{option_or}
use Rattle.std.specs.Str.{bytes_eq}
use Rattle.record_model.specs.declared.names.Bucket.{Bucket}
use Rattle.record_model.specs.declared.names.Bucket.TheVariants.{Free, Tombstone, Entry, Strange}
use Rattle.record_model.specs.declared.names.NameAnswer.TheVariants as answer
use Rattle.record_model.specs.Probes.{met, missed, record_at}
use Rattle.name_table.specs.declared.probe.Work.{Work}
use Rattle.record_model.specs.declared.names.Job.{Job}
use Rattle.record_model.specs.declared.names.Job.TheVariants.{Find, Put, Remove}
use Rattle.record_model.specs.declared.names.Ask.{Ask}
use Rattle.record_model.specs.declared.names.Ask.TheVariants.{Read, Write, End}
use Rattle.record_model.specs.Names.{home}

-- whether a read is asked for, and whether a write is
abbrev pub IsRead : Ask → Type 0
IsRead (Read number) = Unit {0}
IsRead (Write number value) = ⊥
IsRead (End reached) = ⊥

abbrev pub IsWrite : Ask → Type 0
IsWrite (Read number) = ⊥
IsWrite (Write number value) = Unit {0}
IsWrite (End reached) = ⊥

-- the lengths that names and values may have
pub record IsName (name : List ℕ) : Type 0 where
  pub least : 1 ≤ length name
  pub most : length name ≤ 32

abbrev pub IsShort : Job → Type 0
IsShort Find = Unit {0}
IsShort (Put value) = length value ≤ 100
IsShort Remove = Unit {0}

-- the sizes of what a probe has
pub record IsWork (work : Work) : Type 0 where
  pub is_name : IsName work.name
  pub is_short : IsShort work.job
  pub some : 1 ≤ work.buckets
  pub few : work.buckets ≤ 2 ^ 20
  pub starts : work.home ≡ home work.name work.buckets

-- and there are buckets left where it asks for one
pub record IsProbe (work : Work) (next : Ask) : Type 0 where
  pub is_work : IsWork work
  pub left : IsRead next → work.told < work.buckets

-- what comes behind a bucket that the probing has passed, and behind any
abbrev pub next_passed : Job → List ℕ → ℕ → ℕ → Option ℕ → Ask
next_passed job name buckets told tombstone =
    if nat_lt told buckets then Read (record_at name buckets told) else missed job name buckets tombstone

abbrev pub next_behind : Job → List ℕ → ℕ → ℕ → Option ℕ → ℕ → Bucket → Ask
next_behind job name buckets told tombstone number Free =
    missed job name buckets (option_or tombstone (Some number))
next_behind job name buckets told tombstone number Tombstone = next_passed job name buckets told tombstone
next_behind job name buckets told tombstone number (Entry other value) =
    if bytes_eq other name then met job name number value else next_passed job name buckets told tombstone
next_behind job name buckets told tombstone number Strange = End (answer.Strange number)

-- the first tombstone
abbrev pub tombstone_behind : Option ℕ → ℕ → Bucket → Option ℕ
tombstone_behind before number Free = before
tombstone_behind before number Tombstone = option_or before (Some number)
tombstone_behind before number (Entry other value) = before
tombstone_behind before number Strange = before
