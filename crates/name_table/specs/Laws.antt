-- What probing does to the names of a table.
use Rattle.std.specs.Prelude.{◌≡◌, ◌≢◌, ◌↔◌, ◌⊎◌, ℕ, ◌+◌, ◌<◌, ◌≤◌, List, [], length, replicate, Option}
use Rattle.std.specs.Prelude.{Some, None}
use Rattle.record_model.specs.declared.names.Bucket.{Bucket}
use Rattle.record_model.specs.declared.names.Bucket.TheVariants.{Free, Tombstone, Entry, Strange}
use Rattle.record_model.specs.declared.names.Job.{Job}
use Rattle.record_model.specs.declared.names.Job.TheVariants.{Find, Put, Remove}
use Rattle.record_model.specs.declared.names.Ask.{Ask}
use Rattle.record_model.specs.declared.names.Ask.TheVariants.{Write, End}
use Rattle.record_model.specs.declared.names.NameAnswer.{NameAnswer}
use Rattle.record_model.specs.declared.names.NameAnswer.TheVariants as answer
use Rattle.record_model.specs.State.{Content, content_at}
use Rattle.record_model.specs.Names.{entry, probed, bucket_count, bucket_at, names, IsWellFormed}
use Rattle.record_model.specs.Probes.{record_at, ask, after_written, run_over, with_write}
use Rattle.name_table.specs.Probing.{IsRead, IsName}

-- a bucket with the entry of another name, and one behind which the probing for a name goes on
abbrev pub IsOther : List ℕ → Bucket → Type 0
IsOther name Free = ⊥
IsOther name Tombstone = ⊥
IsOther name (Entry other value) = other ≢ name
IsOther name Strange = ⊥

abbrev pub IsPassed : List ℕ → Bucket → Type 0
IsPassed name Free = ⊥
IsPassed name Tombstone = Unit {0}
IsPassed name (Entry other value) = other ≢ name
IsPassed name Strange = ⊥

-- what is answered where this stands under the name
abbrev pub found : Option (List ℕ) → NameAnswer
found None = answer.Nothing
found (Some value) = answer.Found value

-- A write of this value, of a bucket's record, is asked for. When it is made, the table is well formed, this stands
-- under the name, and under each other name, and in each other record, what stood there.
pub record Writes (table : List Content) (name value : List ℕ) (under : Option (List ℕ)) (next : Ask) : Type 0 where
  pub place : ℕ
  pub among : place < bucket_count table
  pub asks : next ≡ Write (bucket_count table + place) value
  pub well_formed : IsWellFormed (with_write next table)
  pub of_name : names (with_write next table) name ≡ under
  pub of_others : (other : List ℕ) → other ≢ name → names (with_write next table) other ≡ names table other
  pub elsewhere : (number : ℕ) → number ≢ bucket_count table + place →
      content_at (with_write next table) number ≡ content_at table number

-- Each bucket has another name, and the answer tells how many there are.
pub record IsFull (table : List Content) (name : List ℕ) (next : Ask) : Type 0 where
  pub each : (place : ℕ) → place < bucket_count table → IsOther name (bucket_at table place)
  pub tells : next ≡ End (answer.NamesFull (bucket_count table))

-- where a probe comes to, which does this with a name over the values of a table
abbrev pub reached : List Content → Job → List ℕ → Ask
reached table job name = ask (run_over table job name)

pub record IsMap (table : List Content) (name : List ℕ) : Type 0 where
  pub find : reached table Find name ≡ End (found (names table name))
  pub put : (value : List ℕ) → IsName name → length value ≤ 100 →
      IsFull table name (reached table (Put value) name)
      ⊎ Writes table name (entry name value) (Some value) (reached table (Put value) name)
  pub remove_none : names table name ≡ None → reached table Remove name ≡ End answer.Nothing
  pub remove_some : (value : List ℕ) → names table name ≡ Some value →
      Writes table name [] None (reached table Remove name)

abbrev pub NamesAreAMap : Type 0
NamesAreAMap = (table : List Content) (name : List ℕ) → 1 ≤ bucket_count table → IsWellFormed table → IsMap table name

-- so it is from the start: where no record has a value, the buckets are well formed
abbrev pub BlankIsWellFormed : Type 0
BlankIsWellFormed = (records : ℕ) → IsWellFormed (replicate records None)

-- Over any table. The record is that of the first bucket, of those that are probed, which isn't of the form.
pub record IsFirstStrange (table : List Content) (name : List ℕ) (number : ℕ) : Type 0 where
  pub steps : ℕ
  pub among : steps < bucket_count table
  pub is_its : number ≡ record_at name (bucket_count table) steps
  pub strange : bucket_at table (probed name (bucket_count table) steps) ≡ Strange
  pub before : (fewer : ℕ) → fewer < steps →
      IsPassed name (bucket_at table (probed name (bucket_count table) fewer))

abbrev pub StrangeIsTold : Type 0
StrangeIsTold = (table : List Content) (job : Job) (name : List ℕ) (number : ℕ) → 1 ≤ bucket_count table →
    (reached table job name ≡ End (answer.Strange number)) ↔ IsFirstStrange table name number

-- the probing meets the name's entry, with this value
pub record IsMet (table : List Content) (name value : List ℕ) : Type 0 where
  pub steps : ℕ
  pub among : steps < bucket_count table
  pub own : bucket_at table (probed name (bucket_count table) steps) ≡ Entry name value
  pub before : (fewer : ℕ) → fewer < steps →
      IsPassed name (bucket_at table (probed name (bucket_count table) fewer))

-- It ends without it, and with no strange bucket: at a free one, or behind all.
pub record IsMissed (table : List Content) (name : List ℕ) : Type 0 where
  pub steps : ℕ
  pub ends : (steps ≡ bucket_count table)
      ⊎ ((steps < bucket_count table) × (bucket_at table (probed name (bucket_count table) steps) ≡ Free))
  pub before : (fewer : ℕ) → fewer < steps →
      IsPassed name (bucket_at table (probed name (bucket_count table) fewer))

abbrev pub MetIsTold : Type 0
MetIsTold = (table : List Content) (name value : List ℕ) → 1 ≤ bucket_count table →
    (reached table Find name ≡ End (answer.Found value)) ↔ IsMet table name value

abbrev pub MissedIsTold : Job → Type 0
MissedIsTold job = (table : List Content) (name : List ℕ) → 1 ≤ bucket_count table →
    (reached table job name ≡ End answer.Nothing) ↔ IsMissed table name

-- a put finds as many buckets as there are, each with the entry of another name
pub record HasNoRoom (table : List Content) (job : Job) (name : List ℕ) (many : ℕ) : Type 0 where
  pub value : List ℕ
  pub puts : job ≡ Put value
  pub counts : many ≡ bucket_count table
  pub each : (place : ℕ) → place < bucket_count table → IsOther name (bucket_at table place)

abbrev pub FullIsTold : Type 0
FullIsTold = (table : List Content) (job : Job) (name : List ℕ) (many : ℕ) → 1 ≤ bucket_count table →
    (reached table job name ≡ End (answer.NamesFull many)) ↔ HasNoRoom table job name many

-- so many values at most are told, as there are buckets, and then no more are asked for; and behind a write comes Done
pub record ReadsFew (table : List Content) (job : Job) (name : List ℕ) : Type 0 where
  pub few : (run_over table job name).told ≤ bucket_count table
  pub no_more : ¬ IsRead (reached table job name)
  pub done : ask (after_written (run_over table job name)) ≡ End answer.Done

abbrev pub ReadsAreFew : Type 0
ReadsAreFew = (table : List Content) (job : Job) (name : List ℕ) → 1 ≤ bucket_count table → ReadsFew table job name
