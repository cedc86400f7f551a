-- What a tidy does to a table.
use Rattle.std.specs.Prelude.{◌≡◌, ◌≢◌, ◌⊎◌, ℕ, zero, suc, ◌+◌, ◌%◌, ◌<◌, ◌≤◌, true, false, List, Some}
use Rattle.record_model.specs.declared.names.Bucket.{Bucket}
use Rattle.record_model.specs.declared.names.Bucket.TheVariants.{Free, Tombstone, Entry, Strange}
use Rattle.name_table.specs.declared.tidying.TidyAsk.{TidyAsk}
use Rattle.name_table.specs.declared.tidying.TidyAsk.TheVariants as asks
use Rattle.record_model.specs.State.{Content, content_at}
use Rattle.record_model.specs.Names.{bucket_count, bucket_at, names, IsWellFormed}
use Rattle.record_model.specs.declared.names.Job.TheVariants.{Find}
use Rattle.name_table.specs.Laws.{reached}
use Rattle.name_table.specs.Tidying.{Tidying, AsksRead, tidy_ask, tidy_changed, tidy_over, with_change}
use Rattle.name_table.specs.Tidying.{up, leads_over, looks}

-- the bucket so many steps up from a place
abbrev pub bucket_up : List Content → ℕ → ℕ → Bucket
bucket_up table place steps = bucket_at table (up place steps (bucket_count table))

-- none of the first buckets from this place is a tombstone
abbrev pub HasNoTombstone : List Content → ℕ → ℕ → Type 0
HasNoTombstone table place steps = (fewer : ℕ) → fewer < steps → bucket_up table place fewer ≢ Tombstone

-- the bucket of this place stays as it is, and the reading behind the tombstone goes on
abbrev pub Stays : ℕ → ℕ → ℕ → Bucket → Type 0
Stays buckets tombstone place Free = ⊥
Stays buckets tombstone place Tombstone = Unit {0}
Stays buckets tombstone place (Entry name more) = leads_over name buckets tombstone place ≡ false
Stays buckets tombstone place Strange = ⊥

-- so do all behind it, of fewer steps
abbrev pub AllStay : List Content → ℕ → ℕ → Type 0
AllStay table tombstone steps = (fewer : ℕ) → 1 ≤ fewer → fewer < steps →
    Stays (bucket_count table) tombstone (up tombstone fewer (bucket_count table)) (bucket_up table tombstone fewer)

-- When the change was made, the next tidy looks from the bucket behind the tombstone.
abbrev pub HasDone : List Content → ℕ → Tidying → Type 0
HasDone table tombstone t = tidy_ask (tidy_changed t) ≡ asks.End true (up tombstone 1 (bucket_count table))

-- It is freed: up to the next free bucket, or all around, there is no entry whose way leads over it.
pub record Frees (table : List Content) (tombstone : ℕ) (t : Tidying) : Type 0 where
  pub steps : ℕ
  pub some : 1 ≤ steps
  pub stay : AllStay table tombstone steps
  pub ends : (steps ≡ bucket_count table)
      ⊎ ((steps < bucket_count table) × (bucket_up table tombstone steps ≡ Free))
  pub asks : tidy_ask t ≡ asks.Free (bucket_count table + tombstone)
  pub done : HasDone table tombstone t

-- The first such entry moves into it.
pub record Moves (table : List Content) (tombstone : ℕ) (t : Tidying) : Type 0 where
  pub steps : ℕ
  pub some : 1 ≤ steps
  pub few : steps < bucket_count table
  pub stay : AllStay table tombstone steps
  pub name : List ℕ
  pub more : List ℕ
  pub octets : List ℕ
  pub is : bucket_up table tombstone steps ≡ Entry name more
  pub has : content_at table (bucket_count table + up tombstone steps (bucket_count table)) ≡ Some octets
  pub over : leads_over name (bucket_count table) tombstone (up tombstone steps (bucket_count table)) ≡ true
  pub asks : tidy_ask t ≡ asks.Move (bucket_count table + up tombstone steps (bucket_count table))
      (bucket_count table + tombstone) octets
  pub done : HasDone table tombstone t

-- Nothing is changed: there is a bucket of another form before.
pub record Halts (table : List Content) (tombstone : ℕ) (t : Tidying) : Type 0 where
  pub steps : ℕ
  pub some : 1 ≤ steps
  pub few : steps < bucket_count table
  pub stay : AllStay table tombstone steps
  pub is : bucket_up table tombstone steps ≡ Strange
  pub asks : tidy_ask t ≡ asks.End false (up tombstone 1 (bucket_count table))

pub data Behind (table : List Content) (tombstone : ℕ) (t : Tidying) : Type 0 where
  frees : Frees table tombstone t → Behind table tombstone t
  moves : Moves table tombstone t → Behind table tombstone t
  halts : Halts table tombstone t → Behind table tombstone t

-- what a tidy comes to that looks from this place: no tombstone among so many buckets, or the first of them
pub data TidyEnds (table : List Content) (from : ℕ) (t : Tidying) : Type 0 where
  finds_none : HasNoTombstone table from (looks (bucket_count table)) →
      tidy_ask t ≡ asks.End false (up from (looks (bucket_count table)) (bucket_count table)) → TidyEnds table from t
  meets_one : (steps : ℕ) → steps < looks (bucket_count table) → HasNoTombstone table from steps →
      bucket_up table from steps ≡ Tombstone → Behind table (up from steps (bucket_count table)) t →
      TidyEnds table from t

-- Over any table it comes to that, and reads no more then.
pub record TidyIsTold (table : List Content) (from : ℕ) : Type 0 where
  pub ends : TidyEnds table (from % bucket_count table) (tidy_over table from)
  pub no_more : ¬ AsksRead (tidy_ask (tidy_over table from))

abbrev pub TidiesAreTold : Type 0
TidiesAreTold = (table : List Content) (from : ℕ) → 1 ≤ bucket_count table → TidyIsTold table from

-- how many of the first buckets are tombstones, and how many of them a change takes away
abbrev pub one_tombstone : Bucket → ℕ
one_tombstone Free = 0
one_tombstone Tombstone = 1
one_tombstone (Entry name more) = 0
one_tombstone Strange = 0

abbrev pub tombstones_among : (ℕ → Bucket) → ℕ → ℕ
tombstones_among bucket zero = 0
tombstones_among bucket (suc place) = one_tombstone (bucket place) + tombstones_among bucket place

abbrev pub tombstones : List Content → ℕ
tombstones table = tombstones_among (bucket_at table) (bucket_count table)

abbrev pub freed_by : TidyAsk → ℕ
freed_by (asks.Read number) = 0
freed_by (asks.Move entry tombstone octets) = 0
freed_by (asks.Free number) = 1
freed_by (asks.End changed from) = 0

-- a record that the change isn't about
abbrev pub IsElsewhere : TidyAsk → ℕ → Type 0
IsElsewhere (asks.Read record_number) number = Unit {0}
IsElsewhere (asks.Move entry tombstone octets) number = (number ≢ entry) × (number ≢ tombstone)
IsElsewhere (asks.Free tombstone) number = number ≢ tombstone
IsElsewhere (asks.End changed from) number = Unit {0}

-- Over a well-formed table, when its change was made: the table is well formed, under each name stands what stood
-- there, so it does in each other record, and there is one tombstone fewer where one was freed, else as many.
pub record KeepsNames (table : List Content) (next : TidyAsk) : Type 0 where
  pub well_formed : IsWellFormed (with_change next table)
  pub same : (name : List ℕ) → names (with_change next table) name ≡ names table name
  pub elsewhere : (number : ℕ) → IsElsewhere next number →
      content_at (with_change next table) number ≡ content_at table number
  pub fewer : tombstones (with_change next table) + freed_by next ≡ tombstones table

abbrev pub TidiesKeepNames : Type 0
TidiesKeepNames = (table : List Content) (from : ℕ) → 1 ≤ bucket_count table → IsWellFormed table →
    KeepsNames table (tidy_ask (tidy_over table from))

-- Over any table, of strange buckets too, a find answers behind it what it answered before.
abbrev pub FindsStay : Type 0
FindsStay = (table : List Content) (from : ℕ) (name : List ℕ) → 1 ≤ bucket_count table →
    reached (with_change (tidy_ask (tidy_over table from)) table) Find name ≡ reached table Find name
