-- What a checkpoint rests on.
use Rattle.std.specs.Prelude.{◌≡◌, ◌⊎◌, ◌==◌, ℕ, true, List, [], map, Some}
use Rattle.std.specs.List.{list_any, AllByRecursion}
use Rattle.site.specs.State.{State}
use Rattle.sealed_ring.specs.declared.ring.Ring.{Ring}
use Rattle.sealed_ring.specs.Ready.{Finds}
use Rattle.log_records.specs.Log.{Entry, is_loser, entries_of}
use Rattle.log_records.specs.Unfinished.{owed}
use Rattle.log_records.specs.Sound.{AreOrderly, last_lsn, from_block}
use Rattle.record_model.specs.State.{Content}
use Rattle.checkpoint.specs.declared.master.Master.{Master}
use Rattle.log_store.specs.declared.store.LogStore.{LogStore}
use Rattle.page_store.specs.declared.store.PageStore.{PageStore}
use Rattle.redo_laws.specs.Holding.{Represents}
use Rattle.redo_laws.specs.Running.{settled}
use Rattle.checkpoint.specs.declared.pairs.Pair.{Pair}

-- These are the unfinished transactions of some records, each with the LSN of its last one.
pub record AreUnfinished (records : List Entry) (active : List Pair) : Type 0 where
  pub each : AllByRecursion (λ pair. (is_loser records pair.begin ≡ true)
      × (pair.last ≡ last_lsn (entries_of pair.begin records))) active
  pub all : (t : ℕ) → is_loser records t ≡ true → list_any (λ pair. pair.begin == t) active ≡ true

-- A checkpoint with these active transactions may be made: they are the unfinished ones, and the master ring is the one
-- that stands there. The log is orderly, or none of its blocks is needed.
pub record MayBeMade (masters : Ring) (site : State) (records : List Entry) (active : List Pair) : Type 0 where
  pub ring : Finds masters site
  pub unfinished : AreUnfinished records active
  pub orderly : AreOrderly records ⊎ (active ≡ [])

-- The records that are kept leave the same transactions unfinished, with all of their records.
pub record KeepUnfinished (records kept : List Entry) : Type 0 where
  pub losers : (t : ℕ) → is_loser kept t ≡ is_loser records t
  pub entries : (t : ℕ) → is_loser records t ≡ true → entries_of t kept ≡ entries_of t records
  pub owes : owed kept ≡ owed records

-- A master was saved: under it log and pages hold the records from its oldest kept block on, which are in order, and
-- among them all records of unfinished transactions. The ring of master units is the one that stands there.
pub record IsSaved (log : LogStore) (pages : PageStore) (masters : Ring) (site : State) (records : List Entry)
    (table : List Content) (commits : ℕ) (master : Master) : Type 0 where
  pub holds : Represents log pages site (Some master) (from_block master.kept records) (settled table commits)
  pub orderly : AreOrderly (from_block master.kept records)
  pub keeps : KeepUnfinished records (from_block master.kept records)
  pub found : Finds masters site

-- the LSNs of their Begins
abbrev pub begins_of : List Pair → List ℕ
begins_of active = map (λ pair. pair.begin) active
