-- When a checkpoint may be made, as statements over lists.
use Rattle.std.specs.Prelude.{◌≡◌, ℕ, ◌/◌, ◌==◌, ◌<◌, true, List, [], ◌∷◌, length}
use Rattle.std.specs.List.{list_any, AllByRecursion}
use Rattle.log_records.specs.Log.{version_at, is_loser, entries_of}
use Rattle.log_records.specs.Unfinished.{losers}
use Rattle.log_records.specs.Sound.{LogicalImage, last_lsn, commit_count}
use Rattle.checkpoint.specs.declared.master.Master.{Master}
use Rattle.checkpoint.specs.Actives.{Ascend}
use Rattle.image_meaning.specs.Redone.{AreKnown}

-- Each page's version knows of all of its records, as after a flush.
abbrev pub IsFlushed : LogicalImage → Type 0
IsFlushed p = (page : ℕ) → page < length p.pages → AreKnown p.log page (version_at p.pages page).lsn

-- the block with the Begin of the first of these transactions, and another one where there is none
abbrev pub first_block : ℕ → List ℕ → ℕ
first_block none [] = none
first_block none (t ∷ transactions) = t / 512

-- the block with the oldest Begin of an unfinished transaction, and the next block where none is unfinished
abbrev pub oldest_needed : LogicalImage → ℕ
oldest_needed p = first_block p.hi (losers p.log)

-- The master of a checkpoint: redo begins with the next block, all commits count, and it names the unfinished
-- transactions, each with the LSN of its last record.
pub record IsMasterOf (p : LogicalImage) (m : Master) : Type 0 where
  pub redo : m.redo ≡ p.hi
  pub commits : m.commits ≡ commit_count p
  pub ascend : Ascend m.active
  pub unfinished : AllByRecursion (λ pair. (is_loser p.log pair.begin ≡ true)
      × (pair.last ≡ last_lsn (entries_of pair.begin p.log))) m.active
  pub all : (t : ℕ) → is_loser p.log t ≡ true → list_any (λ pair. pair.begin == t) m.active ≡ true
