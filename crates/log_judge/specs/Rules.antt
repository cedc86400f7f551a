-- The rules on the records of a log that can be judged record by record, before anything is redone or undone.
use Rattle.std.specs.Prelude.{◌≡◌, ℕ, ◌-◌, ◌+◌, ◌≤◌, Bool, true, not, ◌&&◌, List, [], ◌∷◌, drop}
use Rattle.std.specs.List.{AllByRecursion}
use Rattle.log_records.specs.declared.log_record.LogRecord.TheVariants.{Begin}
use Rattle.log_records.specs.Log.{Entry, entries_of, is_closed}
use Rattle.log_records.specs.Unfinished.{prev_of, open_updates}
use Rattle.log_records.specs.Sound.{LogicalImage, InTurn, IsInTable, IsOfOpenTransaction, HaveBegunBefore}
use Rattle.log_records.specs.Sound.{Undoes, last_lsn}
use Rattle.log_records.specs.Sound.{active_in, before_block, is_known, AreNumbered}

-- A record of a transaction names the one before it, and is an Update, or a CLR of the last Update that is left.
pub record Links (earlier : List Entry) (e : Entry) : Type 0 where
  pub linked : prev_of e.rec ≡ last_lsn earlier
  pub undoes : Undoes (open_updates [] earlier) e.rec

-- a transaction's Begin, and behind it only such records
pub record IsLinked (begin : ℕ) (entries : List Entry) : Type 0 where
  pub begins : entries ≡ record { lsn = begin; rec = Begin } ∷ drop 1 entries
  pub links : InTurn Links (record { lsn = begin; rec = Begin } ∷ []) (drop 1 entries)

-- a transaction has its Begin among these records, and none of them closes it
abbrev pub is_unfinished : List Entry → ℕ → Bool
is_unfinished log t = is_known [] log t && not (is_closed log t)

-- each such transaction can be undone by its records, as far as these name one another
abbrev pub LosersAreLinked : List Entry → Type 0
LosersAreLinked log = (t : ℕ) → is_unfinished log t ≡ true → IsLinked t (entries_of t log)

-- What is judged of a sound image: all that its definition says of the records and the master, but for what needs the
-- versions of pages, what transactions do to one another's numbers, and the room.
pub record IsJudged (p : LogicalImage) : Type 0 where
  -- the second rule
  pub kept_before_redo : p.master.kept ≤ p.master.redo
  pub redo_before_end : p.master.redo ≤ p.hi
  pub kept_is_live : p.hi ≤ p.master.kept + (p.blocks - 1)
  -- what the first rule says of pages that records name
  pub in_table : AllByRecursion (IsInTable p.pages) p.log
  -- the third rule
  pub open_transactions : InTurn (IsOfOpenTransaction p.master) [] p.log
  pub begun : HaveBegunBefore p.log
  -- of the fourth rule what the records themselves name
  pub losers_are_linked : LosersAreLinked p.log
  -- the tenth and the eleventh rule
  pub master_names_the_active : p.master.active ≡ active_in (before_block p.master.redo p.log)
  pub commits : AreNumbered p
