-- One step of undo.
use Rattle.std.specs.Prelude.{◌≡◌, ℕ, ◌+◌, ◌*◌, ◌<◌, ◌≤◌, List, length}
use Rattle.log_records.specs.declared.log_record.LogRecord.{LogRecord}
use Rattle.log_records.specs.declared.log_record.LogRecord.TheVariants.{Update, Clr}
use Rattle.log_records.specs.Log.{Entry}
use Rattle.log_records.specs.Sound.{LogicalImage}
use Rattle.log_laws.specs.Follow.{Follows}
use Rattle.log_laws.specs.Analysis.{Unfinished}

-- a record is the Update that undoing a transaction goes on with, and the CLR that compensates it may follow
abbrev pub IsToUndo : LogicalImage → List Entry → Unfinished → LogRecord → Type 0
IsToUndo p log x (Update txn prev page slot before after) =
    (txn ≡ x.txn) × (x.txn ≤ prev) × (prev < x.next) × (x.next ≤ x.last) × (32 * page + slot < 32 * length p.pages)
    × ((lsn : ℕ) → Follows p.master p.pages log (record { lsn = lsn; rec = Clr x.txn x.last prev page slot before }))
IsToUndo p log x _ = ⊥
