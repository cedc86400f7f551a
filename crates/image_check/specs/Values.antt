-- What a log says of versions, and the numbers that have a value.
use Rattle.std.specs.Prelude.{◌≡◌, ◌↔◌, ℕ, IsTrue, IfOk, List, Result, is_ok}
use Rattle.std.specs.List.{AllByRecursion}
use Rattle.log_records.specs.Log.{Entry}
use Rattle.log_records.specs.Sound.{LogicalImage, Pairwise, HoldsOff}
use Rattle.image_form.specs.declared.place.Place.{Place}
use Rattle.image_form.specs.Verdict.{LosersHoldOthersOff, VersionsFit, values_of}
use Rattle.image_check.specs.declared.values.Logged.{Logged}
use Rattle.image_check.specs.Showing.{AreExpected, IsKnownEarly}
use Rattle.image_check.specs.Writing.{AreWritten}

-- What was heard of a log whose redo block and whose versions' LSNs are these: each record so far that stands early is
-- known, this is expected of the versions, and this was written last where the log's records are apart.
pub record Hears (redo : ℕ) (lsns : List ℕ) (log : List Entry) (logged : Logged) (records : List Entry) : Type 0 where
  pub early : AllByRecursion (IsKnownEarly redo lsns) records
  pub expected : AreExpected lsns records logged.expected.contents
  pub written : Pairwise (HoldsOff log) log → AreWritten log records logged.written

-- the sixth rule holds where there is a number, and it is that of the values where the fifth one holds, too
pub record ShowsLog (p : LogicalImage) (answer : Result ℕ Place) : Type 0 where
  pub fits : IsTrue (is_ok answer) ↔ VersionsFit p
  pub values : LosersHoldOthersOff p → IfOk answer (λ count. count ≡ values_of p)
