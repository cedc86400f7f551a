-- Which LSNs a set holds.
use Rattle.std.specs.Prelude.{ℕ, ◌/◌, ◌%◌, Bool, false, nat_eq, Option, Some, None, slice_index_or}
use Rattle.indexmap.specs.IndexMap.{get}
use Rattle.lsn_set.specs.declared.row.Row.{Row}
use Rattle.lsn_set.specs.declared.lsn_set.LsnSet.{LsnSet}

-- whether a row holds a place, if there is a row
abbrev pub in_row : Option Row → ℕ → Bool
in_row None place = false
in_row (Some row) place = slice_index_or row.held place false

-- whether an LSN is held
abbrev pub has : LsnSet → ℕ → Bool
has set lsn = in_row (get nat_eq set.rows (lsn / 64)) (lsn % 64)
