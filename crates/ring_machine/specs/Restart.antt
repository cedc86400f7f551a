-- What a restart asks of log and cache.
use Rattle.std.specs.Prelude.{ℕ, Bool, true, false, List, [], ◌∷◌, ◌++◌, map, filter_map, filter, reverse, length}
use Rattle.std.specs.Prelude.{replicate, Option, Some, None, if◌then◌else◌}
use Rattle.std.specs.List.{list_any}
use Rattle.record_model.specs.State.{Content}
use Rattle.log_records.specs.Log.{Entry, txn_of, is_of, number_of, before_of}
use Rattle.log_records.specs.Unfinished.{left_open, pending, losers}
use Rattle.log_records.specs.Restart.{redo_touch}
use Rattle.log_records.specs.Sound.{LogicalImage, from_block}
use Rattle.ring_machine.specs.Machine.{RingOp, cached, logged}
use Rattle.ring_machine.specs.Commands.{takes_back, ends, saves}

-- redo goes forwards from the redo block, and logs nothing
abbrev pub redo_work : LogicalImage → List RingOp
redo_work p = map cached (filter_map (redo_touch p) (from_block p.master.redo p.log))

-- the work of the CLR of an Update
abbrev pub clr_on : Content → Option ℕ → List RingOp
clr_on before None = []
clr_on before (Some number) = takes_back (number, before)

abbrev pub clr_work : Entry → List RingOp
clr_work u = clr_on (before_of u.rec) (number_of u.rec)

-- Behind the CLR of an Update comes the End of its transaction, where that has none of the earlier ones.
abbrev pub undoing_one : Entry → List Entry → List RingOp
undoing_one u earlier = clr_work u ++ (if list_any (is_of (txn_of u)) earlier then [] else ends)

-- these Updates, the last one first
abbrev pub undoing_work : List Entry → List RingOp
undoing_work [] = []
undoing_work (u ∷ earlier) = undoing_one u earlier ++ undoing_work earlier

-- those that have no Update left
abbrev pub is_empty : List Entry → Bool
is_empty [] = true
is_empty (u ∷ updates) = false

abbrev pub only_ends : List Entry → List ℕ
only_ends log = filter (λ t. is_empty (left_open log t)) (losers log)

-- undo ends those first, and then goes backwards over all Updates that are left
abbrev pub undo_work : List Entry → List RingOp
undo_work log = replicate (length (only_ends log)) (logged 9) ++ undoing_work (reverse (pending log))

-- redo, undo, and a checkpoint
abbrev pub restart_work : LogicalImage → List RingOp
restart_work p = redo_work p ++ undo_work p.log ++ saves
