use Rattle.redo_undo.proofs.Names.{◌≡◌, take, false, is_named, actives}
use Rattle.redo_undo.proofs.redo_pass.names.Given as goal

abbrev pub invariant-loop-place : goal.invariant-loop-place
invariant-loop-place l = is_named (actives (take l.place l.master.active)) l.txn ≡ false
