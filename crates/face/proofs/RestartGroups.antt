-- How many groups a restart pushes at most.
use Rattle.face.proofs.Names.{◌≡◌, ℕ, ◌+◌, ◌-◌, ◌*◌, ◌≤◌, List, [], ◌∷◌, ◌++◌, length, Option, refl, arith, reverse, length-reverse, AllByRecursion, filter_map, Master, IsSound, restart_works, kept_by, logical_image_under, Entry, log_from, LogRecord, checkpoint_works, groups_add_up, groups_for_all, Image, Geometry}
use Rattle.log_records.specs.Restart.{redo_touch, undo_touch}
use Rattle.log_records.specs.Sound.{LogicalImage, from_block}
use Rattle.log_records.specs.Spelling.{AreBlock}
use Rattle.log_records.specs.Unfinished.{pending}
use Rattle.log_records.proofs.ChangeCounts.{changes_few, changes_filter, changes_in}
use Rattle.log_laws.proofs.PendingCounts.{pending_few}
use Rattle.log_records.specs.Sound as lists

redo_few : (p : LogicalImage) (log : List Entry) → groups_for_all (filter_map (redo_touch p) log) ≤ 2 * changes_in log
redo_few p [] = grind arith
redo_few p (e ∷ log) = grind (arith, changes_in, (redo_few p log))

undo_few : (log : List Entry) → groups_for_all (filter_map undo_touch log) ≤ 2 * length log
undo_few [] = grind arith
undo_few (e ∷ log) = grind (arith, (undo_few log))

works_few : (p : LogicalImage) (first : ℕ) (blocks : List (List LogRecord)) → p.log ≡ log_from first blocks → lists.IsSound p → AllByRecursion AreBlock blocks → length blocks ≤ p.blocks - 1
    → groups_for_all ((filter_map (redo_touch p) (from_block p.master.redo p.log) ++ filter_map undo_touch (reverse (pending p.log))) ++ checkpoint_works) ≤ 42 * p.blocks
works_few p first blocks same records are few = grind (arith, redo_few, changes_filter, changes_few, changes_in, undo_few, length-reverse, pending_few, groups_add_up)

pub restart_few : (g : Geometry) (newest : Option Master) (image : Image) (blocks : List (List LogRecord)) → IsSound newest g image blocks
    → groups_for_all (restart_works (logical_image_under newest g image blocks)) ≤ 42 * g.blocks
restart_few g newest image blocks sound = works_few (logical_image_under newest g image blocks) (kept_by newest) blocks refl sound.records sound.held.are_blocks sound.held.few
