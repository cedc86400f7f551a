-- What undoing an active transaction asks of the page cache: the pages of its writes that stand.
use Rattle.redo_laws.proofs.Citing.{arith, ◌≡◌, ◌-◌, ◌≤◌, List, [], ◌∷◌, length, take, drop, sym, ap, ◌∙◌, reverse-append, map-append, reverse, Option, Master, master_of, IsActive, Entry, left_open, Write, CacheOp, write_touch, undo_one_works, works_of}
use Rattle.std.specs.Prelude.{map, ℕ}
use Rattle.log_laws.proofs.Standing.{writes_of, writes_more, standing_taken}

abbrev touches_of : List Write → List CacheOp
touches_of writes = map (λ write. write_touch write.0) writes

-- Updates, the last one first, are undone on the pages of their writes
updates_undone : (us : List Entry) → works_of us ≡ touches_of (reverse (writes_of us))
updates_undone [] = grind (arith)
updates_undone (u ∷ us) = grind (arith, writes_more, reverse-append, writes_of, map-append, (updates_undone us))

-- undoing an active transaction touches the pages of its writes that stand, the last one first
pub active_is_undone_by : (newest : Option Master) (records : List Entry) (txn last : ℕ) (writes : List Write) → IsActive (master_of newest) records txn last writes → undo_one_works records txn ≡ map (λ write. write_touch write.0) (reverse writes)
active_is_undone_by newest records txn last writes active = updates_undone (left_open records txn) ∙ ap (λ (w : List Write). touches_of (reverse w)) (sym active.writes_are)

-- and undoing its last ones the pages of these
pub last_are_undone_by : (newest : Option Master) (records : List Entry) (txn last count : ℕ) (writes : List Write) → IsActive (master_of newest) records txn last writes → count ≤ length writes →
    works_of (take count (left_open records txn)) ≡ map (λ write. write_touch write.0) (reverse (drop (length writes - count) writes))
last_are_undone_by newest records txn last count writes active few = grind (arith, updates_undone, standing_taken)
