-- Calls one after the other.
use Rattle.engine.proofs.Names.{◌≡◌, List, subst, ℕ, LeavesTable, Content, in_sequence, holds_now, Leaves, LeavesOnly, Site as State, Geometry}

-- one call behind others
pub and_then : (g g' : Geometry) (old mid new : State) (table : List Content) (commits : ℕ) → g' ≡ g → LeavesOnly old mid (LeavesTable g table commits old.told) → LeavesOnly mid new (LeavesTable g' table commits mid.told) →
    LeavesOnly old new (LeavesTable g table commits old.told)
and_then g g' old mid new table commits same first second =
    let told : mid.told ≡ old.told = (holds_now old mid (LeavesTable g table commits old.told) first).told in
    in_sequence old mid new (Leaves (LeavesTable g table commits old.told)) first
    (subst (λ (t : List ℕ). LeavesOnly mid new (LeavesTable g table commits t)) told (subst (λ (x : Geometry). LeavesOnly mid new (LeavesTable x table commits mid.told)) same second))
