-- The transactions that a master names, one after the other.
use Rattle.redo_laws.proofs.Citing.{arith, ◌≡◌, ℕ, zero, suc, true, List, [], ◌∷◌, map, Some, eq-eqb, none-some, same_Some, slice_get, Pair, Active}
use Rattle.analysis.specs.Taken.{is_named}

abbrev pub actives : List Pair → List Active
actives pairs = map (λ pair. record { begin = pair.begin; last = pair.last }) pairs

pub named_at : (pairs : List Pair) (place txn : ℕ) (pair : Pair) → slice_get pairs place ≡ Some pair → pair.begin ≡ txn → is_named (actives pairs) txn ≡ true
named_at [] place txn pair there is = grind (arith, none-some)
named_at (x ∷ pairs) zero txn pair there is = grind (arith, same_Some, eq-eqb)
named_at (x ∷ pairs) (suc place) txn pair there is = grind (arith, (named_at pairs place txn pair there is))
