-- Nothing is left.
use Rattle.redo_undo.proofs.Names.{◌≡◌, List, [], ◌∷◌, length, refl, arith}

pub none_of : {X : Type 0} (xs : List X) → 0 ≡ length xs → xs ≡ []
none_of [] is = refl
none_of (x ∷ xs) is = absurd (omega (arith, is))
