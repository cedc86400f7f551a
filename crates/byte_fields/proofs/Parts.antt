-- A part of the octets that is written over.
use Rattle.std.proofs.Common.{◌≡◌, ℕ, ◌+◌, ◌-◌, List, ◌++◌, length, take, drop, ap, ◌∙◌, arith}
use Rattle.std.proofs.lemmas.List.{append-nil, drop_all, take_all, drop-drop, length-drop}
use borrow.Rule.Slice.PartMut.{put_mid, mid_of}

-- what stands from a place on begins with a text, and is else as it was: so are the octets as a whole
pub written_from : (at n : ℕ) (old part text : List ℕ) → part ≡ text ++ drop n (mid_of at (length old - at) old) →
    put_mid at (length old - at) old part ≡ take at old ++ (text ++ drop (at + n) old)
written_from at n old part text e =
    ap (λ (rest : List ℕ). take at old ++ (part ++ rest)) (drop_all (length old - at) (drop at old) (omega (arith, length-drop at old)))
    ∙ ap (λ (rest : List ℕ). take at old ++ rest) (append-nil part ∙ e)
    ∙ ap (λ (rest : List ℕ). take at old ++ (text ++ drop n rest)) (take_all (length old - at) (drop at old) (omega (arith, length-drop at old)))
    ∙ ap (λ (rest : List ℕ). take at old ++ (text ++ rest)) (drop-drop n at old)
