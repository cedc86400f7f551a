-- Octets that are zero, and the first that isn't.
use Rattle.std.proofs.Common.{◌≡◌, ◌+◌, ◌-◌, ◌≤◌, ◌<◌, ℕ, List, length, take, drop, get_or, sym, ◌∙◌, ap, subst, arith}
use Rattle.std.proofs.lemmas.List.{get_or-take, get_or-drop}
use Rattle.front_end.specs.New.{AreZero, IsFirst}

at_place : (content into : List ℕ) (at i : ℕ) → into ≡ take (length into) (drop at content) → i < length into → get_or into i 0 ≡ get_or content (at + i) 0
at_place content into at i is less = ap (λ (l : List ℕ). get_or l i 0) is ∙ get_or-take (length into) (drop at content) i 0 less ∙ get_or-drop at content i 0

-- zeros that were read stand on the device
pub zeros_read : (content into : List ℕ) (at n : ℕ) → into ≡ take (length into) (drop at content) → n ≤ length into → AreZero into 0 n → AreZero content at (at + n)
zeros_read content into at n is few zeros i from to =
    let same : at + (i - at) ≡ i = omega (arith, from) in
    subst (λ (k : ℕ). get_or content k 0 ≡ 0) same (sym (at_place content into at (i - at) is (omega (arith, from, to, few))) ∙ zeros (i - at) (omega arith) (omega (arith, from, to)))

pub first_read : (content into : List ℕ) (at place : ℕ) → into ≡ take (length into) (drop at content) → IsFirst into 0 (length into) place → IsFirst content at (at + length into) (at + place)
first_read content into at place is first =
    let inside = first.inside in
    record {
      at_least = omega arith;
      inside = omega (arith, inside);
      nonzero = λ zero. first.nonzero (at_place content into at place is inside ∙ zero);
      zeros = zeros_read content into at place is (omega (arith, inside)) first.zeros;
    }
