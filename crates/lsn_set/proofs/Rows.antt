-- Places of a row.
use Rattle.std.proofs.Common.{◌≡◌, ℕ, zero, suc, ◌<◌, ◌==◌, Bool, true, false, refl, sym, ap, ◌∙◌}
use Rattle.std.specs.Prelude.{slice_index_or, slice_set}
use Rattle.std.proofs.Math.ListN.{replicate}
use Rattle.std.proofs.lemmas.Bool.{eqb-true, eqb-false}
use Rattle.std.proofs.lemmas.List.{get_or-set_other, get_or-set_same}

none_held : (size n : ℕ) → slice_index_or (replicate size false) n false ≡ false
none_held zero n = refl
none_held (suc size) zero = refl
none_held (suc size) (suc n) = none_held size n

-- of a row in which one place is set that one is held
pub one_set : (place n : ℕ) → place < 64 → slice_index_or (slice_set (replicate 64 false) place true) n false ≡ (place == n)
one_set place n inside = by (place == n) refl
  where
    by : (q : Bool) → (place == n) ≡ q → slice_index_or (slice_set (replicate 64 false) place true) n false ≡ q
    by true same = ap (λ (m : ℕ). slice_index_or (slice_set (replicate 64 false) place true) m false) (sym (eqb-true place n same)) ∙ get_or-set_same (replicate 64 false) place true false inside
    by false other = get_or-set_other (replicate 64 false) place n true false (λ same. eqb-false place n other (sym same)) ∙ none_held 64 n
