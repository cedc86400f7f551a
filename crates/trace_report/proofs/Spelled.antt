-- Lines that are touches, and lines that are none.
use Rattle.std.proofs.Common.{◌≡◌, ℕ, ◌^◌, ◌≤◌, ◌<◌, Bool, true, false, List, ◌++◌, length, slice_index_or, refl, ◌∙◌, ap, arith, length-append}
use Rattle.std.specs.Prelude.{decimal}
use Rattle.std.proofs.lemmas.Fmt.{decimal_injective, length-decimal-le}
use Rattle.trace_report.specs.Traces.{letter}
use Rattle.trace_report.specs.Hearing.{IsWrong}

-- the two letters differ
apart : (x y : List ℕ) → letter true ++ x ≡ letter false ++ y → ⊥
apart x y is = let bad : 119 ≡ 114 = ap (λ (l : List ℕ). slice_index_or l 0 0) is in absurd (omega (arith, bad))

-- what stands behind the letter
behind_letter : (a b : Bool) (x y : List ℕ) → letter a ++ x ≡ letter b ++ y → (a ≡ b) × (x ≡ y)
behind_letter x0 x1 x y is = grind (arith, apart)

-- the page's text is a number's that is too great
pub too_great : (line text : List ℕ) (change : Bool) (page : ℕ) → line ≡ letter change ++ text → text ≡ decimal page → 65535 < page → page < 2 ^ 64 → IsWrong line
too_great line text change page is number great fits t touch = grind (arith, behind_letter, decimal_injective)

length-letter : (b : Bool) → length (letter b) ≡ 2
length-letter true = refl
length-letter false = refl

-- a line of eight octets or more is no touch
pub too_long : (line : List ℕ) → 8 ≤ length line → IsWrong line
too_long line long t touch =
    let small = touch.page in
    let digits = length-decimal-le 5 t.0 (omega arith) (omega (arith, small)) (omega (arith, small)) in
    let all = ap length touch.text ∙ length-append (letter t.1) (decimal t.0) in
    let two = length-letter t.1 in
    absurd (omega (arith, long, all, two, digits))
