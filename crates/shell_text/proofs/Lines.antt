-- How the input is cut into lines.
use Rattle.std.proofs.Common.{◌≡◌, ℕ, ◌+◌, ◌<◌, Bool, true, false, List, [], ◌∷◌, ◌++◌, length, refl, sym, ap, ◌∙◌, arith, inl, inr}
use Rattle.std.specs.Prelude.{◌==◌, if◌then◌else◌}
use Rattle.std.proofs.lemmas.Bool.{ne_eqb, cases_Bool}
use Rattle.shell_text.specs.Runs.{in_front, lines_of}
use Rattle.shell_text.specs.Laws.{EndsAtNewline, WaitsForNewline, EndsWithInput, WholeLinesStay}

pub lines_of-newline : EndsAtNewline
lines_of-newline ended [] rest none = refl
lines_of-newline ended (x ∷ line) rest none =
    (λ i. if ne_eqb x 10 none.0 i then [] ∷ lines_of ended (line ++ 10 ∷ rest) else in_front ended x (lines_of ended (line ++ 10 ∷ rest)))
    ∙ ap (in_front ended x) (lines_of-newline ended line rest none.1)

pub lines_of-waits : WaitsForNewline
lines_of-waits [] none = refl
lines_of-waits (x ∷ line) none =
    (λ i. if ne_eqb x 10 none.0 i then [] ∷ lines_of false line else in_front false x (lines_of false line)) ∙ ap (in_front false x) (lines_of-waits line none.1)

pub lines_of-end : EndsWithInput
lines_of-end x [] none = λ i. if ne_eqb x 10 none.0 i then [] ∷ [] else (x ∷ []) ∷ []
lines_of-end x (y ∷ line) none =
    (λ i. if ne_eqb x 10 none.0 i then [] ∷ lines_of true (y ∷ line) else in_front true x (lines_of true (y ∷ line)))
    ∙ ap (in_front true x) (lines_of-end y line none.1)

-- where there is a first line, an octet before it is its own
in_front-append : (ended : Bool) (x : ℕ) (lines more : List (List ℕ)) → 0 < length lines → in_front ended x (lines ++ more) ≡ in_front false x lines ++ more
in_front-append ended x [] more some = absurd (omega (arith, some))
in_front-append ended x (line ∷ lines) more some = refl

length-in_front : (x : ℕ) (lines : List (List ℕ)) → 0 < length lines → 0 < length (in_front false x lines)
length-in_front x [] some = absurd (omega (arith, some))
length-in_front x (line ∷ lines) some = omega arith

-- a newline ends a line
some_line : (octets : List ℕ) → 0 < length (lines_of false (octets ++ 10 ∷ []))
some_line [] = omega arith
some_line (x ∷ octets) =
    elim (cases_Bool (x == 10)) [
      | inl newline ↦
          let is : lines_of false (x ∷ octets ++ 10 ∷ []) ≡ [] ∷ lines_of false (octets ++ 10 ∷ []) = λ i. if newline i then [] ∷ lines_of false (octets ++ 10 ∷ []) else in_front false x (lines_of false (octets ++ 10 ∷ [])) in
          let long : length (lines_of false (x ∷ octets ++ 10 ∷ [])) ≡ 1 + length (lines_of false (octets ++ 10 ∷ [])) = ap length is ∙ omega arith in
          omega (arith, long)
      | inr other ↦
          let is : lines_of false (x ∷ octets ++ 10 ∷ []) ≡ in_front false x (lines_of false (octets ++ 10 ∷ [])) = λ i. if other i then [] ∷ lines_of false (octets ++ 10 ∷ []) else in_front false x (lines_of false (octets ++ 10 ∷ [])) in
          let long = ap length is in
          let front = length-in_front x (lines_of false (octets ++ 10 ∷ [])) (some_line octets) in
          omega (arith, long, front)
    ]

pub lines_of-stay : WholeLinesStay
lines_of-stay ended [] rest = refl
lines_of-stay ended (x ∷ octets) rest =
    elim (cases_Bool (x == 10)) [
      | inl newline ↦
          (λ i. if newline i then [] ∷ lines_of ended (octets ++ 10 ∷ rest) else in_front ended x (lines_of ended (octets ++ 10 ∷ rest)))
          ∙ ap (λ (l : List (List ℕ)). [] ∷ l) (lines_of-stay ended octets rest)
          ∙ sym (λ i. (if newline i then [] ∷ lines_of false (octets ++ 10 ∷ []) else in_front false x (lines_of false (octets ++ 10 ∷ []))) ++ lines_of ended rest)
      | inr other ↦
          (λ i. if other i then [] ∷ lines_of ended (octets ++ 10 ∷ rest) else in_front ended x (lines_of ended (octets ++ 10 ∷ rest)))
          ∙ ap (in_front ended x) (lines_of-stay ended octets rest)
          ∙ in_front-append ended x (lines_of false (octets ++ 10 ∷ [])) (lines_of ended rest) (some_line octets)
          ∙ sym (λ i. (if other i then [] ∷ lines_of false (octets ++ 10 ∷ []) else in_front false x (lines_of false (octets ++ 10 ∷ []))) ++ lines_of ended rest)
    ]
