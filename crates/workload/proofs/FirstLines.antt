-- The first line of octets.
use Rattle.std.proofs.Common.{◌≡◌, ◌≢◌, ℕ, suc, ◌+◌, ◌-◌, ◌≤◌, ◌<◌, Bool, true, List, [], ◌∷◌, ◌++◌, length, take, drop, get_or, Some, None, sym, ap, subst, ◌∙◌, arith, inl, inr}
use Rattle.std.specs.Prelude.{◌==◌, position, slice_range, if◌then◌else◌}
use Rattle.std.specs.List.{position_or_len}
use Rattle.std.proofs.lemmas.Bool.{cases_lt, lt-ltb, le-ltb, eqb-true, eqb-false}
use Rattle.std.proofs.lemmas.List.{get_or-take, drop-drop, take_all, length-take-le, length-drop, drop_at}
use Rattle.std.proofs.Math.ListN.{drop_of_length-le}
use Rattle.std.proofs.Math.Seq.{take-add}
use Rattle.std.proofs.lemmas.List.Quantifiers.{position-Some}
use Rattle.std.proofs.lemmas.List.Sums.{split_at_first, fails_before_first}
use Rattle.shell_text.specs.Runs.{lines_of}
use Rattle.shell_text.specs.Laws.{HasNoNewline}
use Rattle.shell_text.proofs.Lines.{lines_of-newline, lines_of-end}

abbrev pub is_newline : ℕ → Bool
is_newline x = x == 10

none_by_index : (octets : List ℕ) → ((k : ℕ) → k < length octets → get_or octets k 0 ≢ 10) → HasNoNewline octets
none_by_index [] none = tt
none_by_index (x ∷ octets) none = (none 0 (omega arith), none_by_index octets (λ k less. none (suc k) (omega arith)))

-- what the place of the first newline is
place_is : (octets : List ℕ) (place : ℕ) → position is_newline octets ≡ Some place → (position_or_len is_newline octets ≡ place) × (position_or_len is_newline octets < length octets)
place_is octets place some =
    elim (cases_lt (position_or_len is_newline octets) (length octets)) [
      | inl found ↦
          let is : Some (position_or_len is_newline octets) ≡ Some place = sym (λ i. if lt-ltb (position_or_len is_newline octets) (length octets) found i then Some (position_or_len is_newline octets) else None) ∙ some in
          (cc, found)
      | inr all ↦ cc (sym some ∙ (λ i. if le-ltb (position_or_len is_newline octets) (length octets) all i then Some (position_or_len is_newline octets) else None))
    ]

-- Octets with a newline are the octets before the first one, none of which is one, and those behind it.
pub record IsSplit (octets : List ℕ) (place : ℕ) : Type 0 where
  pub inside : place < length octets
  pub none : HasNoNewline (take place octets)
  pub parts : octets ≡ take place octets ++ 10 ∷ drop (place + 1) octets

pub split_at : (octets : List ℕ) (place : ℕ) → position is_newline octets ≡ Some place → IsSplit octets place
split_at octets place some =
    let at = place_is octets place some in
    let n = position_or_len is_newline octets in
    let newline : get_or octets n 0 ≡ 10 = eqb-true (get_or octets n 0) 10 (position-Some is_newline octets n 0 (some ∙ ap Some (sym at.0))).1 in
    let none : HasNoNewline (take n octets) =
    none_by_index (take n octets) (λ k less.
    let inside : k < n = omega (arith, less, length-take-le n octets (omega (arith, at.1))) in
    let same = get_or-take n octets k 0 inside in
    λ is. eqb-false (get_or octets k 0) 10 (fails_before_first is_newline octets k 0 inside) (sym same ∙ is)) in
    subst (IsSplit octets) at.0
    (record { inside = at.1; none = none; parts = split_at_first is_newline octets 0 at.1 ∙ ap (λ (x : ℕ). take n octets ++ (x ∷ drop (n + 1) octets)) newline })

pub first_line : (octets : List ℕ) (place : ℕ) → position is_newline octets ≡ Some place → lines_of true octets ≡ take place octets ∷ lines_of true (drop (place + 1) octets)
first_line octets place some =
    let s = split_at octets place some in
    ap (lines_of true) s.parts ∙ lines_of-newline true (take place octets) (drop (place + 1) octets) s.none

-- the same of the first octets, up to some behind the newline
pub newline_then : (octets : List ℕ) (place n : ℕ) → position is_newline octets ≡ Some place → lines_of true (take (place + suc n) octets) ≡ take place octets ∷ lines_of true (take n (drop (place + 1) octets))
newline_then octets place n some =
    let s = split_at octets place some in
    let inside = s.inside in
    let behind : drop place octets ≡ 10 ∷ drop (place + 1) octets =
    ap (drop place) s.parts ∙ drop_at (take place octets) (10 ∷ drop (place + 1) octets) place (length-take-le place octets (omega (arith, inside))) in
    ap (lines_of true) (take-add place (suc n) octets ∙ ap (λ (rest : List ℕ). take place octets ++ take (suc n) rest) behind)
    ∙ lines_of-newline true (take place octets) (take n (drop (place + 1) octets)) s.none

-- where there is none
all_is : (octets : List ℕ) → position is_newline octets ≡ None → length octets ≤ position_or_len is_newline octets
all_is octets none =
    elim (cases_lt (position_or_len is_newline octets) (length octets)) [
      | inl found ↦ cc (sym none ∙ (λ i. if lt-ltb (position_or_len is_newline octets) (length octets) found i then Some (position_or_len is_newline octets) else None))
      | inr all ↦ all
    ]

no_newline : (octets : List ℕ) → position is_newline octets ≡ None → HasNoNewline octets
no_newline octets none =
    let all = all_is octets none in
    none_by_index octets (λ k less. eqb-false (get_or octets k 0) 10 (fails_before_first is_newline octets k 0 (omega (arith, less, all))))

pub only_line : (octets : List ℕ) → position is_newline octets ≡ None → 0 < length octets → lines_of true octets ≡ octets ∷ []
only_line [] none some = absurd (omega (arith, some))
only_line (x ∷ octets) none some = lines_of-end x octets (no_newline (x ∷ octets) none)

-- The line that begins at a place of a script ends at an end, behind which the next line begins.
pub line_at : (script : List ℕ) (at place : ℕ) → position is_newline (drop at script) ≡ Some place →
    lines_of true (drop at script) ≡ slice_range script at (at + place) ∷ lines_of true (drop (at + place + 1) script)
line_at script at place some =
    first_line (drop at script) place some
    ∙ (λ i. take (long i) (drop at script) ∷ lines_of true (behind i)) where
      long : place ≡ at + place - at
      long = omega arith

      behind : drop (place + 1) (drop at script) ≡ drop (at + place + 1) script
      behind = drop-drop (place + 1) at script ∙ ap (λ (n : ℕ). drop n script) (omega arith)

pub last_line_at : (script : List ℕ) (at : ℕ) → at < length script → position is_newline (drop at script) ≡ None →
    lines_of true (drop at script) ≡ slice_range script at (length script) ∷ lines_of true (drop (length script + 1) script)
last_line_at script at inside none =
    let len = length-drop at script in
    let all : take (length script - at) (drop at script) ≡ drop at script = take_all (length script - at) (drop at script) (omega (arith, len)) in
    let past : drop (length script + 1) script ≡ [] = drop_of_length-le script {i = length script + 1} (omega arith) in
    only_line (drop at script) none (omega (arith, len, inside))
    ∙ sym (λ i. all i ∷ lines_of true (past i))
