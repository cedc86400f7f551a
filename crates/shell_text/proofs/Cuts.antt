-- How a text is cut at its spaces.
use Rattle.std.proofs.lemmas.Grind.{common_steps}
use Rattle.std.proofs.Common.{◌≡◌, ℕ, ◌+◌, ◌≤◌, ◌<◌, Bool, List, [], ◌∷◌, length, take, drop, Option, Some, None, slice_index, refl, sym, ap, ◌∙◌, arith, inl, inr}
use Rattle.std.specs.Prelude.{◌==◌, position, not, if◌then◌else◌, IfNone}
use Rattle.std.specs.List.{position_or_len, onto_first}
use Rattle.std.proofs.lemmas.List.Splits.{slice_split_first, length-slice_split}
use Rattle.std.proofs.lemmas.Bool.{cases_Bool, cases_lt, lt-ltb, le-ltb, false_from_ne_true}
use Rattle.std.proofs.lemmas.List.Sums.{position_or_len_is}
use Rattle.memchr.specs.Find.{IsFirstByte, is_byte}
use Rattle.shell_text.specs.Reading.{words_of, command_in}

abbrev pub is_space : ℕ → Bool
is_space x = x == 32

-- a text with no space is one word
one_word : (text : List ℕ) → length text ≤ position_or_len is_space text → words_of text ≡ text ∷ []
one_word [] all = refl
one_word (x ∷ text) all =
    elim (cases_Bool (is_space x)) [
      | inl space ↦
          let none : position_or_len is_space (x ∷ text) ≡ 0 = λ i. if not (space i) then 1 + position_or_len is_space text else 0 in
          absurd (omega (arith, none, all))
      | inr other ↦
          let more : position_or_len is_space (x ∷ text) ≡ 1 + position_or_len is_space text = λ i. if not (other i) then 1 + position_or_len is_space text else 0 in
          (λ i. if other i then [] ∷ words_of text else onto_first x (words_of text)) ∙ ap (onto_first x) (one_word text (omega (arith, more, all)))
    ]

-- the place that a search answered
pub place_found : (text : List ℕ) (place : Option ℕ) → IsFirstByte (is_byte 32) text place → place ≡ position is_space text
place_found text None none =
    let all = position_or_len_is is_space text (length text) 0 (omega arith) (λ k within. false_from_ne_true (is_space (slice_index text k)) (none k (omega arith) within)) (λ within. absurd (omega (arith, within))) in
    λ i. if sym (le-ltb (position_or_len is_space text) (length text) (omega (arith, all))) i then Some (position_or_len is_space text) else None
place_found text (Some place) found =
    let inside = found.0.high in
    let here = position_or_len_is is_space text place 0 (omega (arith, inside)) (λ k before. false_from_ne_true (is_space (slice_index text k)) (found.0.before k (omega arith) before)) (λ within. found.1) in
    ap Some (sym here) ∙ (λ i. if sym (lt-ltb (position_or_len is_space text) (length text) (omega (arith, here, inside))) i then Some (position_or_len is_space text) else None)

-- where no space was found
pub words_of-none : (text : List ℕ) → position is_space text ≡ None → words_of text ≡ text ∷ []
words_of-none text none = grind (arith, common_steps, cases_lt, lt-ltb, one_word)

-- the place of the first space
place_is : (text : List ℕ) (place : ℕ) → position is_space text ≡ Some place → (position_or_len is_space text ≡ place) × (position_or_len is_space text < length text)
place_is text place some = grind (arith, common_steps, cases_lt, lt-ltb, le-ltb)

-- where one was found
pub words_of-some : (text : List ℕ) (place : ℕ) → position is_space text ≡ Some place → words_of text ≡ take place text ∷ words_of (drop (place + 1) text)
words_of-some text place some = grind (arith, common_steps, place_is, slice_split_first)

pub if_none : {X : Type 0} (o : Option X) (P : Type 0) → P → IfNone o P
if_none None P p = p
if_none (Some x) P p = tt

-- a line of five words or more is no command
five_words : (a b c d : List ℕ) (more : List (List ℕ)) → 0 < length more → command_in (a ∷ b ∷ c ∷ d ∷ more) ≡ None
five_words a b c d [] some = absurd (omega (arith, some))
five_words a b c d (e ∷ more) some = refl

pub too_many : (line one two three four a b c d : List ℕ) → words_of line ≡ a ∷ words_of one → words_of one ≡ b ∷ words_of two → words_of two ≡ c ∷ words_of three → words_of three ≡ d ∷ words_of four → command_in (words_of line) ≡ None
too_many line one two three four a b c d first second third fourth = grind (arith, common_steps, five_words, length-slice_split)
