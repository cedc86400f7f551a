-- What stop lines say.
use Rattle.std.proofs.Common.{◌≡◌, ℕ, ◌+◌, true, List, [], ◌∷◌, length, Option, Some, None, refl, sym, ap, ◌∙◌, arith, inl, inr}
use Rattle.std.specs.Prelude.{◌==◌, codes, decimal, IfSome, IfNone}
use Rattle.std.specs.List.{list_all, join_with_byte}
use Rattle.std.specs.Str.{bytes_eq}
use Rattle.std.proofs.lemmas.Bool.{and_from}
use Rattle.std.proofs.lemmas.List.Splits.{join_with_byte-slice_split, length-slice_split}
use Rattle.std.proofs.lemmas.Slice.Eq.{bytes_eq-Decides}
use Rattle.std.proofs.lemmas.Option.{same_Some}
use Rattle.shell_text.specs.Grammar.{IsNumber}
use Rattle.shell_text.specs.Reading.{words_of, number_of}
use Rattle.shell_text.proofs.Numbers.{chosen, number_of-some, number_of-decimal}
use Rattle.shell_text.proofs.Spacing.{has_no_space, words_of-join, number_has_none}
use Rattle.workload.specs.Scripts.{pair_of, stop_in, stop_of}
use Rattle.workload.specs.Laws.{stop_text, StopLinesAreRead}

-- Reading.

pub number_is : (r : Option ℕ) (word : List ℕ) → IfSome r (λ n. IsNumber n × (word ≡ decimal n)) → IfNone r ((n : ℕ) → IsNumber n → word ≡ decimal n → ⊥) → r ≡ number_of word
number_is (Some n) word some none = sym (ap number_of some.1 ∙ number_of-decimal n some.0)
number_is None word some none = by_read (number_of word) refl where
  by_read : (o : Option ℕ) → number_of word ≡ o → None ≡ number_of word
  by_read None is = sym is
  by_read (Some n) is = let found = number_of-some word n is in absurd (none n found.0 found.1)

-- A line with more words than three is no stop line.
pub many_words : (line one two three name k seed : List ℕ) → words_of line ≡ name ∷ words_of one → words_of one ≡ k ∷ words_of two → words_of two ≡ seed ∷ words_of three → None ≡ stop_of line
many_words line one two three name k seed first second third =
    sym (ap stop_in (first ∙ ap (λ (w : List (List ℕ)). name ∷ w) (second ∙ ap (λ (w : List (List ℕ)). k ∷ w) third)) ∙ by_words (words_of three) _ (length-slice_split (λ x. x == 32) three)) where
      by_words : (words : List (List ℕ)) (n : ℕ) → length words ≡ n + 1 → stop_in (name ∷ k ∷ seed ∷ words) ≡ None
      by_words [] n some = absurd (omega (arith, some))
      by_words (word ∷ words) n some = refl

-- What is read as a stop line is one.
pair_parts : (a b : Option ℕ) (k seed : ℕ) → pair_of a b ≡ Some (k, seed) → (a ≡ Some k) × (b ≡ Some seed)
pair_parts (Some n) (Some m) k seed is =
    let same : (n, m) ≡ (k, seed) = same_Some (n, m) (k, seed) is in
    (ap (λ (p : ℕ × ℕ). Some p.0) same, ap (λ (p : ℕ × ℕ). Some p.1) same)
pair_parts (Some n) None k seed is = cc is
pair_parts None (Some m) k seed is = cc is
pair_parts None None k seed is = cc is

said : (words : List (List ℕ)) (k seed : ℕ) → stop_in words ≡ Some (k, seed) → IsNumber k × IsNumber seed × (join_with_byte 32 words ≡ stop_text k seed)
said [] k seed is = cc is
said (name ∷ []) k seed is = cc is
said (name ∷ a ∷ []) k seed is = cc is
said (name ∷ a ∷ b ∷ []) k seed is =
    elim (chosen (bytes_eq name (codes "stop")) (pair_of (number_of a) (number_of b)) None (Some (k, seed)) is) [
      | inl stop ↦
          let parts = pair_parts (number_of a) (number_of b) k seed stop.1 in
          let first = number_of-some a k parts.0 in
          let second = number_of-some b seed parts.1 in
          let name-is = (bytes_eq-Decides name (codes "stop")).0 stop.0 in
          (first.0, second.0, λ i. join_with_byte 32 (name-is i ∷ first.1 i ∷ second.1 i ∷ []))
      | inr other ↦ cc other.1
    ]
said (name ∷ a ∷ b ∷ c ∷ words) k seed is = cc is

words_of_stop : (k seed : ℕ) → IsNumber k → IsNumber seed → words_of (stop_text k seed) ≡ codes "stop" ∷ decimal k ∷ decimal seed ∷ []
words_of_stop k seed first second =
    let last = and_from (has_no_space (decimal seed)) true (number_has_none seed second) refl in
    let both = and_from (has_no_space (decimal k)) (list_all has_no_space (decimal seed ∷ [])) (number_has_none k first) last in
    words_of-join (codes "stop") (decimal k ∷ decimal seed ∷ []) both

pub stop_lines_are_read : StopLinesAreRead
stop_lines_are_read line k seed = (
  λ is. let found = said (words_of line) k seed is in (found.0, found.1, sym (join_with_byte-slice_split 32 line) ∙ found.2),
  λ is. ap stop_of is.2 ∙ ap stop_in (words_of_stop k seed is.0 is.1) ∙ (λ i. pair_of (number_of-decimal k is.0 i) (number_of-decimal seed is.1 i)),
)
