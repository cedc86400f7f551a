-- Words that have no spaces, joined by spaces, are cut into the same words again.
use Rattle.std.proofs.Common.{◌≡◌, ℕ, Bool, true, false, List, [], ◌∷◌, ◌++◌, refl, ap, ◌∙◌, arith, inl, inr}
use Rattle.std.specs.Prelude.{◌==◌, not, if◌then◌else◌, codes, decimal, Some, None}
use Rattle.std.specs.List.{list_all, join_with_byte, onto_first, AllPass}
use Rattle.std.specs.Str.{all_ascii_digits}
use Rattle.std.specs.Char.{is_ascii_digit}
use Rattle.std.proofs.lemmas.Bool.{and_parts, and_from, not-true}
use Rattle.std.proofs.lemmas.List.Elements.{All-head, All-tail}
use Rattle.hex.specs.Hex.{is_hex_digit}
use Rattle.hex.proofs.HexLemmas.{decode_of-ok}
use Rattle.record_model.specs.declared.words.Command.{Command}
use Rattle.record_model.specs.declared.words.Command.TheVariants.{Begin, Read, Write, Erase, Scan, Commit, Abort, Mark, Back, Get, Set, Checkpoint, Cache, Stat, Quit}
use Rattle.shell_text.specs.Grammar.{IsNumber, IsHex, IsSpelled}
use Rattle.shell_text.specs.Reading.{words_of}
use Rattle.shell_text.proofs.Numbers.{decimal_digits}

abbrev pub has_no_space : List ℕ → Bool
has_no_space word = list_all (λ x. not (x == 32)) word

-- the first octet is none, and the rest has none
parts : (x : ℕ) (word : List ℕ) → has_no_space (x ∷ word) ≡ true → ((x == 32) ≡ false) × (has_no_space word ≡ true)
parts x word none = let p = and_parts (not (x == 32)) (has_no_space word) none in (not-true (x == 32) p.0, p.1)

words_of-space : (word rest : List ℕ) → has_no_space word ≡ true → words_of (word ++ 32 ∷ rest) ≡ word ∷ words_of rest
words_of-space [] rest none = refl
words_of-space (x ∷ word) rest none =
    let p = parts x word none in
    (λ i. if p.0 i then [] ∷ words_of (word ++ 32 ∷ rest) else onto_first x (words_of (word ++ 32 ∷ rest))) ∙ ap (onto_first x) (words_of-space word rest p.1)

words_of-last : (word : List ℕ) → has_no_space word ≡ true → words_of word ≡ word ∷ []
words_of-last [] none = refl
words_of-last (x ∷ word) none =
    let p = parts x word none in
    (λ i. if p.0 i then [] ∷ words_of word else onto_first x (words_of word)) ∙ ap (onto_first x) (words_of-last word p.1)

pub words_of-join : (word : List ℕ) (words : List (List ℕ)) → list_all has_no_space (word ∷ words) ≡ true → words_of (join_with_byte 32 (word ∷ words)) ≡ word ∷ words
words_of-join word [] none = words_of-last word (and_parts (has_no_space word) true none).0
words_of-join word (next ∷ words) none =
    let p = and_parts (has_no_space word) (list_all has_no_space (next ∷ words)) none in
    words_of-space word (join_with_byte 32 (next ∷ words)) p.0 ∙ ap (λ (w : List (List ℕ)). word ∷ w) (words_of-join next words p.1)

-- digits are no spaces

digit_is_no_space : (x : ℕ) → is_ascii_digit x ≡ true → not (x == 32) ≡ true
digit_is_no_space x digit = grind arith

pub digits_have_none : (word : List ℕ) → all_ascii_digits word ≡ true → has_no_space word ≡ true
digits_have_none [] digits = refl
digits_have_none (x ∷ word) digits =
    let p = and_parts (is_ascii_digit x) (all_ascii_digits word) digits in
    and_from (not (x == 32)) (has_no_space word) (digit_is_no_space x p.0) (digits_have_none word p.1)

hex_is_no_space : (x : ℕ) → is_hex_digit x ≡ true → not (x == 32) ≡ true
hex_is_no_space x digit = grind arith

hex_has_none : (word : List ℕ) → AllPass is_hex_digit word → has_no_space word ≡ true
hex_has_none [] digits = refl
hex_has_none (x ∷ word) digits =
    let P : ℕ → Type 0 = λ c. is_hex_digit c ≡ true in
    and_from (not (x == 32)) (has_no_space word) (hex_is_no_space x (All-head P x word digits)) (hex_has_none word (All-tail P x word digits))

pub number_has_none : (n : ℕ) → IsNumber n → has_no_space (decimal n) ≡ true
number_has_none n small = digits_have_none (decimal n) (decimal_digits n small)

value_has_none : (text value : List ℕ) → IsHex text value → has_no_space text ≡ true
value_has_none text value (inl dash) = ap has_no_space dash.0
value_has_none text value (inr digits) = hex_has_none text (decode_of-ok text value digits.1).1

-- there is a first word, and no word has a space
pub record AreWords (words : List (List ℕ)) : Type 0 where
  pub name : List ℕ
  pub others : List (List ℕ)
  pub are : words ≡ name ∷ others
  pub none : list_all has_no_space (name ∷ others) ≡ true

one_number : (name : List ℕ) (words : List (List ℕ)) (n : ℕ) → has_no_space name ≡ true → words ≡ name ∷ decimal n ∷ [] → IsNumber n → AreWords words
one_number name words n none are small = record {
  name = name;
  others = decimal n ∷ [];
  are = are;
  none = and_from (has_no_space name) _ none (and_from (has_no_space (decimal n)) true (number_has_none n small) refl);
}

one_more : (name : List ℕ) (words : List (List ℕ)) (n : ℕ) (word : List ℕ) → has_no_space name ≡ true → words ≡ name ∷ decimal n ∷ word ∷ [] → IsNumber n → has_no_space word ≡ true → AreWords words
one_more name words n word none are small last = record {
  name = name;
  others = decimal n ∷ word ∷ [];
  are = are;
  none = and_from (has_no_space name) _ none (and_from (has_no_space (decimal n)) _ (number_has_none n small) (and_from (has_no_space word) true last refl));
}

two_more : (name : List ℕ) (words : List (List ℕ)) (n m : ℕ) (word : List ℕ) → has_no_space name ≡ true → words ≡ name ∷ decimal n ∷ decimal m ∷ word ∷ [] → IsNumber n → IsNumber m → has_no_space word ≡ true → AreWords words
two_more name words n m word none are first second last = record {
  name = name;
  others = decimal n ∷ decimal m ∷ word ∷ [];
  are = are;
  none = and_from (has_no_space name) _ none (and_from (has_no_space (decimal n)) _ (number_has_none n first) (and_from (has_no_space (decimal m)) _ (number_has_none m second) (and_from (has_no_space word) true last refl)));
}

pub spelled_words : (words : List (List ℕ)) (c : Command) → IsSpelled words c → AreWords words
spelled_words words (Begin n) s = one_number (codes "begin") words n refl s.0 s.1.0
spelled_words words (Commit n) s = one_number (codes "commit") words n refl s.0 s.1.0
spelled_words words (Abort n) s = one_number (codes "abort") words n refl s.0 s.1.0
spelled_words words (Mark n) s = one_number (codes "mark") words n refl s.0 s.1.0
spelled_words words (Back n None) s = one_number (codes "back") words n refl s.0 s.1.0
spelled_words words (Back n (Some m)) s = one_more (codes "back") words n (decimal m) refl s.0 s.1.0 (number_has_none m s.1.1.0)
spelled_words words (Get n) s = one_number (codes "get") words n refl s.0 s.1.0
spelled_words words (Read n m) s = one_more (codes "read") words n (decimal m) refl s.0 s.1.0 (number_has_none m s.1.1.0)
spelled_words words (Erase n m) s = one_more (codes "erase") words n (decimal m) refl s.0 s.1.0 (number_has_none m s.1.1.0)
spelled_words words (Set n value) s = one_more (codes "set") words n s.text refl s.says s.are_numbers.0 (value_has_none s.text value s.hex)
spelled_words words (Write n m value) s = two_more (codes "write") words n m s.text refl s.says s.are_numbers.0 s.are_numbers.1.0 (value_has_none s.text value s.hex)
spelled_words words (Scan n m k) s = two_more (codes "scan") words n m (decimal k) refl s.0.0 s.0.1.0 s.0.1.1.0 (number_has_none k s.0.1.1.1.0)
spelled_words words Checkpoint s = record { name = codes "checkpoint"; others = []; are = s.0; none = refl }
spelled_words words Cache s = record { name = codes "cache"; others = []; are = s.0; none = refl }
spelled_words words Stat s = record { name = codes "stat"; others = []; are = s.0; none = refl }
spelled_words words Quit s = record { name = codes "quit"; others = []; are = s.0; none = refl }
