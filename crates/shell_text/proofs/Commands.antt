-- The words of a line: what is read as a command is spelled so, and what is spelled so is read.
use Rattle.std.proofs.Common.{arith}
use Rattle.std.proofs.lemmas.Grind.{common_steps}
use Rattle.std.proofs.Common.{◌≡◌, ℕ, ◌≤◌, Bool, List, [], ◌∷◌, Option, Some, None, refl, ap, ◌∙◌, subst, inl, inr}
use Rattle.std.specs.Prelude.{nat_le, option_map, option_and_then, if◌then◌else◌, codes, decimal}
use Rattle.std.specs.Str.{bytes_eq}
use Rattle.std.proofs.lemmas.Bool.{and_parts, and_from, leb-true, le-leb}
use Rattle.std.proofs.lemmas.Option.{option_and_then_some, same_Some}
use Rattle.std.proofs.lemmas.Slice.Eq.{bytes_eq-Decides}
use Rattle.record_model.specs.declared.words.Command.{Command}
use Rattle.record_model.specs.declared.words.Command.TheVariants.{Begin, Read, Write, Erase, Scan, Commit, Abort, Mark, Back, Get, Set, Checkpoint, Cache, Stat, Quit}
use Rattle.shell_text.specs.declared.grammar.TheConstants.{COUNT_MAX}
use Rattle.shell_text.specs.Grammar.{IsNumber, IsSpelled}
use Rattle.shell_text.specs.Reading.{number_of, value_of, bare_command, command_of_one, command_of_two, scan_of, two_words, three_words, command_in}
use Rattle.shell_text.proofs.Numbers.{chosen, number_of-some, number_of-decimal}
use Rattle.shell_text.proofs.Values.{value_of-some, value_of-hex}

-- a test for a name: where it is the name, the command is this one
by_name : (name text : List ℕ) (this : Command) (others : Option Command) (c : Command) (P : Command → Type 0) → (name ≡ text → P this) → (others ≡ Some c → P c) → (if bytes_eq name text then Some this else others) ≡ Some c → P c
by_name name text this others c P here there e = grind (arith, common_steps, chosen, same_Some, bytes_eq-Decides)

bare_spelled : (name : List ℕ) (c : Command) → bare_command name ≡ Some c → IsSpelled (name ∷ []) c
bare_spelled name c =
    let P : Command → Type 0 = IsSpelled (name ∷ []) in
    by_name name (codes "checkpoint") Checkpoint _ c P (λ is. (ap (λ (n : List ℕ). n ∷ []) is, tt))
    (by_name name (codes "cache") Cache _ c P (λ is. (ap (λ (n : List ℕ). n ∷ []) is, tt))
    (by_name name (codes "stat") Stat _ c P (λ is. (ap (λ (n : List ℕ). n ∷ []) is, tt))
    (by_name name (codes "quit") Quit _ c P (λ is. (ap (λ (n : List ℕ). n ∷ []) is, tt)) (λ none. cc none))))

one_spelled : (name a : List ℕ) (n : ℕ) (c : Command) → IsNumber n × (a ≡ decimal n) → command_of_one name n ≡ Some c → IsSpelled (name ∷ a ∷ []) c
one_spelled name a n c number =
    let P : Command → Type 0 = IsSpelled (name ∷ a ∷ []) in
    by_name name (codes "begin") (Begin n) _ c P (λ is. ((λ i. is i ∷ number.1 i ∷ []), (number.0, tt)))
    (by_name name (codes "commit") (Commit n) _ c P (λ is. ((λ i. is i ∷ number.1 i ∷ []), (number.0, tt)))
    (by_name name (codes "abort") (Abort n) _ c P (λ is. ((λ i. is i ∷ number.1 i ∷ []), (number.0, tt)))
    (by_name name (codes "mark") (Mark n) _ c P (λ is. ((λ i. is i ∷ number.1 i ∷ []), (number.0, tt)))
    (by_name name (codes "back") (Back n None) _ c P (λ is. ((λ i. is i ∷ number.1 i ∷ []), (number.0, tt)))
    (by_name name (codes "get") (Get n) _ c P (λ is. ((λ i. is i ∷ number.1 i ∷ []), (number.0, tt))) (λ none. cc none))))))

numbers_spelled : (name a b : List ℕ) (n m : ℕ) (c : Command) → IsNumber n × (a ≡ decimal n) → IsNumber m × (b ≡ decimal m) → command_of_two name n m ≡ Some c → IsSpelled (name ∷ a ∷ b ∷ []) c
numbers_spelled name a b n m c first second =
    let P : Command → Type 0 = IsSpelled (name ∷ a ∷ b ∷ []) in
    by_name name (codes "read") (Read n m) _ c P (λ is. ((λ i. is i ∷ first.1 i ∷ second.1 i ∷ []), (first.0, (second.0, tt))))
    (by_name name (codes "erase") (Erase n m) _ c P (λ is. ((λ i. is i ∷ first.1 i ∷ second.1 i ∷ []), (first.0, (second.0, tt))))
    (by_name name (codes "back") (Back n (Some m)) _ c P (λ is. ((λ i. is i ∷ first.1 i ∷ second.1 i ∷ []), (first.0, (second.0, tt)))) (λ none. cc none)))

-- a command with a value
with_value : (make : List ℕ → Command) (o : Option (List ℕ)) (c : Command) → option_map make o ≡ Some c → (value : List ℕ) × (o ≡ Some value) × (make value ≡ c)
with_value make (Some value) c e = (value, refl, same_Some (make value) c e)
with_value make None c e = cc e

two_spelled : (name a b : List ℕ) (n : ℕ) (c : Command) → IsNumber n × (a ≡ decimal n) → two_words name b n ≡ Some c → IsSpelled (name ∷ a ∷ b ∷ []) c
two_spelled name a b n c first e =
    elim (chosen (bytes_eq name (codes "set")) (option_map (Set n) (value_of b)) (option_and_then (command_of_two name n) (number_of b)) (Some c) e) [
      | inl set ↦
          let is = (bytes_eq-Decides name (codes "set")).0 set.0 in
          let found = with_value (Set n) (value_of b) c set.1 in
          subst (IsSpelled (name ∷ a ∷ b ∷ [])) found.2
          (record { text = b; hex = value_of-some b found.0 found.1; says = λ i. is i ∷ first.1 i ∷ b ∷ []; are_numbers = (first.0, tt) })
      | inr other ↦ option_and_then_some (command_of_two name n) (number_of b) c other.1 (λ m some. numbers_spelled name a b n m c first (number_of-some b m some))
    ]

scan_spelled : (name a b d : List ℕ) (n m k : ℕ) (c : Command) → name ≡ codes "scan" → IsNumber n × (a ≡ decimal n) → IsNumber m × (b ≡ decimal m) → IsNumber k × (d ≡ decimal k) → scan_of n m k ≡ Some c → IsSpelled (name ∷ a ∷ b ∷ d ∷ []) c
scan_spelled name a b d n m k c is first second third e = grind (arith, common_steps, chosen, and_parts, leb-true, same_Some)

three_spelled : (name a b d : List ℕ) (n m : ℕ) (c : Command) → IsNumber n × (a ≡ decimal n) → IsNumber m × (b ≡ decimal m) → three_words name d n m ≡ Some c → IsSpelled (name ∷ a ∷ b ∷ d ∷ []) c
three_spelled name a b d n m c first second e =
    elim (chosen (bytes_eq name (codes "write")) (option_map (Write n m) (value_of d)) (if bytes_eq name (codes "scan") then option_and_then (scan_of n m) (number_of d) else None) (Some c) e) [
      | inl write ↦
          let is = (bytes_eq-Decides name (codes "write")).0 write.0 in
          let found = with_value (Write n m) (value_of d) c write.1 in
          subst (IsSpelled (name ∷ a ∷ b ∷ d ∷ [])) found.2
          (record { text = d; hex = value_of-some d found.0 found.1; says = λ i. is i ∷ first.1 i ∷ second.1 i ∷ d ∷ []; are_numbers = (first.0, (second.0, tt)) })
      | inr other ↦
          elim (chosen (bytes_eq name (codes "scan")) (option_and_then (scan_of n m) (number_of d)) None (Some c) other.1) [
            | inl scan ↦
                option_and_then_some (scan_of n m) (number_of d) c scan.1
                (λ k some. scan_spelled name a b d n m k c ((bytes_eq-Decides name (codes "scan")).0 scan.0) first second (number_of-some d k some))
            | inr none ↦ cc none.1
          ]
    ]

pub command_in-some : (words : List (List ℕ)) (c : Command) → command_in words ≡ Some c → IsSpelled words c
command_in-some [] c e = cc e
command_in-some (name ∷ []) c e = bare_spelled name c e
command_in-some (name ∷ a ∷ []) c e =
    option_and_then_some (command_of_one name) (number_of a) c e (λ n some. one_spelled name a n c (number_of-some a n some))
command_in-some (name ∷ a ∷ b ∷ []) c e =
    option_and_then_some (two_words name b) (number_of a) c e (λ n some. two_spelled name a b n c (number_of-some a n some))
command_in-some (name ∷ a ∷ b ∷ d ∷ []) c e =
    option_and_then_some (λ n. option_and_then (three_words name d n) (number_of b)) (number_of a) c e
    (λ n first rest. option_and_then_some (three_words name d n) (number_of b) c rest
    (λ m second. three_spelled name a b d n m c (number_of-some a n first) (number_of-some b m second)))
command_in-some (name ∷ a ∷ b ∷ d ∷ f ∷ more) c e = cc e

-- and the other way

one_again : (name : List ℕ) (n : ℕ) → IsNumber n → command_in (name ∷ decimal n ∷ []) ≡ command_of_one name n
one_again name n small = ap (option_and_then (command_of_one name)) (number_of-decimal n small)

two_again : (name b : List ℕ) (n : ℕ) → IsNumber n → command_in (name ∷ decimal n ∷ b ∷ []) ≡ two_words name b n
two_again name b n small = ap (option_and_then (two_words name b)) (number_of-decimal n small)

three_again : (name d : List ℕ) (n m : ℕ) → IsNumber n → IsNumber m → command_in (name ∷ decimal n ∷ decimal m ∷ d ∷ []) ≡ three_words name d n m
three_again name d n m first second = grind (arith, common_steps, number_of-decimal)

scan_again : (n m k : ℕ) → 1 ≤ k → k ≤ COUNT_MAX → scan_of n m k ≡ Some (Scan n m k)
scan_again n m k least most =
    ap (λ (b : Bool). if b then Some (Scan n m k) else None) (and_from (nat_le 1 k) (nat_le k COUNT_MAX) (le-leb 1 k least) (le-leb k COUNT_MAX most))

pub command_in-spelled : (words : List (List ℕ)) (c : Command) → IsSpelled words c → command_in words ≡ Some c
command_in-spelled words (Begin n) s = ap command_in s.0 ∙ one_again (codes "begin") n s.1.0
command_in-spelled words (Commit n) s = ap command_in s.0 ∙ one_again (codes "commit") n s.1.0
command_in-spelled words (Abort n) s = ap command_in s.0 ∙ one_again (codes "abort") n s.1.0
command_in-spelled words (Mark n) s = ap command_in s.0 ∙ one_again (codes "mark") n s.1.0
command_in-spelled words (Back n None) s = ap command_in s.0 ∙ one_again (codes "back") n s.1.0
command_in-spelled words (Back n (Some m)) s =
    ap command_in s.0 ∙ two_again (codes "back") (decimal m) n s.1.0 ∙ ap (option_and_then (command_of_two (codes "back") n)) (number_of-decimal m s.1.1.0)
command_in-spelled words (Get n) s = ap command_in s.0 ∙ one_again (codes "get") n s.1.0
command_in-spelled words (Read n m) s =
    ap command_in s.0 ∙ two_again (codes "read") (decimal m) n s.1.0 ∙ ap (option_and_then (command_of_two (codes "read") n)) (number_of-decimal m s.1.1.0)
command_in-spelled words (Erase n m) s =
    ap command_in s.0 ∙ two_again (codes "erase") (decimal m) n s.1.0 ∙ ap (option_and_then (command_of_two (codes "erase") n)) (number_of-decimal m s.1.1.0)
command_in-spelled words (Set n value) s =
    ap command_in s.says ∙ two_again (codes "set") s.text n s.are_numbers.0 ∙ ap (option_map (Set n)) (value_of-hex s.text value s.hex)
command_in-spelled words (Write n m value) s =
    ap command_in s.says ∙ three_again (codes "write") s.text n m s.are_numbers.0 s.are_numbers.1.0 ∙ ap (option_map (Write n m)) (value_of-hex s.text value s.hex)
command_in-spelled words (Scan n m k) s =
    ap command_in s.0.0 ∙ three_again (codes "scan") (decimal k) n m s.0.1.0 s.0.1.1.0 ∙ ap (option_and_then (scan_of n m)) (number_of-decimal k s.0.1.1.1.0)
    ∙ scan_again n m k s.1 s.2
command_in-spelled words Checkpoint s = ap command_in s.0
command_in-spelled words Cache s = ap command_in s.0
command_in-spelled words Stat s = ap command_in s.0
command_in-spelled words Quit s = ap command_in s.0
