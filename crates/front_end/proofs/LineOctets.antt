-- The octets of a line, one part after the other.
use Rattle.std.proofs.Common.{◌≡◌, ◌≢◌, inl, inr, ℕ, zero, suc, drop, ◌-◌, ◌+◌, ◌≤◌, ◌<◌, List, [], ◌∷◌, ◌++◌, length, take, refl, sym, ◌∙◌, ap, subst, arith, append_assoc, length-append}
use Rattle.std.specs.Prelude.{◌==◌, map, Bool, None, if◌then◌else◌, false, true}
use Rattle.std.specs.List.{AllByRecursion}
use Rattle.std.proofs.lemmas.List.{append-nil, take_all, length-take}
use Rattle.std.proofs.lemmas.Bool.{lt-ltb, cases_lt}
use Rattle.std_lemmas.proofs.AllOf.{all_append}
use Rattle.record_model.specs.Run.{Line}
use Rattle.site.specs.State.{State}
use Rattle.shell_text.specs.Reading.{command_in, line_of, words_of}
use Rattle.shell_text.proofs.Lines.{lines_of-newline, lines_of-end}
use Rattle.front_end.specs.declared.halt.Halt.{Halt}
use Rattle.front_end.specs.declared.source.Source.{Source}
use Rattle.front_end.specs.Lines.{IsSource, to_hear, pending, total, limit, commands_of, with_newline, HearsPart, HearsOnly, HearsLine, IsCutOff, CutsOff}

-- what was heard of a line so far: no newline; its octets are kept as far as they fit
pub record HeardSoFar (before after line : List ℕ) (turns : ℕ) : Type 0 where
  pub octets : List ℕ
  pub all : before ≡ octets ++ after
  pub none : AllByRecursion (λ x. x ≢ 10) octets
  pub number : turns ≤ length octets
  pub kept : line ≡ take 501 octets

-- a line of more than 500 octets says nothing
long_none : (line : List ℕ) → 500 < length line → line_of line ≡ None
long_none line many = λ i. if lt-ltb 500 (length line) many i then None else command_in (words_of line)

-- what a line says of which 501 octets are kept
same_line : (octets : List ℕ) → line_of (take 501 octets) ≡ line_of octets
same_line octets = elim (cases_lt 500 (length octets)) [
  | inl many ↦
      let long = length-take 501 octets in
      long_none (take 501 octets) (omega (arith, long, many)) ∙ sym (long_none octets many)
  | inr few ↦ ap line_of (take_all 501 octets (omega (arith, few)))
]

says : (before after line : List ℕ) (turns : ℕ) (h : HeardSoFar before after line turns) → line_of line ≡ line_of h.octets
says before after line turns h = ap line_of h.kept ∙ same_line h.octets

-- a line that ends in a newline
pub line_heard : (before after line : List ℕ) (turns : ℕ) (said : Line) (was ended : Bool) → HeardSoFar before (10 ∷ after) line turns → was ≡ false → said ≡ line_of line → HearsLine said was ended before after
line_heard before after line turns said was ended h going is = record {
  octets = h.octets ++ 10 ∷ [];
  all = h.all ∙ sym (append_assoc h.octets (10 ∷ []) after);
  some = omega (arith, length-append h.octets (10 ∷ []));
  is_line = λ more e premise.
      ap (commands_of e) (append_assoc h.octets (10 ∷ []) more) ∙ ap (map line_of) (lines_of-newline e h.octets more h.none)
      ∙ ap (λ (c : Line). c ∷ commands_of e more) (sym (is ∙ says before (10 ∷ after) line turns h));
  going = going;
}

-- a last line, which the end of the input ends
pub last_heard : (before line : List ℕ) (turns : ℕ) (said : Line) (was ended : Bool) (after : List ℕ) → HeardSoFar before [] line turns → after ≡ [] → 0 < length line → ended ≡ true → was ≡ false → said ≡ line_of line → HearsLine said was ended before after
last_heard before line turns said was ended after h nothing some end going is = whole h.octets refl
  where
    whole : (xs : List ℕ) → xs ≡ h.octets → HearsLine said was ended before after
    whole [] e = let none : length h.octets ≡ 0 = ap length (sym e) in let kept = ap length h.kept ∙ length-take 501 h.octets in absurd (omega (arith, none, kept, some))
    whole (x ∷ xs) e = record {
      octets = h.octets;
      all = h.all ∙ ap (λ (l : List ℕ). h.octets ++ l) (sym nothing);
      some = let one : length h.octets ≡ suc (length xs) = ap length (sym e) in omega (arith, one);
      is_line = λ more e' premise.
          let p = premise end in
          (λ i. commands_of (p.1 i) (h.octets ++ p.0 i)) ∙ ap (commands_of true) (append-nil h.octets ∙ sym e) ∙ ap (map line_of) (lines_of-end x xs (subst (AllByRecursion (λ y. y ≢ 10)) (sym e) h.none))
          ∙ ap (λ c. c ∷ []) (ap line_of e ∙ sym (is ∙ says before [] line turns h)) ∙ (λ i. said ∷ sym (ap (commands_of e') (p.0)) i);
      going = going;
    }

-- What is kept does not depend on what is lost.
take_kept : (n : ℕ) (xs ys : List ℕ) → take n (take n xs ++ ys) ≡ take n (xs ++ ys)
take_kept zero xs ys = refl
take_kept (suc n) [] ys = refl
take_kept (suc n) (x ∷ xs) ys = ap (λ (l : List ℕ). x ∷ l) (take_kept n xs ys)

newline_stays : (ends : Bool) (after left : List ℕ) → with_newline ends after ++ left ≡ with_newline ends (after ++ left)
newline_stays true after left = refl
newline_stays false after left = refl

-- one part more, of those octets that were taken already
pub part_more : (before mid pending' line line' left : List ℕ) (ends : Bool) (turns turns' : ℕ) → HeardSoFar before (mid ++ left) line turns → (p : HearsPart ends mid pending' line line') → turns' ≤ turns + length p.octets
    → HeardSoFar before (with_newline ends (pending' ++ left)) line' turns'
part_more before mid pending' line line' left ends turns turns' h p number =
    let both = length-append h.octets p.octets in
    let before_it = h.number in
    record {
      octets = h.octets ++ p.octets;
      all =
          h.all
          ∙ ap (λ (l : List ℕ). h.octets ++ l) (ap (λ (l : List ℕ). l ++ left) p.all ∙ append_assoc p.octets (with_newline ends pending') left ∙ ap (λ (l : List ℕ). p.octets ++ l) (newline_stays ends pending' left))
          ∙ sym (append_assoc h.octets p.octets (with_newline ends (pending' ++ left)));
      none = all_append (λ x. x ≢ 10) h.octets p.octets h.none p.none;
      number = omega (arith, both, before_it, number);
      kept = p.kept ∙ ap (λ (l : List ℕ). take 501 (l ++ p.octets)) h.kept ∙ take_kept 501 h.octets p.octets;
    }

-- the same of a part of which is known whether the line ended there
pub part_is : (ends known : Bool) (before after line line' : List ℕ) → HearsPart ends before after line line' → ends ≡ known → HearsPart known before after line line'
part_is ends known before after line line' p is = subst (λ (b : Bool). HearsPart b before after line line') is p

-- a line that isn't empty
pub some_octets : (line : List ℕ) → (length line == 0) ≡ false → 0 < length line
some_octets [] e = cc e
some_octets (x ∷ line) e = omega arith

-- nothing is left to hear
pub none_left : (source : Source) (site : State) → source.from ≡ source.to → site.input.left ≡ [] → to_hear source site ≡ []
none_left source site empty left = (λ i. take (length-none i) (drop source.from source.buffer) ++ left i)
  where
    length-none : source.to - source.from ≡ 0
    length-none = omega (arith, empty)

-- the rest of the line, and then its end
pub then_rest : (before mid rest line : List ℕ) (turns : ℕ) → HeardSoFar before mid line turns → mid ≡ rest → HeardSoFar before rest line turns
then_rest before mid rest line turns h is = subst (λ (l : List ℕ). HeardSoFar before l line turns) is h

-- taking failed within a line
pub cut_off : (halt : Halt) (was : Bool) (all here : ℕ) (before mid left line : List ℕ) (turns : ℕ) → HeardSoFar before mid line turns → here ≡ all → CutsOff halt here mid left → was ≡ false → IsCutOff halt was all before left
cut_off halt was all here before mid left line turns h same ends going = record { octets = h.octets; none = h.none; rest = mid; all_of_it = h.all; ends = subst (λ (n : ℕ). CutsOff halt n mid left) same ends; going = going }

pub hears_then : (a b c : State) → HearsOnly a b → HearsOnly b c → HearsOnly a c
hears_then a b c f s = record { image = s.image ∙ f.image; loose = s.loose ∙ f.loose; told = s.told ∙ f.told; past = s.past ∙ f.past; reads = λ dev. s.reads dev ∙ f.reads dev }

-- no more octets are heard than were taken
pub over : (source source' : Source) (old new : State) (line : List ℕ) (turns : ℕ) → IsSource source → IsSource source' → HeardSoFar (to_hear source old) (to_hear source' new) line turns → total source' new ≡ total source old → turns ≤ limit
over source source' old new line turns is is' h same =
    let before = length-append (pending source) old.input.left in
    let after = length-append (pending source') new.input.left in
    let all = ap length h.all ∙ length-append h.octets (to_hear source' new) in
    let taken = length-take (source.to - source.from) (drop source.from source.buffer) in
    let number = h.number in
    let few = is'.few in
    let behind = is.behind in
    omega (arith, before, after, all, taken, number, few, behind, same)
