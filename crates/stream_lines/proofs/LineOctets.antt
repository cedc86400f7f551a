-- The octets of a line, one part after the other.
use Rattle.std.proofs.Common.{◌≡◌, ◌≢◌, ⊎_elim, ℕ, zero, suc, ◌-◌, ◌+◌, ◌≤◌, ◌<◌, List, [], ◌∷◌, ◌++◌, length, take, drop, refl, sym, ◌∙◌, ap, subst, arith, append_assoc, length-append}
use Rattle.std.specs.Prelude.{◌==◌, Bool, true, false, if◌then◌else◌}
use Rattle.std.specs.List.{AllByRecursion}
use Rattle.std.proofs.lemmas.List.{append-nil, take_all, length-take}
use Rattle.std.proofs.lemmas.Bool.{cases_lt, eqb-true, eqb-false, ne_eqb}
use Rattle.std_lemmas.proofs.AllOf.{all_append}
use Rattle.site.specs.State.{State}
use Rattle.shell_text.specs.Laws.{HasNoNewline}
use Rattle.shell_text.specs.Runs.{in_front, lines_of}
use Rattle.shell_text.proofs.Lines.{lines_of-newline, lines_of-end}
use Rattle.stream_lines.specs.declared.source.Fault.{Fault}
use Rattle.stream_lines.specs.declared.source.Source.{Source}
use Rattle.stream_lines.specs.Lines.{IsSource, to_hear, pending, total, limit, with_newline, HearsPart, HearsOnly, HearsLine, HearsLong, IsCutOff, CutsOff}

-- what was heard of a line so far: no newline; its octets are kept as far as they fit
pub record HeardSoFar (before after line : List ℕ) (turns : ℕ) : Type 0 where
  pub octets : List ℕ
  pub all : before ≡ octets ++ after
  pub none : AllByRecursion (λ x. x ≢ 10) octets
  pub number : turns ≤ length octets
  pub kept : line ≡ take 1027 octets

-- where all of it fits nothing is lost
whole : (before after line : List ℕ) (turns : ℕ) (h : HeardSoFar before after line turns) → length line < 1027 → line ≡ h.octets
whole before after line turns h room =
    let kept = ap length h.kept ∙ length-take 1027 h.octets in
    h.kept ∙ take_all 1027 h.octets (omega (arith, kept, room))

-- a line that ends in a newline
pub line_heard : (before after line : List ℕ) (turns : ℕ) (was ended : Bool) → HeardSoFar before (10 ∷ after) line turns → length line < 1027 → was ≡ false → HearsLine line was ended before after
line_heard before after line turns was ended h room going = record {
  short = room;
  octets = h.octets ++ 10 ∷ [];
  all = h.all ∙ sym (append_assoc h.octets (10 ∷ []) after);
  some = omega (arith, length-append h.octets (10 ∷ []));
  is_line = λ more e premise.
      ap (lines_of e) (append_assoc h.octets (10 ∷ []) more) ∙ lines_of-newline e h.octets more h.none
      ∙ ap (λ (l : List ℕ). l ∷ lines_of e more) (sym (whole before (10 ∷ after) line turns h room));
  going = going;
}

-- a last line, which the end of the input ends
pub last_heard : (before line : List ℕ) (turns : ℕ) (was ended : Bool) (after : List ℕ) → HeardSoFar before [] line turns → length line < 1027 → after ≡ [] → 0 < length line → ended ≡ true → was ≡ false → HearsLine line was ended before after
last_heard before line turns was ended after h room nothing some end going = whole_line h.octets refl
  where
    whole_line : (xs : List ℕ) → xs ≡ h.octets → HearsLine line was ended before after
    whole_line [] e = let none : length h.octets ≡ 0 = ap length (sym e) in let kept = ap length h.kept ∙ length-take 1027 h.octets in absurd (omega (arith, none, kept, some))
    whole_line (x ∷ xs) e = record {
      short = room;
      octets = h.octets;
      all = h.all ∙ ap (λ (l : List ℕ). h.octets ++ l) (sym nothing);
      some = let one : length h.octets ≡ suc (length xs) = ap length (sym e) in omega (arith, one);
      is_line = λ more e' premise.
          let p = premise end in
          (λ i. lines_of (p.1 i) (h.octets ++ p.0 i)) ∙ ap (lines_of true) (append-nil h.octets ∙ sym e) ∙ lines_of-end x xs (subst (AllByRecursion (λ y. y ≢ 10)) (sym e) h.none)
          ∙ ap (λ (l : List ℕ). l ∷ []) (e ∙ sym (whole before [] line turns h room)) ∙ (λ i. line ∷ sym (ap (lines_of e') (p.0)) i);
      going = going;
    }

-- octets with no newline among them begin the first line
record Begins (line : List ℕ) (lines : List (List ℕ)) : Type 0 where
  pub more : List ℕ
  pub behind : List (List ℕ)
  pub is : lines ≡ (line ++ more) ∷ behind

in_front_begins : (x : ℕ) (lines : List (List ℕ)) → Begins (x ∷ []) (in_front true x lines)
in_front_begins x [] = record { more = []; behind = []; is = refl }
in_front_begins x (line ∷ lines) = record { more = line; behind = lines; is = refl }

begins : (x : ℕ) (line after : List ℕ) → HasNoNewline (x ∷ line) → Begins (x ∷ line) (lines_of true (x ∷ line ++ after))
begins x [] after none =
    let is : lines_of true (x ∷ after) ≡ in_front true x (lines_of true after) = λ i. if ne_eqb x 10 none.0 i then [] ∷ lines_of true after else in_front true x (lines_of true after) in
    let b = in_front_begins x (lines_of true after) in
    record { more = b.more; behind = b.behind; is = is ∙ b.is }
begins x (y ∷ line) after none =
    let rest : List ℕ = y ∷ line ++ after in
    let is : lines_of true (x ∷ rest) ≡ in_front true x (lines_of true rest) = λ i. if ne_eqb x 10 none.0 i then [] ∷ lines_of true rest else in_front true x (lines_of true rest) in
    let b = begins y line after none.1 in
    record { more = b.more; behind = b.behind; is = is ∙ ap (in_front true x) b.is }

-- of which so many were heard that no line of an archive has, whatever comes behind them
pub long_heard : (before after line : List ℕ) (turns : ℕ) (was : Bool) → HeardSoFar before after line turns → 1027 ≤ length line → was ≡ false → HearsLong was before
long_heard before after line turns was h many going = from_octets h.octets refl
  where
    most : 1027 ≤ length h.octets
    most = let kept = ap length h.kept ∙ length-take 1027 h.octets in omega (arith, kept, many)

    from_octets : (xs : List ℕ) → xs ≡ h.octets → HearsLong was before
    from_octets [] e = let none : length h.octets ≡ 0 = ap length (sym e) in absurd (omega (arith, none, most))
    from_octets (x ∷ xs) e =
        let b = begins x xs after (subst (AllByRecursion (λ y. y ≢ 10)) (sym e) h.none) in
        record {
          line = (x ∷ xs) ++ b.more;
          many = let all = length-append (x ∷ xs) b.more in let same = ap length e in omega (arith, all, same, most);
          behind = b.behind;
          is_first = ap (lines_of true) (h.all ∙ ap (λ (l : List ℕ). l ++ after) (sym e)) ∙ b.is;
          going = going;
        }

-- What is kept does not depend on what is lost.
take_kept : (n : ℕ) (xs ys : List ℕ) → take n (take n xs ++ ys) ≡ take n (xs ++ ys)
take_kept zero xs ys = refl
take_kept (suc n) [] ys = refl
take_kept (suc n) (x ∷ xs) ys = ap (λ (l : List ℕ). x ∷ l) (take_kept n xs ys)

newline_stays : (ends : Bool) (after left : List ℕ) → with_newline ends after ++ left ≡ with_newline ends (after ++ left)
newline_stays true after left = refl
newline_stays false after left = refl

-- one part more, of those octets that were taken already
pub part_more : (before mid pending' line line' left : List ℕ) (ends : Bool) (turns turns' : ℕ) → HeardSoFar before (mid ++ left) line turns → (p : HearsPart ends mid pending' line line') → turns' ≤ turns + length p.octets
    → HeardSoFar before (with_newline ends (pending' ++ left)) line' turns'
part_more before mid pending' line line' left ends turns turns' h p number =
    let both = length-append h.octets p.octets in
    let before_it = h.number in
    record {
      octets = h.octets ++ p.octets;
      all =
          h.all
          ∙ ap (λ (l : List ℕ). h.octets ++ l) (ap (λ (l : List ℕ). l ++ left) p.all ∙ append_assoc p.octets (with_newline ends pending') left ∙ ap (λ (l : List ℕ). p.octets ++ l) (newline_stays ends pending' left))
          ∙ sym (append_assoc h.octets p.octets (with_newline ends (pending' ++ left)));
      none = all_append (λ x. x ≢ 10) h.octets p.octets h.none p.none;
      number = omega (arith, both, before_it, number);
      kept = p.kept ∙ ap (λ (l : List ℕ). take 1027 (l ++ p.octets)) h.kept ∙ take_kept 1027 h.octets p.octets;
    }

-- the same of a part of which is known whether the line ended there
pub part_is : (ends known : Bool) (before after line line' : List ℕ) → HearsPart ends before after line line' → ends ≡ known → HearsPart known before after line line'
part_is ends known before after line line' p is = subst (λ (b : Bool). HearsPart b before after line line') is p

-- a line that isn't empty
pub some_octets : (line : List ℕ) → (length line == 0) ≡ false → 0 < length line
some_octets [] e = cc e
some_octets (x ∷ line) e = omega arith

-- a line is full, or isn't
pub is_long : (n : ℕ) (full : Bool) → full ≡ (n == 1027) → full ≡ true → 1027 ≤ n
is_long n full is so = let all = eqb-true n 1027 (sym is ∙ so) in omega (arith, all)

pub is_short : (n : ℕ) (full : Bool) → full ≡ (n == 1027) → full ≡ false → n ≤ 1027 → n < 1027
is_short n full is other most = ⊎_elim (λ less. less) (λ many. absurd (eqb-false n 1027 (sym is ∙ other) (omega (arith, many, most)))) (cases_lt n 1027)

-- nothing is left to hear
pub none_left : (source : Source) (site : State) → source.from ≡ source.to → site.input.left ≡ [] → to_hear source site ≡ []
none_left source site empty left = (λ i. take (length-none i) (drop source.from source.buffer) ++ left i)
  where
    length-none : source.to - source.from ≡ 0
    length-none = omega (arith, empty)

-- the rest of the line, and then its end
pub then_rest : (before mid rest line : List ℕ) (turns : ℕ) → HeardSoFar before mid line turns → mid ≡ rest → HeardSoFar before rest line turns
then_rest before mid rest line turns h is = subst (λ (l : List ℕ). HeardSoFar before l line turns) is h

-- taking failed within a line
pub cut_off : (f : Fault) (was : Bool) (all here : ℕ) (before mid left line : List ℕ) (turns : ℕ) → HeardSoFar before mid line turns → here ≡ all → CutsOff f here mid left → was ≡ false → IsCutOff f was all before left
cut_off f was all here before mid left line turns h same ends going = record { octets = h.octets; none = h.none; rest = mid; all_of_it = h.all; ends = subst (λ (n : ℕ). CutsOff f n mid left) same ends; going = going }

pub hears_then : (a b c : State) → HearsOnly a b → HearsOnly b c → HearsOnly a c
hears_then a b c f s = record { image = s.image ∙ f.image; loose = s.loose ∙ f.loose; told = s.told ∙ f.told; past = s.past ∙ f.past; reads = λ dev. s.reads dev ∙ f.reads dev }

-- no more octets are heard than were taken
pub over : (source source' : Source) (old new : State) (line : List ℕ) (turns : ℕ) → IsSource source → IsSource source' → HeardSoFar (to_hear source old) (to_hear source' new) line turns → total source' new ≡ total source old → turns ≤ limit
over source source' old new line turns is is' h same =
    let before = length-append (pending source) old.input.left in
    let after = length-append (pending source') new.input.left in
    let all = ap length h.all ∙ length-append h.octets (to_hear source' new) in
    let taken = length-take (source.to - source.from) (drop source.from source.buffer) in
    let number = h.number in
    let few = is'.few in
    let behind = is.behind in
    omega (arith, before, after, all, taken, number, few, behind, same)
