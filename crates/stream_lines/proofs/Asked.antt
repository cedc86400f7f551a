-- Where input was asked for, once lines were heard.
use Rattle.std.proofs.Common.{◌≡◌, ◌≢◌, ℕ, ◌+◌, ◌-◌, ◌<◌, Bool, true, false, true≢false, List, [], ◌∷◌, ◌++◌, length, take, drop, refl, sym, ◌∙◌, ap, subst, arith, append_assoc, append-nil, length-append}
use Rattle.std.specs.List.{AllByRecursion}
use Rattle.std.proofs.lemmas.List.{take_at}
use Rattle.std_lemmas.proofs.AllOf.{all_append, all_push, all_weaker}
use Rattle.site.specs.State.{State, Input}
use Rattle.site.specs.declared.outside.Take.{Take}
use Rattle.shell_text.specs.Runs.{lines_of}
use Rattle.shell_text.specs.Laws.{HasNoNewline}
use Rattle.shell_text.proofs.Lines.{lines_of-end, lines_of-waits}
use Rattle.stream_lines.specs.declared.source.Source.{Source}
use Rattle.stream_lines.specs.Lines.{AsksFor, HasCut, HearsLine, IsAskedFor, TakesWithin, TookWithin, long, pending, to_hear}

-- no line is heard yet
pub cut_none : (source : Source) (entry now : State) → source.from ≡ source.to → now.input ≡ entry.input → HasCut [] source entry now
cut_none source entry now empty same =
    let none : source.to - source.from ≡ 0 = omega (arith, empty) in
    record {
      short = tt;
      consumed = [];
      parts = sym (λ i. take (none i) (drop source.from source.buffer) ++ (same i).left);
      whole = λ more e over. refl;
      heard = ap (λ (x : Input). x.heard + length x.left) same;
    }

-- a line more
pub cut_more : (lines : List (List ℕ)) (line : List ℕ) (source source' : Source) (entry mid new : State) → HasCut lines source entry mid → HearsLine line source.ended source'.ended (to_hear source mid) (to_hear source' new) → new.input.heard + length new.input.left ≡ mid.input.heard + length mid.input.left
    → HasCut (lines ++ line ∷ []) source' entry new
cut_more lines line source source' entry mid new h heard octets = record {
  short = all_push (λ (l : List ℕ). length l < long) lines line h.short heard.short;
  consumed = h.consumed ++ heard.octets;
  parts = h.parts ∙ ap (λ l. h.consumed ++ l) heard.all ∙ sym (append_assoc h.consumed heard.octets (to_hear source' new));
  whole = λ more e over.
      ap (lines_of e) (append_assoc h.consumed heard.octets more) ∙ h.whole (heard.octets ++ more) e (λ was. absurd (true≢false (sym was ∙ heard.going)))
      ∙ ap (λ l. lines ++ l) (heard.is_line more e over) ∙ sym (append_assoc lines (line ∷ []) (lines_of e more));
  heard = octets ∙ h.heard;
}

-- the line under way isn't too long where few of its octets were heard
part_short : (octets : List ℕ) → HasNoNewline octets → length octets < long → AllByRecursion (λ line. length line < long) (lines_of true octets)
part_short [] none few = tt
part_short (x ∷ octets) none few = subst (AllByRecursion (λ line. length line < long)) (sym (lines_of-end x octets none)) (few, tt)

pub asks_none : (P : List (List ℕ) → Type 0) (entry now : State) → now.input ≡ entry.input → AsksFor P entry now
asks_none P entry now same = record { takes = []; are = ap (λ (x : Input). x.takes) same ∙ sym (append-nil entry.input.takes); each = tt }

-- What is asked for within a line: the lines before it stand whole in what was heard.
module _ (P : List (List ℕ) → Type 0) (lines : List (List ℕ)) (source : Source) (entry mid : State) (h : HasCut lines source entry mid) (is : P lines) (told : mid.told ≡ entry.told) where
  asked : (t : Take) → TookWithin long source mid t → IsAskedFor P entry t
  asked t w =
      let octets = h.consumed ++ w.octets in
      let all : entry.input.left ≡ octets ++ w.rest = h.parts ∙ ap (λ (l : List ℕ). h.consumed ++ l) w.all ∙ sym (append_assoc h.consumed w.octets w.rest) in
      let front : take (length octets) entry.input.left ≡ octets = ap (take (length octets)) all ∙ take_at octets w.rest (length octets) refl in
      let whole : lines_of false octets ≡ lines = h.whole w.octets false (λ over. absurd (true≢false (sym over ∙ w.going))) ∙ ap (λ (l : List (List ℕ)). lines ++ l) (lines_of-waits w.octets w.none) ∙ append-nil lines in
      let parts : lines_of true octets ≡ lines ++ lines_of true w.octets = h.whole w.octets true (λ over. absurd (true≢false (sym over ∙ w.going))) in
      record {
        heard = length octets;
        here =
            let here = w.here in
            let many = length-append h.consumed w.octets in
            let left = length-append (pending source) mid.input.left in
            let all = ap length h.parts ∙ length-append h.consumed (to_hear source mid) in
            let heard = h.heard in
            omega (arith, here, many, left, all, heard);
        lines = subst P (sym (ap (lines_of false) front ∙ whole)) is;
        short = subst (AllByRecursion (λ line. length line < long)) (sym (ap (lines_of true) front ∙ parts)) (all_append (λ (line : List ℕ). length line < long) lines (lines_of true w.octets) h.short (part_short w.octets w.none w.few));
        told = w.told ∙ ap length told;
      }

  pub asks_more : (new : State) → TakesWithin long source mid new → AsksFor P entry mid → AsksFor P entry new
  asks_more new t b = record {
    takes = b.takes ++ t.takes;
    are = t.are ∙ ap (λ (l : List Take). l ++ t.takes) b.are ∙ append_assoc entry.input.takes b.takes t.takes;
    each = all_append (IsAskedFor P entry) b.takes t.takes b.each (all_weaker (TookWithin long source mid) (IsAskedFor P entry) asked t.takes t.within);
  }
