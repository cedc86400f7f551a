-- The rule on the eight heads of a group.
use Rattle.std.proofs.Common.{◌≡◌, ℕ, zero, suc, ◌+◌, ◌-◌, ◌<◌, ◌≤◌, Bool, true, false, IsTrue, List, [], ◌∷◌, length, get_or, take, drop, replicate, inl, inr, cond, true≢false, refl, ap, sym, subst, ◌∙◌, arith}
use Rattle.std.specs.Prelude.{◌↔◌}
use Rattle.std.specs.List.{AllByRecursion}
use Rattle.std.proofs.lemmas.List.Sums.{prefix_len_passes}
use Rattle.std.proofs.lemmas.Bool.{cases_lt}
use Rattle.std.proofs.lemmas.List.{length-drop, get_or-drop, get_or-replicate, take-append-drop}
use Rattle.std_lemmas.proofs.AllOf.{all_append}
use Rattle.byte_fields.specs.declared.frame_head.FrameHead.{FrameHead}
use Rattle.byte_fields.specs.FrameHeads.{blank, present_in_front, HasForm, AreGroupHeads}

pub blank_list : (heads : List FrameHead) → AllByRecursion (λ head. head ≡ blank) heads → heads ≡ replicate (length heads) blank
blank_list [] h = refl
blank_list (head ∷ heads) h = ap (λ (x : FrameHead). x ∷ heads) h.0 ∙ ap (λ (xs : List FrameHead). blank ∷ xs) (blank_list heads h.1)

pub all_are_blank : (n : ℕ) → AllByRecursion (λ head. head ≡ blank) (replicate n blank)
all_are_blank zero = tt
all_are_blank (suc n) = (refl, all_are_blank n)

pub is_group : (heads : List FrameHead) → length heads ≡ 8 → 1 ≤ present_in_front heads → AllByRecursion (λ head. head ≡ blank) (drop (present_in_front heads) heads) → AreGroupHeads heads
is_group heads eight some others = record {
  eight = eight;
  some = some;
  others = blank_list (drop (present_in_front heads) heads) others ∙ ap (λ n. replicate n blank) (length-drop (present_in_front heads) heads ∙ ap (λ n. n - present_in_front heads) eight);
}

pub others_blank : (heads : List FrameHead) → AreGroupHeads heads → AllByRecursion (λ head. head ≡ blank) (drop (present_in_front heads) heads)
others_blank heads are = subst (AllByRecursion (λ head. head ≡ blank)) (sym are.others) (all_are_blank (8 - present_in_front heads))

front_present : (heads : List FrameHead) → AllByRecursion HasForm (take (present_in_front heads) heads)
front_present [] = tt
front_present (head ∷ heads) =
    let Goal : Bool → Type 0 = λ present. (present ≡ head.present) → AllByRecursion HasForm (take (cond present (1 + present_in_front heads) 0) (head ∷ heads)) in
    let one : suc (present_in_front heads) ≡ 1 + present_in_front heads = omega arith in
    let step : (present : Bool) → Goal present = λ present. elim present as Goal [
      | true ↦ λ e. subst (λ n. AllByRecursion HasForm (take n (head ∷ heads))) one (inl (sym e), front_present heads)
      | false ↦ λ e. tt
    ] in
    step head.present refl

blank_form : (heads : List FrameHead) → AllByRecursion (λ head. head ≡ blank) heads → AllByRecursion HasForm heads
blank_form [] h = tt
blank_form (head ∷ heads) h = (inr h.0, blank_form heads h.1)

pub have_form : (heads : List FrameHead) → AreGroupHeads heads → AllByRecursion HasForm heads
have_form heads are =
    let n = present_in_front heads in
    subst (AllByRecursion HasForm) (take-append-drop n heads)
    (all_append HasForm (take n heads) (drop n heads) (front_present heads) (blank_form (drop n heads) (others_blank heads are)))

behind_front : (heads : List FrameHead) (i : ℕ) → AreGroupHeads heads → i < 8 → present_in_front heads ≤ i → get_or heads i blank ≡ blank
behind_front heads i are less behind =
    let n = present_in_front heads in
    ap (λ k. get_or heads k blank) (omega arith) ∙ sym (get_or-drop n heads (i - n) blank) ∙ ap (λ (rest : List FrameHead). get_or rest (i - n) blank) are.others
    ∙ get_or-replicate (8 - n) (i - n) blank blank (omega arith)

pub present_are_first : (heads : List FrameHead) (i : ℕ) → AreGroupHeads heads → i < 8 → IsTrue (get_or heads i blank).present ↔ (i < present_in_front heads)
present_are_first heads i are less = (
  λ present. elim (cases_lt i (present_in_front heads)) [
    | inl before ↦ before
    | inr behind ↦ absurd (true≢false (sym present ∙ ap (λ (head : FrameHead). head.present) (behind_front heads i are less behind)))
  ],
  λ before. prefix_len_passes (λ head. head.present) heads i blank before,
)
