-- Heads that fill octets.
use Rattle.std.proofs.Common.{◌≡◌, ℕ, suc, ◌*◌, ◌/◌, ◌%◌, ◌<◌, ◌≤◌, List, [], ◌∷◌, length, get_or, sym, ◌∙◌, arith, subst}
use Rattle.std.specs.List.{AllByRecursion}
use Rattle.std.proofs.lemmas.List.{take_all, get_or-take, get_or-drop}
use Rattle.std_lemmas.proofs.AllOf.{all_at}
use Rattle.byte_fields.specs.declared.frame_head.FrameHead.{FrameHead}
use Rattle.byte_fields.specs.FrameHeads.{blank, spelling_of_all, HasForm, AreHeads}
use Rattle.byte_fields.proofs.HeadLists.{length_all, one_list}
use Rattle.byte_fields.proofs.GroupHeads.{have_form}
use Rattle.meta_segments.specs.Laws.{OneSegment}
use Rattle.meta_segments.specs.Segments.{heads_of_group, AreSegmentHeads, IsSegment}

-- heads that stand at the front of octets are all of them
pub whole : (octets : List ℕ) (heads : List FrameHead) → AreHeads octets heads → length octets ≤ 16 * length heads → octets ≡ spelling_of_all heads
whole octets heads are fill = sym (take_all (16 * length heads) octets fill) ∙ are.text

-- what holds at each index holds of all
pub all_from_at : {X : Type 0} (P : X → Type 0) (xs : List X) (d : X) → ((i : ℕ) → i < length xs → P (get_or xs i d)) → AllByRecursion P xs
all_from_at P [] d h = tt
all_from_at P (x ∷ xs) d h = (h 0 (omega arith), all_from_at P xs d (λ i less. h (suc i) (omega arith)))

-- a head of a segment is a head of one of its groups
head_of_group : (heads : List FrameHead) (i : ℕ) → get_or (heads_of_group heads (i / 8)) (i % 8) blank ≡ get_or heads i blank
head_of_group heads i = grind (arith, get_or-take, get_or-drop, get_or)

-- so a segment's heads can be written
pub segment_form : (heads : List FrameHead) → AreSegmentHeads heads → AllByRecursion HasForm heads
segment_form heads are = all_from_at HasForm heads blank (λ i less.
    let group = are.groups (i / 8) (omega (arith, are.size, less)) in
    subst HasForm (head_of_group heads i)
    (all_at HasForm (heads_of_group heads (i / 8)) (i % 8) blank (have_form (heads_of_group heads (i / 8)) group) (omega (arith, group.eight))))

-- a segment's heads stand at the front of its content
pub at_front : (content : List ℕ) (heads : List FrameHead) → IsSegment content heads → AreHeads content heads
at_front content heads is = grind (arith, take_all, length_all, have_form, segment_form)

pub one_segment : OneSegment
one_segment content a b first second =
    one_list content a b (at_front content a first) (at_front content b second) (omega (arith, first.are_heads.size, second.are_heads.size))
