-- The heads of a group's frames.
use Rattle.std.proofs.Common.{◌≡◌, ℕ, zero, suc, ◌+◌, ◌-◌, ◌*◌, ◌≤◌, List, [], ◌∷◌, ◌++◌, length, map, take, drop, replicate, refl, sym, ap, ◌∙◌, arith, length-append}
use Rattle.std.specs.List.{AllByRecursion}
use Rattle.std.proofs.lemmas.List.{take_at, drop_at, length-map, length-replicate}
use Rattle.byte_fields.specs.FrameHeads.{blank, spelling_of_all, FitsFields, AreGroupHeads, present_in_front}
use Rattle.byte_fields.proofs.HeadLists.{length_all, one_list}
use Rattle.byte_fields.proofs.GroupHeads.{have_form}
use Rattle.frame_group.specs.Groups.{Frame, head_of, heads_of, pages_of, group, IsFrame, IsGroup, HasHeads}
use Rattle.byte_fields.specs.declared.frame_head.FrameHead.{FrameHead}

pub length_heads : (frames : List Frame) → length frames ≤ 8 → length (heads_of frames) ≡ 8
length_heads frames room =
    omega (arith, length-append (map head_of frames) (replicate (8 - length frames) blank), length-map frames head_of, length-replicate (8 - length frames) blank, room)

pub none_present : (n : ℕ) → present_in_front (replicate n blank) ≡ 0
none_present zero = refl
none_present (suc n) = refl

pub front_present : (frames : List Frame) (n : ℕ) → present_in_front (map head_of frames ++ replicate n blank) ≡ length frames
front_present [] n = none_present n
front_present (frame ∷ frames) n = ap (λ (k : ℕ). 1 + k) (front_present frames n) ∙ omega arith

pub heads_are_group : (frames : List Frame) → 1 ≤ length frames → length frames ≤ 8 → AreGroupHeads (heads_of frames)
heads_are_group frames some room =
    let n = front_present frames (8 - length frames) in
    record {
      eight = length_heads frames room;
      some = omega (arith, n, some);
      others = ap (λ (k : ℕ). drop k (heads_of frames)) n ∙ drop_at (map head_of frames) (replicate (8 - length frames) blank) (length frames) (length-map frames head_of)
          ∙ ap (λ (k : ℕ). replicate (8 - k) blank) (sym n);
    }

blank_fits : (n : ℕ) → AllByRecursion FitsFields (replicate n blank)
blank_fits zero = tt
blank_fits (suc n) = ((omega arith, omega arith), blank_fits n)

heads_fit : (frames : List Frame) (n : ℕ) → AllByRecursion IsFrame frames → AllByRecursion FitsFields (map head_of frames ++ replicate n blank)
heads_fit [] n are = blank_fits n
heads_fit (frame ∷ frames) n are = (are.0.fits, heads_fit frames n are.1)

-- a content begins with the heads of its frames
pub begins_with_heads : (content : List ℕ) (frames : List Frame) → IsGroup content frames → HasHeads content (heads_of frames)
unfolding group
begins_with_heads content frames is =
    let are = heads_are_group frames is.some is.room in
    record {
      at_front = record {
        text = ap (take (16 * length (heads_of frames))) is.spelled ∙ take_at (spelling_of_all (heads_of frames)) (pages_of frames) _ (length_all (heads_of frames));
        have_form = have_form (heads_of frames) are;
        fit_fields = heads_fit frames (8 - length frames) is.are_frames;
      };
      are_heads = are;
    }

pub one_heads : (octets : List ℕ) (a b : List FrameHead) → HasHeads octets a → HasHeads octets b → a ≡ b
one_heads octets a b first second = one_list octets a b first.at_front second.at_front (omega (arith, first.are_heads.eight, second.are_heads.eight))
