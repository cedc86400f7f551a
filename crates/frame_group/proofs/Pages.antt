-- The pages of a group's frames.
use Rattle.std.proofs.Common.{◌≡◌, ℕ, zero, suc, ◌+◌, ◌*◌, ◌<◌, List, [], ◌∷◌, ◌++◌, length, get_or, take, drop, replicate, refl, sym, ap, ◌∙◌, arith, append_assoc}
use Rattle.std.specs.Prelude.{flat_map}
use Rattle.std.specs.List.{AllByRecursion}
use Rattle.std.proofs.lemmas.List.{take_at, drop_at, drop-drop, replicate-append-replicate}
use Rattle.byte_fields.specs.FrameHeads.{blank, spelling, spelling_of_all}
use Rattle.byte_fields.proofs.HeadLists.{length_all}
use Rattle.frame_group.specs.declared.group.TheConstants.{PAGE_LEN, HEADS_LEN}
use Rattle.frame_group.specs.Groups.{Frame, heads_of, pages_of, group, IsFrame, IsGroup}
use Rattle.frame_group.specs.Laws.{ZerosHaveNoFrames}
use Rattle.frame_group.proofs.Front.{length_heads}

abbrev pub octets_of : List Frame → List ℕ
octets_of frames = flat_map (λ frame. frame.octets) frames

abbrev pub HaveSize : ℕ → List Frame → Type 0
HaveSize size frames = AllByRecursion (λ frame. length frame.octets ≡ size) frames

pub have_size : (frames : List Frame) → AllByRecursion IsFrame frames → HaveSize PAGE_LEN frames
have_size [] are = tt
have_size (frame ∷ frames) are = (are.0.size, have_size frames are.1)

-- a page of pages that stand one after the other
pub page_at : (size : ℕ) (frames : List Frame) (behind : List ℕ) (i : ℕ) (d : Frame) → HaveSize size frames → i < length frames →
    take size (drop (size * i) (octets_of frames ++ behind)) ≡ (get_or frames i d).octets
page_at size [] behind i d have less = absurd (omega (arith, less))
page_at size (frame ∷ frames) behind zero d have less =
    let none : size * 0 ≡ 0 = grind arith in
    ap (λ n. take size (drop n ((frame.octets ++ octets_of frames) ++ behind))) none ∙ ap (take size) (append_assoc frame.octets (octets_of frames) behind)
    ∙ take_at frame.octets _ size have.0
page_at size (frame ∷ frames) behind (suc i) d have less =
    let further : size * suc i ≡ size + size * i = grind arith in
    ap (λ n. take size (drop n ((frame.octets ++ octets_of frames) ++ behind))) further
    ∙ ap (take size) (sym (drop-drop (size * i) size ((frame.octets ++ octets_of frames) ++ behind)))
    ∙ ap (λ (t : List ℕ). take size (drop (size * i) (drop size t))) (append_assoc frame.octets (octets_of frames) behind)
    ∙ ap (λ (t : List ℕ). take size (drop (size * i) t)) (drop_at frame.octets (octets_of frames ++ behind) size have.0)
    ∙ page_at size frames behind i d have.1 (omega arith)

pub pages_stand : (content : List ℕ) (frames : List Frame) (i : ℕ) (d : Frame) → IsGroup content frames → i < length frames → take PAGE_LEN (drop (HEADS_LEN + PAGE_LEN * i) content) ≡ (get_or frames i d).octets
unfolding group
pages_stand content frames i d is less =
    let heads = spelling_of_all (heads_of frames) in
    let size : length heads ≡ 128 = omega (arith, length_all (heads_of frames), length_heads frames is.room) in
    ap (take PAGE_LEN) (sym (drop-drop (PAGE_LEN * i) HEADS_LEN content)) ∙ ap (λ (t : List ℕ). take PAGE_LEN (drop (PAGE_LEN * i) (drop HEADS_LEN t))) is.spelled
    ∙ ap (λ (t : List ℕ). take PAGE_LEN (drop (PAGE_LEN * i) t)) (drop_at heads (pages_of frames) HEADS_LEN size)
    ∙ page_at PAGE_LEN frames _ i d (have_size frames is.are_frames) less

blank_zeros : (n : ℕ) → spelling_of_all (replicate n blank) ≡ replicate (16 * n) 0
unfolding spelling
blank_zeros zero = refl
blank_zeros (suc n) =
    let more : 16 + 16 * n ≡ 16 * suc n = omega arith in
    ap (λ (t : List ℕ). spelling blank ++ t) (blank_zeros n) ∙ replicate-append-replicate 16 (16 * n) 0 ∙ ap (λ k. replicate k 0) more

zeros_are : (n m k : ℕ) → k ≡ 16 * n + m → spelling_of_all (replicate n blank) ++ replicate m 0 ≡ replicate k 0
zeros_are n m k e = ap (λ (t : List ℕ). t ++ replicate m 0) (blank_zeros n) ∙ replicate-append-replicate (16 * n) m 0 ∙ ap (λ (i : ℕ). replicate i 0) (sym e)

pub zeros_have_no_frames : ZerosHaveNoFrames
unfolding group
zeros_have_no_frames content size zeros = zeros ∙ sym (zeros_are 8 (PAGE_LEN * 8) (length content) size)
