use Rattle.flash_cache.proofs.Names.{◌≡◌, ◌+◌, ◌<◌, ◌≤◌, ℕ, List, [], ◌∷◌, ◌++◌, length, get_or, take, sym, ◌∙◌, ap, subst, arith, append_assoc, length-append, get_or_default, take_all, take_more, length-take-le, AllByRecursion, slice_set, blank, FrameHead, frames_with, IsMadeOf, no_frame, Frame, IsFrame, group, heads_of, frame_of, all_push}
use Rattle.frame_group.specs.Groups.{lsn_of}
use Rattle.flash_cache.proofs.Heads.{is_with, is_with_all, next_head}
use Rattle.flash_cache.proofs.making.put_frames.Goals as goal

pub put_frame-requires-clause-present : goal.put_frame-requires-clause-present
put_frame-requires-clause-present c =
    let w = is_with c.args.heads.now c.args.contents.now c.loop-index.index (omega (arith, c.requires.few)) c.requires.heads c.loop-index-test.true in
    ap (λ (h : FrameHead). h.present) w.head

pub put_frame-requires-clause-lsn : goal.put_frame-requires-clause-lsn
put_frame-requires-clause-lsn c =
    let n = c.loop-index.index in
    let contents = c.args.contents.now in
    let w = is_with c.args.heads.now contents n (omega (arith, c.requires.few)) c.requires.heads c.loop-index-test.true in
    let taken : c.bytes.result.now ≡ get_or contents n [] = c.bytes.ensures.octets ∙ c.index-contents-index.is ∙ get_or_default contents n c.index-contents-index.result [] c.loop-index-test.true in
    ap (λ (h : FrameHead). h.lsn) w.head ∙ ap (λ (f : Frame). lsn_of f.octets) w.frame ∙ ap lsn_of (sym taken)

pub loop-index-preserved : goal.loop-index-preserved
loop-index-preserved c =
    let n = c.loop-index.index in
    let heads = c.args.heads.now in
    let contents = c.args.contents.now in
    let frames = frames_with heads contents in
    let less : n < length contents = c.loop-index-test.true in
    let w = is_with heads contents n (omega (arith, c.requires.few)) c.requires.heads less in
    let many : length (take n frames) ≡ n = let long = w.long in length-take-le n frames (omega (arith, less, long)) in
    let taken : c.bytes.result.now ≡ get_or contents n [] = c.bytes.ensures.octets ∙ c.index-contents-index.is ∙ get_or_default contents n c.index-contents-index.result [] less in
    let own : frame_of (get_or heads n blank) c.bytes.result.now ≡ get_or frames n no_frame = ap (frame_of (get_or heads n blank)) taken ∙ sym w.frame in
    let more : take (n + 1) frames ≡ take n frames ++ get_or frames n no_frame ∷ [] = take_more frames n no_frame (let long = w.long in omega (arith, less, long)) in
    record {
      grown = λ before at was.
          let longer = length-append before (take n frames) in
          let at_end : c.args.from + n ≡ length (before ++ take n frames) = omega (arith, longer, many, at) in
          let so_far = c.loop-index.invariant.grown before at was in
          let behind : (before ++ take n frames) ++ get_or frames n no_frame ∷ [] ≡ before ++ take (n + 1) frames = append_assoc before (take n frames) (get_or frames n no_frame ∷ []) ∙ ap (λ (l : List Frame). before ++ l) (sym more) in
          record {
            content = c.put_frame.ensures.grown (before ++ take n frames) (omega (arith, longer, many, at)) so_far.content
                ∙ ap (λ (f : Frame). group ((before ++ take n frames) ++ f ∷ [])) own ∙ ap group behind;
            heads = (λ i. slice_set (so_far.heads i) (at_end i) (w.head i))
                ∙ next_head (before ++ take n frames) (get_or frames n no_frame) (omega (arith, longer, many, at, less, c.requires.few)) ∙ ap heads_of behind;
          };
      are_frames = subst (AllByRecursion IsFrame) (sym more) (all_push IsFrame (take n frames) (get_or frames n no_frame) c.loop-index.invariant.are_frames (subst IsFrame own c.put_frame.ensures.frame));
    }

whole : (heads : List FrameHead) (contents : List (List ℕ)) (n : ℕ) → length (frames_with heads contents) ≤ n → take n (frames_with heads contents) ≡ frames_with heads contents
whole heads contents n le = take_all n (frames_with heads contents) le

pub returns-clause-grown : goal.returns-clause-grown
returns-clause-grown c before at was =
    let w = is_with_all c.args.heads.now c.args.contents.now (omega (arith, c.requires.few)) c.requires.heads in
    subst (λ (l : List Frame). IsMadeOf c.loop-index.group (before ++ l)) (whole c.args.heads.now c.args.contents.now c.loop-index.index (omega (arith, w, c.loop-index-test.false)))
    (c.loop-index.invariant.grown before at was)

pub returns-clause-are_frames : goal.returns-clause-are_frames
returns-clause-are_frames c =
    let w = is_with_all c.args.heads.now c.args.contents.now (omega (arith, c.requires.few)) c.requires.heads in
    subst (AllByRecursion IsFrame) (whole c.args.heads.now c.args.contents.now c.loop-index.index (omega (arith, w, c.loop-index-test.false))) c.loop-index.invariant.are_frames
