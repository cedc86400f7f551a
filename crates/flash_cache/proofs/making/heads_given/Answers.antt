use Rattle.flash_cache.proofs.Names.{rules, ◌≡◌, ◌<◌, ℕ, List, [], length, get_or, false, true, sym, ◌∙◌, ap, subst, arith, add-one, get_or_default, take_all, length-take-le, AllByRecursion, slice_set, FrameHead, frames_given, Frame, IsFrame, heads_of, all_push}
use Rattle.std.proofs.Common.{◌^◌}
use Rattle.frame_group.specs.Groups.{lsn_of}
use Rattle.flash_cache.proofs.Given.{given_before, frame_at_place, same_lsn, length-given, one_more}
use Rattle.flash_cache.proofs.Heads.{next_head}
use Rattle.flash_cache.proofs.making.heads_given.Goals as goal

pub loop-index-preserved : goal.loop-index-preserved
loop-index-preserved c =
    let pages = c.args.pages.now in
    let changed = c.args.changed.now in
    let contents = c.args.contents.now in
    let n = c.loop-index.index in
    let so_far = given_before pages changed contents n in
    let below : n < length pages = c.loop-index-test.true in
    let less : n < length contents = omega (arith, c.loop-index-test.true, c.requires.lists) in
    let all = length-given pages changed contents c.requires.marks c.requires.lists in
    let many : length so_far ≡ n = length-take-le n (frames_given pages changed contents) (omega (arith, all, below)) in
    let few : length so_far < 8 = omega (arith, many, below, c.requires.few) in
    let more = one_more pages changed contents n c.requires.marks c.requires.lists below in
    let frame : Frame = frame_at_place pages changed contents n in
    let taken : c.index-contents-index.result ≡ get_or contents n [] = c.index-contents-index.is ∙ get_or_default contents n c.index-contents-index.result [] less in
    let lsn : c.lsn.result ≡ lsn_of (get_or contents n []) = c.lsn.ensures ∙ same_lsn c.index-contents-index.result ∙ ap lsn_of taken in
    let head : List FrameHead → ℕ → ℕ → List FrameHead = λ heads at l. slice_set heads at (record { present = true; dirty = get_or changed n false; page = get_or pages n 0; lsn = l }) in
    record {
      heads = (λ i. head (c.loop-index.invariant.heads i) (sym many i) (lsn i))
          ∙ next_head so_far frame few
          ∙ ap heads_of (sym more)
          ∙ ap (λ (k : ℕ). heads_of (given_before pages changed contents k)) (sym (add-one n));
      are_frames = subst (λ (k : ℕ). AllByRecursion IsFrame (given_before pages changed contents k)) (sym (add-one n))
          (subst (AllByRecursion IsFrame) (sym more) (all_push IsFrame so_far frame c.loop-index.invariant.are_frames (record {
            size = ap length (sym taken) ∙ ap length (sym c.bytes-octets.ensures.octets) ∙ c.bytes-octets.ensures.size;
            fits = ((let low : get_or pages n 0 < 4294967296 = search rules in omega (arith, low)), subst (λ (l : ℕ). l < 2 ^ 64) lsn (let low = c.lsn.type_inv in omega (arith, low)));
          })));
    }

pub returns-clause-heads : goal.returns-clause-heads
returns-clause-heads c =
    let all = length-given c.args.pages.now c.args.changed.now c.args.contents.now c.requires.marks c.requires.lists in
    c.loop-index.invariant.heads ∙ ap heads_of (take_all c.loop-index.index (frames_given c.args.pages.now c.args.changed.now c.args.contents.now) (omega (arith, all, c.loop-index-test.false)))

pub returns-clause-are_frames : goal.returns-clause-are_frames
returns-clause-are_frames c =
    let all = length-given c.args.pages.now c.args.changed.now c.args.contents.now c.requires.marks c.requires.lists in
    subst (AllByRecursion IsFrame) (take_all c.loop-index.index (frames_given c.args.pages.now c.args.changed.now c.args.contents.now) (omega (arith, all, c.loop-index-test.false))) c.loop-index.invariant.are_frames
