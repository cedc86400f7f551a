use Rattle.image_form.proofs.Names.{◌≡◌, ◌+◌, ◌-◌, ◌*◌, ◌<◌, ℕ, List, get_or, take, drop, replicate, true≢false, refl, sym, ap, ◌∙◌, subst, arith, length-replicate, present_are_first, blank, present_in_front, FrameHead, same_lsn, begins_with_heads, zeros_have_no_frames, heads_of, lsn_of, PAGE_LEN, HEADS_LEN, IsFrameBy}
use Rattle.image_form.proofs.GroupsRead.{put_none, put_more, not_put, put_all, all_put}
use Rattle.image_form.proofs.groups.is_group_on.Goals as goal

-- the octets of a page's place
page_there : (content : List ℕ) (n : ℕ) (page : List ℕ) → page ≡ take (128 + 4096 * n + 4096 - (128 + 4096 * n)) (drop (128 + 4096 * n) content) → page ≡ take PAGE_LEN (drop (HEADS_LEN + PAGE_LEN * n) content)
page_there content n page is =
    let size : 128 + 4096 * n + 4096 - (128 + 4096 * n) ≡ 4096 = omega arith in
    is ∙ ap (λ (k : ℕ). take k (drop (128 + 4096 * n) content)) size

pub returns-in_default : goal.returns-in_default
returns-in_default c g is = (
  λ wrong. absurd (true≢false (sym wrong)),
  λ found. absurd (c.in_default.ensures.bad (heads_of found.0) (begins_with_heads c.args.content.now found.0 found.1.group)),
)

pub loop-index-init : goal.loop-index-init
loop-index-init c =
    put_none c.args.content.now (replicate 32896 0) c.args.pages
    (zeros_have_no_frames (replicate 32896 0) (length-replicate {A = ℕ} 32896 0) (ap (λ (n : ℕ). replicate n 0) (sym (length-replicate {A = ℕ} 32896 0))))

pub returns-then-not-is_frame : goal.returns-then-not-is_frame
returns-then-not-is_frame c g is =
    let n : ℕ = c.loop-index.index in
    let head : FrameHead = get_or c.in-Ok.heads n blank in
    let less : n < present_in_front c.in-Ok.heads = omega (arith, c.loop-index-test.true, c.count_of-index-end.ensures.count) in (
      λ wrong. absurd (true≢false (sym wrong)),
      λ found. absurd (not_put g c.args.content.now n c.in-Ok.heads head c.from_bytes-page.result c.in-Ok.ensures.frames less refl (page_there c.args.content.now n c.from_bytes-page.result c.from_bytes-page.ensures)
          (λ by. true≢false (sym (c.is_frame.ensures.1 (subst (λ (k : ℕ). IsFrameBy k head c.from_bytes-page.result) is by)) ∙ c.if-not-is_frame.true)) found),
    )

pub put_frame-requires-clause-present : goal.put_frame-requires-clause-present
put_frame-requires-clause-present c =
    let n : ℕ = c.loop-index.index in
    (present_are_first c.in-Ok.heads n c.in-Ok.ensures.found.are_heads (omega (arith, c.loop-index-test.true, c.count_of-index-end.ensures.few))).1 (omega (arith, c.loop-index-test.true, c.count_of-index-end.ensures.count))

pub put_frame-requires-clause-lsn : goal.put_frame-requires-clause-lsn
put_frame-requires-clause-lsn c =
    let by = c.is_frame.ensures.0 c.if-not-is_frame.false in
    by.lsn ∙ same_lsn c.from_bytes-page.result ∙ ap lsn_of (sym c.bytes.ensures.octets)

pub loop-index-preserved : goal.loop-index-preserved
loop-index-preserved c =
    let n : ℕ = c.loop-index.index in
    let head : FrameHead = get_or c.in-Ok.heads n blank in
    let less : n < present_in_front c.in-Ok.heads = omega (arith, c.loop-index-test.true, c.count_of-index-end.ensures.count) in
    let page : c.bytes.result.now ≡ c.from_bytes-page.result = c.bytes.ensures.octets in
    put_more c.args.content.now c.loop-index.again c.put_frame.new.content c.args.pages n c.in-Ok.heads head c.bytes.result.now c.in-Ok.ensures.frames less refl (page ∙ page_there c.args.content.now n c.from_bytes-page.result c.from_bytes-page.ensures)
    (subst (IsFrameBy c.args.pages head) (sym page) (c.is_frame.ensures.0 c.if-not-is_frame.false)) c.put_frame.ensures.frame c.loop-index.invariant c.put_frame.ensures.grown

pub returns : goal.returns
returns c g is =
    let n : ℕ = c.loop-index.index in
    let all : n ≡ present_in_front c.in-Ok.heads = omega (arith, c.loop-index-test.false, c.loop-index.auto.index-end, c.count_of-index-end.ensures.count) in (
      λ yes. put_all g c.args.content.now c.loop-index.again c.args.pages n c.in-Ok.heads is c.in-Ok.ensures.found.are_heads all (omega (arith, all, c.count_of-index-end.ensures)) c.loop-index.invariant (c.are_same.ensures.0 yes),
      λ found. c.are_same.ensures.1 (all_put g c.args.content.now c.loop-index.again c.args.pages n c.in-Ok.heads c.in-Ok.ensures.frames all c.loop-index.invariant found),
    )
