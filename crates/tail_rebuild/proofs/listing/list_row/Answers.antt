use Rattle.tail_rebuild.proofs.Names.{◌≡◌, ℕ, ◌+◌, ◌-◌, ◌*◌, max, List, length, take, drop, sym, subst, arith, FrameHead, one_segment, heads_of_group, IsSegment, GoesOnWith, PagesExist}
use Rattle.tail_rebuild.proofs.listing.list_row.Goals as goal

-- a segment in the part that a range of 512 takes
there : (slots : List ℕ) (place : ℕ) (heads : List FrameHead) → IsSegment (take 512 (drop (place * 1024 + 9) slots)) heads
    → IsSegment (take (place * 1024 + 9 + 512 - (place * 1024 + 9)) (drop (place * 1024 + 9) slots)) heads
there slots place heads is =
    let whole : 512 ≡ place * 1024 + 9 + 512 - (place * 1024 + 9) = omega arith in
    subst (λ (n : ℕ). IsSegment (take n (drop (place * 1024 + 9) slots)) heads) whole is

pub returns-in_default-clause-foreign : goal.returns-in_default-clause-foreign
returns-in_default-clause-foreign c says each hold exist =
    c.in_default.ensures.bad (each c.loop-place.place) (there c.args.slots.now c.loop-place.place (each c.loop-place.place) (hold c.loop-place.place c.loop-place-test.true))

pub returns-in-Err-clause-foreign : goal.returns-in-Err-clause-foreign
returns-in-Err-clause-foreign c says each hold exist =
    let place = c.loop-place.place in
    let less = c.loop-place-test.true in
    let skip = c.saturating_sub-skip.result in
    let skipped : skip ≡ c.args.first - 4 * (c.args.segment + place) = c.saturating_sub-skip.ensures in
    let same : c.in-Ok.heads ≡ each place = one_segment _ c.in-Ok.heads (each place) c.in-Ok.ensures.found (there c.args.slots.now place (each place) (hold place less)) in
    c.in-Err.ensures.foreign says (λ group least below.
    subst (λ (heads : List FrameHead). PagesExist c.args.pages (heads_of_group heads group)) (sym same) (exist place less group (omega (arith, least, skipped)) below))

pub loop-place-preserved : goal.loop-place-preserved
loop-place-preserved c =
    let inv = c.loop-place.invariant in
    let place = c.loop-place.place in
    let less = c.loop-place-test.true in
    let list = c.loop-place.list.items in
    let skip = c.saturating_sub-skip.result in
    let skipped : skip ≡ c.args.first - 4 * (c.args.segment + place) = c.saturating_sub-skip.ensures in
    record {
      listed = c.in_default-list_saved.ensures.listed;
      more = omega (arith, inv.more, c.in_default-list_saved.ensures.more, skipped, c.requires.least);
      front = λ all each hold goes begun.
          let same : c.in-Ok.heads ≡ each place = one_segment _ c.in-Ok.heads (each place) c.in-Ok.ensures.found (there c.args.slots.now place (each place) (hold place less)) in
          let at : max c.args.first (4 * (c.args.segment + place)) - c.args.first ≡ length list = omega (arith, inv.more) in
          c.in_default-list_saved.ensures.front all (inv.front all each hold goes begun)
          (subst (λ (heads : List FrameHead). GoesOnWith heads skip all (length list)) (sym same)
          (subst (λ (n : ℕ). GoesOnWith (each place) n all (length list)) (sym skipped)
          (subst (λ (n : ℕ). GoesOnWith (each place) (c.args.first - 4 * (c.args.segment + place)) all n) at (goes place less))));
    }
