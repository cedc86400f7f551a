use Rattle.std.proofs.Common.{◌≡◌, ◌==◌, max, cond, sum_by, arith, ap, ◌∙◌}
use Rattle.std.specs.List.{range_with_len}
use Rattle.footprints.specs.Longest.{need_in}
use Rattle.footprints.proofs.Lengths.{sum_more}
use Rattle.footprints.proofs.footprints.Footprints.need.Goals as goal

pub loop-place-preserved : goal.loop-place-preserved
loop-place-preserved c =
    let more = sum_more (need_in c.args.self.now c.args.page c.args.now.now c.args.slot c.args.length) c.loop-place.place in
    let one : c.if_written-need.result ≡ need_in c.args.self.now c.args.page c.args.now.now c.args.slot c.args.length c.loop-place.place =
    c.if_written-need.ensures.octets ∙ ap (λ o. cond (c.loop-place.place == c.args.slot) (max o c.args.length) o) c.footprint-octets.ensures.octets in
    record {
      so_far = omega (arith, more, one, c.loop-place.invariant.so_far);
      small = omega (arith, c.loop-place.invariant.small, c.if_written-need.ensures.small);
    }

pub returns : goal.returns
returns c =
    let all : c.loop-place.place ≡ 32 = omega arith in
    c.loop-place.invariant.so_far
    ∙ ap (λ n. sum_by (need_in c.args.self.now c.args.page c.args.now.now c.args.slot c.args.length) (range_with_len 0 n)) all
