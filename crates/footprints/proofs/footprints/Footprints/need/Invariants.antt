use Rattle.std.proofs.Common.{◌≡◌, ◌*◌, ◌≤◌, sum_by}
use Rattle.std.specs.List.{range_with_len}
use Rattle.footprints.specs.Longest.{need_in}
use Rattle.footprints.proofs.footprints.Footprints.need.Given as goal

abbrev pub invariant-loop-place : goal.invariant-loop-place
invariant-loop-place l = record {
  so_far : l.need ≡ sum_by (need_in l.self l.page l.now l.slot l.length) (range_with_len 0 l.place);
  small : l.need ≤ 256 * l.place;
}
