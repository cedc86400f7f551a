use Rattle.image_form.proofs.Names.{ℕ, ◌<◌, List, IsTrue, ◌-◌, Ok, FrameHead, segment_shape, ReadsAtMost, MayRead, AreFound, IsSegmentOn, IsLive, OnlyReads, segment_on}
use Rattle.image_form.proofs.segments.rule_segments.Given as goal

abbrev pub invariant-loop-segment : goal.invariant-loop-segment
invariant-loop-segment g l =
    let old = g.S.Site.state l.fn.site in
    let now = g.S.Site.state l.site in
    record {
      may_read : MayRead l.geometry l.rings now;
      stand : IsTrue old.honest → AreFound l.rings old → (n : ℕ) → IsLive (segment_shape l.geometry) l.rings.segments.hi n → n < l.segment →
          (heads : List FrameHead) × IsSegmentOn l.geometry.pages (segment_on l.geometry old.image n) heads;
      looks : ReadsAtMost 0 (l.segment - (l.rings.segments.hi - (l.rings.segments.shape.slots - 1))) old now;
      reads : OnlyReads {T = Unit {0}} (Ok tt) old now;
    }
