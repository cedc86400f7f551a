use Rattle.image_form.proofs.Names.{ℕ, ◌<◌, List, IsTrue, ◌*◌, ◌-◌, Ok, Frame, group_shape, ReadsAtMost, MayRead, AreFound, IsGroupOn, IsLive, OnlyReads, group_on}
use Rattle.image_form.proofs.groups.rule_groups.Given as goal

abbrev pub invariant-loop-group : goal.invariant-loop-group
invariant-loop-group g l =
    let old = g.S.Site.state l.fn.site in
    let now = g.S.Site.state l.site in
    record {
      may_read : MayRead l.geometry l.rings now;
      stand : IsTrue old.honest → AreFound l.rings old → (n : ℕ) → IsLive (group_shape l.geometry) l.rings.groups.hi n → n < l.group →
          (frames : List Frame) × IsGroupOn l.geometry (group_on l.geometry old.image n) frames;
      looks : ReadsAtMost 0 (9 * (l.group - (l.rings.groups.hi - (l.rings.groups.shape.slots - 1)))) old now;
      reads : OnlyReads {T = Unit {0}} (Ok tt) old now;
    }
