use Rattle.image_form.proofs.Names.{ℕ, ◌<◌, IsTrue, ◌*◌, ◌-◌, Ok, frames_in, group_shape, ReadsAtMost, MayRead, AreFound, IsCleanFrame, AreGroups, IsLive, OnlyReads, group_on}
use Rattle.image_form.proofs.clean.find_unclean.Given as goal

abbrev pub invariant-loop-group : goal.invariant-loop-group
invariant-loop-group g l =
    let old = g.S.Site.state l.fn.site in
    let now = g.S.Site.state l.site in
    record {
      may_read : MayRead l.geometry l.rings now;
      stand : IsTrue old.honest → AreFound l.rings old → AreGroups l.geometry old.image → (n : ℕ) → IsLive (group_shape l.geometry) l.rings.groups.hi n → n < l.group →
          (i : ℕ) → IsCleanFrame old.image l.frames n (frames_in (group_on l.geometry old.image n)) i;
      looks : ReadsAtMost 0 (17 * (l.group - (l.rings.groups.hi - (l.rings.groups.shape.slots - 1)))) old now;
      reads : OnlyReads {T = Unit {0}} (Ok tt) old now;
    }
