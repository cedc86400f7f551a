use Rattle.image_form.proofs.Names.{ℕ, ◌<◌, IsTrue, ◌*◌, ◌-◌, Ok, group_shape, ReadsAtMost, MayRead, AreFound, AreHeadsSaved, IsLive, OnlyReads}
use Rattle.image_form.proofs.following.rule_following.Given as goal

abbrev pub invariant-loop-group : goal.invariant-loop-group
invariant-loop-group g l =
    let old = g.S.Site.state l.fn.site in
    let now = g.S.Site.state l.site in
    record {
      may_read : MayRead l.geometry l.rings now;
      saved : IsTrue old.honest → AreFound l.rings old → (n : ℕ) → IsLive (group_shape l.geometry) l.rings.groups.hi n → n < l.group → AreHeadsSaved l.geometry old.image n;
      looks : ReadsAtMost 0 (2 * (l.group - (l.rings.groups.hi - (l.rings.groups.shape.slots - 1)))) old now;
      reads : OnlyReads {T = Unit {0}} (Ok tt) old now;
    }
