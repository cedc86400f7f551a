use Rattle.image_form.proofs.Names.{◌≡◌, ◌+◌, ◌-◌, ◌≤◌, length, All, IsTrue, Ok, AreGroupHeads, ReadsAtMost, MayRead, AreFound, AreGroups, OnlyReads}
use Rattle.image_form.proofs.NewestRead.{AreHeadsFrom}
use Rattle.image_form.proofs.newest.find_frames.Given as goal

abbrev pub invariant-loop-group : goal.invariant-loop-group
invariant-loop-group g l =
    let old = g.S.Site.state l.fn.site in
    let now = g.S.Site.state l.site in
    record {
      may_read : MayRead l.geometry l.rings now;
      formed : All (λ heads. AreGroupHeads heads) l.list.items;
      count : l.first + length l.list.items ≡ l.group;
      most : l.group ≤ l.rings.groups.hi;
      looks : ReadsAtMost 0 (l.group - l.first) old now;
      heads : IsTrue old.honest → AreFound l.rings old → AreGroups l.geometry old.image → AreHeadsFrom l.geometry old.image l.first l.list.items;
      reads : OnlyReads {T = Unit {0}} (Ok tt) old now;
    }
