use Rattle.image_form.proofs.Names.{ℕ, ◌<◌, List, IsTrue, ◌*◌, ◌+◌, Ok, Frame, ReadsAtMost, MayRead, AreFound, IsCleanFrame, IsGroupOn, OnlyReads, group_on}
use Rattle.image_form.proofs.clean.is_clean_group.Given as goal

abbrev pub invariant-loop-index : goal.invariant-loop-index
invariant-loop-index g l =
    let old = g.S.Site.state l.fn.site in
    let now = g.S.Site.state l.site in
    record {
      may_read : MayRead l.geometry l.rings now;
      stand : (frames : List Frame) → IsTrue old.honest → AreFound l.rings old → IsGroupOn l.geometry (group_on l.geometry old.image l.group) frames →
          (i : ℕ) → i < l.index → IsCleanFrame old.image l.frames l.group frames i;
      looks : ReadsAtMost 0 (1 + 2 * l.index) old now;
      reads : OnlyReads {T = Unit {0}} (Ok tt) old now;
    }
