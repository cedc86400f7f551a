use Rattle.image_form.proofs.Names.{ℕ, ◌<◌, IsTrue, Ok, version_on, ReadsAtMost, MayRead, AreFound, ShowsFrames, AreGroups, OnlyReads, IsSound}
use Rattle.image_form.proofs.versions.find_unsound.Given as goal

abbrev pub invariant-loop-page : goal.invariant-loop-page
invariant-loop-page g l =
    let old = g.S.Site.state l.fn.site in
    let now = g.S.Site.state l.site in
    record {
      may_read : MayRead l.geometry l.rings now;
      stand : IsTrue old.honest → AreFound l.rings old → AreGroups l.geometry old.image → ShowsFrames l.geometry old.image l.frames → (n : ℕ) → n < l.page → IsSound (version_on l.geometry old.image n);
      looks : ReadsAtMost 0 l.page old now;
      reads : OnlyReads {T = Unit {0}} (Ok tt) old now;
    }
