use Rattle.face.proofs.Names.{◌≡◌, ◌<◌, IsTrue, length, KeepsDevices, IsNewSite, SameFaults, Geometry, lives_in as lives_of}
use Rattle.face.proofs.Trials.{Reached}
use Rattle.face.proofs.trial.live_script.Given as goal

abbrev pub invariant-loop-place : goal.invariant-loop-place
invariant-loop-place g l =
    let old = g.S.Site.state l.fn.site in
    let now = g.S.Site.state l.site in
    record {
      keeps : KeepsDevices old now;
      left : IsTrue old.honest → now.input ≡ old.input;
      faults : SameFaults old now;
      there : l.place < length (lives_of l.script);
      lives : (geometry : Geometry) → IsNewSite geometry l.fn.inner → IsTrue old.honest → Reached geometry l.fn.pool l.script l.place old now l.inner;
    }
