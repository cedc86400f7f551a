use Rattle.face.proofs.Names.{◌≡◌, ◌-◌, ◌<◌, ◌≤◌, IsGood, HasCounted, LoadInProgress, first_lines, GoesOn, load_run, State, Geometry, generated}
use Rattle.face.proofs.load.run_load.Given as goal

abbrev pub invariant-loop-place : goal.invariant-loop-place
invariant-loop-place g l =
    let old = g.S.Site.state l.fn.site in
    let now = g.S.Site.state l.site in
    record {
      going : GoesOn old now l.engine;
      sets : l.place ≤ l.load.count → l.x ≡ generated l.load.seed l.place;
      gets : l.load.count < l.place → l.x ≡ generated l.load.seed (l.place - l.load.count);
      committed : l.counts.committed ≤ l.place;
      checkpoints : l.counts.checkpoints ≤ l.place;
      found : l.counts.found ≤ l.place;
      progress : (g : Geometry) (opening : State) → IsGood g opening old → LoadInProgress l.load.pool (load_run g opening l.load) old now l.engine l.place;
      counted : (g : Geometry) (opening : State) → IsGood g opening old → HasCounted (first_lines (load_run g opening l.load) l.place) l.counts.committed l.counts.checkpoints l.counts.found;
    }
