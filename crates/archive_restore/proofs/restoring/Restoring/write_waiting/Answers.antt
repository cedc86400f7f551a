use Rattle.std.proofs.Common.{refl, ◌∙◌, ap, arith}
use Rattle.site.specs.Faults.{Faults}
use Rattle.site.proofs.Laws.{goes_in_sequence, goes_nowhere, stays_honest}
use Rattle.std.specs.Prelude.{take}
use Rattle.archive_restore.proofs.Writes.{all_written, none_popped, none_popped_goes, none_waits, popped_next}
use Rattle.archive_restore.specs.Faults.{after_fault}
use Rattle.archive_restore.proofs.restoring.Restoring.write_waiting.Goals as goal

pub loop-self-init : goal.loop-self-init
loop-self-init g c = record {
  most = c.requires.most;
  source = refl;
  preserves = goes_nowhere (g.S.Site.state c.args.site.now);
  faults = refl;
  left = λ honest. refl;
  going = λ number entry goes. goes;
  writes = λ pool geometry s entry h. h;
}

pub write-requires : goal.write-requires
write-requires g c = record {
  going = (c.requires.going.0, c.requires.going.1, c.loop-self.self, c.loop-self.invariant.going c.requires.going.0 c.requires.going.1 c.requires.going.2, popped_next c.in-Some.net c.loop-self.self c.pop.new.self c.in-Some.ensures.popped);
}

pub loop-self-preserved : goal.loop-self-preserved
loop-self-preserved g c =
    let old = g.S.Site.state c.args.site.now in
    let mid = g.S.Site.state c.loop-self.site in
    let new = g.S.Site.state c.write.new.site in
    let p = popped_next c.in-Some.net c.loop-self.self c.pop.new.self c.in-Some.ensures.popped in
    record {
      most = omega (arith, c.loop-self-test.true, c.in_default-write.ensures.still.0);
      source = c.in_default-write.ensures.still.1 ∙ c.loop-self.invariant.source;
      preserves = goes_in_sequence old mid new c.loop-self.invariant.preserves c.write.ensures.preserves;
      faults = c.in_default-write.ensures.faults ∙ c.loop-self.invariant.faults;
      left = λ honest. c.write.ensures.left (stays_honest old mid c.loop-self.invariant.preserves honest) ∙ c.loop-self.invariant.left honest;
      going = λ number entry goes. c.in_default-write.ensures.going number entry c.loop-self.self (c.loop-self.invariant.going number entry goes) p;
      writes = λ pool geometry s entry h. c.in_default-write.ensures.writes pool geometry s entry c.loop-self.self (c.loop-self.invariant.writes pool geometry s entry h) p;
    }

pub returns-in-Err-clause-stops : goal.returns-in-Err-clause-stops
returns-in-Err-clause-stops g c pool geometry s entry lines behind number goes h =
    c.in-Err.ensures.stops pool geometry s entry c.loop-self.self lines behind number c.args.count (c.loop-self.invariant.going number entry goes) (c.loop-self.invariant.writes pool geometry s entry h)
    (popped_next c.in-Some.net c.loop-self.self c.pop.new.self c.in-Some.ensures.popped) c.loop-self-test.true

pub returns-in-Err-clause-left : goal.returns-in-Err-clause-left
returns-in-Err-clause-left g c honest = c.write.ensures.left (stays_honest (g.S.Site.state c.args.site.now) (g.S.Site.state c.loop-self.site) c.loop-self.invariant.preserves honest) ∙ c.loop-self.invariant.left honest

pub returns-in-Err-clause-preserves : goal.returns-in-Err-clause-preserves
returns-in-Err-clause-preserves g c = goes_in_sequence (g.S.Site.state c.args.site.now) (g.S.Site.state c.loop-self.site) (g.S.Site.state c.write.new.site) c.loop-self.invariant.preserves c.write.ensures.preserves

pub returns-in_default-clause-going : goal.returns-in_default-clause-going
returns-in_default-clause-going g c number entry goes =
    let at = c.loop-self.invariant.going number entry goes in
    none_popped_goes number entry (g.S.Site.state c.loop-self.site) c.loop-self.self c.pop.new.self at (c.in_default.ensures.all at.g.pages at.s (take c.loop-self.self.written at.s.nets) at.archived.replay).1

pub returns-in_default-clause-waits : goal.returns-in_default-clause-waits
returns-in_default-clause-waits g c number entry goes is =
    let at = c.loop-self.invariant.going number entry goes in
    none_waits number c.args.count entry (g.S.Site.state c.loop-self.site) c.loop-self.self c.pop.new.self at (c.in_default.ensures.all at.g.pages at.s (take c.loop-self.self.written at.s.nets) at.archived.replay) c.loop-self-test.true

pub returns-in-Err-clause-early : goal.returns-in-Err-clause-early
returns-in-Err-clause-early g c number entry goes =
    c.in-Err.ensures.early number entry c.loop-self.self c.args.count (c.loop-self.invariant.going number entry goes) (popped_next c.in-Some.net c.loop-self.self c.pop.new.self c.in-Some.ensures.popped) c.loop-self-test.true

pub returns-in_default-clause-writes : goal.returns-in_default-clause-writes
returns-in_default-clause-writes g c pool geometry s entry h =
    let at = c.loop-self.invariant.writes pool geometry s entry h in
    none_popped pool geometry s entry (g.S.Site.state c.loop-self.site) c.loop-self.self c.pop.new.self at (c.in_default.ensures.all geometry.pages s (take c.loop-self.self.written s.nets) at.replay).1

pub returns-in_default-clause-none : goal.returns-in_default-clause-none
returns-in_default-clause-none g c pool geometry s entry h is =
    let at = c.loop-self.invariant.writes pool geometry s entry h in
    (all_written c.loop-self.self.written s.nets at.few (c.in_default.ensures.all geometry.pages s (take c.loop-self.self.written s.nets) at.replay).0, c.loop-self-test.true)

pub returns-in-Err-clause-faults : goal.returns-in-Err-clause-faults
returns-in-Err-clause-faults g c = c.in-Err.ensures.faults ∙ ap (λ (f : Faults). after_fault c.in-Err.fault f) c.loop-self.invariant.faults
