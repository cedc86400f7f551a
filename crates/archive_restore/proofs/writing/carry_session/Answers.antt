use Rattle.std.proofs.Common.{◌+◌, ◌<◌, refl, ◌∙◌, subst, arith}
use Rattle.site.proofs.Laws.{goes_in_sequence, goes_nowhere, stays_honest}
use Rattle.archive_restore.proofs.Carried.{answer_takes_nothing}
use Rattle.face.proofs.Going.{ends_well, fails_there, goes_next}
use Rattle.archive_restore.proofs.Sessions.{come_fails, come_first, come_next, come_to_end}
use Rattle.archive_restore.proofs.writing.carry_session.Goals as goal

pub overflow_add-place-end : goal.overflow_add-place-end
overflow_add-place-end g c = omega (arith, c.requires.few, c.len-place-end.ensures)

pub carry_out-requires : goal.carry_out-requires
carry_out-requires g c = record { going = (c.loop-place.invariant.going c.requires.going.0 c.requires.going.1).going }

pub returns-clause-ends : goal.returns-clause-ends
returns-clause-ends g c entry goes = ends_well _ entry (g.S.Site.state c.loop-place.site) c.loop-place.engine (c.loop-place.invariant.going entry goes)

pub returns-clause-writes : goal.returns-clause-writes
returns-clause-writes g c pool geometry entry lines table commits made kept cap carried free =
    come_to_end pool geometry entry lines table commits c.args.net.now made kept cap (g.S.Site.state c.args.site.now) (g.S.Site.state c.loop-place.site) c.loop-place.engine c.loop-place.place
    (c.loop-place.invariant.come pool geometry entry lines table commits made kept cap carried free) (omega (arith, c.loop-place-test.false, c.loop-place.auto.place-end, c.len-place-end.ensures))

pub loop-place-init : goal.loop-place-init
loop-place-init g c = record {
  preserves = goes_nowhere (g.S.Site.state c.args.site.now);
  left = λ honest. refl;
  going = λ entry goes. goes;
  come = λ pool geometry entry lines table commits made kept cap carried free. come_first pool geometry entry lines table commits c.args.net.now made kept cap (g.S.Site.state c.args.site.now) c.args.engine.now carried;
}

pub loop-place-preserved : goal.loop-place-preserved
loop-place-preserved g c =
    let old = g.S.Site.state c.args.site.now in
    let mid = g.S.Site.state c.loop-place.site in
    let new = g.S.Site.state c.carry_out.new.site in
    record {
      preserves = goes_in_sequence old mid new c.loop-place.invariant.preserves c.carry_out.ensures.preserves;
      left = λ honest. c.carry_out.ensures.left (stays_honest old mid c.loop-place.invariant.preserves honest) ∙ c.loop-place.invariant.left honest;
      going = λ entry goes. goes_next entry mid new c.loop-place.engine (c.loop-place.invariant.going entry goes) c.in-Ok._reply _ c.carry_out.new.engine c.in-Ok.ensures.course;
      come = λ pool geometry entry lines table commits made kept cap carried free.
          come_next pool geometry entry lines table commits c.args.net.now made kept cap old mid c.loop-place.engine c.loop-place.place (c.loop-place.invariant.come pool geometry entry lines table commits made kept cap carried free) free
          (subst (λ n. c.loop-place.place < n + 2) c.len-place-end.ensures c.loop-place-test.true) c.session_line.result c.session_line.ensures c.carry_out.new.engine new c.in-Ok._reply c.in-Ok.ensures;
    }

pub returns-in-Err-clause-fails : goal.returns-in-Err-clause-fails
returns-in-Err-clause-fails g c pool geometry entry lines table commits made kept cap carried free =
    come_fails pool geometry entry lines table commits c.args.net.now made kept cap (g.S.Site.state c.args.site.now) (g.S.Site.state c.loop-place.site) c.loop-place.engine c.loop-place.place (c.loop-place.invariant.come pool geometry entry lines table commits made kept cap carried free) free
    (subst (λ n. c.loop-place.place < n + 2) c.len-place-end.ensures c.loop-place-test.true) c.session_line.result c.session_line.ensures c.carry_out.new.engine (g.S.Site.state c.carry_out.new.site) c.in-Err.halt c.in-Err.ensures

pub returns-in-Err-clause-ends : goal.returns-in-Err-clause-ends
returns-in-Err-clause-ends g c entry goes = fails_there entry (g.S.Site.state c.loop-place.site) (g.S.Site.state c.carry_out.new.site) c.loop-place.engine (c.loop-place.invariant.going entry goes) c.in-Err.halt _ c.carry_out.new.engine c.in-Err.ensures.course

pub returns-in-Err-clause-halts : goal.returns-in-Err-clause-halts
returns-in-Err-clause-halts g c = answer_takes_nothing c.in-Err.halt c.loop-place.engine (g.S.Site.state c.loop-place.site) (g.S.Site.state c.carry_out.new.site) c.in-Err.ensures.course.cause

pub returns-in-Err-clause-left : goal.returns-in-Err-clause-left
returns-in-Err-clause-left g c honest =
    c.carry_out.ensures.left (stays_honest (g.S.Site.state c.args.site.now) (g.S.Site.state c.loop-place.site) c.loop-place.invariant.preserves honest) ∙ c.loop-place.invariant.left honest

pub returns-in-Err-clause-preserves : goal.returns-in-Err-clause-preserves
returns-in-Err-clause-preserves g c =
    goes_in_sequence (g.S.Site.state c.args.site.now) (g.S.Site.state c.loop-place.site) (g.S.Site.state c.carry_out.new.site) c.loop-place.invariant.preserves c.carry_out.ensures.preserves
