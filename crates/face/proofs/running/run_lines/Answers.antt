use Rattle.face.proofs.Names.{◌≡◌, suc, List, [], ◌∷◌, ◌++◌, drop, sym, ◌∙◌, ap, subst, arith, add-one, append_assoc, IsTrue, append-nil, listing_of, Run, Begins, answered, listing_at, state_at, GoesOn, HasAnswered, HasEnded, HearsLine, to_hear, up_to_quit, Line, CacheLine, stays_honest, goes_in_sequence, Input, Site}
use Rattle.std.specs.Prelude.{Err}
use Rattle.face.proofs.Answered.{answered_heard, answered_next, begins_well}
use Rattle.face.proofs.Cuts.{Cut, no_cut, cut_more, cut_stays, line_is, cut_few_octets}
use Rattle.face.proofs.Ends.{lists_nothing, never_opened, taking_failed, finished, answer_failed, heard_end, line_heard, quitted, taking_cause, answer_takes_nothing}
use Rattle.face.proofs.Going.{ends_as, ends_well, fails_there, faults_since, goes_heard, goes_next}
use Rattle.face.proofs.Hearings.{hears_answer, hears_cut, hears_end, hears_nothing, hears_quit}
use Rattle.face.proofs.Listed.{asked, is_asked}
use Rattle.face.proofs.Waits.{answers_none}
use Rattle.face.proofs.Written.{written_opened}
use Rattle.face.proofs.running.run_lines.Given.{Over}
use Rattle.face.proofs.running.run_lines.Goals.{After-next, In-Line}
use Rattle.face.proofs.running.run_lines.Goals as goal

pub returns-in-Err-clause-works : goal.returns-in-Err-clause-works
returns-in-Err-clause-works g c = ([], λ run begins same. never_opened c.args.pool run (g.S.Site.state c.args.site.now) (g.S.Site.state c.open.new.site) c.in-Err.halt (c.in-Err.ensures.never run (begins_well run _ begins)) c.in-Err.ensures.halts (c.open.ensures.left begins.honest))

pub loop-line-init : goal.loop-line-init
loop-line-init g c =
    let old = g.S.Site.state c.args.site.now in
    let now = g.S.Site.state c.open.new.site in
    record {
      going = c.in-Ok.ensures.going;
      source = c.new-source.ensures.source;
      cut = λ honest. no_cut _ c.new-source.result _ c.new-source.ensures.empty c.new-source.ensures.taken c.new-source.ensures.going (ap (λ (input : Input). input.left) (c.open.ensures.left honest));
      under_way = record {
        listings = [];
        each = λ run later begins is.
            let opened = c.in-Ok.ensures.opens run (begins_well run old begins) in
            record {
              progress = opened;
              left = is;
              listed = lists_nothing c.args.pool run old.image;
              written = written_opened c.args.pool run old now opened.moments opened.reads;
              answers = answers_none run old now (c.open.ensures.left begins.honest);
            };
      };
    }

-- Something was heard.
module _ (g : Over) (c : After-next g) where
  abbrev entry : Site
  entry = g.S.Site.state c.args.site.now

  abbrev mid : Site
  mid = g.S.Site.state c.loop-line.site

  abbrev next : Site
  next = g.S.Site.state c.next.new.site

  still : IsTrue entry.honest → IsTrue mid.honest
  still honest = stays_honest entry mid c.loop-line.invariant.going.preserves honest

  goes : GoesOn entry mid c.loop-line.engine
  goes = c.loop-line.invariant.going

  so_far : (run : Run) (later : List (List CacheLine)) → Begins run entry → run.listings ≡ c.loop-line.invariant.under_way.listings ++ later → HasAnswered c.args.pool run later entry next c.loop-line.engine c.loop-line._line
  so_far run later begins is =
      let honest = still begins.honest in
      let cut = c.loop-line.invariant.cut begins.honest in
      answered_heard c.args.pool run entry mid next c.loop-line.engine c.loop-line._line c.loop-line.source cut c.loop-line.invariant.source (c.loop-line.invariant.under_way.each run later begins is)
      c.next.ensures.preserves (c.next.ensures.same honest) (c.next.ensures.takes honest cut.ended)

-- It was a line.
module _ (g : Over) (c : In-Line g) where
  abbrev entry' : Site
  entry' = g.S.Site.state c.args.site.now

  abbrev mid' : Site
  mid' = g.S.Site.state c.loop-line.site

  abbrev next' : Site
  next' = g.S.Site.state c.next.new.site

  abbrev with_line : List (List CacheLine)
  with_line = c.loop-line.invariant.under_way.listings ++ asked c.in-Line.line (listing_of c.loop-line.engine)

  hears : (honest : IsTrue entry'.honest) → HearsLine c.in-Line.line c.loop-line.source.ended c.next.new.self.ended (to_hear c.loop-line.source mid') (to_hear c.next.new.self next')
  hears honest =
      let cut = c.loop-line.invariant.cut honest in
      line_heard c.in-Ok-next.heard c.in-Line.line _ _ _ _ (c.in-Ok-next.ensures.heard (stays_honest entry' mid' c.loop-line.invariant.going.preserves honest) cut.ended) c.in-Line.is

  ended : (honest : IsTrue entry'.honest) → HasEnded c.next.new.self next'
  ended honest = c.in-Ok-next.ensures.ended (stays_honest entry' mid' c.loop-line.invariant.going.preserves honest) (c.loop-line.invariant.cut honest).ended

  at : (run : Run) → Begins run entry' → (rest : List Line) × (drop c.loop-line._line (answered run) ≡ c.in-Line.line ∷ rest)
  at run begins = (
    _,
    ap (λ (l : List Line). drop c.loop-line._line (up_to_quit l)) begins.lines
        ∙ line_is entry'.input.left c.loop-line.source mid' c.loop-line._line (c.loop-line.invariant.cut begins.honest) c.loop-line.invariant.source c.next.new.self next' c.in-Line.line (hears begins.honest) (ended begins.honest) c.next.ensures.source,
  )

  heard_so_far : (run : Run) (later : List (List CacheLine)) → Begins run entry' → run.listings ≡ with_line ++ later → HasAnswered c.args.pool run (asked c.in-Line.line (listing_of c.loop-line.engine) ++ later) entry' next' c.loop-line.engine c.loop-line._line
  heard_so_far run later begins is =
      let honest = stays_honest entry' mid' c.loop-line.invariant.going.preserves begins.honest in
      let cut = c.loop-line.invariant.cut begins.honest in
      answered_heard c.args.pool run entry' mid' next' c.loop-line.engine c.loop-line._line c.loop-line.source cut c.loop-line.invariant.source
      (c.loop-line.invariant.under_way.each run _ begins (is ∙ append_assoc c.loop-line.invariant.under_way.listings (asked c.in-Line.line (listing_of c.loop-line.engine)) later))
      c.next.ensures.preserves (c.next.ensures.same honest) (c.next.ensures.takes honest cut.ended)

  goes_there : GoesOn entry' next' c.loop-line.engine
  goes_there = goes_heard entry' mid' next' c.loop-line.engine c.loop-line.invariant.going c.next.ensures.preserves c.next.ensures.same c.in-Ok-next.ensures.faults

pub answer-requires : goal.answer-requires
answer-requires g c = record { going = (goes_there g (goal.at.answer-requires g c).In-Line).going }

pub loop-line-preserved : goal.loop-line-preserved
loop-line-preserved g c =
    let s = (goal.at.loop-line-preserved g c).In-Line in
    let next = g.S.Site.state c.next.new.site in
    let new = g.S.Site.state c.answer.new.site in
    let i = c.loop-line._line in
    record {
      going = goes_next _ next new c.loop-line.engine (goes_there g s) c.in_default.field-0 c.in-Line.line c.answer.new.engine c.in_default.ensures.course;
      source = c.next.ensures.source;
      cut = λ honest.
          let entry = g.S.Site.state c.args.site.now in
          let mid = g.S.Site.state c.loop-line.site in
          let left = c.in_default.ensures.course.left (stays_honest mid next c.next.ensures.preserves (stays_honest entry mid c.loop-line.invariant.going.preserves honest)) in
          subst (Cut entry.input.left c.next.new.self new) (sym (add-one i))
          (cut_stays entry.input.left c.next.new.self next new (suc i) (cut_more entry.input.left c.loop-line.source mid i (c.loop-line.invariant.cut honest) c.loop-line.invariant.source c.next.new.self next c.in-Line.line (hears g s honest) (ended g s honest)
          (c.in-Ok-next.ensures.count (stays_honest entry mid c.loop-line.invariant.going.preserves honest)) (sym c.quits-last.ensures ∙ c.if-last.false)) left);
      under_way = record {
        listings = with_line g s;
        each = λ run later begins is.
            let so_far = heard_so_far g s run later begins is in
            let at = at g s run begins in
            subst (HasAnswered c.args.pool run later _ new c.answer.new.engine) (sym (add-one i))
            (answered_next c.args.pool run _ next new c.loop-line.engine i c.in_default.field-0 c.answer.new.engine c.in-Line.line at.0 at.1 so_far c.in_default.ensures.course
            (c.in_default.ensures.tells (state_at run i) (listing_at run i) (is_asked c.in-Line.line later so_far) so_far.fits so_far.quiet) c.queue_is_on_flash.ensures c.versions_are_seen.ensures
            (c.answer.ensures.hands (state_at run i) (listing_at run i) (is_asked c.in-Line.line later so_far) so_far.fits so_far.quiet));
      };
    }

pub returns-in-Err-next-clause-works : goal.returns-in-Err-next-clause-works
returns-in-Err-next-clause-works g c = (
  c.loop-line.invariant.under_way.listings,
  λ run begins same.
      let s = (goal.at.returns-in-Err-next-clause-works g c).After-next in
      let cut = c.loop-line.invariant.cut begins.honest in
      taking_failed c.args.pool run _ (g.S.Site.state c.loop-line.site) _ c.loop-line.engine c.loop-line.source c.loop-line._line cut c.loop-line.invariant.source (so_far g s run [] begins (same ∙ sym (append-nil c.loop-line.invariant.under_way.listings)))
      c.in-Err-next.halt c.in-Err-next.ensures.halts (c.in-Err-next.ensures.cut_off (still g s begins.honest) cut.ended),
)

pub returns-in-End-clause-works : goal.returns-in-End-clause-works
returns-in-End-clause-works g c = (
  c.loop-line.invariant.under_way.listings,
  λ run begins same.
      let s = (goal.at.returns-in-End-clause-works g c).After-next in
      let cut = c.loop-line.invariant.cut begins.honest in
      let honest = still g s begins.honest in
      let end = heard_end c.in-Ok-next.heard _ _ _ _ (c.in-Ok-next.ensures.heard honest cut.ended) c.in-End.is in
      finished c.args.pool run _ (g.S.Site.state c.loop-line.site) _ c.loop-line.engine c.loop-line.source c.loop-line._line cut c.loop-line.invariant.source (so_far g s run [] begins (same ∙ sym (append-nil c.loop-line.invariant.under_way.listings)))
      _ c.queue_is_on_flash.ensures c.versions_are_seen.ensures end.0 (c.in-Ok-next.ensures.ended honest cut.ended end.1),
)

pub returns-in-Err-answer-clause-works : goal.returns-in-Err-answer-clause-works
returns-in-Err-answer-clause-works g c =
    let s = (goal.at.returns-in-Err-answer-clause-works g c).In-Line in (
      with_line g s,
      λ run begins same.
          let next = g.S.Site.state c.next.new.site in
          let new = g.S.Site.state c.answer.new.site in
          let so_far = heard_so_far g s run [] begins (same ∙ sym (append-nil (with_line g s))) in
          let at = at g s run begins in
          answer_failed c.args.pool run _ (g.S.Site.state c.loop-line.site) next new c.loop-line.source c.next.new.self c.loop-line._line (c.loop-line.invariant.cut begins.honest) c.loop-line.invariant.source c.in-Line.line (hears g s begins.honest) (ended g s begins.honest) c.next.ensures.source
          (c.in-Err-answer.ensures.course.left so_far.fits.honest) [] c.loop-line.engine c.answer.new.engine so_far at.0 at.1 c.in-Err-answer.halt c.in-Err-answer.ensures.course
          (c.in-Err-answer.ensures.tells (state_at run c.loop-line._line) (listing_at run c.loop-line._line) (is_asked c.in-Line.line [] so_far) so_far.fits so_far.quiet) (answer_takes_nothing c.in-Err-answer.halt c.loop-line.engine next new c.in-Err-answer.ensures.course.cause) c.queue_is_on_flash.ensures c.versions_are_seen.ensures
          (c.answer.ensures.hands (state_at run c.loop-line._line) (listing_at run c.loop-line._line) (is_asked c.in-Line.line [] so_far) so_far.fits so_far.quiet),
    )

pub returns-then-last-clause-works : goal.returns-then-last-clause-works
returns-then-last-clause-works g c =
    let s = (goal.at.returns-then-last-clause-works g c).In-Line in (
      with_line g s,
      λ run begins same.
          let next = g.S.Site.state c.next.new.site in
          let new = g.S.Site.state c.answer.new.site in
          let i = c.loop-line._line in
          let so_far = heard_so_far g s run [] begins (same ∙ sym (append-nil (with_line g s))) in
          let at = at g s run begins in
          quitted c.args.pool run _ (g.S.Site.state c.loop-line.site) next new c.loop-line.source c.next.new.self i (c.loop-line.invariant.cut begins.honest) c.loop-line.invariant.source c.in-Line.line (hears g s begins.honest) (ended g s begins.honest) c.next.ensures.source
          (c.in_default.ensures.course.left so_far.fits.honest) _ c.answer.new.engine (sym c.quits-last.ensures ∙ c.if-last.true) c.queue_is_on_flash.ensures c.versions_are_seen.ensures
          (answered_next c.args.pool run _ next new c.loop-line.engine i c.in_default.field-0 c.answer.new.engine c.in-Line.line at.0 at.1 so_far c.in_default.ensures.course
          (c.in_default.ensures.tells (state_at run i) (listing_at run i) (is_asked c.in-Line.line [] so_far) so_far.fits so_far.quiet) c.queue_is_on_flash.ensures c.versions_are_seen.ensures
          (c.answer.ensures.hands (state_at run i) (listing_at run i) (is_asked c.in-Line.line [] so_far) so_far.fits so_far.quiet)),
    )

pub returns-clause-works : goal.returns-clause-works
returns-clause-works g c = (
  [],
  λ run begins same.
      let few = cut_few_octets _ c.loop-line.source (g.S.Site.state c.loop-line.site) c.loop-line._line (c.loop-line.invariant.cut begins.honest) c.loop-line.invariant.source in
      absurd (omega (arith, few, c.loop-line-test.false)),
)

-- How it ends on any site.

pub returns-in-Err-clause-ends : goal.returns-in-Err-clause-ends
returns-in-Err-clause-ends g c = ends_as c.in-Err.halt _ _ c.in-Err.ensures.ends

pub returns-in-Err-next-clause-ends : goal.returns-in-Err-next-clause-ends
returns-in-Err-next-clause-ends g c =
    let entry = g.S.Site.state c.args.site.now in
    let mid = g.S.Site.state c.loop-line.site in
    let next = g.S.Site.state c.next.new.site in
    let going = c.loop-line.invariant.going in
    record {
      cause = taking_cause c.in-Err-next.halt c.loop-line.source entry mid next c.in-Err-next.ensures.halts (λ e. c.in-Err-next.ensures.input (ap Err e)) going.preserves.input_faults
          (λ honest. let cut = c.loop-line.invariant.cut honest in (cut.taken, c.in-Err-next.ensures.cut_off (stays_honest entry mid going.preserves honest) cut.ended));
      refuses = λ none. absurd (going.sized none);
      preserves = goes_in_sequence entry mid next going.preserves c.next.ensures.preserves;
      faults = faults_since c.in-Err-next.halt entry mid next going.faults c.in-Err-next.ensures.faults;
    }

pub returns-in-End-clause-ends : goal.returns-in-End-clause-ends
returns-in-End-clause-ends g c =
    ends_well _ _ (g.S.Site.state c.next.new.site) c.loop-line.engine (goes_heard (g.S.Site.state c.args.site.now) (g.S.Site.state c.loop-line.site) (g.S.Site.state c.next.new.site) c.loop-line.engine c.loop-line.invariant.going c.next.ensures.preserves c.next.ensures.same c.in-Ok-next.ensures.faults)

pub returns-in-Err-answer-clause-ends : goal.returns-in-Err-answer-clause-ends
returns-in-Err-answer-clause-ends g c =
    fails_there _ (g.S.Site.state c.next.new.site) (g.S.Site.state c.answer.new.site) c.loop-line.engine (goes_there g (goal.at.returns-in-Err-answer-clause-ends g c).In-Line) c.in-Err-answer.halt c.in-Line.line c.answer.new.engine c.in-Err-answer.ensures.course

pub returns-then-last-clause-ends : goal.returns-then-last-clause-ends
returns-then-last-clause-ends g c =
    let new = g.S.Site.state c.answer.new.site in
    ends_well _ _ new c.answer.new.engine (goes_next _ (g.S.Site.state c.next.new.site) new c.loop-line.engine (goes_there g (goal.at.returns-then-last-clause-ends g c).In-Line) c.in_default.field-0 c.in-Line.line c.answer.new.engine c.in_default.ensures.course)

pub returns-clause-ends : goal.returns-clause-ends
returns-clause-ends g c = record {
  cause = λ honest.
      let few = cut_few_octets _ c.loop-line.source (g.S.Site.state c.loop-line.site) c.loop-line._line (c.loop-line.invariant.cut honest) c.loop-line.invariant.source in
      absurd (omega (arith, few, c.loop-line-test.false));
  refuses = λ none. absurd (c.loop-line.invariant.going.sized none);
  preserves = c.loop-line.invariant.going.preserves;
  faults = c.loop-line.invariant.going.faults;
}

-- What was heard.

pub returns-in-Err-clause-hears : goal.returns-in-Err-clause-hears
returns-in-Err-clause-hears g c honest = hears_nothing c.in-Err.halt _ _ c.in-Err.ensures.halts.1 (c.open.ensures.left honest)

pub returns-in-Err-next-clause-hears : goal.returns-in-Err-next-clause-hears
returns-in-Err-next-clause-hears g c honest =
    let entry = g.S.Site.state c.args.site.now in
    let mid = g.S.Site.state c.loop-line.site in
    let cut = c.loop-line.invariant.cut honest in
    hears_cut entry mid c.loop-line.source c.loop-line._line cut c.loop-line.invariant.source c.in-Err-next.halt (g.S.Site.state c.next.new.site) c.in-Err-next.ensures.halts (c.in-Err-next.ensures.cut_off (stays_honest entry mid c.loop-line.invariant.going.preserves honest) cut.ended)

pub returns-in-End-clause-hears : goal.returns-in-End-clause-hears
returns-in-End-clause-hears g c honest =
    let entry = g.S.Site.state c.args.site.now in
    let mid = g.S.Site.state c.loop-line.site in
    let cut = c.loop-line.invariant.cut honest in
    let still = stays_honest entry mid c.loop-line.invariant.going.preserves honest in
    let end = heard_end c.in-Ok-next.heard _ _ _ _ (c.in-Ok-next.ensures.heard still cut.ended) c.in-End.is in
    hears_end entry mid c.loop-line.source c.loop-line._line cut c.loop-line.invariant.source _ (g.S.Site.state c.next.new.site) end.0 (c.in-Ok-next.ensures.ended still cut.ended end.1)

pub returns-in-Err-answer-clause-hears : goal.returns-in-Err-answer-clause-hears
returns-in-Err-answer-clause-hears g c honest =
    let s = (goal.at.returns-in-Err-answer-clause-hears g c).In-Line in
    let entry = g.S.Site.state c.args.site.now in
    let mid = g.S.Site.state c.loop-line.site in
    let next = g.S.Site.state c.next.new.site in
    let new = g.S.Site.state c.answer.new.site in
    let still = stays_honest entry mid c.loop-line.invariant.going.preserves honest in
    hears_answer entry mid c.loop-line.source c.loop-line._line (c.loop-line.invariant.cut honest) c.loop-line.invariant.source c.next.new.self next c.in-Line.line (hears g s honest)
    (ended g s honest) c.next.ensures.source (c.in-Ok-next.ensures.count still) new (c.in-Err-answer.ensures.course.left (stays_honest mid next c.next.ensures.preserves still)) c.in-Err-answer.halt
    (answer_takes_nothing c.in-Err-answer.halt c.loop-line.engine next new c.in-Err-answer.ensures.course.cause).1

pub returns-then-last-clause-hears : goal.returns-then-last-clause-hears
returns-then-last-clause-hears g c honest =
    let s = (goal.at.returns-then-last-clause-hears g c).In-Line in
    let entry = g.S.Site.state c.args.site.now in
    let mid = g.S.Site.state c.loop-line.site in
    let next = g.S.Site.state c.next.new.site in
    let still = stays_honest entry mid c.loop-line.invariant.going.preserves honest in
    hears_quit entry mid c.loop-line.source c.loop-line._line (c.loop-line.invariant.cut honest) c.loop-line.invariant.source c.next.new.self next c.in-Line.line (hears g s honest)
    (ended g s honest) c.next.ensures.source (c.in-Ok-next.ensures.count still) (g.S.Site.state c.answer.new.site) (c.in_default.ensures.course.left (stays_honest mid next c.next.ensures.preserves still)) _
    (sym c.quits-last.ensures ∙ c.if-last.true)

pub returns-clause-hears : goal.returns-clause-hears
returns-clause-hears g c honest =
    let few = cut_few_octets _ c.loop-line.source (g.S.Site.state c.loop-line.site) c.loop-line._line (c.loop-line.invariant.cut honest) c.loop-line.invariant.source in
    absurd (omega (arith, few, c.loop-line-test.false))

-- The records that stood there.

pub returns-in-Err-clause-judged : goal.returns-in-Err-clause-judged
returns-in-Err-clause-judged g c honest =
    record { done = tt; taken = λ ne. absurd (ne (ap (λ (i : Input). i.left) (c.open.ensures.left honest))) }

pub returns-in-Err-next-clause-judged : goal.returns-in-Err-next-clause-judged
returns-in-Err-next-clause-judged g c honest = record { done = tt; taken = λ ne. c.in-Ok.ensures.judged honest }

pub returns-in-End-clause-judged : goal.returns-in-End-clause-judged
returns-in-End-clause-judged g c honest = record { done = c.in-Ok.ensures.judged honest; taken = λ ne. c.in-Ok.ensures.judged honest }

pub returns-in-Err-answer-clause-judged : goal.returns-in-Err-answer-clause-judged
returns-in-Err-answer-clause-judged g c honest = record { done = tt; taken = λ ne. c.in-Ok.ensures.judged honest }

pub returns-then-last-clause-judged : goal.returns-then-last-clause-judged
returns-then-last-clause-judged g c honest = record { done = c.in-Ok.ensures.judged honest; taken = λ ne. c.in-Ok.ensures.judged honest }

pub returns-clause-judged : goal.returns-clause-judged
returns-clause-judged g c honest = record { done = tt; taken = λ ne. c.in-Ok.ensures.judged honest }
