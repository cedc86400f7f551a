use Rattle.redo_undo.proofs.Names.{[], ◌∷◌, ◌≤◌, ◌<◌, subst, arith, IfOk-weaker, end_of, going_still, works_of, IsStepOf, clr_work}
use Rattle.redo_undo.proofs.Calling.{held_read, works_read, works_then}
use Rattle.redo_undo.proofs.Compensations.{is_a_clr, no_update}
use Rattle.redo_undo.proofs.UndoCalls.{undoes_read, undoes_unread}
use Rattle.redo_undo.proofs.undo.undo_update.Goals as goal

pub put_back-requires-clause-going : goal.put_back-requires-clause-going
put_back-requires-clause-going g c = going_still c.args.log.now c.args.pages.now (g.S.Site.state c.args.site.now) (g.S.Site.state c.read_step.new.site) c.read_step.ensures.reads.preserves c.requires.going

-- An Update is read.

pub returns-in-Ok-Compensate-clause-undone : goal.returns-in-Ok-Compensate-clause-undone
returns-in-Ok-Compensate-clause-undone g c newest records history x u rest h unfinished at split update =
    let is = c.in-Ok-Compensate.ensures.step c.args.pages.now newest records history x u rest c.requires.going.sizes h unfinished at split in
    c.put_back.ensures.undone newest records history x u rest (held_read h c.read_step.ensures.reads) unfinished at split
    (subst (IsStepOf c.args.at c.args.log.now.geometry.pages u.rec) c.in-Ok-Compensate.field-0-is is)

pub returns-in-Ok-Compensate-clause-does : goal.returns-in-Ok-Compensate-clause-does
returns-in-Ok-Compensate-clause-does g c newest records history x u rest h unfinished at split update =
    let is = c.in-Ok-Compensate.ensures.step c.args.pages.now newest records history x u rest c.requires.going.sizes h unfinished at split in
    undoes_read c.requires.going.sizes h c.in-Ok-Compensate.ensures.reads
    (c.put_back.ensures.does newest records history x u rest (held_read h c.read_step.ensures.reads) unfinished at split
    (subst (IsStepOf c.args.at c.args.log.now.geometry.pages u.rec) c.in-Ok-Compensate.field-0-is is))

pub returns-in-Ok-Compensate-clause-works : goal.returns-in-Ok-Compensate-clause-works
returns-in-Ok-Compensate-clause-works g c = works_then (works_read c.requires.going c.in-Ok-Compensate.ensures.reads) c.put_back.ensures.works

pub returns-in-Ok-Pass-clause-does : goal.returns-in-Ok-Pass-clause-does
returns-in-Ok-Pass-clause-does g c newest records history x u rest h unfinished at split update =
    let is = c.in-Ok-Pass.ensures.step c.args.pages.now newest records history x u rest c.requires.going.sizes h unfinished at split in
    let clr = is_a_clr c.args.at c.args.log.now.geometry.pages u.rec c.in-Ok-Pass.field-0-0 (subst (IsStepOf c.args.at c.args.log.now.geometry.pages u.rec) c.in-Ok-Pass.field-0-is is) in
    absurd (no_update u.rec clr.0 update)

pub returns-in-Err-clause-does : goal.returns-in-Err-clause-does
returns-in-Err-clause-does g c newest records history x u rest h unfinished at split update =
    undoes_unread (clr_work u) (works_of (u ∷ [])) c.requires.going h c.in-Err.ensures.reads (c.in-Err.ensures.readable c.args.pages.now newest records history x u rest c.requires.going.sizes h unfinished at split) (omega arith)

pub returns-in-Ok-Compensate-clause-last : goal.returns-in-Ok-Compensate-clause-last
returns-in-Ok-Compensate-clause-last g c = IfOk-weaker c.put_back.result (λ now. (end_of c.args.log.now ≤ now.last) × (now.last < end_of c.put_back.new.log)) (λ now. now.last < end_of c.put_back.new.log) (λ now last. last.1) c.put_back.ensures.last
