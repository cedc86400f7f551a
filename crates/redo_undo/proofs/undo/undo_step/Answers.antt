use Rattle.redo_undo.proofs.Names.{[], ◌∷◌, ◌≤◌, ◌<◌, refl, subst, arith, IfOk-weaker, clr_is_read, end_of, going_still, blocks_to, works_of, IsStepOf, clr_work}
use Rattle.redo_undo.proofs.UndoSoFar.{logged_blocks}
use Rattle.redo_undo.proofs.Calling.{held_read, works_answered, works_read, works_then}
use Rattle.redo_undo.proofs.Compensations.{is_a_clr, is_an_update, no_update}
use Rattle.redo_undo.proofs.UndoCalls.{undoes_answered, undoes_nothing, undoes_read, undoes_unread}
use Rattle.redo_undo.proofs.undo.undo_step.Goals as goal

pub put_back-requires-clause-going : goal.put_back-requires-clause-going
put_back-requires-clause-going g c = going_still c.args.log.now c.args.pages.now (g.S.Site.state c.args.site.now) (g.S.Site.state c.read_step.new.site) c.read_step.ensures.reads.preserves c.requires.going

-- An Update is read.

pub returns-in-Ok-Compensate-clause-undone : goal.returns-in-Ok-Compensate-clause-undone
returns-in-Ok-Compensate-clause-undone g c newest records history x u rest h unfinished at split update =
    let is = c.in-Ok-Compensate.ensures.step c.args.pages.now newest records history x u rest c.requires.going.sizes h unfinished at split in
    c.put_back.ensures.undone newest records history x u rest (held_read h c.read_step.ensures.reads) unfinished at split
    (subst (IsStepOf c.args.at c.args.log.now.geometry.pages u.rec) c.in-Ok-Compensate.field-0-is is)

pub returns-in-Ok-Compensate-clause-does : goal.returns-in-Ok-Compensate-clause-does
returns-in-Ok-Compensate-clause-does g c newest records history x u rest h unfinished at split update =
    let is = c.in-Ok-Compensate.ensures.step c.args.pages.now newest records history x u rest c.requires.going.sizes h unfinished at split in
    undoes_read c.requires.going.sizes h c.in-Ok-Compensate.ensures.reads
    (c.put_back.ensures.does newest records history x u rest (held_read h c.read_step.ensures.reads) unfinished at split
    (subst (IsStepOf c.args.at c.args.log.now.geometry.pages u.rec) c.in-Ok-Compensate.field-0-is is))

pub returns-in-Ok-Compensate-clause-works : goal.returns-in-Ok-Compensate-clause-works
returns-in-Ok-Compensate-clause-works g c = works_then (works_read c.requires.going c.in-Ok-Compensate.ensures.reads) c.put_back.ensures.works

pub returns-in-Ok-Pass-clause-does : goal.returns-in-Ok-Pass-clause-does
returns-in-Ok-Pass-clause-does g c newest records history x u rest h unfinished at split update =
    let is = c.in-Ok-Pass.ensures.step c.args.pages.now newest records history x u rest c.requires.going.sizes h unfinished at split in
    let clr = is_a_clr c.args.at c.args.log.now.geometry.pages u.rec c.in-Ok-Pass.next (subst (IsStepOf c.args.at c.args.log.now.geometry.pages u.rec) c.in-Ok-Pass.field-0-is is) in
    absurd (no_update u.rec clr.0 update)

pub returns-in-Err-clause-does : goal.returns-in-Err-clause-does
returns-in-Err-clause-does g c newest records history x u rest h unfinished at split update =
    undoes_unread (clr_work u) (works_of (u ∷ [])) c.requires.going h c.in-Err.ensures.reads (c.in-Err.ensures.readable c.args.pages.now newest records history x u rest c.requires.going.sizes h unfinished at split) (omega arith)

pub returns-in-Ok-Compensate-clause-passed : goal.returns-in-Ok-Compensate-clause-passed
returns-in-Ok-Compensate-clause-passed g c newest records history x e rest h unfinished at split clr =
    let is = c.in-Ok-Compensate.ensures.step c.args.pages.now newest records history x e rest c.requires.going.sizes h unfinished at split in
    let update = is_an_update c.args.at c.args.log.now.geometry.pages e.rec c.in-Ok-Compensate.wanted (subst (IsStepOf c.args.at c.args.log.now.geometry.pages e.rec) c.in-Ok-Compensate.field-0-is is) in
    absurd (no_update e.rec clr update)

pub returns-in-Ok-Compensate-clause-passes : goal.returns-in-Ok-Compensate-clause-passes
returns-in-Ok-Compensate-clause-passes g c newest records history x e rest h unfinished at split clr =
    let is = c.in-Ok-Compensate.ensures.step c.args.pages.now newest records history x e rest c.requires.going.sizes h unfinished at split in
    let update = is_an_update c.args.at c.args.log.now.geometry.pages e.rec c.in-Ok-Compensate.wanted (subst (IsStepOf c.args.at c.args.log.now.geometry.pages e.rec) c.in-Ok-Compensate.field-0-is is) in
    absurd (no_update e.rec clr update)

pub returns-in-Ok-Compensate-clause-last : goal.returns-in-Ok-Compensate-clause-last
returns-in-Ok-Compensate-clause-last g c =
    IfOk-weaker c.put_back.result (λ now. (end_of c.args.log.now ≤ now.last) × (now.last < end_of c.put_back.new.log)) (λ now. (c.args.at.last ≤ now.last) × (now.last < end_of c.put_back.new.log))
    (λ now last. (omega (arith, c.requires.last, last.0), last.1)) c.put_back.ensures.last

pub returns-in-Ok-Compensate-clause-blocks : goal.returns-in-Ok-Compensate-clause-blocks
returns-in-Ok-Compensate-clause-blocks g c = logged_blocks c.put_back.result c.args.at (end_of c.args.log.now) (end_of c.put_back.new.log) (blocks_to c.args.log.now) (blocks_to c.put_back.new.log) c.requires.last c.put_back.ensures.last c.put_back.ensures.blocks

-- A CLR is read.

pub returns-in-Ok-Pass-clause-undone : goal.returns-in-Ok-Pass-clause-undone
returns-in-Ok-Pass-clause-undone g c newest records history x u rest h unfinished at split update =
    let is = c.in-Ok-Pass.ensures.step c.args.pages.now newest records history x u rest c.requires.going.sizes h unfinished at split in
    let clr = is_a_clr c.args.at c.args.log.now.geometry.pages u.rec c.in-Ok-Pass.next (subst (IsStepOf c.args.at c.args.log.now.geometry.pages u.rec) c.in-Ok-Pass.field-0-is is) in
    absurd (no_update u.rec clr.0 update)

pub returns-in-Ok-Pass-clause-passed : goal.returns-in-Ok-Pass-clause-passed
returns-in-Ok-Pass-clause-passed g c newest records history x e rest h unfinished at split clr =
    let is = c.in-Ok-Pass.ensures.step c.args.pages.now newest records history x e rest c.requires.going.sizes h unfinished at split in
    let back = is_a_clr c.args.at c.args.log.now.geometry.pages e.rec c.in-Ok-Pass.next (subst (IsStepOf c.args.at c.args.log.now.geometry.pages e.rec) c.in-Ok-Pass.field-0-is is) in
    record {
      same = refl;
      holds = held_read h c.read_step.ensures.reads;
      left = clr_is_read records x unfinished e rest split clr;
      at = record { txn = at.txn; last = at.last; next = back.1 };
    }

pub returns-in-Ok-Pass-clause-passes : goal.returns-in-Ok-Pass-clause-passes
returns-in-Ok-Pass-clause-passes g c newest records history x e rest h unfinished at split clr =
    undoes_answered (undoes_read {k = 0} c.requires.going.sizes h c.in-Ok-Pass.ensures.reads (undoes_nothing c.requires.going.sizes (held_read h c.read_step.ensures.reads)))

pub returns-in-Ok-Pass-clause-works : goal.returns-in-Ok-Pass-clause-works
returns-in-Ok-Pass-clause-works g c = works_answered (works_read c.requires.going c.in-Ok-Pass.ensures.reads)

pub returns-in-Err-clause-passes : goal.returns-in-Err-clause-passes
returns-in-Err-clause-passes g c newest records history x e rest h unfinished at split clr =
    undoes_unread [] [] c.requires.going h c.in-Err.ensures.reads (c.in-Err.ensures.readable c.args.pages.now newest records history x e rest c.requires.going.sizes h unfinished at split) (omega arith)
