use Rattle.redo_undo.proofs.Names.{refl, ◌+◌, Ok, Err, IsTrue, next_logged, stages_ok, stages_err, asks_nothing, stages_log, never_worn_flash, KeepsNext, no_error}
use Rattle.std.proofs.Common.{rules}
use Rattle.redo_undo.proofs.Calling.{beside_failed, keeps_appended, works_appended}
use Rattle.redo_undo.proofs.NextUnits.{store_next}
use Rattle.redo_undo.proofs.StoreCalling.{keeps_of, works_at_error}
use Rattle.redo_undo.proofs.Saved.{some_leaves_for, finds_kept}
use Rattle.redo_undo.proofs.MirroringStores.{store_performs}
use Rattle.redo_undo.proofs.store.TransactionStore.seal.Goals as goal

pub returns-in-Ok-clause-holds : goal.returns-in-Ok-clause-holds
returns-in-Ok-clause-holds g c newest records history h = record {
  both = c.in-Ok.ensures.holds c.args.self.now.pages newest records history c.requires.going.both.sizes h.both;
  orderly = h.orderly;
  masters = finds_kept c.args.self.now.masters (g.S.Site.state c.args.site.now) (g.S.Site.state c.force.new.site) c.requires.going.shape ((c.in-Ok.ensures.keeps c.args.self.now.pages newest records history h.both).masters) h.masters;
}

pub returns-in-Ok-clause-keeps : goal.returns-in-Ok-clause-keeps
returns-in-Ok-clause-keeps g c newest records history h =
    keeps_of (some_leaves_for newest _ _ _ history _) (keeps_appended c.requires.going.both tt (c.in-Ok.ensures.keeps c.args.self.now.pages newest records history h.both))

pub returns-in-Err-clause-keeps : goal.returns-in-Err-clause-keeps
returns-in-Err-clause-keeps g c newest records history h =
    keeps_of (some_leaves_for newest _ _ _ history _) (keeps_appended c.requires.going.both c.in-Err.ensures.stops (c.in-Err.ensures.keeps c.args.self.now.pages newest records history h.both))

pub returns-in-Ok-clause-performs : goal.returns-in-Ok-clause-performs
returns-in-Ok-clause-performs g c next = store_performs refl refl (c.in-Ok.ensures.performs c.args.self.now.pages c.requires.going.both next.honest next.below)

pub returns-in-Err-clause-performs : goal.returns-in-Err-clause-performs
returns-in-Err-clause-performs g c next = store_performs refl refl (c.in-Err.ensures.performs c.args.self.now.pages c.requires.going.both next.honest next.below)

pub returns-in-Ok-clause-works : goal.returns-in-Ok-clause-works
returns-in-Ok-clause-works g c =
    let works = c.in-Ok.ensures.works in
    let next : IsTrue (g.S.Site.state c.args.site.now).honest → KeepsNext {T = Unit {0}} (Ok tt) c.args.self.now (record c.args.self.now { log = c.force.new.log }) (g.S.Site.state c.args.site.now) (g.S.Site.state c.force.new.site) =
    λ honest. store_next c.requires.going.both.sizes refl tt (next_logged (works.next honest) (works.changes honest) (λ says. no_error says)) in
    search rules

pub returns-in-Err-clause-works : goal.returns-in-Err-clause-works
returns-in-Err-clause-works g c = works_at_error c.requires.going refl (works_appended c.requires.going.both tt c.in-Err.ensures.stops (beside_failed c.in-Err.ensures.works))

pub returns-in-Ok-clause-asks : goal.returns-in-Ok-clause-asks
returns-in-Ok-clause-asks g c = asks_nothing _ c.args.self.now.pages _ _ c.force.ensures.works.reads (stages_ok (stages_log c.in-Ok.ensures.works))

pub returns-in-Err-clause-asks : goal.returns-in-Err-clause-asks
returns-in-Err-clause-asks g c = asks_nothing _ c.args.self.now.pages _ _ c.force.ensures.works.reads (stages_err (stages_log c.in-Err.ensures.works))
