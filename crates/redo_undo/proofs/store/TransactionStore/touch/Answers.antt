use Rattle.redo_undo.proofs.Names.{History, settled, refl, IsTrue, KeepsNext}
use Rattle.std.proofs.Common.{rules}
use Rattle.redo_undo.proofs.NextUnits.{store_next}
use Rattle.redo_undo.proofs.Saved.{some_leaves_for, finds_kept}
use Rattle.redo_undo.proofs.StoreCalling.{keeps_settled, keeps_of, where_two}
use Rattle.redo_undo.proofs.MirroringStores.{store_performs}
use Rattle.redo_undo.proofs.store.TransactionStore.touch.Goals as goal

pub returns-clause-holds_over : goal.returns-clause-holds_over
returns-clause-holds_over g c newest records history h =
    let keeps = finds_kept c.args.self.now.masters (g.S.Site.state c.args.site.now) (g.S.Site.state c.touch.new.site) c.requires.going.shape in
    where_two _ _ _ c.touch.result (c.touch.ensures.holds newest records history h.both) ((c.touch.ensures.keeps newest records history h.both).masters refl)
    (λ both units. record { both = both; orderly = h.orderly; masters = keeps units h.masters })

pub returns-clause-holds : goal.returns-clause-holds
returns-clause-holds g c newest records table commits = returns-clause-holds_over g c newest records (settled table commits)

pub returns-clause-keeps_over : goal.returns-clause-keeps_over
returns-clause-keeps_over g c newest records history h = keeps_of (some_leaves_for newest _ _ _ history _) (c.touch.ensures.keeps newest records history h.both)

pub returns-clause-keeps : goal.returns-clause-keeps
returns-clause-keeps g c newest records table commits h = keeps_settled (returns-clause-keeps_over g c newest records (settled table commits) h)

pub returns-clause-works : goal.returns-clause-works
returns-clause-works g c =
    let works = c.touch.ensures.logs_nothing.works in
    let next : IsTrue (g.S.Site.state c.args.site.now).honest → KeepsNext c.touch.result c.args.self.now (record c.args.self.now { log = c.touch.new.log; pages = c.touch.new.pages })
    (g.S.Site.state c.args.site.now) (g.S.Site.state c.touch.new.site) =
    λ honest. store_next c.requires.going.both.sizes refl works.stops (works.next honest) in
    search rules

pub returns-clause-performs_over : goal.returns-clause-performs_over
returns-clause-performs_over g c newest records history h = store_performs refl refl (c.touch.ensures.performs newest records history h.both)

pub returns-clause-performs : goal.returns-clause-performs
returns-clause-performs g c newest records table commits = returns-clause-performs_over g c newest records (settled table commits)
