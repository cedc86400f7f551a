use Rattle.redo_undo.proofs.Names.{ends_orderly, versions_on, master_of, Commit, refl, ℕ, ◌+◌, Ok, IsTrue, next_logged, stages_ok, stages_err, asks_nothing, stages_log, KeepsNext, no_error}
use Rattle.std.proofs.Common.{rules}
use Rattle.redo_undo.proofs.Calling.{keeps_appended, works_appended}
use Rattle.redo_undo.proofs.NextUnits.{store_next}
use Rattle.redo_undo.proofs.StoreCalling.{keeps_of, works_at_error}
use Rattle.redo_undo.proofs.Saved.{some_leaves_for, finds_kept}
use Rattle.redo_undo.proofs.MirroringStores.{store_performs}
use Rattle.log_laws.proofs.Appends.{commit_follows}
use Rattle.redo_undo.proofs.store.TransactionStore.log_commit.Goals as goal

pub returns-in-Ok-clause-holds : goal.returns-in-Ok-clause-holds
returns-in-Ok-clause-holds g c newest records history h may table =
    let going = c.requires.may.going in
    record {
      both = c.in-Ok.ensures.commit c.args.self.now.pages newest records history c.args.txn c.args.number going.both.sizes h.both refl may table;
      orderly = ends_orderly c.args.self.now.pages.flash.geometry c.log_record.new.log c.args.self.now.pages (g.S.Site.state c.log_record.new.site) newest records history (Commit c.args.txn c.args.number) c.in-Ok.lsn
          (versions_on c.args.self.now.pages.flash.geometry (g.S.Site.state c.args.site.now).image)
          (c.in-Ok.ensures.last c.args.self.now.pages newest records history going.both.sizes h.both) (c.log_record.ensures.pages c.args.self.now.pages newest records history h.both).versions
          (commit_follows (master_of newest) (versions_on c.args.self.now.pages.flash.geometry (g.S.Site.state c.args.site.now).image) records c.in-Ok.lsn c.args.txn c.args.number may.begun) h.orderly;
      masters = finds_kept c.args.self.now.masters (g.S.Site.state c.args.site.now) (g.S.Site.state c.log_record.new.site) going.shape ((c.in-Ok.ensures.keeps c.args.self.now.pages newest records history h.both).masters) h.masters;
    }

pub returns-in-Ok-clause-asks : goal.returns-in-Ok-clause-asks
returns-in-Ok-clause-asks g c = asks_nothing _ c.args.self.now.pages _ _ c.log_record.ensures.works.reads (stages_ok (stages_log c.in-Ok.ensures.works))

pub returns-in-Err-clause-asks : goal.returns-in-Err-clause-asks
returns-in-Err-clause-asks g c = asks_nothing _ c.args.self.now.pages _ _ c.log_record.ensures.works.reads (stages_err (stages_log c.in-Err.ensures.works))

pub returns-in-Ok-clause-keeps : goal.returns-in-Ok-clause-keeps
returns-in-Ok-clause-keeps g c newest records history h =
    keeps_of (some_leaves_for newest _ _ _ history _) (keeps_appended c.requires.may.going.both tt (c.in-Ok.ensures.keeps c.args.self.now.pages newest records history h.both))

pub returns-in-Err-clause-keeps : goal.returns-in-Err-clause-keeps
returns-in-Err-clause-keeps g c newest records history h =
    keeps_of (some_leaves_for newest _ _ _ history _) (keeps_appended c.requires.may.going.both c.in-Err.ensures.stops (c.in-Err.ensures.keeps c.args.self.now.pages newest records history h.both))

pub returns-in-Ok-clause-works : goal.returns-in-Ok-clause-works
returns-in-Ok-clause-works g c =
    let works = c.in-Ok.ensures.works in
    let next : IsTrue (g.S.Site.state c.args.site.now).honest → KeepsNext {T = ℕ} (Ok c.in-Ok.lsn) c.args.self.now (record c.args.self.now { log = c.log_record.new.log; made = c.args.self.now.made + 1 })
    (g.S.Site.state c.args.site.now) (g.S.Site.state c.log_record.new.site) =
    λ honest. store_next c.requires.may.going.both.sizes refl tt (next_logged (works.next honest) (works.changes honest) (λ says. no_error says)) in
    search rules

pub returns-in-Err-clause-works : goal.returns-in-Err-clause-works
returns-in-Err-clause-works g c = works_at_error c.requires.may.going refl (works_appended c.requires.may.going.both tt c.in-Err.ensures.stops c.in-Err.ensures.works)

pub returns-in-Ok-clause-performs : goal.returns-in-Ok-clause-performs
returns-in-Ok-clause-performs g c newest records history h = store_performs refl refl (c.in-Ok.ensures.performs c.args.self.now.pages newest records history c.requires.may.going.both h.both)

pub returns-in-Err-clause-performs : goal.returns-in-Err-clause-performs
returns-in-Err-clause-performs g c newest records history h = store_performs refl refl (c.in-Err.ensures.performs c.args.self.now.pages newest records history c.requires.may.going.both h.both)

pub returns-in-Ok-clause-next : goal.returns-in-Ok-clause-next
returns-in-Ok-clause-next g c newest records history h =
    let last = c.in-Ok.ensures.last c.args.self.now.pages newest records history c.requires.may.going.both.sizes h.both in
    record { honest = last.ready.blocks.honest; below = last.below }
