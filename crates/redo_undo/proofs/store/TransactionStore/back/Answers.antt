use Rattle.redo_undo.proofs.Names.{History, settled, ◌+◌, ◌-◌, take, drop, refl, arith, sym, ℕ, List, ◌≤◌, Ok, IsTrue, Result, Master, master_of, IsUnfinished, IsActive, Entry, entries_of, updates_in, left_open, PageStore, Content, Write, write_touch, asks_same, asks_err, asks_ok, last_are_undone_by, StepsMachine, works_of, KeepsNext, TransactionStore, performs_answered, State, Stop}
use Rattle.std.specs.Prelude.{Option, map, reverse, length}
use Rattle.std.proofs.Common.{rules}
use Rattle.redo_undo.specs.Stores.{Holds}
use Rattle.redo_undo.proofs.Calling.{keeps_failed, keeps_answered}
use Rattle.redo_undo.proofs.MirroringStores.{store_performs, clrs_save_none}
use Rattle.redo_undo.proofs.NextUnits.{store_next, next_answered}
use Rattle.redo_undo.proofs.Saved.{some_leaves_for, finds_kept}
use Rattle.redo_undo.proofs.StoreCalling.{keeps_settled, keeps_of, works_at_error}
use Rattle.redo_undo.proofs.StoreRollbacks.{active_left, goes_back}
use Rattle.redo_undo.proofs.store.TransactionStore.back.Given.{Over}
use Rattle.redo_undo.proofs.store.TransactionStore.back.Goals.{After-undo_to}
use Rattle.redo_undo.proofs.store.TransactionStore.back.Goals as goal

module _ (g : Over) (c : After-undo_to g) (newest : Option Master) (records : List Entry) (history : History) (h : Holds c.args.self.now (g.S.Site.state c.args.site.now) newest records history)
    (writes : List Write) (active : IsActive (master_of newest) records c.args.entry.begin c.args.entry.last writes) where
  found : (chain : List Entry) × IsUnfinished records (record { txn = c.args.entry.begin; last = c.args.entry.last; next = c.args.entry.last; remaining = length writes; chain = chain }) × (length chain ≤ length (updates_in (entries_of c.args.entry.begin records)))
  found = active_left c.args.self.now (g.S.Site.state c.args.site.now) newest records history c.args.entry.begin c.args.entry.last writes h active

  left : IsUnfinished records (record { txn = c.args.entry.begin; last = c.args.entry.last; next = c.args.entry.last; remaining = length writes; chain = found.0 })
  left = found.1

  asked : {T : Type 0} {r : Result T Stop} {pages : PageStore} {now : State} → c.args.count ≤ length writes → StepsMachine r (works_of (take c.args.count (left_open records c.args.entry.begin))) c.args.self.now.pages pages (g.S.Site.state c.args.site.now) now →
      StepsMachine r (map (λ (write : Write). write_touch write.0) (reverse (drop (length writes - c.args.count) writes))) c.args.self.now.pages pages (g.S.Site.state c.args.site.now) now
  asked {r = r} {pages = pages} {now = now} few asks =
      asks_same r _ _ c.args.self.now.pages pages (g.S.Site.state c.args.site.now) now (sym (last_are_undone_by newest records c.args.entry.begin c.args.entry.last c.args.count writes active few)) asks

  read : c.args.count ≤ length writes → (g.S.Site.state c.undo_to.new.site).log_reads ≤ (g.S.Site.state c.args.site.now).log_reads + (c.args.count + (length (updates_in (entries_of c.args.entry.begin records)) - length writes))
  read few =
      let reads = (c.undo_to.ensures.does newest records history _ h.both left refl refl refl few).log_reads in
      omega (arith, reads, found.2)

pub returns-in-Ok-clause-undone_over : goal.returns-in-Ok-clause-undone_over
returns-in-Ok-clause-undone_over g c =
    let s = (goal.at.returns-in-Ok-clause-undone_over g c).After-undo_to in
    let after : TransactionStore = record c.args.self.now { log = c.undo_to.new.log; pages = c.undo_to.new.pages; made = c.args.self.now.made + c.args.count } in
    λ newest records history h writes active few.
    let left = left g s newest records history h writes active in
    goes_back c.args.self.now after _ _ newest records history c.args.entry.begin c.args.entry.last c.args.count c.in-Ok.last writes h active (c.in-Ok.ensures.undone newest records history _ h.both left refl refl refl few)
    (finds_kept c.args.self.now.masters _ _ c.requires.going.shape ((c.in-Ok.ensures.does newest records history _ h.both left refl refl refl few).keeps.masters refl) h.masters)

pub returns-in-Ok-clause-undone : goal.returns-in-Ok-clause-undone
returns-in-Ok-clause-undone g c newest records table commits = returns-in-Ok-clause-undone_over g c newest records (settled table commits)

pub returns-in-Ok-clause-keeps_over : goal.returns-in-Ok-clause-keeps_over
returns-in-Ok-clause-keeps_over g c =
    let s = (goal.at.returns-in-Ok-clause-keeps_over g c).After-undo_to in
    λ newest records history h writes active few.
    keeps_of (some_leaves_for newest _ _ _ history _) (keeps_answered (c.in-Ok.ensures.does newest records history _ h.both (left g s newest records history h writes active) refl refl refl few).keeps)

pub returns-in-Ok-clause-keeps : goal.returns-in-Ok-clause-keeps
returns-in-Ok-clause-keeps g c newest records table commits h writes active few = keeps_settled (returns-in-Ok-clause-keeps_over g c newest records (settled table commits) h writes active few)

pub returns-in-Ok-clause-asks_over : goal.returns-in-Ok-clause-asks_over
returns-in-Ok-clause-asks_over g c =
    let s = (goal.at.returns-in-Ok-clause-asks_over g c).After-undo_to in
    λ newest records history h writes active few.
    asked g s newest records history h writes active few (asks_ok c.in-Ok.last _ _ _ _ _ _ (c.in-Ok.ensures.does newest records history _ h.both (left g s newest records history h writes active) refl refl refl few).asks)

pub returns-in-Ok-clause-asks : goal.returns-in-Ok-clause-asks
returns-in-Ok-clause-asks g c newest records table commits = returns-in-Ok-clause-asks_over g c newest records (settled table commits)

pub returns-in-Ok-clause-log_reads_over : goal.returns-in-Ok-clause-log_reads_over
returns-in-Ok-clause-log_reads_over g c =
    let s = (goal.at.returns-in-Ok-clause-log_reads_over g c).After-undo_to in
    λ newest records history h writes active few. read g s newest records history h writes active few

pub returns-in-Ok-clause-log_reads : goal.returns-in-Ok-clause-log_reads
returns-in-Ok-clause-log_reads g c newest records table commits = returns-in-Ok-clause-log_reads_over g c newest records (settled table commits)

pub returns-in-Ok-clause-performs_over : goal.returns-in-Ok-clause-performs_over
returns-in-Ok-clause-performs_over g c =
    let s = (goal.at.returns-in-Ok-clause-performs_over g c).After-undo_to in
    λ newest records history h writes active few.
    store_performs (clrs_save_none (take c.args.count (left_open records c.args.entry.begin))) refl (performs_answered (c.in-Ok.ensures.does newest records history _ h.both (left g s newest records history h writes active) refl refl refl few).performs)

pub returns-in-Ok-clause-performs : goal.returns-in-Ok-clause-performs
returns-in-Ok-clause-performs g c newest records table commits = returns-in-Ok-clause-performs_over g c newest records (settled table commits)

pub returns-in-Ok-clause-last : goal.returns-in-Ok-clause-last
returns-in-Ok-clause-last g c = c.in-Ok.ensures.last

pub returns-in-Ok-clause-works : goal.returns-in-Ok-clause-works
returns-in-Ok-clause-works g c =
    let works = c.in-Ok.ensures.works in
    let after : TransactionStore = record c.args.self.now { log = c.undo_to.new.log; pages = c.undo_to.new.pages; made = c.args.self.now.made + c.args.count } in
    let next : IsTrue (g.S.Site.state c.args.site.now).honest → KeepsNext {T = ℕ} (Ok c.in-Ok.last) c.args.self.now after (g.S.Site.state c.args.site.now) (g.S.Site.state c.undo_to.new.site) =
    λ honest. next_answered (store_next c.requires.going.both.sizes refl tt (works.next honest)) in
    search rules

pub returns-in-Err-clause-keeps_over : goal.returns-in-Err-clause-keeps_over
returns-in-Err-clause-keeps_over g c =
    let s = (goal.at.returns-in-Err-clause-keeps_over g c).After-undo_to in
    λ newest records history h writes active few.
    keeps_of (some_leaves_for newest _ _ _ history _) (keeps_failed (c.in-Err.ensures.does newest records history _ h.both (left g s newest records history h writes active) refl refl refl few).keeps)

pub returns-in-Err-clause-keeps : goal.returns-in-Err-clause-keeps
returns-in-Err-clause-keeps g c newest records table commits h writes active few = keeps_settled (returns-in-Err-clause-keeps_over g c newest records (settled table commits) h writes active few)

pub returns-in-Err-clause-asks_over : goal.returns-in-Err-clause-asks_over
returns-in-Err-clause-asks_over g c =
    let s = (goal.at.returns-in-Err-clause-asks_over g c).After-undo_to in
    λ newest records history h writes active few.
    asked g s newest records history h writes active few (asks_err c.in-Err.stop _ _ _ _ _ (c.in-Err.ensures.does newest records history _ h.both (left g s newest records history h writes active) refl refl refl few).asks)

pub returns-in-Err-clause-asks : goal.returns-in-Err-clause-asks
returns-in-Err-clause-asks g c newest records table commits = returns-in-Err-clause-asks_over g c newest records (settled table commits)

pub returns-in-Err-clause-log_reads_over : goal.returns-in-Err-clause-log_reads_over
returns-in-Err-clause-log_reads_over g c =
    let s = (goal.at.returns-in-Err-clause-log_reads_over g c).After-undo_to in
    λ newest records history h writes active few. read g s newest records history h writes active few

pub returns-in-Err-clause-log_reads : goal.returns-in-Err-clause-log_reads
returns-in-Err-clause-log_reads g c newest records table commits = returns-in-Err-clause-log_reads_over g c newest records (settled table commits)

pub returns-in-Err-clause-performs_over : goal.returns-in-Err-clause-performs_over
returns-in-Err-clause-performs_over g c =
    let s = (goal.at.returns-in-Err-clause-performs_over g c).After-undo_to in
    λ newest records history h writes active few.
    store_performs (clrs_save_none (take c.args.count (left_open records c.args.entry.begin))) refl (c.in-Err.ensures.does newest records history _ h.both (left g s newest records history h writes active) refl refl refl few).performs

pub returns-in-Err-clause-performs : goal.returns-in-Err-clause-performs
returns-in-Err-clause-performs g c newest records table commits = returns-in-Err-clause-performs_over g c newest records (settled table commits)

pub returns-in-Err-clause-works : goal.returns-in-Err-clause-works
returns-in-Err-clause-works g c =
    works_at_error c.requires.going refl c.in-Err.ensures.works
