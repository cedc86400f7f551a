use Rattle.redo_undo.proofs.Names.{History, settled, ◌+◌, refl, ap, ◌∙◌, arith, sym, ℕ, List, ◌≡◌, ◌≤◌, Ok, IsTrue, Result, Master, master_of, IsUnfinished, IsActive, Entry, entries_of, updates_in, left_open, PageStore, Content, Write, write_touch, asks_same, asks_err, asks_ok, asks_fails, active_is_undone_by, StepsMachine, undo_one_works, KeepsNext, RollsBackOver, TransactionStore, performs_answered, performs_refused, State, Geometry, Stop, Foreign}
use Rattle.redo_undo.specs.Stores.{Holds}
use Rattle.redo_undo.proofs.store.TransactionStore.roll_back.Goals.{After-undo_one, In-Ok}
use Rattle.redo_undo.proofs.store.TransactionStore.roll_back.Given.{Over}
use Rattle.redo_undo.proofs.Calling.{keeps_few, keeps_failed, keeps_answered, works_foreign}
use Rattle.redo_undo.proofs.StoreCalling.{keeps_settled, keeps_of, works_at_error}
use Rattle.std.specs.Prelude.{Option, map, reverse, length}
use Rattle.std.proofs.Common.{rules}
use Rattle.redo_undo.proofs.Saved.{some_leaves_for, finds_kept}
use Rattle.redo_undo.proofs.NextUnits.{store_next, next_answered}
use Rattle.redo_undo.proofs.StoreRollbacks.{active_left, rolls_back, has_room}
use Rattle.redo_undo.proofs.MirroringStores.{store_performs, undoing_saves_none}
use Rattle.redo_undo.proofs.store.TransactionStore.roll_back.Goals as goal

-- What undoing it leaves.
module _ (g : Over) (c : After-undo_one g) (newest : Option Master) (records : List Entry) (history : History) (h : Holds c.args.self.now (g.S.Site.state c.args.site.now) newest records history)
    (writes : List Write) (active : IsActive (master_of newest) records c.args.entry.begin c.args.entry.last writes) where
  found : (chain : List Entry) × IsUnfinished records (record { txn = c.args.entry.begin; last = c.args.entry.last; next = c.args.entry.last; remaining = length writes; chain = chain }) × (length chain ≤ length (updates_in (entries_of c.args.entry.begin records)))
  found = active_left c.args.self.now (g.S.Site.state c.args.site.now) newest records history c.args.entry.begin c.args.entry.last writes h active

  left : IsUnfinished records (record { txn = c.args.entry.begin; last = c.args.entry.last; next = c.args.entry.last; remaining = length writes; chain = found.0 })
  left = found.1

  asked : {T : Type 0} {r : Result T Stop} {pages : PageStore} {now : State} → StepsMachine r (undo_one_works records c.args.entry.begin) c.args.self.now.pages pages (g.S.Site.state c.args.site.now) now →
      StepsMachine r (map (λ (write : Write). write_touch write.0) (reverse writes)) c.args.self.now.pages pages (g.S.Site.state c.args.site.now) now
  asked {r = r} {pages = pages} {now = now} asks = asks_same r _ _ c.args.self.now.pages pages (g.S.Site.state c.args.site.now) now (sym (active_is_undone_by newest records c.args.entry.begin c.args.entry.last writes active)) asks

  read : (g.S.Site.state c.undo_one.new.site).log_reads ≤ (g.S.Site.state c.args.site.now).log_reads + length (updates_in (entries_of c.args.entry.begin records))
  read =
      let few = (c.undo_one.ensures.does newest records history _ h.both left refl refl refl).log_reads in
      omega (arith, few, found.2)

module _ (g : Over) (c : In-Ok g) (newest : Option Master) (records : List Entry) (history : History) (h : Holds c.args.self.now (g.S.Site.state c.args.site.now) newest records history)
    (writes : List Write) (active : IsActive (master_of newest) records c.args.entry.begin c.args.entry.last writes) (count : length writes ≡ c.args.entry.writes) where
  abbrev after : TransactionStore
  after = record { log = c.undo_one.new.log; pages = c.undo_one.new.pages; masters = c.args.self.now.masters; made = c.args.self.now.made + (c.args.entry.writes + 1) }

  back : RollsBackOver after (g.S.Site.state c.undo_one.new.site) newest records history c.args.entry.begin c.args.entry.writes
  back =
      let left = (active_left c.args.self.now (g.S.Site.state c.args.site.now) newest records history c.args.entry.begin c.args.entry.last writes h active).1 in
      rolls_back c.args.self.now after _ _ newest records history c.args.entry.begin c.args.entry.last c.args.entry.writes writes h active count (c.in-Ok.ensures.undone newest records history _ h.both left refl refl refl)
      (finds_kept c.args.self.now.masters _ _ c.requires.going.shape ((c.in-Ok.ensures.does newest records history _ h.both left refl refl refl).keeps.masters refl) h.masters)

pub returns-in-Err-clause-keeps_over : goal.returns-in-Err-clause-keeps_over
returns-in-Err-clause-keeps_over g c =
    let s = (goal.at.returns-in-Err-clause-keeps_over g c).After-undo_one in
    λ newest records history h writes active count owes.
    keeps_of (some_leaves_for newest _ _ _ history _) (keeps_few (omega (arith, count)) (keeps_failed (c.in-Err.ensures.does newest records history _ h.both (left g s newest records history h writes active) refl refl refl).keeps))

pub returns-in-Err-clause-keeps : goal.returns-in-Err-clause-keeps
returns-in-Err-clause-keeps g c newest records table commits h writes active count owes = keeps_settled (returns-in-Err-clause-keeps_over g c newest records (settled table commits) h writes active count owes)

pub returns-in-Err-clause-asks_over : goal.returns-in-Err-clause-asks_over
returns-in-Err-clause-asks_over g c =
    let s = (goal.at.returns-in-Err-clause-asks_over g c).After-undo_one in
    λ newest records history h writes active.
    asked g s newest records history h writes active (asks_err c.in-Err.stop _ _ _ _ _ (c.in-Err.ensures.does newest records history _ h.both (left g s newest records history h writes active) refl refl refl).asks)

pub returns-in-Err-clause-asks : goal.returns-in-Err-clause-asks
returns-in-Err-clause-asks g c newest records table commits = returns-in-Err-clause-asks_over g c newest records (settled table commits)

pub returns-in-Err-clause-log_reads_over : goal.returns-in-Err-clause-log_reads_over
returns-in-Err-clause-log_reads_over g c =
    let s = (goal.at.returns-in-Err-clause-log_reads_over g c).After-undo_one in
    λ newest records history h writes active. read g s newest records history h writes active

pub returns-in-Err-clause-log_reads : goal.returns-in-Err-clause-log_reads
returns-in-Err-clause-log_reads g c newest records table commits = returns-in-Err-clause-log_reads_over g c newest records (settled table commits)

pub returns-in-Err-clause-performs_over : goal.returns-in-Err-clause-performs_over
returns-in-Err-clause-performs_over g c =
    let s = (goal.at.returns-in-Err-clause-performs_over g c).After-undo_one in
    λ newest records history h writes active.
    store_performs (undoing_saves_none (left_open records c.args.entry.begin)) refl (c.in-Err.ensures.does newest records history _ h.both (left g s newest records history h writes active) refl refl refl).performs

pub returns-in-Err-clause-performs : goal.returns-in-Err-clause-performs
returns-in-Err-clause-performs g c newest records table commits = returns-in-Err-clause-performs_over g c newest records (settled table commits)

pub returns-in-Err-clause-works : goal.returns-in-Err-clause-works
returns-in-Err-clause-works g c =
    works_at_error c.requires.going refl c.in-Err.ensures.works

-- as many blocks as the transaction may take are never exceeded
pub returns-then-blocks-before-clause-keeps_over : goal.returns-then-blocks-before-clause-keeps_over
returns-then-blocks-before-clause-keeps_over g c =
    let s = (goal.at.returns-then-blocks-before-clause-keeps_over g c).After-undo_one in
    λ newest records history h writes active count owes.
    absurd (omega (arith, c.in-Ok.ensures.blocks newest records history _ h.both (left g s newest records history h writes active) refl refl refl, c.blocks-before.ensures, c.if-blocks-before.true, c.blocks-blocks.ensures, count))

pub returns-then-blocks-before-clause-keeps : goal.returns-then-blocks-before-clause-keeps
returns-then-blocks-before-clause-keeps g c newest records table commits h writes active count owes = keeps_settled (returns-then-blocks-before-clause-keeps_over g c newest records (settled table commits) h writes active count owes)

pub returns-then-blocks-before-clause-asks_over : goal.returns-then-blocks-before-clause-asks_over
returns-then-blocks-before-clause-asks_over g c =
    let s = (goal.at.returns-then-blocks-before-clause-asks_over g c).After-undo_one in
    λ newest records history h writes active.
    asked g s newest records history h writes active (asks_fails c.in-Ok.field-0 Foreign _ _ _ _ _ (c.in-Ok.ensures.does newest records history _ h.both (left g s newest records history h writes active) refl refl refl).asks)

pub returns-then-blocks-before-clause-asks : goal.returns-then-blocks-before-clause-asks
returns-then-blocks-before-clause-asks g c newest records table commits = returns-then-blocks-before-clause-asks_over g c newest records (settled table commits)

pub returns-then-blocks-before-clause-log_reads_over : goal.returns-then-blocks-before-clause-log_reads_over
returns-then-blocks-before-clause-log_reads_over g c =
    let s = (goal.at.returns-then-blocks-before-clause-log_reads_over g c).After-undo_one in
    λ newest records history h writes active. read g s newest records history h writes active

pub returns-then-blocks-before-clause-log_reads : goal.returns-then-blocks-before-clause-log_reads
returns-then-blocks-before-clause-log_reads g c newest records table commits = returns-then-blocks-before-clause-log_reads_over g c newest records (settled table commits)

pub returns-then-blocks-before-clause-performs_over : goal.returns-then-blocks-before-clause-performs_over
returns-then-blocks-before-clause-performs_over g c =
    λ newest records history h writes active. performs_refused (λ dev same. cc)

pub returns-then-blocks-before-clause-performs : goal.returns-then-blocks-before-clause-performs
returns-then-blocks-before-clause-performs g c newest records table commits = returns-then-blocks-before-clause-performs_over g c newest records (settled table commits)

pub returns-then-blocks-before-clause-works : goal.returns-then-blocks-before-clause-works
returns-then-blocks-before-clause-works g c =
    works_at_error {A = Unit {0}} c.requires.going refl (works_foreign c.in-Ok.ensures.works)

-- there is room for what the others owe
pub returns-then-blocks-owed-clause-keeps_over : goal.returns-then-blocks-owed-clause-keeps_over
returns-then-blocks-owed-clause-keeps_over g c =
    let at = goal.at.returns-then-blocks-owed-clause-keeps_over g c in
    λ newest records history h writes active count owes.
    let ok = at.In-Ok in
    let room = has_room (after g ok newest records history h writes active count) _ newest records history c.args.entry.begin c.args.entry.writes c.args.owed (back g ok newest records history h writes active count) owes in
    let going = c.in-Ok.ensures.works.going in
    let sizes = ap (λ (x : Geometry). x.blocks) (c.geometry.ensures ∙ going.sizes) in
    let own = ap (λ (x : Geometry). x.blocks) c.geometry.ensures in
    absurd (omega (arith, room, c.if-blocks-owed.true, c.blocks-blocks.ensures, sizes, own, going.log_going.limits.blocks, c.kept.ensures))

pub returns-then-blocks-owed-clause-keeps : goal.returns-then-blocks-owed-clause-keeps
returns-then-blocks-owed-clause-keeps g c newest records table commits h writes active count owes = keeps_settled (returns-then-blocks-owed-clause-keeps_over g c newest records (settled table commits) h writes active count owes)

pub returns-then-blocks-owed-clause-asks_over : goal.returns-then-blocks-owed-clause-asks_over
returns-then-blocks-owed-clause-asks_over g c =
    let at = goal.at.returns-then-blocks-owed-clause-asks_over g c in
    let s = at.After-undo_one in
    λ newest records history h writes active.
    asked g s newest records history h writes active (asks_fails c.in-Ok.field-0 Foreign _ _ _ _ _ (c.in-Ok.ensures.does newest records history _ h.both (left g s newest records history h writes active) refl refl refl).asks)

pub returns-then-blocks-owed-clause-asks : goal.returns-then-blocks-owed-clause-asks
returns-then-blocks-owed-clause-asks g c newest records table commits = returns-then-blocks-owed-clause-asks_over g c newest records (settled table commits)

pub returns-then-blocks-owed-clause-log_reads_over : goal.returns-then-blocks-owed-clause-log_reads_over
returns-then-blocks-owed-clause-log_reads_over g c =
    let at = goal.at.returns-then-blocks-owed-clause-log_reads_over g c in
    let s = at.After-undo_one in
    λ newest records history h writes active. read g s newest records history h writes active

pub returns-then-blocks-owed-clause-log_reads : goal.returns-then-blocks-owed-clause-log_reads
returns-then-blocks-owed-clause-log_reads g c newest records table commits = returns-then-blocks-owed-clause-log_reads_over g c newest records (settled table commits)

pub returns-then-blocks-owed-clause-performs_over : goal.returns-then-blocks-owed-clause-performs_over
returns-then-blocks-owed-clause-performs_over g c =
    λ newest records history h writes active. performs_refused (λ dev same. cc)

pub returns-then-blocks-owed-clause-performs : goal.returns-then-blocks-owed-clause-performs
returns-then-blocks-owed-clause-performs g c newest records table commits = returns-then-blocks-owed-clause-performs_over g c newest records (settled table commits)

pub returns-then-blocks-owed-clause-works : goal.returns-then-blocks-owed-clause-works
returns-then-blocks-owed-clause-works g c =
    works_at_error {A = Unit {0}} c.requires.going refl (works_foreign c.in-Ok.ensures.works)

pub returns-clause-undone_over : goal.returns-clause-undone_over
returns-clause-undone_over g c newest records history h writes active count = back g (goal.at.returns-clause-undone_over g c).In-Ok newest records history h writes active count

pub returns-clause-undone : goal.returns-clause-undone
returns-clause-undone g c newest records table commits = returns-clause-undone_over g c newest records (settled table commits)

pub returns-clause-keeps_over : goal.returns-clause-keeps_over
returns-clause-keeps_over g c newest records history h writes active count owes =
    let left = left g (goal.at.returns-clause-keeps_over g c).After-undo_one newest records history h writes active in
    keeps_of (some_leaves_for newest _ _ _ history _) (keeps_few (omega (arith, count)) (keeps_answered (c.in-Ok.ensures.does newest records history _ h.both left refl refl refl).keeps))

pub returns-clause-keeps : goal.returns-clause-keeps
returns-clause-keeps g c newest records table commits h writes active count owes = keeps_settled (returns-clause-keeps_over g c newest records (settled table commits) h writes active count owes)

pub returns-clause-asks_over : goal.returns-clause-asks_over
returns-clause-asks_over g c newest records history h writes active =
    let s = (goal.at.returns-clause-asks_over g c).After-undo_one in
    asked g s newest records history h writes active (asks_ok c.in-Ok.field-0 _ _ _ _ _ _ (c.in-Ok.ensures.does newest records history _ h.both (left g s newest records history h writes active) refl refl refl).asks)

pub returns-clause-asks : goal.returns-clause-asks
returns-clause-asks g c newest records table commits = returns-clause-asks_over g c newest records (settled table commits)

pub returns-clause-log_reads_over : goal.returns-clause-log_reads_over
returns-clause-log_reads_over g c = read g (goal.at.returns-clause-log_reads_over g c).After-undo_one

pub returns-clause-log_reads : goal.returns-clause-log_reads
returns-clause-log_reads g c newest records table commits = returns-clause-log_reads_over g c newest records (settled table commits)

pub returns-clause-performs_over : goal.returns-clause-performs_over
returns-clause-performs_over g c newest records history h writes active =
    let left = left g (goal.at.returns-clause-performs_over g c).After-undo_one newest records history h writes active in
    store_performs (undoing_saves_none (left_open records c.args.entry.begin)) refl (performs_answered (c.in-Ok.ensures.does newest records history _ h.both left refl refl refl).performs)

pub returns-clause-performs : goal.returns-clause-performs
returns-clause-performs g c newest records table commits = returns-clause-performs_over g c newest records (settled table commits)

pub returns-clause-works : goal.returns-clause-works
returns-clause-works g c =
    let works = c.in-Ok.ensures.works in
    let next : IsTrue (g.S.Site.state c.args.site.now).honest → KeepsNext {T = Unit {0}} (Ok tt) c.args.self.now (record c.args.self.now { log = c.undo_one.new.log; pages = c.undo_one.new.pages; made = c.args.self.now.made + (c.args.entry.writes + 1) }) (g.S.Site.state c.args.site.now) (g.S.Site.state c.undo_one.new.site) =
    λ honest. next_answered (store_next c.requires.going.both.sizes refl tt (works.next honest)) in
    search rules
