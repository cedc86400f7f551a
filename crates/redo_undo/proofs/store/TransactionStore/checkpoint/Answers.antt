use Rattle.redo_undo.proofs.Names.{calls_failed, settled, ◌≡◌, ◌-◌, refl, ap, arith, ◌≤◌, ◌∙◌, ℕ, List, ◌∷◌, [], sym, Ok, IsTrue, ⊤, Result, Master, LeavesFor, LeavesSomeUnder, Entry, LogStore, next_logged, next_then, stages_ok, stages_err, stages_beside, rules, current, Content, flush, current_same, stages_log, never_worn_flash, asks_around, flush_then, asks_refused, log_alone, MayBeMade, checkpoint_works, MirrorsStore, KeepsNext, TransactionStore, performs_by, performs_then, performs_stopped, cached, force, save, Performs, stays_honest, no_error, calls_then, err_again, State, Log, Stop, Worn}
use Rattle.std.proofs.Common.{Err}
use Rattle.redo_undo.proofs.Saved.{settled_leaves_for, may_still}
use Rattle.redo_undo.proofs.Calling.{log_stops, keeps_answered, keeps_failed, keeps_appended, keeps_saved, keeps_then, keeps_unsaved}
use Rattle.redo_undo.proofs.StoreCalling.{keeps_of}
use Rattle.std.specs.Prelude.{Option}
use Rattle.redo_undo.proofs.NextUnits.{store_next, next_saved, next_failed, next_answered}
use Rattle.redo_undo.proofs.store.TransactionStore.checkpoint.Given.{Over}
use Rattle.redo_undo.proofs.store.TransactionStore.checkpoint.Goals.{After-save_master}
use Rattle.redo_undo.proofs.Mirroring.{numbers_left}
use Rattle.redo_undo.proofs.MirroringStores.{store_performs, save_performs}
use Rattle.redo_laws.specs.Calls as calls
use Rattle.redo_undo.proofs.store.TransactionStore.checkpoint.Goals as goal
use Rattle.redo_laws.specs.Holding as both

module _ (g : Over) (c : After-save_master g) (honest : IsTrue (g.S.Site.state c.args.site.now).honest) where
  abbrev flushed : TransactionStore
  flushed = record { log = c.flush.new.log; pages = c.flush.new.pages; masters = c.args.self.now.masters; made = c.args.self.now.made }

  honest_mid : IsTrue (g.S.Site.state c.force.new.site).honest
  honest_mid = stays_honest (g.S.Site.state c.args.site.now) (g.S.Site.state c.force.new.site) c.in-Ok.ensures.works.calls.preserves honest

  pub honest_then : IsTrue (g.S.Site.state c.flush.new.site).honest
  honest_then = stays_honest (g.S.Site.state c.force.new.site) (g.S.Site.state c.flush.new.site) c.in-Ok-flush.ensures.works.calls.preserves honest_mid

  pub next_flushed : KeepsNext {T = Unit {0}} (Ok tt) c.args.self.now flushed (g.S.Site.state c.args.site.now) (g.S.Site.state c.flush.new.site)
  next_flushed =
      let works = c.in-Ok.ensures.works in
      store_next c.requires.going.both.sizes refl tt
      (next_then works.geometry refl (next_logged (works.next honest) (works.changes honest) (λ says. no_error says)) (c.in-Ok-flush.ensures.works.next honest_mid))

module _ (g : Over) (c : After-save_master g) (newest : Option Master) (records : List Entry) (table : List Content) (h : both.Represents c.args.self.now.log c.args.self.now.pages (g.S.Site.state c.args.site.now) newest records (settled table c.args.commits)) where
  abbrev mid : TransactionStore
  mid = record c.args.self.now { log = c.force.new.log }

  abbrev before_save : TransactionStore
  before_save = record c.args.self.now { log = c.flush.new.log; pages = c.flush.new.pages }

  held : both.Represents c.force.new.log c.args.self.now.pages (g.S.Site.state c.force.new.site) newest records (settled table c.args.commits)
  held = c.in-Ok.ensures.holds c.args.self.now.pages newest records (settled table c.args.commits) c.requires.going.both.sizes h

  honest : IsTrue (g.S.Site.state c.args.site.now).honest
  honest = h.log_holds.ready.blocks.honest

  pub two_first : Performs {T = Unit {0}} (Ok tt) (rules c.args.self.now.pages) (force ∷ cached flush ∷ []) (MirrorsStore c.args.self.now (g.S.Site.state c.args.site.now).image) (MirrorsStore before_save (g.S.Site.state c.flush.new.site).image)
  two_first = performs_then (store_performs {old = c.args.self.now} {new = mid} refl refl (c.in-Ok.ensures.performs c.args.self.now.pages c.requires.going.both h.log_holds.ready.blocks.honest h.below))
      (store_performs {old = mid} {new = before_save} refl refl (c.in-Ok-flush.ensures.performs newest records (settled table c.args.commits) held))

  pub same_pages : (page : ℕ) → current c.flush.new.pages (g.S.Site.state c.save_master.new.site).image page ≡ current c.flush.new.pages (g.S.Site.state c.flush.new.site).image page
  same_pages = current_same c.flush.new.pages (g.S.Site.state c.flush.new.site) (g.S.Site.state c.save_master.new.site) (c.save_master.ensures.changes (honest_then g c honest))

  abbrev still : State
  still = g.S.Site.state c.flush.new.site

  flushed_still : both.Represents c.flush.new.log c.flush.new.pages still newest records (settled table c.args.commits)
  flushed_still = c.in-Ok-flush.ensures.holds newest records (settled table c.args.commits) held

  first_kept : calls.Keeps {T = Unit {0}} (Ok tt) c.args.self.now.pages.flash.geometry c.args.self.now.log c.flush.new.log (g.S.Site.state c.args.site.now) still (LeavesSomeUnder newest c.args.self.now.pages.flash.geometry (settled table c.args.commits) (g.S.Site.state c.args.site.now).told) 0 0
  first_kept =
      keeps_then honest refl refl c.in-Ok.ensures.works.calls (keeps_appended c.requires.going.both tt (c.in-Ok.ensures.keeps c.args.self.now.pages newest records (settled table c.args.commits) h))
      (c.in-Ok-flush.ensures.keeps newest records (settled table c.args.commits) held)

  pub may_save : MayBeMade c.args.self.now.masters (g.S.Site.state c.args.site.now) records c.args.active → MayBeMade c.args.self.now.masters still records c.args.active
  may_save may = may_still c.args.self.now.masters (g.S.Site.state c.args.site.now) still records c.args.active c.requires.going.shape (first_kept.masters refl) may

  -- a master is saved behind it
  pub saved_behind : {r : Result ⊤ Stop} {log : LogStore} {new : State} → calls.Keeps r c.flush.new.pages.flash.geometry c.flush.new.log log still new (LeavesFor c.flush.new.pages.flash.geometry table c.args.commits still.told) 0 1 →
      calls.Keeps r c.args.self.now.pages.flash.geometry c.args.self.now.log log (g.S.Site.state c.args.site.now) new (LeavesFor c.args.self.now.pages.flash.geometry table c.args.commits (g.S.Site.state c.args.site.now).told) 0 1
  saved_behind second =
      keeps_saved honest c.flush.ensures.works.geometry (calls_then c.in-Ok.ensures.works.calls c.in-Ok-flush.ensures.works.calls)
      (settled_leaves_for newest c.args.self.now.pages.flash.geometry (g.S.Site.state c.args.site.now) still table c.args.commits (g.S.Site.state c.args.site.now).told) first_kept second

pub returns-in-Ok-save_master-clause-checkpoint : goal.returns-in-Ok-save_master-clause-checkpoint
returns-in-Ok-save_master-clause-checkpoint g c newest records table h may =
    let s = (goal.at.returns-in-Ok-save_master-clause-checkpoint g c).After-save_master in
    let saved = c.in-Ok-save_master.ensures.saved c.flush.new.pages newest records table c.in-Ok-flush.ensures.works.going.sizes (flushed_still g s newest records table h) c.in-Ok-flush.ensures.sealed c.in-Ok-flush.ensures.clean (may_save g s newest records table h may) in
    record {
      master = c.in-Ok-save_master.field-0;
      named = c.in-Ok-save_master.ensures.master.2;
      holds = record { both = saved.holds; orderly = saved.orderly; masters = saved.found };
      keeps = saved.keeps;
    }

pub returns-in-Err-clause-keeps : goal.returns-in-Err-clause-keeps
returns-in-Err-clause-keeps g c newest records table h may =
    let old = g.S.Site.state c.args.site.now in
    let pages = c.args.self.now.pages in
    keeps_of (λ leaves. leaves) (keeps_unsaved (settled_leaves_for newest pages.flash.geometry old (g.S.Site.state c.force.new.site) table c.args.commits old.told)
    (keeps_appended c.requires.going.both c.in-Err.ensures.stops (c.in-Err.ensures.keeps pages newest records (settled table c.args.commits) h)))

pub returns-in-Err-flush-clause-keeps : goal.returns-in-Err-flush-clause-keeps
returns-in-Err-flush-clause-keeps g c newest records table h may =
    let old = g.S.Site.state c.args.site.now in
    let pages = c.args.self.now.pages in
    let going = c.requires.going.both in
    let begun = c.in-Ok.ensures.keeps pages newest records (settled table c.args.commits) h in
    let held = c.in-Ok.ensures.holds pages newest records (settled table c.args.commits) going.sizes h in
    keeps_of (λ leaves. leaves) (keeps_unsaved (settled_leaves_for newest pages.flash.geometry old _ table c.args.commits old.told)
    (keeps_then h.log_holds.ready.blocks.honest refl refl c.in-Ok.ensures.works.calls (keeps_appended going tt begun) (c.in-Err-flush.ensures.keeps newest records (settled table c.args.commits) held)))

pub returns-in-Err-save_master-clause-keeps : goal.returns-in-Err-save_master-clause-keeps
returns-in-Err-save_master-clause-keeps g c newest records table h may =
    let s = (goal.at.returns-in-Err-save_master-clause-keeps g c).After-save_master in
    keeps_of (λ leaves. leaves) (saved_behind g s newest records table h
    (keeps_failed (c.in-Err-save_master.ensures.keeps c.flush.new.pages newest records table c.in-Ok-flush.ensures.works.going.sizes (flushed_still g s newest records table h) c.in-Ok-flush.ensures.sealed c.in-Ok-flush.ensures.clean (may_save g s newest records table h may))))

pub returns-in-Ok-save_master-clause-keeps : goal.returns-in-Ok-save_master-clause-keeps
returns-in-Ok-save_master-clause-keeps g c newest records table h may =
    let s = (goal.at.returns-in-Ok-save_master-clause-keeps g c).After-save_master in
    keeps_of (λ leaves. leaves) (saved_behind g s newest records table h
    (keeps_answered (c.in-Ok-save_master.ensures.keeps c.flush.new.pages newest records table c.in-Ok-flush.ensures.works.going.sizes (flushed_still g s newest records table h) c.in-Ok-flush.ensures.sealed c.in-Ok-flush.ensures.clean (may_save g s newest records table h may))))

pub returns-in-Err-clause-asks : goal.returns-in-Err-clause-asks
returns-in-Err-clause-asks g c =
    let pages = c.args.self.now.pages in
    let some : 1 ≤ (rules pages).groups = omega (arith, c.requires.going.both.pages_going.flash.limits.groups) in
    asks_refused c.in-Err.stop checkpoint_works pages (g.S.Site.state c.args.site.now) (g.S.Site.state c.force.new.site) some (log_alone (g.S.Site.state c.args.site.now) (g.S.Site.state c.force.new.site) (λ dev other. c.force.ensures.works.reads dev)) (stages_err (stages_log c.in-Err.ensures.works))

pub returns-in-Err-flush-clause-asks : goal.returns-in-Err-flush-clause-asks
returns-in-Err-flush-clause-asks g c =
    asks_around (Err c.in-Err-flush.stop) (Err c.in-Err-flush.stop) checkpoint_works c.args.self.now.pages c.flush.new.pages (g.S.Site.state c.args.site.now) (g.S.Site.state c.force.new.site) (g.S.Site.state c.flush.new.site) (g.S.Site.state c.flush.new.site)
    c.force.ensures.works.reads (λ dev. refl) tt (stages_ok (stages_log c.in-Ok.ensures.works)) c.in-Err-flush.ensures.asks.stages c.in-Err-flush.ensures.asks

pub returns-in-Err-save_master-clause-asks : goal.returns-in-Err-save_master-clause-asks
returns-in-Err-save_master-clause-asks g c =
    asks_around c.flush.result (Err c.in-Err-save_master.stop) checkpoint_works c.args.self.now.pages c.flush.new.pages (g.S.Site.state c.args.site.now) (g.S.Site.state c.force.new.site) (g.S.Site.state c.flush.new.site) (g.S.Site.state c.save_master.new.site)
    c.force.ensures.works.reads c.save_master.ensures.reads tt (stages_ok (stages_log c.in-Ok.ensures.works))
    (flush_then checkpoint_works c.in-Ok-flush.ensures.asks.machine c.in-Ok-flush.ensures.asks.stages (stages_err (stages_beside tt (omega arith) c.in-Err-save_master.ensures.changes c.in-Err-save_master.ensures.calls refl))) c.flush.ensures.asks

pub returns-in-Ok-save_master-clause-asks : goal.returns-in-Ok-save_master-clause-asks
returns-in-Ok-save_master-clause-asks g c =
    asks_around c.flush.result (Ok tt) checkpoint_works c.args.self.now.pages c.flush.new.pages (g.S.Site.state c.args.site.now) (g.S.Site.state c.force.new.site) (g.S.Site.state c.flush.new.site) (g.S.Site.state c.save_master.new.site)
    c.force.ensures.works.reads c.save_master.ensures.reads c.in-Ok-flush.ensures.asks.machine (stages_ok (stages_log c.in-Ok.ensures.works))
    (flush_then checkpoint_works c.in-Ok-flush.ensures.asks.machine c.in-Ok-flush.ensures.asks.stages (stages_ok (stages_beside refl (omega arith) c.in-Ok-save_master.ensures.changes c.in-Ok-save_master.ensures.calls refl))) c.flush.ensures.asks

pub returns-in-Err-clause-log_reads : goal.returns-in-Err-clause-log_reads
returns-in-Err-clause-log_reads g c = c.force.ensures.works.reads Log

pub returns-in-Err-flush-clause-log_reads : goal.returns-in-Err-flush-clause-log_reads
returns-in-Err-flush-clause-log_reads g c = c.flush.ensures.log_reads ∙ c.force.ensures.works.reads Log

pub returns-in-Err-save_master-clause-log_reads : goal.returns-in-Err-save_master-clause-log_reads
returns-in-Err-save_master-clause-log_reads g c = c.save_master.ensures.reads Log ∙ c.flush.ensures.log_reads ∙ c.force.ensures.works.reads Log

pub returns-in-Ok-save_master-clause-log_reads : goal.returns-in-Ok-save_master-clause-log_reads
returns-in-Ok-save_master-clause-log_reads g c = c.save_master.ensures.reads Log ∙ c.flush.ensures.log_reads ∙ c.force.ensures.works.reads Log

pub returns-in-Err-clause-next : goal.returns-in-Err-clause-next
returns-in-Err-clause-next g c honest =
    let stops = c.in-Err.ensures.stops in
    store_next c.requires.going.both.sizes refl (log_stops c.in-Err.stop stops)
    (next_logged (c.in-Err.ensures.works.next honest) (c.in-Err.ensures.works.changes honest) (never_worn_flash (Err c.in-Err.stop) stops))

pub returns-in-Err-flush-clause-next : goal.returns-in-Err-flush-clause-next
returns-in-Err-flush-clause-next g c honest =
    let works = c.in-Ok.ensures.works in
    store_next c.requires.going.both.sizes refl c.in-Err-flush.ensures.works.stops
    (next_then works.geometry refl (next_logged (works.next honest) (works.changes honest) (λ says. no_error says))
    (c.in-Err-flush.ensures.works.next (stays_honest (g.S.Site.state c.args.site.now) (g.S.Site.state c.force.new.site) works.calls.preserves honest)))

pub returns-in-Err-save_master-clause-next : goal.returns-in-Err-save_master-clause-next
returns-in-Err-save_master-clause-next g c honest =
    let s = (goal.at.returns-in-Err-save_master-clause-next g c).After-save_master in
    let there = honest_then g s honest in
    let saved = c.in-Err-save_master.ensures in
    next_failed (next_saved c.flush.ensures.works.geometry refl (saved.changes there) saved.stops (next_flushed g s honest) (saved.next there) (saved.worn there))

pub returns-in-Ok-save_master-clause-next : goal.returns-in-Ok-save_master-clause-next
returns-in-Ok-save_master-clause-next g c honest =
    let s = (goal.at.returns-in-Ok-save_master-clause-next g c).After-save_master in
    let there = honest_then g s honest in
    let saved = c.in-Ok-save_master.ensures in
    next_answered (next_saved {new = record { log = c.save_master.new.log; pages = c.flush.new.pages; masters = c.save_master.new.masters; made = c.args.self.now.made - c.args.first }}
    c.flush.ensures.works.geometry refl (saved.changes there) tt (next_flushed g s honest) (saved.next there) (saved.worn there))

pub returns-in-Err-save_master-clause-calls : goal.returns-in-Err-save_master-clause-calls
returns-in-Err-save_master-clause-calls g c = calls_failed (calls_then c.in-Ok.ensures.works.calls (calls_then c.in-Ok-flush.ensures.works.calls c.in-Err-save_master.ensures.calls))

-- What it makes of the machine.

pub returns-in-Err-clause-performs : goal.returns-in-Err-clause-performs
returns-in-Err-clause-performs g c newest records table h =
    performs_stopped (cached flush ∷ save ∷ []) (store_performs {new = record c.args.self.now { log = c.force.new.log }} refl refl (c.in-Err.ensures.performs c.args.self.now.pages c.requires.going.both h.log_holds.ready.blocks.honest h.below))

pub returns-in-Err-flush-clause-performs : goal.returns-in-Err-flush-clause-performs
returns-in-Err-flush-clause-performs g c newest records table h =
    let pages = c.args.self.now.pages in
    let held = c.in-Ok.ensures.holds pages newest records (settled table c.args.commits) c.requires.going.both.sizes h in
    performs_stopped (save ∷ []) (performs_then (store_performs {new = record c.args.self.now { log = c.force.new.log }} refl refl (c.in-Ok.ensures.performs pages c.requires.going.both h.log_holds.ready.blocks.honest h.below))
    (store_performs {old = record c.args.self.now { log = c.force.new.log }} {new = record c.args.self.now { log = c.flush.new.log; pages = c.flush.new.pages }} refl refl (c.in-Err-flush.ensures.performs newest records (settled table c.args.commits) held)))

pub returns-in-Err-save_master-clause-performs : goal.returns-in-Err-save_master-clause-performs
returns-in-Err-save_master-clause-performs g c newest records table h =
    let s = (goal.at.returns-in-Err-save_master-clause-performs g c).After-save_master in
    let going = c.in-Ok-flush.ensures.works.going in
    performs_then (two_first g s newest records table h) (performs_by (sym c.flush.ensures.asks.rules_are)
    (save_performs (before_save g s newest records table h) (record c.args.self.now { log = c.save_master.new.log; pages = c.flush.new.pages; masters = c.save_master.new.masters }) (g.S.Site.state c.flush.new.site) (g.S.Site.state c.save_master.new.site) (numbers_left going.log_going going.pages_going)
    {T = Unit {0}} (Err c.in-Err-save_master.stop) (λ says. c.in-Err-save_master.ensures.at_end (err_again c.in-Err-save_master.stop (Worn Log) says)) c.in-Err-save_master.ensures.stops tt tt tt tt refl (same_pages g s newest records table h)))

pub returns-in-Ok-save_master-clause-performs : goal.returns-in-Ok-save_master-clause-performs
returns-in-Ok-save_master-clause-performs g c newest records table h =
    let s = (goal.at.returns-in-Ok-save_master-clause-performs g c).After-save_master in
    let going = c.in-Ok-flush.ensures.works.going in
    let log = c.in-Ok-save_master.ensures.log in
    performs_then (two_first g s newest records table h) (performs_by (sym c.flush.ensures.asks.rules_are)
    (save_performs (before_save g s newest records table h) (record c.args.self.now { log = c.save_master.new.log; pages = c.flush.new.pages; masters = c.save_master.new.masters; made = c.args.self.now.made - c.args.first }) (g.S.Site.state c.flush.new.site) (g.S.Site.state c.save_master.new.site) (numbers_left going.log_going going.pages_going)
    {T = Unit {0}} (Ok tt) (λ says. absurd (no_error says)) tt c.in-Ok-save_master.ensures.unit c.save_master.ensures.usable.bounded (ap (λ (l : LogStore). l.ring.hi) log) (ap (λ (l : LogStore). l.used) log) refl (same_pages g s newest records table h)))
