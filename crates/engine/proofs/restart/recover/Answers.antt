use Rattle.engine.proofs.Names.{◌≡◌, ◌∙◌, ◌++◌, List, [], false, ap, sym, subst, arith, ◌≤◌, refl, ℕ, ◌+◌, length, Ok, OnOk, Result, owed_for, listed, Master, Pair, Ends, log_under, LeavesTable, IsReady, RestartedAs, found_store, found_machine, Restarted, under_leaves_for, logical_image_under, Entry, LogicalImage, owed, pending, LogRecord, has_tail, fits_queue, Content, asks_then, asks_stopped, ends_failed, ends_answered, ends_leaving, skips_on, then_skips, StepsMachine, redo_works, undo_works, checkpoint_works, SkipsNone, store_next, next_then, finds_kept, where_two, Mirrors, KeepsNext, HasCheckpoint, TransactionStore, performs_answered, performs_by, performs_failed, performs_refused, performs_stopped, performs_then, saves, Performs, redo_work, undo_work, Rules, stays_honest, calls_then, calls_failed, calls_answered, calls_refused, IsQuiet, Site as State, Calls, Geometry, Stop, Foreign}
use Rattle.redo_laws.specs.Running.{settled}
use Rattle.redo_undo.proofs.Saved.{settled_leaves_for}
use Rattle.std.proofs.Common.{Err}
use Rattle.page_store.specs.Caching.{rules}
use Rattle.redo_undo.specs.declared.redo_pass.Redone.{Redone}
use Rattle.engine.proofs.Calling.{ends_then}
use Rattle.engine.proofs.Asking.{from_ok, from_err, from_stopped, writes_stopped, staged_from}
use Rattle.engine.proofs.Recovers.{no_tail_still, kept_of, owed_found, commits_fit, commits_found, may_be_made, restarted_as, restarts_stopped}
use Rattle.engine.proofs.RingCounts.{opened_next, restart_failed, restart_done}
use Rattle.std.specs.Prelude.{Option, IsTrue}
use Rattle.page_store.proofs.NextUnits.{next_then as next_pages}
use Rattle.engine.proofs.RestartedUnits.{next_at_error, next_not_worn, next_at_end}
use Rattle.engine.proofs.RestartedRings.{performs_of, redo_performs, restart_saves_none, store_from}
use Rattle.engine.proofs.restart.recover.Given.{Over}
use Rattle.engine.proofs.restart.recover.Goals.{After-checkpoint, After-undo_all}
use Rattle.redo_laws.specs.Holding as both
use Rattle.engine.proofs.restart.recover.Goals as goal

pub returns-in-Err-clause-recovers : goal.returns-in-Err-clause-recovers
returns-in-Err-clause-recovers g c newest blocks table commits h =
    let old = g.S.Site.state c.args.site.now in
    let p = logical_image_under newest c.args.opened.pages.flash.geometry old.image blocks in
    let next = opened_next c.args.opened old newest blocks table commits h c.requires.may.going.sizes c.requires.empty in
    let some : 1 ≤ (rules c.args.opened.pages).groups = (let least = c.requires.may.going.pages_going.flash.limits.groups in omega (arith, least)) in
    let two : StepsMachine {T = Unit {0}} (Err c.in-Err.stop) (redo_works p ++ undo_works p.log) c.args.opened.pages c.redo.new.pages old (g.S.Site.state c.redo.new.site) = asks_stopped c.in-Err.stop (redo_works p) (undo_works p.log) _ _ old _ some (c.in-Err.ensures.asks newest blocks table commits h.master h.opened_is).asks in
    let keeps = c.in-Err.ensures.keeps newest blocks table commits h.master h.opened_is in
    record {
      restarted = tt;
      ends = ends_failed (ends_leaving (under_leaves_for newest _ _ _ table commits _) keeps.ends);
      numbers = λ quiet. restart_failed c.in-Err.stop _ _ (log_under newest blocks) c.args.opened.log c.redo.new.log old _ 0 0 next (omega arith) (omega arith) (keeps.numbers quiet);
      asks = from_stopped c.in-Err.stop _ (redo_works p ++ undo_works p.log) checkpoint_works _ _ _ _ some two;
      writes = writes_stopped c.in-Err.stop (redo_works p ++ undo_works p.log) checkpoint_works _ _ _ _ some two (fits_queue c.args.opened.pages old c.requires.may.going.pages_going h.opened_is.ready.pages);
      log_reads = omega (arith, c.redo.ensures.log_reads, kept_of c.args.opened old newest blocks table commits h);
      last = λ quiet. tt;
    }

-- what undo may take has room
pub returns-then-sealed_end-owed-clause-recovers : goal.returns-then-sealed_end-owed-clause-recovers
returns-then-sealed_end-owed-clause-recovers g c newest blocks table commits h =
    let site = g.S.Site.state c.args.site.now in
    let holds = c.in-Ok.ensures.holds newest blocks table commits h.master h.opened_is in
    let read = c.in-Ok.ensures.unfinished newest blocks table commits h.master h.opened_is in
    let owes = owed_found c.table_of_records.ensures.one c.table_of_records.ensures.unfinished c.table_of_records.ensures.owed newest c.args.opened.pages.flash.geometry site.image blocks c.in-Ok.redone.found h.opened_is.sound read in
    let sizes = ap (λ (k : Geometry). k.blocks) c.in-Ok.ensures.works.going.sizes in
    let asked = ap (λ (k : Geometry). k.blocks) c.geometry-blocks.ensures in
    absurd (omega (arith, owes, holds.log_holds.room, holds.log_holds.rings.limits.blocks, sizes, asked, c.sealed_end.ensures, c.owed-owed.ensures, c.if-sealed_end-owed.true, c.kept.ensures, c.redo.ensures.works.kept))

pub returns-in-Err-undo_all-clause-recovers : goal.returns-in-Err-undo_all-clause-recovers
returns-in-Err-undo_all-clause-recovers g c newest blocks table commits h =
    let old = g.S.Site.state c.args.site.now in
    let mid = g.S.Site.state c.redo.new.site in
    let p = logical_image_under newest c.args.opened.pages.flash.geometry old.image blocks in
    let next = opened_next c.args.opened old newest blocks table commits h c.requires.may.going.sizes c.requires.empty in
    let some : 1 ≤ (rules c.args.opened.pages).groups = (let least = c.requires.may.going.pages_going.flash.limits.groups in omega (arith, least)) in
    let records = log_under newest blocks in
    let holds = c.in-Ok.ensures.holds newest blocks table commits h.master h.opened_is in
    let read = c.in-Ok.ensures.unfinished newest blocks table commits h.master h.opened_is in
    let none : has_tail c.redo.new.log ≡ false = no_tail_still c.args.opened.log c.redo.new.log c.requires.empty c.in-Ok.ensures.blocks c.in-Ok.ensures.rises in
    let owes = owed_found c.table_of_records.ensures.one c.table_of_records.ensures.unfinished c.table_of_records.ensures.owed newest _ old.image blocks c.in-Ok.redone.found h.opened_is.sound read in
    let n = owed_for (listed c.in-Ok.redone.found.table) in
    let calm = c.in-Ok.ensures.works.calls.stays_quiet h.opened_is.ready.blocks.honest in
    let first = c.in-Ok.ensures.keeps newest blocks table commits h.master h.opened_is in
    let second = (c.in-Err-undo_all.ensures.does newest records (settled table commits) none holds read).keeps in
    let asks = asks_then c.in-Ok.redone _ (redo_works p) (undo_works p.log) _ _ _ _ _ _ (c.in-Ok.ensures.asks newest blocks table commits h.master h.opened_is).asks (c.in-Err-undo_all.ensures.does newest records (settled table commits) none holds read).asks in
    record {
      restarted = tt;
      ends = ends_failed (ends_then calm c.redo.ensures.works.geometry (ends_leaving (under_leaves_for newest _ _ _ table commits _) first.ends) (ends_leaving (settled_leaves_for newest _ _ _ table commits _) second.ends));
      numbers = λ quiet.
          let mine = skips_on (Err c.in-Err-undo_all.stop) c.redo.new.pages.flash.geometry _ c.redo.new.log c.undo_all.new.log mid _ n 0 c.redo.ensures.works.geometry (second.numbers (calm quiet)) in
          let two = then_skips (Err c.in-Err-undo_all.stop) c.in-Ok.redone _ c.args.opened.log c.redo.new.log c.undo_all.new.log old mid _ 0 0 n 0 n 0 (first.numbers quiet) mine (omega arith) (omega arith) in
          restart_failed c.in-Err-undo_all.stop _ _ records c.args.opened.log c.undo_all.new.log old _ n 0 next (omega (arith, owes)) (omega arith) two;
      asks = from_stopped c.in-Err-undo_all.stop _ (redo_works p ++ undo_works p.log) checkpoint_works _ _ _ _ some asks;
      writes = writes_stopped c.in-Err-undo_all.stop (redo_works p ++ undo_works p.log) checkpoint_works _ _ _ _ some asks (fits_queue c.args.opened.pages old c.requires.may.going.pages_going h.opened_is.ready.pages);
      log_reads = omega (arith, c.redo.ensures.log_reads, kept_of c.args.opened old newest blocks table commits h, (c.undo_all.ensures.does newest records (settled table commits) none holds read).log_reads);
      last = λ quiet. tt;
    }

-- there are no more commits than octets of sealed blocks
pub returns-then-commits-sealed_end-clause-recovers : goal.returns-then-commits-sealed_end-clause-recovers
returns-then-commits-sealed_end-clause-recovers g c newest blocks table commits h =
    let records = log_under newest blocks in
    let holds = c.in-Ok.ensures.holds newest blocks table commits h.master h.opened_is in
    let read = c.in-Ok.ensures.unfinished newest blocks table commits h.master h.opened_is in
    let none : has_tail c.redo.new.log ≡ false = no_tail_still c.args.opened.log c.redo.new.log c.requires.empty c.in-Ok.ensures.blocks c.in-Ok.ensures.rises in
    let undone = c.in-Ok-undo_all.ensures.undone newest records (settled table commits) none holds read in
    let found = commits_found c.losers_are_taken.ensures.commits c.args.opened _ newest blocks table commits c.in-Ok.redone.found h (c.in-Ok.ensures.read newest blocks table commits h.master h.opened_is) c.requires.may.going.log_going.usable.bounded in
    let few = commits_fit c.undo_all.new.log c.undo_all.new.pages _ newest (records ++ undone.more) table commits undone.holds in
    absurd (omega (arith, found, few, c.sealed_end-2.ensures, c.undo_all.ensures.commits, c.commits-commits.ensures.commits, c.if-commits-sealed_end.true))

-- Behind undo a checkpoint is made, however that ends.
module _ (g : Over) (c : After-checkpoint g) (newest : Option Master) (blocks : List (List LogRecord)) (table : List Content) (commits : ℕ)
    (h : IsReady c.args.opened (g.S.Site.state c.args.site.now) newest blocks table commits) where
  abbrev old : State
  old = g.S.Site.state c.args.site.now

  abbrev new : State
  new = g.S.Site.state c.checkpoint.new.site

  abbrev k : Geometry
  k = c.args.opened.pages.flash.geometry

  abbrev p : LogicalImage
  p = logical_image_under newest k old.image blocks

  abbrev Behind : Result (Unit {0}) Stop → Type 0
  Behind r = Ends r k old new (LeavesTable k table commits old.told)
      × (IsQuiet old → SkipsNone r k c.args.opened.log c.checkpoint.new.self.log old new (owed (log_under newest blocks)) 1)
      × StepsMachine r ((redo_works p ++ undo_works p.log) ++ checkpoint_works) c.args.opened.pages c.checkpoint.new.self.pages old new
      × ((x : Restarted) → x.store ≡ c.checkpoint.new.self → x.commits ≡ c.commits-commits.result → OnOk r (RestartedAs x new table commits))

  behind : (r : Result (Unit {0}) Stop) → c.checkpoint.result ≡ r → Behind r
  behind r result =
      let mid = g.S.Site.state c.redo.new.site in
      let records = log_under newest blocks in
      let holds = c.in-Ok.ensures.holds newest blocks table commits h.master h.opened_is in
      let read = c.in-Ok.ensures.unfinished newest blocks table commits h.master h.opened_is in
      let none : has_tail c.redo.new.log ≡ false = no_tail_still c.args.opened.log c.redo.new.log c.requires.empty c.in-Ok.ensures.blocks c.in-Ok.ensures.rises in
      let owes = owed_found c.table_of_records.ensures.one c.table_of_records.ensures.unfinished c.table_of_records.ensures.owed newest k old.image blocks c.in-Ok.redone.found h.opened_is.sound read in
      let n = owed_for (listed c.in-Ok.redone.found.table) in
      let und = g.S.Site.state c.undo_all.new.site in
      let calm = c.in-Ok.ensures.works.calls.stays_quiet h.opened_is.ready.blocks.honest in
      let first = c.in-Ok.ensures.keeps newest blocks table commits h.master h.opened_is in
      let second = (c.in-Ok-undo_all.ensures.does newest records (settled table commits) none holds read).keeps in
      let undone = c.in-Ok-undo_all.ensures.undone newest records (settled table commits) none holds read in
      let found = commits_found c.losers_are_taken.ensures.commits c.args.opened old newest blocks table commits c.in-Ok.redone.found h (c.in-Ok.ensures.read newest blocks table commits h.master h.opened_is) c.requires.may.going.log_going.usable.bounded in
      let all = records ++ undone.more in
      let counted : c.commits-commits.result ≡ commits = c.commits-commits.ensures.commits ∙ c.undo_all.ensures.commits ∙ found in
      let held = subst (λ (n : ℕ). both.Represents c.undo_all.new.log c.undo_all.new.pages und newest all (settled table n)) (sym counted) undone.holds in
      let ring = finds_kept c.args.opened.masters old mid c.requires.may.shape (first.masters refl) h.masters in
      let stands = finds_kept c.args.opened.masters mid und c.requires.may.shape (second.masters refl) ring in
      let may = may_be_made c.args.opened.masters und all c.new.result stands undone.none c.new.ensures in
      let same = c.undo_all.ensures.works.geometry ∙ c.redo.ensures.works.geometry in
      let calm_und : IsQuiet old → IsQuiet und = λ quiet. c.in-Ok-undo_all.ensures.works.calls.stays_quiet holds.log_holds.ready.blocks.honest (calm quiet) in
      let keeps = c.checkpoint.ensures.keeps newest all table held may in
      let k' = c.undo_all.new.pages.flash.geometry in
      let third = subst (λ (i : ℕ). Ends c.checkpoint.result k' und new (LeavesTable k' table i und.told)) counted keeps.ends in
      let skips : IsQuiet old → SkipsNone c.checkpoint.result k c.args.opened.log c.checkpoint.new.self.log old new (owed records) 1 = λ quiet.
      let mine = skips_on (Ok c.in-Ok-undo_all.field-0) c.redo.new.pages.flash.geometry k c.redo.new.log c.undo_all.new.log mid und n 0 c.redo.ensures.works.geometry (second.numbers (calm quiet)) in
      let two = then_skips (Ok c.in-Ok-undo_all.field-0) c.in-Ok.redone k c.args.opened.log c.redo.new.log c.undo_all.new.log old mid und 0 0 n 0 n 0 (first.numbers quiet) mine (omega arith) (omega arith) in
      let last = skips_on c.checkpoint.result k' k c.undo_all.new.log c.checkpoint.new.self.log und new 0 1 same (keeps.numbers (calm_und quiet)) in
      then_skips c.checkpoint.result c.in-Ok-undo_all.field-0 k c.args.opened.log c.undo_all.new.log c.checkpoint.new.self.log old und new n 0 0 1
      (owed records) 1 two last (omega (arith, owes)) (omega arith) in
      let two = asks_then c.in-Ok.redone _ (redo_works p) (undo_works p.log) _ _ _ old mid und (c.in-Ok.ensures.asks newest blocks table commits h.master h.opened_is).asks (c.in-Ok-undo_all.ensures.does newest records (settled table commits) none holds read).asks in
      let asks = asks_then c.in-Ok-undo_all.field-0 c.checkpoint.result
      (redo_works p ++ undo_works p.log) checkpoint_works _ _ _ old und new two c.checkpoint.ensures.asks in
      let named = subst (λ (n : ℕ). OnOk c.checkpoint.result (HasCheckpoint c.checkpoint.new.self new all table n c.new.result)) counted
      (c.checkpoint.ensures.checkpoint newest all table held may) in
      let empty = subst (λ (active : List Pair). OnOk c.checkpoint.result (HasCheckpoint c.checkpoint.new.self new all table commits active)) c.new.ensures
      named in
      let restarted : (x : Restarted) → x.store ≡ c.checkpoint.new.self → x.commits ≡ c.commits-commits.result → OnOk c.checkpoint.result
      (RestartedAs x new table commits) = λ x store are.
      where_two _ _ _ c.checkpoint.result empty c.checkpoint.ensures.made (λ checkpoint made. restarted_as x new all table commits 0 undone.none
      (subst (λ (y : TransactionStore). HasCheckpoint y new all table commits []) (sym store) checkpoint)
      (let same = ap (λ (y : TransactionStore). y.made) store in omega (arith, same, made)) (are ∙ counted)) in
      subst Behind result (ends_then calm_und same (ends_then calm c.redo.ensures.works.geometry (ends_leaving (under_leaves_for newest _ _ _ table commits _) first.ends) (ends_leaving (settled_leaves_for newest _ _ _ table commits _) second.ends)) third, skips, asks, restarted)

  read_of : new.log_reads ≤ old.log_reads + (length blocks + length (pending (log_under newest blocks)))
  read_of =
      let records = log_under newest blocks in
      let holds = c.in-Ok.ensures.holds newest blocks table commits h.master h.opened_is in
      let read = c.in-Ok.ensures.unfinished newest blocks table commits h.master h.opened_is in
      let none : has_tail c.redo.new.log ≡ false = no_tail_still c.args.opened.log c.redo.new.log c.requires.empty c.in-Ok.ensures.blocks c.in-Ok.ensures.rises in
      omega (arith, c.redo.ensures.log_reads, kept_of c.args.opened old newest blocks table commits h, (c.undo_all.ensures.does newest records (settled table commits) none holds read).log_reads, c.checkpoint.ensures.log_reads)

pub returns-in-Ok-checkpoint-clause-recovers : goal.returns-in-Ok-checkpoint-clause-recovers
returns-in-Ok-checkpoint-clause-recovers g c newest blocks table commits h =
    let s = (goal.at.returns-in-Ok-checkpoint-clause-recovers g c).After-checkpoint in
    let behind = behind g s newest blocks table commits h (Ok c.in-Ok-checkpoint.field-0) c.in-Ok-checkpoint.is in
    let next = opened_next c.args.opened _ newest blocks table commits h c.requires.may.going.sizes c.requires.empty in
    record {
      restarted = behind.3 _ refl refl;
      ends = ends_answered behind.0;
      numbers = λ quiet. restart_done c.in-Ok-checkpoint.field-0 _ _ _ _ c.args.opened.log c.checkpoint.new.self.log _ _ _ next (omega arith) refl
          (behind.1 quiet);
      asks = from_ok c.in-Ok-checkpoint.field-0 _ _ _ _ _ _ _ _ refl (λ dev. refl) behind.2;
      writes = behind.2.stages.writes (fits_queue c.args.opened.pages _ c.requires.may.going.pages_going h.opened_is.ready.pages);
      log_reads = read_of g s newest blocks table commits h;
      last = staged_from _ _ _ _ _ _ behind.2 (fits_queue c.args.opened.pages _ c.requires.may.going.pages_going h.opened_is.ready.pages);
    }

pub returns-clause-recovers : goal.returns-clause-recovers
returns-clause-recovers g c newest blocks table commits h =
    let s = (goal.at.returns-clause-recovers g c).After-checkpoint in
    let behind = behind g s newest blocks table commits h (Err c.in-Err-checkpoint.stop) c.in-Err-checkpoint.is in
    let next = opened_next c.args.opened _ newest blocks table commits h c.requires.may.going.sizes c.requires.empty in
    record {
      restarted = tt;
      ends = ends_failed behind.0;
      numbers = λ quiet. restart_failed c.in-Err-checkpoint.stop _ _ _ c.args.opened.log c.checkpoint.new.self.log _ _ _ 1 next (omega arith) (omega arith)
          (behind.1 quiet);
      asks = from_err c.in-Err-checkpoint.stop _ _ _ _ _ _ behind.2;
      writes = behind.2.stages.writes (fits_queue c.args.opened.pages _ c.requires.may.going.pages_going h.opened_is.ready.pages);
      log_reads = read_of g s newest blocks table commits h;
      last = staged_from _ _ _ _ _ _ behind.2 (fits_queue c.args.opened.pages _ c.requires.may.going.pages_going h.opened_is.ready.pages);
    }

pub returns-in-Ok-checkpoint-clause-restarts : goal.returns-in-Ok-checkpoint-clause-restarts
returns-in-Ok-checkpoint-clause-restarts g c =
    let first : Calls {T = Redone} (Ok c.in-Ok.redone) (g.S.Site.state c.args.site.now) (g.S.Site.state c.redo.new.site) = c.in-Ok.ensures.works.calls in
    let second : Calls {T = Unit {0}} (Ok c.in-Ok-undo_all.field-0) (g.S.Site.state c.redo.new.site) (g.S.Site.state c.undo_all.new.site) = c.in-Ok-undo_all.ensures.works.calls in
    let going = c.in-Ok-checkpoint.ensures.going in
    let blocks = ap (λ (k : Geometry). k.blocks) (c.geometry-blocks.ensures ∙ c.in-Ok.ensures.works.going.sizes ∙ sym (c.checkpoint.ensures.sizes ∙ c.undo_all.ensures.works.geometry)) in
    record {
      calls = calls_answered (calls_then first (calls_then second c.in-Ok-checkpoint.ensures.calls));
      going = going;
      blocks = blocks;
      room = omega (arith, going.both.room, ap (λ (k : Geometry). k.blocks) going.both.sizes, blocks);
      commits = omega (arith, c.if-commits-sealed_end.false, c.sealed_end-2.ensures, c.in-Ok-checkpoint.ensures.end);
      made = omega (arith, c.in-Ok-checkpoint.ensures.made);
      pool = ap (λ (r : Rules). r.pages) c.in-Ok-checkpoint.ensures.asks.rules_are ∙ c.undo_all.ensures.works.size ∙ c.redo.ensures.works.size;
      stops = tt;
    }

pub returns-clause-restarts : goal.returns-clause-restarts
returns-clause-restarts g c =
    restarts_stopped (calls_failed (calls_then c.in-Ok.ensures.works.calls (calls_then c.in-Ok-undo_all.ensures.works.calls c.in-Err-checkpoint.ensures.calls))) c.in-Err-checkpoint.ensures.stops

pub returns-in-Err-undo_all-clause-restarts : goal.returns-in-Err-undo_all-clause-restarts
returns-in-Err-undo_all-clause-restarts g c =
    restarts_stopped (calls_failed (calls_then c.in-Ok.ensures.works.calls c.in-Err-undo_all.ensures.works.calls)) c.in-Err-undo_all.ensures.works.stops

-- a count of commits that no log has
pub returns-then-commits-sealed_end-clause-restarts : goal.returns-then-commits-sealed_end-clause-restarts
returns-then-commits-sealed_end-clause-restarts g c =
    restarts_stopped (calls_refused {stop = Foreign} (λ d same. cc) (calls_then c.in-Ok.ensures.works.calls c.in-Ok-undo_all.ensures.works.calls)) tt

-- The next units, whatever stood there.

pub returns-in-Err-clause-next : goal.returns-in-Err-clause-next
returns-in-Err-clause-next g c honest is =
    let works = c.in-Err.ensures.works in
    next_at_error {new = record { log = c.redo.new.log; pages = c.redo.new.pages; masters = c.args.opened.masters; made = 0 }} refl is
    (store_next {old = found_store c.args.opened} c.requires.may.going.sizes refl works.stops (works.next honest))

pub returns-then-sealed_end-owed-clause-next : goal.returns-then-sealed_end-owed-clause-next
returns-then-sealed_end-owed-clause-next g c honest is = next_not_worn (λ d same. cc)

pub returns-in-Err-undo_all-clause-next : goal.returns-in-Err-undo_all-clause-next
returns-in-Err-undo_all-clause-next g c honest is =
    let first = c.in-Ok.ensures.works in
    let second = c.in-Err-undo_all.ensures.works in
    next_at_error {new = record { log = c.undo_all.new.log; pages = c.undo_all.new.pages; masters = c.args.opened.masters; made = 0 }} refl is
    (store_next {old = found_store c.args.opened} c.requires.may.going.sizes refl second.stops
    (next_pages first.log_geometry first.geometry (first.next honest) (second.next (stays_honest (g.S.Site.state c.args.site.now) (g.S.Site.state c.redo.new.site) first.calls.preserves honest))))

pub returns-then-commits-sealed_end-clause-next : goal.returns-then-commits-sealed_end-clause-next
returns-then-commits-sealed_end-clause-next g c honest is = next_not_worn (λ d same. cc)

module _ (g : Over) (c : After-checkpoint g) (honest : IsTrue (g.S.Site.state c.args.site.now).honest) where
  honest_mid : IsTrue (g.S.Site.state c.redo.new.site).honest
  honest_mid = stays_honest (g.S.Site.state c.args.site.now) (g.S.Site.state c.redo.new.site) c.in-Ok.ensures.works.calls.preserves honest

  pub honest_then : IsTrue (g.S.Site.state c.undo_all.new.site).honest
  honest_then = stays_honest (g.S.Site.state c.redo.new.site) (g.S.Site.state c.undo_all.new.site) c.in-Ok-undo_all.ensures.works.calls.preserves honest_mid

  -- the store that was undone
  pub next_undone : (made : ℕ) → KeepsNext {T = Unit {0}} (Ok c.in-Ok-undo_all.field-0) (found_store c.args.opened)
      (record { log = c.undo_all.new.log; pages = c.undo_all.new.pages; masters = c.args.opened.masters; made = made })
      (g.S.Site.state c.args.site.now) (g.S.Site.state c.undo_all.new.site)
  next_undone made =
      let first = c.in-Ok.ensures.works in
      store_next c.requires.may.going.sizes refl tt (next_pages first.log_geometry first.geometry (first.next honest) (c.in-Ok-undo_all.ensures.works.next honest_mid))

pub returns-in-Ok-checkpoint-clause-next : goal.returns-in-Ok-checkpoint-clause-next
returns-in-Ok-checkpoint-clause-next g c honest is =
    let s = (goal.at.returns-in-Ok-checkpoint-clause-next g c).After-checkpoint in
    next_at_end ((c.in-Ok-checkpoint.ensures.next (honest_then g s honest)).next ((next_undone g s honest _).next is)) (c.checkpoint.ensures.sizes ∙ c.undo_all.ensures.works.geometry ∙ c.redo.ensures.works.geometry)

pub returns-clause-next : goal.returns-clause-next
returns-clause-next g c honest is =
    let s = (goal.at.returns-clause-next g c).After-checkpoint in
    next_at_error refl is (next_then (c.undo_all.ensures.works.geometry ∙ c.redo.ensures.works.geometry) (next_undone g s honest _) (c.in-Err-checkpoint.ensures.next (honest_then g s honest)))

-- What it makes of the machine.

pub returns-in-Err-clause-performs : goal.returns-in-Err-clause-performs
returns-in-Err-clause-performs g c newest blocks table commits h =
    let old = g.S.Site.state c.args.site.now in
    performs_stopped {A = Redone} {Q = Mirrors c.redo.new.log c.redo.new.pages (g.S.Site.state c.redo.new.site).image} saves (performs_stopped (undo_work (log_under newest blocks))
    (redo_performs (Err c.in-Err.stop) c.args.opened c.redo.new.log c.redo.new.pages old (g.S.Site.state c.redo.new.site) newest (log_under newest blocks) table commits (redo_works (logical_image_under newest c.args.opened.pages.flash.geometry old.image blocks))
    c.requires.may.going c.requires.empty c.requires.may.masters.bounded (c.in-Err.ensures.asks newest blocks table commits h.master h.opened_is) tt tt tt tt))

pub returns-then-sealed_end-owed-clause-performs : goal.returns-then-sealed_end-owed-clause-performs
returns-then-sealed_end-owed-clause-performs g c newest blocks table commits h = performs_refused (λ dev same. cc)

pub returns-then-commits-sealed_end-clause-performs : goal.returns-then-commits-sealed_end-clause-performs
returns-then-commits-sealed_end-clause-performs g c newest blocks table commits h = performs_refused (λ dev same. cc)

module _ (g : Over) (c : After-undo_all g) (newest : Option Master) (blocks : List (List LogRecord)) (table : List Content) (commits : ℕ)
    (h : IsReady c.args.opened (g.S.Site.state c.args.site.now) newest blocks table commits) where
  abbrev start : State
  start = g.S.Site.state c.args.site.now

  abbrev middle : State
  middle = g.S.Site.state c.redo.new.site

  abbrev records : List Entry
  records = log_under newest blocks

  redone : Performs {T = Redone} (Ok c.in-Ok.redone) (rules c.args.opened.pages) (redo_work (logical_image_under newest c.args.opened.pages.flash.geometry start.image blocks)) (λ m. m ≡ found_machine c.args.opened) (Mirrors c.redo.new.log c.redo.new.pages middle.image)
  redone =
      redo_performs (Ok c.in-Ok.redone) c.args.opened c.redo.new.log c.redo.new.pages start middle newest records table commits (redo_works (logical_image_under newest c.args.opened.pages.flash.geometry start.image blocks))
      c.requires.may.going c.requires.empty c.requires.may.masters.bounded (c.in-Ok.ensures.asks newest blocks table commits h.master h.opened_is)
      (c.in-Ok.ensures.holds newest blocks table commits h.master h.opened_is) c.in-Ok.ensures.blocks c.in-Ok.ensures.rises c.in-Ok.ensures.works.going

  -- the rules stay
  pub rules_after : rules c.undo_all.new.pages ≡ rules c.redo.new.pages
  rules_after =
      let none : has_tail c.redo.new.log ≡ false = no_tail_still c.args.opened.log c.redo.new.log c.requires.empty c.in-Ok.ensures.blocks c.in-Ok.ensures.rises in
      (c.undo_all.ensures.does newest records (settled table commits) none (c.in-Ok.ensures.holds newest blocks table commits h.master h.opened_is) (c.in-Ok.ensures.unfinished newest blocks table commits h.master h.opened_is)).asks.rules_are

  pub both_done : Performs c.undo_all.result (rules c.args.opened.pages) (redo_work (logical_image_under newest c.args.opened.pages.flash.geometry start.image blocks) ++ undo_work records) (λ m. m ≡ found_machine c.args.opened)
      (Mirrors c.undo_all.new.log c.undo_all.new.pages (g.S.Site.state c.undo_all.new.site).image)
  both_done =
      let none : has_tail c.redo.new.log ≡ false = no_tail_still c.args.opened.log c.redo.new.log c.requires.empty c.in-Ok.ensures.blocks c.in-Ok.ensures.rises in
      performs_then redone (performs_by (sym (c.in-Ok.ensures.asks newest blocks table commits h.master h.opened_is).asks.rules_are)
      (c.undo_all.ensures.does newest records (settled table commits) none (c.in-Ok.ensures.holds newest blocks table commits h.master h.opened_is) (c.in-Ok.ensures.unfinished newest blocks table commits h.master h.opened_is)).performs)

pub returns-in-Err-undo_all-clause-performs : goal.returns-in-Err-undo_all-clause-performs
returns-in-Err-undo_all-clause-performs g c newest blocks table commits h =
    let s = (goal.at.returns-in-Err-undo_all-clause-performs g c).After-undo_all in
    performs_stopped saves (performs_of c.in-Err-undo_all.is (both_done g s newest blocks table commits h))

-- behind undo the store is as it mirrors it, and stands for the table
module _ (g : Over) (c : After-checkpoint g) (newest : Option Master) (blocks : List (List LogRecord)) (table : List Content) (commits : ℕ)
    (h : IsReady c.args.opened (g.S.Site.state c.args.site.now) newest blocks table commits) where
  abbrev after_undo : TransactionStore
  after_undo = record { log = c.undo_all.new.log; pages = c.undo_all.new.pages; masters = c.args.opened.masters; made = c.in-Ok.redone.records + c.owed-owed.result }

  pub at_checkpoint : (more : List Entry) × (both.Represents c.undo_all.new.log c.undo_all.new.pages (g.S.Site.state c.undo_all.new.site) newest (log_under newest blocks ++ more) (settled table c.commits-commits.result))
  at_checkpoint =
      let none : has_tail c.redo.new.log ≡ false = no_tail_still c.args.opened.log c.redo.new.log c.requires.empty c.in-Ok.ensures.blocks c.in-Ok.ensures.rises in
      let undone = c.in-Ok-undo_all.ensures.undone newest (log_under newest blocks) (settled table commits) none (c.in-Ok.ensures.holds newest blocks table commits h.master h.opened_is) (c.in-Ok.ensures.unfinished newest blocks table commits h.master h.opened_is) in
      let found = commits_found c.losers_are_taken.ensures.commits c.args.opened (g.S.Site.state c.args.site.now) newest blocks table commits c.in-Ok.redone.found h (c.in-Ok.ensures.read newest blocks table commits h.master h.opened_is) c.requires.may.going.log_going.usable.bounded in
      let counted : c.commits-commits.result ≡ commits = c.commits-commits.ensures.commits ∙ c.undo_all.ensures.commits ∙ found in
      (undone.more, subst (λ (n : ℕ). both.Represents c.undo_all.new.log c.undo_all.new.pages (g.S.Site.state c.undo_all.new.site) newest (log_under newest blocks ++ undone.more) (settled table n)) (sym counted) undone.holds)

pub returns-in-Ok-checkpoint-clause-performs : goal.returns-in-Ok-checkpoint-clause-performs
returns-in-Ok-checkpoint-clause-performs g c newest blocks table commits h =
    let at = goal.at.returns-in-Ok-checkpoint-clause-performs g c in
    let held = at_checkpoint g at.After-checkpoint newest blocks table commits h in
    let p = logical_image_under newest c.args.opened.pages.flash.geometry (g.S.Site.state c.args.site.now).image blocks in
    let first = store_from (after_undo g at.After-checkpoint newest blocks table commits h) refl refl (restart_saves_none (redo_works p) (log_under newest blocks)) refl (performs_of c.in-Ok-undo_all.is (both_done g at.After-undo_all newest blocks table commits h)) in
    performs_then first (performs_by (sym (rules_after g at.After-undo_all newest blocks table commits h ∙ (c.in-Ok.ensures.asks newest blocks table commits h.master h.opened_is).asks.rules_are)) (performs_answered (c.in-Ok-checkpoint.ensures.performs newest (log_under newest blocks ++ held.0) table held.1)))

pub returns-clause-performs : goal.returns-clause-performs
returns-clause-performs g c newest blocks table commits h =
    let at = goal.at.returns-clause-performs g c in
    let held = at_checkpoint g at.After-checkpoint newest blocks table commits h in
    let p = logical_image_under newest c.args.opened.pages.flash.geometry (g.S.Site.state c.args.site.now).image blocks in
    let first = store_from (after_undo g at.After-checkpoint newest blocks table commits h) refl refl (restart_saves_none (redo_works p) (log_under newest blocks)) refl (performs_of c.in-Ok-undo_all.is (both_done g at.After-undo_all newest blocks table commits h)) in
    performs_then first (performs_by (sym (rules_after g at.After-undo_all newest blocks table commits h ∙ (c.in-Ok.ensures.asks newest blocks table commits h.master h.opened_is).asks.rules_are)) (performs_failed (c.in-Err-checkpoint.ensures.performs newest (log_under newest blocks ++ held.0) table held.1)))

pub returns-clause-judged : goal.returns-clause-judged
returns-clause-judged g c o own size h = tt

pub returns-in-Ok-checkpoint-clause-judged : goal.returns-in-Ok-checkpoint-clause-judged
returns-in-Ok-checkpoint-clause-judged g c o own size h = c.in-Ok.ensures.judged o own size h
