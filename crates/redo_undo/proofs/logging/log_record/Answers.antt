use Rattle.redo_undo.proofs.Names.{◌+◌, History, List, ◌≡◌, ◌≤◌, ◌<◌, Bool, true, ◌∷◌, [], ◌++◌, ap, inr, ℕ, length, subst, IfOk, Master, ring_kept, Masters, KeepsUnits, master_shape, AreRingsSoundUnder, versions_on, kept_by, Entry, AreOrderly, spelling, LogList, changes_if, overflows, end_of, has_tail, log_fits, AreSealed, rules as rules_of_pages, PageStore, Content, appended, ends_with, append_leaves, rings_now, more_sealed, versions_same, current_same, IsNumbered, IsAppended, if_ok_four, if_ok_one, if_ok_two, if_ok_three, ok_by, most_blocks, holds_off, quiet_stops, seals_only, log_skips, log_calls, ready_next, ends_orderly, log_at_end, EndsWith, MayGrow, RepresentsLog, Represents, Mirrors, logged, Performs, ok_as, State}
use Rattle.log_store.proofs.TailLaws.{full_tail, spelling_short}
use Rattle.std.proofs.Common.{lt-ltb}
use Rattle.std.specs.Prelude.{Option}
use Rattle.log_store.specs.Representation.{next_lsn}
use Rattle.redo_undo.proofs.logging.log_record.Given.{Over}
use Rattle.redo_undo.proofs.logging.log_record.Goals.{After-append}
use Rattle.ring_machine.proofs.Spelled.{octets_spelled}
use Rattle.redo_undo.proofs.Mirroring.{logged_performs, logged_used, numbers_left}
use Rattle.redo_laws.proofs.Appended.{commit_waits}
use Rattle.log_records.specs.Log.{number_of}
use Rattle.redo_undo.proofs.logging.log_record.Goals as goal

pub returns-clause-pages : goal.returns-clause-pages
returns-clause-pages g c pages newest records history h =
    let changes = c.append.ensures.seals.changes h.log_holds.ready.blocks.honest in
    record {
      versions = versions_same pages _ _ changes;
      current = current_same pages _ _ changes;
    }

module _ (g : Over) (c : After-append g) where
  numbered : IfOk c.append.result (λ lsn. IsNumbered c.args.log.now c.append.new.self lsn (overflows c.args.log.now c.args.rec.now))
  numbered = if_ok_three c.append.result _ (λ lsn. lsn ≡ next_lsn c.args.log.now c.args.rec.now)
      (λ lsn. (end_of c.args.log.now ≤ lsn) × (lsn < end_of c.append.new.self)) _
      (λ lsn next lsn_is rises. record { lsn_is = lsn_is; next = next; below = rises.1; low = c.requires.going.low })
      c.append.ensures.seals.next c.append.ensures.lsn c.append.ensures.rises

module _ (g : Over) (c : After-append g) (pages : PageStore) (newest : Option Master) (records : List Entry) (history : History)
    (h : Represents c.args.log.now pages (g.S.Site.state c.args.site.now) newest records history) where
  abbrev site : State
  site = g.S.Site.state c.args.site.now

  abbrev new : State
  new = g.S.Site.state c.append.new.site

  abbrev list : LogList
  list = record { first = kept_by newest; blocks = h.log_holds.blocks; tail = h.log_holds.tail }

  abbrev sealing : Bool
  sealing = overflows c.args.log.now c.args.rec.now

  full : sealing ≡ true → has_tail c.args.log.now ≡ true
  full over = lt-ltb 2 c.args.log.now.used (full_tail c.args.log.now.used (length (spelling c.args.rec.now)) (spelling_short c.args.rec.now c.requires.form) over)

  -- all that stands behind it
  record Stands (lsn : ℕ) : Type 0 where
    pub rings : AreRingsSoundUnder newest pages.flash.geometry new.image
    pub are_sealed : AreSealed pages.flash.geometry new.image
    pub appended_is : IsAppended pages.flash.geometry c.args.log.now c.append.new.self list site new c.args.rec.now lsn sealing

  stands : c.args.log.now.geometry ≡ pages.flash.geometry → IfOk c.append.result Stands
  stands sizes =
      let ready = h.log_holds.ready in
      let changes = c.append.ensures.seals.changes ready.blocks.honest in
      if_ok_four c.append.result _ _ _ (λ lsn. IsNumbered c.args.log.now c.append.new.self lsn sealing) Stands (λ lsn holds finds reaches numbers. record {
        rings = rings_now newest pages.flash.geometry _ sealing list site.image new.image sizes h.log_holds.rings reaches;
        are_sealed = more_sealed pages site new changes _ c.append.new.self sizes c.append.ensures.seals.geometry ready.blocks finds c.append.ensures.seals.at_most_one.0 h.log_holds.ahead.versions;
        appended_is = record { numbers = numbers; kept = c.append.ensures.seals.kept; holds = holds; finds = finds; changes = changes; preserves = c.append.ensures.seals.preserves };
      })
      (c.append.ensures.holds list ready.blocks ready.records) (c.append.ensures.seals.finds ready.blocks) (c.append.ensures.seals.reaches list ready.blocks ready.records)
      (numbered g c)

pub returns-clause-log_holds : goal.returns-clause-log_holds
returns-clause-log_holds g c pages newest records history sizes h =
    let site = g.S.Site.state c.args.site.now in
    let new = g.S.Site.state c.append.new.site in
    let log = c.args.log.now in
    if_ok_one c.append.result (Stands g c pages newest records history h)
    (λ lsn. MayGrow log pages site.image newest records (record { lsn = lsn; rec = c.args.rec.now }) → RepresentsLog pages.flash.geometry c.append.new.self pages new newest (records ++ record { lsn = lsn; rec = c.args.rec.now } ∷ []) history)
    (λ lsn stands. appended log pages site newest records history h sizes c.append.new.self
    new c.args.rec.now lsn stands.rings stands.are_sealed
    (overflows log c.args.rec.now) (full g c pages newest records history h) stands.appended_is)
    (stands g c pages newest records history h sizes)

pub returns-clause-holds : goal.returns-clause-holds
returns-clause-holds g c pages newest records history sizes h none =
    let site = g.S.Site.state c.args.site.now in
    let new = g.S.Site.state c.append.new.site in
    let log = c.args.log.now in
    let rec = c.args.rec.now in
    let k = pages.flash.geometry in
    if_ok_two c.append.result
    (λ lsn. MayGrow log pages site.image newest records (record { lsn = lsn; rec = rec }) → RepresentsLog k c.append.new.self pages new newest (records ++ record { lsn = lsn; rec = rec } ∷ []) history)
    (λ lsn. (end_of log ≤ lsn) × (lsn < end_of c.append.new.self))
    (λ lsn. MayGrow log pages site.image newest records (record { lsn = lsn; rec = rec }) → Represents c.append.new.self pages new newest (records ++ record { lsn = lsn; rec = rec } ∷ []) history)
    (λ lsn holds rises may. holds_off k log c.append.new.self pages site new newest records history h (returns-clause-pages g c pages newest records history h) rec lsn none rises.0 rises.1 (holds may))
    (returns-clause-log_holds g c pages newest records history sizes h) c.append.ensures.rises

-- a Commit waits for its seal
pub returns-clause-commit : goal.returns-clause-commit
returns-clause-commit g c pages newest records history txn number sizes h is may table =
    let site = g.S.Site.state c.args.site.now in
    let new = g.S.Site.state c.append.new.site in
    let log = c.args.log.now in
    let rec = c.args.rec.now in
    let k = pages.flash.geometry in
    if_ok_two c.append.result (Stands g c pages newest records history h) (λ lsn. (end_of log ≤ lsn) × (lsn < end_of c.append.new.self))
    (λ lsn. Represents c.append.new.self pages new newest (records ++ record { lsn = lsn; rec = rec } ∷ []) (record history { commits = history.commits + 1 }))
    (λ lsn stands rises. holds_off k log c.append.new.self pages site new newest records history h (returns-clause-pages g c pages newest records history h) rec lsn (ap number_of is) rises.0 rises.1
    (commit_waits log pages site newest records history h sizes c.append.new.self new rec lsn stands.rings stands.are_sealed
    (overflows log rec) (full g c pages newest records history h) stands.appended_is txn number is may table))
    (stands g c pages newest records history h sizes) c.append.ensures.rises

pub returns-clause-last : goal.returns-clause-last
returns-clause-last g c pages newest records history sizes h =
    let site = g.S.Site.state c.args.site.now in
    let new = g.S.Site.state c.append.new.site in
    let log = c.args.log.now in
    let rec = c.args.rec.now in
    if_ok_two c.append.result (Stands g c pages newest records history h) (λ lsn. (end_of log ≤ lsn) × (lsn < end_of c.append.new.self))
    (λ lsn. EndsWith pages.flash.geometry c.append.new.self pages new newest records history (record { lsn = lsn; rec = rec }))
    (λ lsn stands rises. ends_with log pages site newest records history h sizes
    c.append.new.self new rec lsn stands.rings stands.are_sealed
    (overflows log rec) (full g c pages newest records history h) stands.appended_is (returns-clause-pages g c pages newest records history h)
    rises.0)
    (stands g c pages newest records history h sizes) c.append.ensures.rises

pub returns-clause-orderly : goal.returns-clause-orderly
returns-clause-orderly g c pages newest records history sizes h =
    let site = g.S.Site.state c.args.site.now in
    let rec = c.args.rec.now in
    let k = pages.flash.geometry in
    if_ok_one c.append.result (λ lsn. EndsWith k c.append.new.self pages _ newest records history (record { lsn = lsn; rec = rec }))
    (λ lsn. MayGrow _ pages site.image newest records (record { lsn = lsn; rec = rec }) → AreOrderly records → AreOrderly (records ++ record { lsn = lsn; rec = rec } ∷ []))
    (λ lsn ends may. ends_orderly k c.append.new.self pages _ newest records history rec lsn (versions_on k site.image) ends
    (returns-clause-pages g c pages newest records history h).versions may.follows)
    (returns-clause-last g c pages newest records history sizes h)

-- a record goes into the block that is sealed next

pub returns-clause-keeps : goal.returns-clause-keeps
returns-clause-keeps g c pages newest records history h =
    let site = g.S.Site.state c.args.site.now in
    let new = g.S.Site.state c.append.new.site in
    let log = c.args.log.now in
    let ready = h.log_holds.ready in
    let list : LogList = record { first = kept_by newest; blocks = h.log_holds.blocks; tail = h.log_holds.tail } in
    let sealing : Bool = overflows log c.args.rec.now in
    let full : overflows log c.args.rec.now ≡ true → has_tail log ≡ true = λ over. lt-ltb 2 log.used (full_tail log.used (length (spelling c.args.rec.now)) (spelling_short c.args.rec.now c.requires.form) over) in
    record {
      any_moment = λ going quiet. append_leaves log pages site newest records history h going.sizes new sealing quiet
          (c.append.ensures.seals.changes ready.blocks.honest) (c.append.ensures.seals.any_moment list (log_fits log site quiet ready.blocks) ready.records)
          (c.append.ensures.seals.front list (log_fits log site quiet ready.blocks) ready.records quiet) going.pages_going.own full;
      numbers = λ going quiet. log_skips c.append.result log.geometry log c.append.new.self list sealing site new 1 (ready_next pages log list site ready) full
          (c.append.ensures.seals.any_moment list (log_fits log site quiet ready.blocks) ready.records) (c.append.ensures.seals.front list (log_fits log site quiet ready.blocks) ready.records quiet)
          (ok_by c.append.result _ _ (λ lsn is. most_blocks log c.append.new.self lsn sealing full is) (numbered g c))
          (log_calls c.append.result log.geometry log.ring.hi c.append.new.self.ring.hi list sealing site new quiet (c.append.ensures.seals.changes ready.blocks.honest) (c.append.ensures.seals.reaches list ready.blocks ready.records) c.append.ensures.seals.next (c.append.ensures.seals.device_calls ready.blocks.honest));
      quiet = λ quiet. quiet_stops c.append.result new site quiet (λ is. ap g.S.Site.state (c.append.ensures.unchanged (inr (c.append.ensures.seals.worn.0 is).1))) c.append.ensures.seals.stops;
      worn_log = λ is. (let worn = (c.append.ensures.seals.worn.0 is).1 in log_at_end log site new ready.blocks (ap g.S.Site.state (c.append.ensures.unchanged (inr worn))) worn);
      masters = ok_as c.append.result _ (KeepsUnits master_shape site.image new.image)
          (λ reaches. ring_kept log.geometry Masters (changes_if sealing list) site.image new.image (seals_only sealing list) reaches) (c.append.ensures.seals.reaches list ready.blocks ready.records);
    }

pub returns-clause-performs : goal.returns-clause-performs
returns-clause-performs g c pages newest records history going h =
    let log = c.args.log.now in
    let rec = c.args.rec.now in
    let site = g.S.Site.state c.args.site.now in
    let new = g.S.Site.state c.append.new.site in
    subst (λ (n : ℕ). Performs c.append.result (rules_of_pages pages) (logged n ∷ []) (Mirrors log pages site.image) (Mirrors c.append.new.self pages new.image)) (octets_spelled rec)
    (logged_performs log c.append.new.self pages site new (record { high = c.requires.going.high; each = h.below }) c.append.result (length (spelling rec)) (λ over. full_tail log.used (length (spelling rec)) (spelling_short rec c.requires.form) over) (record { worn_log = c.append.ensures.seals.worn.0; stops = c.append.ensures.seals.stops }) c.append.ensures.seals.next
    (logged_used c.append.result (overflows log rec) (length (spelling rec)) log c.append.new.self c.append.ensures.seals.next c.append.ensures.lsn c.append.ensures.end)
    (returns-clause-pages g c pages newest records history h).current (numbers_left c.append.ensures.seals.going going.pages_going))
