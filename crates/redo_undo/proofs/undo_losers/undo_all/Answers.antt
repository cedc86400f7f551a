use Rattle.redo_undo.proofs.Names.{History, inl, inr, true, false, ℕ, List, ◌≡◌, ◌++◌, ◌+◌, [], ◌∙◌, arith, ◌*◌, ◌-◌, refl, reverse, ap, AllByRecursion, option_map, owed_for, IsTable, listed, Master, kept_by, Entry, txn_of, last_where, pending, has_tail, Content, Represents, undo_works, IsUndoing, ends_for, undo_work, undoing_work, no_error, Log}
use Rattle.redo_undo.proofs.UndoCalls.{undoes_few, undoes_as, undoes_stopped, undoes_answered, undoes_lacks}
use Rattle.std.proofs.Common.{Err}
use Rattle.std.specs.Prelude.{Option}
use Rattle.redo_undo.proofs.Opens.{none_listed, if_none, some_owed, order_same}
use Rattle.redo_undo.proofs.Found.{order, all_undone, sealed_up_to, own_known}
use Rattle.redo_undo.proofs.UndoneUpdates.{UndoesSoFar, next_is_last, none_is_next, updates_undone, updates_undone_more, updates_undone_stopped}
use Rattle.redo_undo.proofs.Calling.{works_answered, works_lacks, works_beside, works_stopped, works_then}
use Rattle.redo_undo.proofs.undo_losers.undo_all.Given.{Over}
use Rattle.redo_undo.proofs.undo_losers.undo_all.Goals.{After-end_undone, After-take_last}
use Rattle.redo_undo.proofs.UndoneWork.{ended_first}
use Rattle.redo_undo.proofs.undo_losers.undo_all.Goals as goal

module _ (g : Over) (c : After-end_undone g) (newest : Option Master) (records : List Entry) (history : History)
    (none : has_tail c.args.log.now ≡ false)
    (h : Represents c.args.log.now c.args.pages.now (g.S.Site.state c.args.site.now) newest records history)
    (is : IsTable [] records (listed c.args.found.now.table)) where
  undoing : IsUndoing c.args.log.now c.args.pages.now (g.S.Site.state c.args.site.now) newest records history c.args.found.now
      (c.sealed_end-sealed.result + 1)
  undoing = record {
    holds = h;
    analysis = is;
    up_to = sealed_up_to c.args.log.now c.args.pages.now (g.S.Site.state c.args.site.now) newest records history
        (c.sealed_end-sealed.result + 1) h none
        (omega (arith, c.sealed_end-sealed.ensures));
  }

-- the Update that is undone next is the last one
module _ (g : Over) (c : After-take_last g) (newest : Option Master) (records : List Entry) (history : History)
    (none : has_tail c.args.log.now ≡ false)
    (h : Represents c.args.log.now c.args.pages.now (g.S.Site.state c.args.site.now) newest records history)
    (is : IsTable [] records (listed c.args.found.now.table)) where
  before : UndoesSoFar c.loop-next.log c.loop-next.pages (g.S.Site.state c.loop-next.site) newest records history c.loop-next.found c.loop-next.known c.args.log.now c.args.pages.now (g.S.Site.state c.args.site.now)
      (owed_for (listed c.args.found.now.table) - owed_for (listed c.loop-next.found.table))
  before = c.loop-next.invariant.so_far newest records history none h is

  next_is : c.take_last.result ≡ option_map (λ (u : Entry). record { 0 = txn_of u; 1 = u.lsn })
      (last_where (λ v. true) (pending (records ++ before.updates.some.more)))
  next_is =
      let now = before.updates.some.now in
      let all = records ++ before.updates.some.more in
      c.take_last.ensures.of_table [] all (listed c.loop-next.found.table) (512 * kept_by newest) _ c.loop-next.invariant.order now.analysis
      (own_known c.table_of_records.ensures.active c.loop-next.log c.loop-next.pages _ newest all history c.loop-next.found now.holds now.analysis)
      (order c.table_of_records.ensures.active c.loop-next.log c.loop-next.pages _ newest all history c.loop-next.found now.holds now.analysis)

pub loop-next-init : goal.loop-next-init
loop-next-init g c =
    let fewer = c.in-Ok-end_undone.ensures.fewer in
    let few = c.in-Ok-end_undone.ensures.blocks in
    record {
      works = works_answered (works_beside c.requires.going c.in-Ok-end_undone.ensures.rises tt (λ says. no_error says) c.in-Ok-end_undone.ensures.works);
      found_going = c.end_undone.ensures.found.going;
      before = c.in-Ok-end_undone.ensures.before;
      order = order_same c.in-Ok.order (listed c.args.found.now.table) (listed c.end_undone.new.found.table) c.in-Ok.ensures.order c.in-Ok-end_undone.ensures.left;
      remain = c.in-Ok-end_undone.ensures.remain;
      commits = c.end_undone.ensures.found.commits;
      blocks = few;
      fewer = fewer;
      log_reads = omega (arith, fewer, c.end_undone.ensures.works.reads Log);
      so_far = λ newest records history none h is.
          let undoing = undoing g (goal.at.loop-next-init g c).After-end_undone newest records history none h is in
          let updates = c.in-Ok-end_undone.ensures.updates c.args.pages.now newest records history c.requires.going undoing in
          record {
            done = [];
            updates = updates;
            worked = ends_for (listed c.args.found.now.table);
            left_is = ended_first c.table_of_records.ensures.active c.table_of_records.ensures.one c.table_of_records.ensures.unfinished c.args.found.now h is ∙ ap (λ (l : List Entry). ends_for (listed c.args.found.now.table) ++ undoing_work l) updates.left;
            does = undoes_answered (c.in-Ok-end_undone.ensures.does c.args.pages.now newest records history c.requires.going undoing);
          };
    }

pub loop-next-preserved : goal.loop-next-preserved
loop-next-preserved g c =
    let inv = c.loop-next.invariant in
    let few = inv.blocks in
    let less = c.in-Ok-undo_next.ensures.blocks in
    let falls = c.in-Ok-undo_next.ensures.falls in
    let fewer = inv.fewer in
    let works = works_then inv.works c.in-Ok-undo_next.ensures.works in
    let s = (goal.at.loop-next-preserved g c).After-take_last in
    record {
      works = works_answered works;
      found_going = c.undo_next.ensures.found.going;
      before = c.in-Ok-undo_next.ensures.before;
      order = c.in-Some.ensures.order (listed c.loop-next.found.table) (listed c.undo_next.new.found.table) inv.order c.in-Ok-undo_next.ensures.drops;
      remain = c.in-Ok-undo_next.ensures.remain;
      commits = c.undo_next.ensures.found.commits ∙ inv.commits;
      blocks = omega (arith, few, less);
      fewer = omega (arith, falls, fewer);
      log_reads = let reads = inv.log_reads in let one = c.undo_next.ensures.log_reads in omega (arith, falls, reads, one);
      so_far = λ newest records history none h is.
          let before = before g s newest records history none h is in
          let undone = before.updates.some in
          let all = records ++ undone.more in
          let last = next_is_last all c.take_last.result c.in-Some.next c.in-Some.is (next_is g s newest records history none h is) in
          updates_undone_more before (omega (arith, falls, fewer)) h inv.works (c.in-Ok-undo_next.ensures.updates newest all history last.0 undone.now last.1)
          (λ earlier all_are. c.in-Ok-undo_next.ensures.does newest all history last.0 earlier undone.now last.1 all_are);
    }

pub returns-clause-none : goal.returns-clause-none
returns-clause-none g c = none_listed (listed c.loop-next.found.table) c.loop-next.invariant.remain (if_none c.take_last.result (AllByRecursion (λ x. x.updates ≡ []) (listed c.loop-next.found.table)) (λ at some. c.in_default.not-Some at some) (c.take_last.ensures.none (listed c.loop-next.found.table) c.loop-next.invariant.found_going c.loop-next.invariant.order))

pub returns-clause-undone : goal.returns-clause-undone
returns-clause-undone g c newest records history none h is =
    all_undone c.table_of_records.ensures.active c.loop-next.log c.loop-next.pages (g.S.Site.state c.loop-next.site) newest records history c.loop-next.found c.loop-next.known (c.loop-next.invariant.so_far newest records history none h is).updates.some
    (returns-clause-none g c)

pub returns-in-Err-undo_next-clause-log_reads : goal.returns-in-Err-undo_next-clause-log_reads
returns-in-Err-undo_next-clause-log_reads g c =
    let remains = c.in-Some.ensures.remains (listed c.loop-next.found.table) c.loop-next.invariant.order in
    omega (arith, some_owed (listed c.loop-next.found.table) c.in-Some.next.0 remains.x remains.there, c.loop-next.invariant.log_reads, c.undo_next.ensures.log_reads)

pub returns-in-Err-clause-works : goal.returns-in-Err-clause-works
returns-in-Err-clause-works g c = works_lacks c.in-Err.ensures.stops c.requires.going

pub returns-in-Err-clause-does : goal.returns-in-Err-clause-does
returns-in-Err-clause-does g c newest records history none h is = elim c.in-Err.ensures.stops [
  | inl lacks ↦ undoes_lacks (undo_work records) (undo_works records) lacks c.requires.going h
  | inr foreign ↦ absurd (c.in-Err.ensures.readable [] records (512 * kept_by newest) _ is (order c.table_of_records.ensures.active c.args.log.now c.args.pages.now (g.S.Site.state c.args.site.now) newest records history c.args.found.now h is) (ap Err foreign))
]

pub returns-in-Err-end_undone-clause-does : goal.returns-in-Err-end_undone-clause-does
returns-in-Err-end_undone-clause-does g c newest records history none h is =
    undoes_few (omega arith) (omega arith) (undoes_as (ended_first c.table_of_records.ensures.active c.table_of_records.ensures.one c.table_of_records.ensures.unfinished c.args.found.now h is) refl
    (undoes_stopped (undoing_work (reverse (pending records))) (undo_works records) c.requires.going
    (c.in-Err-end_undone.ensures.does c.args.pages.now newest records history c.requires.going (undoing g (goal.at.returns-in-Err-end_undone-clause-does g c).After-end_undone newest records history none h is))))

pub returns-in-Err-undo_next-clause-does : goal.returns-in-Err-undo_next-clause-does
returns-in-Err-undo_next-clause-does g c newest records history none h is =
    let s = (goal.at.returns-in-Err-undo_next-clause-does g c).After-take_last in
    let inv = c.loop-next.invariant in
    let before = before g s newest records history none h is in
    let undone = before.updates.some in
    let all = records ++ undone.more in
    let last = next_is_last all c.take_last.result c.in-Some.next c.in-Some.is (next_is g s newest records history none h is) in
    updates_undone_stopped before last.0 c.in-Some.next.0 c.in-Some.next.1 last.1 (omega (arith, inv.fewer)) c.requires.going h inv.works
    (λ earlier all_are. c.in-Err-undo_next.ensures.does newest all history last.0 earlier undone.now last.1 all_are)

pub returns-clause-does : goal.returns-clause-does
returns-clause-does g c newest records history none h is =
    let s = (goal.at.returns-clause-does g c).After-take_last in
    let before = before g s newest records history none h is in
    updates_undone before (omega arith) (none_is_next (records ++ before.updates.some.more) c.take_last.result (λ at is_some. c.in_default.not-Some at is_some) (next_is g s newest records history none h is))

pub returns-in-Err-end_undone-clause-log_reads : goal.returns-in-Err-end_undone-clause-log_reads
returns-in-Err-end_undone-clause-log_reads g c = omega (arith, c.end_undone.ensures.works.reads Log)

pub returns-in-Err-undo_next-clause-works : goal.returns-in-Err-undo_next-clause-works
returns-in-Err-undo_next-clause-works g c = works_stopped c.loop-next.invariant.works c.in-Err-undo_next.ensures.works
