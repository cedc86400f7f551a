use Rattle.redo_undo.proofs.Names.{drop, get_or, ◌∷◌, sym, subst, [], refl, ◌∙◌, arith, suc, ◌≡◌, ◌+◌, ℕ, List, ◌++◌, replicate, length, ◌-◌, ap, drop_more, drop_all, listed, none_remains, ends_for, ends, RingOp, logged, no_error}
use Rattle.redo_undo.proofs.UndoCalls.{undoes_nothing, undoes_few, undoes_as, undoes_answered, undoes_then, undoes_stopped, undoes_lacks}
use Rattle.std.proofs.Common.{filter}
use Rattle.redo_undo.proofs.UndoneUpdates.{no_updates, more_updates}
use Rattle.redo_undo.proofs.Opens.{some_owed, Waits, waits_all, first_waits, waits_on, none_waits}
use Rattle.redo_undo.proofs.Calling.{beside_answered, beside_lacks, beside_nothing, beside_then, works_beside}
use Rattle.redo_undo.proofs.UndoneWork.{one_end, more_ends, takes_one, some_none, no_ends}
use Rattle.redo_undo.proofs.undo_losers.end_undone.Goals as goal

pub loop-txn-init : goal.loop-txn-init
loop-txn-init g c = record {
  works = beside_nothing c.requires.going;
  found_going = c.requires.found;
  before = c.requires.known;
  rises = omega arith;
  commits = refl;
  waits = subst (λ (l : List ℕ). Waits l (listed c.args.found.now.table)) (sym c.as_slice-txn-items.ensures.value) (waits_all c.in-Ok.undone.items (listed c.args.found.now.table) c.requires.found c.in-Ok.ensures.undone);
  left = λ s. refl;
  blocks = omega arith;
  fewer = omega arith;
  updates = λ pages newest records history going h. no_updates c.args.log.now pages (g.S.Site.state c.args.site.now) newest records history c.args.found.now c.args.known h;
  ends = λ pages newest records history going h. record { count = 0; of_all = omega arith; made = undoes_nothing going.sizes h.holds };
}

pub loop-txn-preserved : goal.loop-txn-preserved
loop-txn-preserved g c =
    let inv = c.loop-txn.invariant in
    let items = c.as_slice-txn-items.result.now in
    let txn : ℕ = get_or items c.loop-txn.txn-index 0 in
    let here : drop c.loop-txn.txn-index items ≡ txn ∷ drop (c.loop-txn.txn-index + 1) items = drop_more items c.loop-txn.txn-index 0 c.loop-txn-test.true in
    let waits : Waits (txn ∷ drop (c.loop-txn.txn-index + 1) items) (listed c.loop-txn.found.table) = subst (λ (l : List ℕ). Waits l (listed c.loop-txn.found.table)) here inv.waits in
    let none = first_waits txn (drop (c.loop-txn.txn-index + 1) items) (listed c.loop-txn.found.table) waits in
    let one = takes_one (listed c.loop-txn.found.table) (listed c.end_one.new.found.table) txn inv.found_going none c.in-Ok-end_one.ensures.takes in
    let falls = c.in-Ok-end_one.ensures.falls in
    let fewer = inv.fewer in
    record {
      works = beside_answered (beside_then inv.works c.in-Ok-end_one.ensures.works);
      found_going = c.end_one.ensures.found.going;
      before = c.in-Ok-end_one.ensures.before;
      rises = let before = inv.rises in let more = c.in-Ok-end_one.ensures.rises in omega (arith, before, more);
      commits = c.end_one.ensures.found.commits ∙ inv.commits;
      waits = waits_on txn (drop (c.loop-txn.txn-index + 1) items) (listed c.loop-txn.found.table) (listed c.end_one.new.found.table) waits one c.in-Ok-end_one.ensures.takes;
      left = λ s. c.in-Ok-end_one.ensures.left s ∙ inv.left s;
      blocks = let few = inv.blocks in let one = c.in-Ok-end_one.ensures.blocks in omega (arith, falls, few, one);
      fewer = omega (arith, falls, fewer);
      updates = λ pages newest records history going h.
          let before = inv.updates pages newest records history going h in
          more_updates c.loop-txn.log c.end_one.new.log pages pages (g.S.Site.state c.loop-txn.site) (g.S.Site.state c.end_one.new.site) newest records history c.loop-txn.found c.end_one.new.found c.loop-txn.last c.in-Ok-end_one.lsn [] [] before
          (c.in-Ok-end_one.ensures.updates pages newest _ history c.loop-txn.last (inv.works.going pages going).sizes before.some.now);
      ends = λ pages newest records history going h.
          let before = inv.ends pages newest records history going h in
          let all = before.of_all in
          record {
            count = suc before.count;
            of_all = omega (arith, all, one);
            made = undoes_few (omega (arith, falls, fewer)) (omega arith) (undoes_as (one_end before.count) refl (undoes_answered (undoes_then h.holds (works_beside going inv.rises tt (λ says. no_error says) inv.works) before.made
                (c.in-Ok-end_one.ensures.does pages newest _ history c.loop-txn.last (inv.works.going pages going) (inv.updates pages newest records history going h).some.now))));
          };
    }

pub returns-in-Err-end_one-clause-works : goal.returns-in-Err-end_one-clause-works
returns-in-Err-end_one-clause-works g c = beside_then c.loop-txn.invariant.works c.in-Err-end_one.ensures.works

pub returns-in-Err-end_one-clause-does : goal.returns-in-Err-end_one-clause-does
returns-in-Err-end_one-clause-does g c pages newest records history going h =
    let inv = c.loop-txn.invariant in
    let items = c.as_slice-txn-items.result.now in
    let none = first_waits (get_or c.as_slice-txn-items.result.now c.loop-txn.txn-index 0) (drop (c.loop-txn.txn-index + 1) items) (listed c.loop-txn.found.table)
    (subst (λ (l : List ℕ). Waits l (listed c.loop-txn.found.table)) (drop_more items c.loop-txn.txn-index 0 c.loop-txn-test.true) inv.waits) in
    let owes = some_owed (listed c.loop-txn.found.table) (get_or c.as_slice-txn-items.result.now c.loop-txn.txn-index 0) none.x none.there in
    let before = inv.ends pages newest records history going h in
    let all = before.of_all in
    let some = some_none (listed c.loop-txn.found.table) (get_or c.as_slice-txn-items.result.now c.loop-txn.txn-index 0) none in
    let left : ℕ = length (filter none_remains (listed c.loop-txn.found.table)) - 1 in
    let split : length (filter none_remains (listed c.args.found.now.table)) ≡ suc before.count + left = omega (arith, all, some) in
    let is : ends_for (listed c.args.found.now.table) ≡ (replicate before.count (logged 9) ++ ends) ++ replicate left (logged 9) =
    ap (λ (n : ℕ). replicate n (logged 9)) split ∙ more_ends (suc before.count) left ∙ ap (λ (w : List RingOp). w ++ replicate left (logged 9)) (one_end before.count) in
    undoes_few (omega (arith, owes, inv.fewer)) (omega arith) (undoes_as is refl (undoes_stopped (replicate left (logged 9)) [] going (undoes_then h.holds (works_beside going inv.rises tt (λ says. no_error says) inv.works) before.made
    (c.in-Err-end_one.ensures.does pages newest _ history c.loop-txn.last (inv.works.going pages going) (inv.updates pages newest records history going h).some.now))))

pub returns-clause-remain : goal.returns-clause-remain
returns-clause-remain g c =
    none_waits (listed c.loop-txn.found.table) (subst (λ (l : List ℕ). Waits l (listed c.loop-txn.found.table)) (drop_all c.loop-txn.txn-index c.as_slice-txn-items.result.now c.loop-txn-test.false) c.loop-txn.invariant.waits)

pub end_one-requires-clause-none : goal.end_one-requires-clause-none
end_one-requires-clause-none g c =
    let items = c.as_slice-txn-items.result.now in
    first_waits (get_or c.as_slice-txn-items.result.now c.loop-txn.txn-index 0) (drop (c.loop-txn.txn-index + 1) items) (listed c.loop-txn.found.table)
    (subst (λ (l : List ℕ). Waits l (listed c.loop-txn.found.table)) (drop_more items c.loop-txn.txn-index 0 c.loop-txn-test.true) c.loop-txn.invariant.waits)

pub returns-in-Err-clause-works : goal.returns-in-Err-clause-works
returns-in-Err-clause-works g c = beside_lacks c.in-Err.ensures.stops c.requires.going

pub returns-in-Err-clause-does : goal.returns-in-Err-clause-does
returns-in-Err-clause-does g c pages newest records history going h = undoes_lacks (ends_for (listed c.args.found.now.table)) [] c.in-Err.ensures.stops going h.holds

pub returns-clause-does : goal.returns-clause-does
returns-clause-does g c pages newest records history going h =
    let before = c.loop-txn.invariant.ends pages newest records history going h in
    let all = before.of_all in
    let none = no_ends (listed c.loop-txn.found.table) (returns-clause-remain g c) in
    undoes_as (ap (λ (n : ℕ). replicate n (logged 9)) (omega (arith, all, none))) refl (undoes_answered before.made)
