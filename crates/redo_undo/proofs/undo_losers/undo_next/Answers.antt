use Rattle.redo_undo.proofs.Names.{History, ◌≢◌, ◌++◌, [], ◌∷◌, refl, drop, sym, subst, arith, ℕ, append-nil, List, ◌≡◌, ◌∙◌, ap, not, reverse, length, nat_eq, Option, Some, none-some, list_any, option_map, IsErrOf, if◌then◌else◌, Open, Replaces, TakesOut, LeavesSame, DropsOne, Remains, owed_for, found_in, loser_of, listed, Master, Entry, txn_of, is_of, pending, Content, if_ok_one, not_worn_either, works_of, IsLastAt, UndoesUpdates, Remain, HasNone, IsUndoing, none_remains, ends, err_as, of_error, ok_as, Flash, Log, Worn}
use Rattle.redo_undo.proofs.UndoCalls.{undoes_few, undoes_as, undoes_then, undoes_stopped, few_taken}
use Rattle.redo_undo.proofs.Opens.{still_remain, none_remains_of, others_remain, some_owed, left_then, of_found, drops_one, drops_as}
use Rattle.redo_undo.proofs.Found.{last_known}
use Rattle.redo_undo.proofs.UndoneUpdates.{more_updates}
use Rattle.redo_undo.proofs.Calling.{ends_stop, works_beside, works_then}
use Rattle.redo_undo.proofs.UndoneWork.{without_end, with_end, waits_where}
use Rattle.redo_undo.proofs.undo_losers.undo_next.Given.{Over}
use Rattle.redo_undo.proofs.undo_losers.undo_next.Goals.{In-Ok}
use Rattle.redo_undo.proofs.undo_losers.undo_next.Goals as goal

pub undo_greatest-requires-clause-there : goal.undo_greatest-requires-clause-there
undo_greatest-requires-clause-there g c = (of_found (listed c.args.found.now.table) c.args.next.0 c.in-Some.loser c.in-Some.ensures.loser).0

pub undo_greatest-requires-clause-greatest : goal.undo_greatest-requires-clause-greatest
undo_greatest-requires-clause-greatest g c = subst (λ (t : ℕ). Remains (listed c.args.found.now.table) t c.args.next.1) (sym (of_found (listed c.args.found.now.table) c.args.next.0 c.in-Some.loser c.in-Some.ensures.loser).1) c.requires.greatest

pub returns-then-loser-gt1-clause-drops : goal.returns-then-loser-gt1-clause-drops
returns-then-loser-gt1-clause-drops g c =
    drops_one (listed c.args.found.now.table) (listed c.undo_greatest.new.found.table) c.args.next.0 c.in-Ok.last c.requires.found c.undo_greatest.ensures.found.going
    (subst (λ (t : ℕ). Replaces (listed c.args.found.now.table) (listed c.undo_greatest.new.found.table) t (λ (x : Open). record x { last = c.in-Ok.last; updates = drop 1 x.updates })) (of_found (listed c.args.found.now.table) c.args.next.0 c.in-Some.loser c.in-Some.ensures.loser).1 c.in-Ok.ensures.replaces)

pub returns-clause-drops : goal.returns-clause-drops
returns-clause-drops g c =
    let old = listed c.args.found.now.table in
    let mid = listed c.undo_greatest.new.found.table in
    let new = listed c.end_one.new.found.table in
    ok_as c.end_one.result (LeavesSame mid new) (DropsOne old new c.args.next.0)
    (drops_as old mid new c.args.next.0 (drops_one old mid c.args.next.0 c.in-Ok.last c.requires.found c.undo_greatest.ensures.found.going
    (subst (λ (t : ℕ). Replaces old mid t (λ (x : Open). record x { last = c.in-Ok.last; updates = drop 1 x.updates })) (of_found (listed c.args.found.now.table) c.args.next.0 c.in-Some.loser c.in-Some.ensures.loser).1 c.in-Ok.ensures.replaces)))
    c.end_one.ensures.left

pub returns-then-loser-gt1-clause-remain : goal.returns-then-loser-gt1-clause-remain
returns-then-loser-gt1-clause-remain g c =
    still_remain (listed c.args.found.now.table) (listed c.undo_greatest.new.found.table) c.in-Some.loser c.in-Ok.last c.requires.found c.requires.remain (of_found (listed c.args.found.now.table) c.args.next.0 c.in-Some.loser c.in-Some.ensures.loser).0 (omega (arith, c.if-loser-gt1.true)) c.in-Ok.ensures.replaces

pub end_one-requires-clause-none : goal.end_one-requires-clause-none
end_one-requires-clause-none g c =
    subst (HasNone (listed c.undo_greatest.new.found.table)) (of_found (listed c.args.found.now.table) c.args.next.0 c.in-Some.loser c.in-Some.ensures.loser).1
    (none_remains_of (listed c.args.found.now.table) (listed c.undo_greatest.new.found.table) c.in-Some.loser c.in-Ok.last c.requires.found c.undo_greatest.ensures.found.going (of_found (listed c.args.found.now.table) c.args.next.0 c.in-Some.loser c.in-Some.ensures.loser).0 (omega (arith, c.if-loser-gt1.false))
    c.in-Ok.ensures.replaces)

pub returns-clause-remain : goal.returns-clause-remain
returns-clause-remain g c =
    let old = listed c.args.found.now.table in
    let mid = listed c.undo_greatest.new.found.table in
    let new = listed c.end_one.new.found.table in
    ok_as c.end_one.result (TakesOut mid new c.args.next.0) (Remain new)
    (others_remain old mid new c.args.next.0 c.in-Ok.last c.undo_greatest.ensures.found.going c.requires.remain
    (subst (λ (t : ℕ). Replaces old mid t (λ (x : Open). record x { last = c.in-Ok.last; updates = drop 1 x.updates })) (of_found (listed c.args.found.now.table) c.args.next.0 c.in-Some.loser c.in-Some.ensures.loser).1 c.in-Ok.ensures.replaces))
    c.end_one.ensures.takes

pub returns-then-loser-gt1-clause-updates : goal.returns-then-loser-gt1-clause-updates
returns-then-loser-gt1-clause-updates g c newest records history u h last =
    c.in-Ok.ensures.updates newest records history c.args.known u h (subst (λ (t : ℕ). IsLastAt records t c.args.next.1 u) (sym (of_found (listed c.args.found.now.table) c.args.next.0 c.in-Some.loser c.in-Some.ensures.loser).1) last)

pub returns-clause-updates : goal.returns-clause-updates
returns-clause-updates g c newest records history u h last =
    let first = c.in-Ok.ensures.updates newest records history c.args.known u h (subst (λ (t : ℕ). IsLastAt records t c.args.next.1 u) (sym (of_found (listed c.args.found.now.table) c.args.next.0 c.in-Some.loser c.in-Some.ensures.loser).1) last) in
    if_ok_one c.end_one.result
    (λ lsn. UndoesUpdates c.end_one.new.log _ _ newest (records ++ first.some.more) history c.end_one.new.found lsn [])
    (λ lsn. UndoesUpdates c.end_one.new.log _ _ newest records history c.end_one.new.found lsn (u ∷ []))
    (λ lsn second. more_updates c.undo_greatest.new.log c.end_one.new.log _ _ _ _ newest records history c.undo_greatest.new.found c.end_one.new.found c.in-Ok.last lsn (u ∷ []) [] first second)
    (c.end_one.ensures.updates _ newest (records ++ first.some.more) history c.in-Ok.last c.in-Ok.ensures.works.going.sizes first.some.now)

pub returns-clause-log_reads : goal.returns-clause-log_reads
returns-clause-log_reads g c = let one = c.in-Ok.ensures.log_reads in omega (arith, one, c.end_one.ensures.works.reads Log)

pub returns-clause-works : goal.returns-clause-works
returns-clause-works g c =
    let stops = err_as c.end_one.result _ _ ends_stop c.end_one.ensures.stops in
    let never = λ (is : IsErrOf c.end_one.result (Worn Flash)). of_error c.end_one.result (λ stop. stop ≢ Worn Flash) (Worn Flash) (err_as c.end_one.result _ _ not_worn_either c.end_one.ensures.stops) is refl in
    works_then c.in-Ok.ensures.works (works_beside c.in-Ok.ensures.works.going c.end_one.ensures.rises stops never c.end_one.ensures.works)

-- What it makes of the machine.

module _ (g : Over) (c : In-Ok g) (newest : Option Master) (records : List Entry) (history : History) (u : Entry) (earlier : List Entry)
    (h : IsUndoing c.args.log.now c.args.pages.now (g.S.Site.state c.args.site.now) newest records history c.args.found.now c.args.known)
    (last : IsLastAt records c.args.next.0 c.args.next.1 u) (all : reverse (pending records) ≡ u ∷ earlier) where
  last' : IsLastAt records c.in-Some.loser.txn c.args.next.1 u
  last' = subst (λ (t : ℕ). IsLastAt records t c.args.next.1 u) (sym (of_found (listed c.args.found.now.table) c.args.next.0 c.in-Some.loser c.in-Some.ensures.loser).1) last

  first : UndoesUpdates c.undo_greatest.new.log c.undo_greatest.new.pages (g.S.Site.state c.undo_greatest.new.site) newest records history c.undo_greatest.new.found c.in-Ok.last (u ∷ [])
  first = c.in-Ok.ensures.updates newest records history c.args.known u h last'

  -- whether its transaction has one of the earlier Updates is whether analysis has one of it
  pub waits : (x : Open) → found_in (listed c.undo_greatest.new.found.table) (txn_of u) ≡ Some x → list_any (is_of (txn_of u)) earlier ≡ not (none_remains x)
  waits x there = waits_where c.table_of_records.ensures.active c.undo_greatest.new.log c.undo_greatest.new.pages (g.S.Site.state c.undo_greatest.new.site) newest records history c.undo_greatest.new.found c.in-Ok.last u earlier all first x there

  pub own : txn_of u ≡ c.args.next.0
  own = last.own

pub returns-in_default-clause-does : goal.returns-in_default-clause-does
returns-in_default-clause-does g c newest records history u earlier h last all =
    absurd (none-some (loser_of c.requires.greatest.x) (sym c.in_default.is ∙ c.loser.ensures.loser ∙ ap (option_map loser_of) c.requires.greatest.there))

pub returns-then-loser-known-clause-does : goal.returns-then-loser-known-clause-does
returns-then-loser-known-clause-does g c newest records history u earlier h last all =
    let less = last_known c.table_of_records.ensures.active c.args.log.now c.args.pages.now (g.S.Site.state c.args.site.now) newest records history c.args.found.now h.holds h.analysis c.args.known c.in-Some.loser h.up_to (of_found (listed c.args.found.now.table) c.args.next.0 c.in-Some.loser c.in-Some.ensures.loser).0 in
    absurd (omega (arith, less, c.if-loser-known.true))

pub returns-in-Err-clause-does : goal.returns-in-Err-clause-does
returns-in-Err-clause-does g c newest records history u earlier h last all =
    undoes_few (some_owed (listed c.args.found.now.table) c.args.next.0 c.requires.greatest.x c.requires.greatest.there) (omega arith) (undoes_as refl (sym (append-nil (works_of (u ∷ []))))
    (undoes_stopped (if list_any (is_of (txn_of u)) earlier then [] else ends) [] c.requires.going (c.in-Err.ensures.does newest records history c.args.known u h (subst (λ (t : ℕ). IsLastAt records t c.args.next.1 u) (sym (of_found (listed c.args.found.now.table) c.args.next.0 c.in-Some.loser c.in-Some.ensures.loser).1) last))))

pub returns-then-loser-gt1-clause-does : goal.returns-then-loser-gt1-clause-does
returns-then-loser-gt1-clause-does g c newest records history u earlier h last all =
    let s = (goal.at.returns-then-loser-gt1-clause-does g c).In-Ok in
    let left = left_then (listed c.args.found.now.table) (listed c.undo_greatest.new.found.table) c.in-Some.loser c.in-Ok.last c.requires.found (of_found (listed c.args.found.now.table) c.args.next.0 c.in-Some.loser c.in-Some.ensures.loser).0 (omega (arith, c.if-loser-gt1.true)) c.in-Ok.ensures.replaces c.undo_greatest.ensures.found.going in
    let there : found_in (listed c.undo_greatest.new.found.table) (txn_of u) ≡ Some left.0 = ap (found_in (listed c.undo_greatest.new.found.table)) (last.own ∙ sym (of_found (listed c.args.found.now.table) c.args.next.0 c.in-Some.loser c.in-Some.ensures.loser).1) ∙ left.1 in
    undoes_few (omega (arith, c.in-Ok.ensures.owed)) (omega arith) (undoes_as (without_end u earlier (waits g s newest records history u earlier h last all left.0 there ∙ ap not left.2)) refl
    (c.in-Ok.ensures.does newest records history c.args.known u h (last' g s newest records history u earlier h last all)))

pub returns-clause-does : goal.returns-clause-does
returns-clause-does g c newest records history u earlier h last all =
    let s = (goal.at.returns-clause-does g c).In-Ok in
    let none = none_remains_of (listed c.args.found.now.table) (listed c.undo_greatest.new.found.table) c.in-Some.loser c.in-Ok.last c.requires.found c.undo_greatest.ensures.found.going (of_found (listed c.args.found.now.table) c.args.next.0 c.in-Some.loser c.in-Some.ensures.loser).0 (omega (arith, c.if-loser-gt1.false)) c.in-Ok.ensures.replaces in
    let there : found_in (listed c.undo_greatest.new.found.table) (txn_of u) ≡ Some none.x = ap (found_in (listed c.undo_greatest.new.found.table)) (last.own ∙ sym (of_found (listed c.args.found.now.table) c.args.next.0 c.in-Some.loser c.in-Some.ensures.loser).1) ∙ none.there in
    let owes = some_owed (listed c.undo_greatest.new.found.table) c.in-Some.loser.txn none.x none.there in
    let first = first g s newest records history u earlier h last all in
    let works = c.in-Ok.ensures.works in
    undoes_few (few_taken c.end_one.result 2 (owed_for (listed c.args.found.now.table)) (owed_for (listed c.end_one.new.found.table)) (omega (arith, owes, c.in-Ok.ensures.owed)) (ok_as c.end_one.result _ _ (λ falls. omega (arith, falls, c.in-Ok.ensures.owed)) c.end_one.ensures.falls)) (omega arith)
    (undoes_as (with_end u earlier (waits g s newest records history u earlier h last all none.x there ∙ ap (λ (l : List ℕ). not (nat_eq (length l) 0)) none.none)) (sym (append-nil (works_of (u ∷ []))))
    (undoes_then h.holds works (c.in-Ok.ensures.does newest records history c.args.known u h (last' g s newest records history u earlier h last all))
    (c.end_one.ensures.does c.undo_greatest.new.pages newest (records ++ first.some.more) history c.in-Ok.last works.going first.some.now)))
