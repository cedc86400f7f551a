use Rattle.redo_undo.proofs.Names.{History, ◌≡◌, ◌+◌, ◌-◌, min, take, List, length, sym, subst, arith, ℕ, Result, Master, Unfinished, Entry, left_open, Content, works_of, clrs_for, UndoesLast, UndoesWork, IsAt, Stop}
use Rattle.std.specs.Prelude.{Option}
use Rattle.redo_undo.proofs.Calling.{works_answered}
use Rattle.redo_undo.proofs.UndoCalls.{undoes_answered, undoes_failed, undoes_few}
use Rattle.redo_undo.proofs.UpTo.{undoes_last}
use Rattle.redo_undo.proofs.undo.undo_to.Given.{Over}
use Rattle.redo_undo.proofs.undo.undo_to.Goals.{After-undo_updates}
use Rattle.redo_undo.proofs.undo.undo_to.Goals as goal

module _ (g : Over) (c : After-undo_updates g) (newest : Option Master) (records : List Entry) (history : History) (x : Unfinished) (own : x.txn ≡ c.args.txn) where
  -- the same transaction by its other name, and no more records than these
  named : {T : Type 0} {r : Result T Stop} → UndoesWork r (clrs_for (take c.args.count (left_open records x.txn))) (works_of (take c.args.count (left_open records x.txn))) c.args.log.now c.undo_updates.new.log c.args.pages.now c.undo_updates.new.pages (g.S.Site.state c.args.site.now) (g.S.Site.state c.undo_updates.new.site) newest history
      (min c.args.count x.remaining) (min c.args.count x.remaining + (length x.chain - x.remaining)) →
      UndoesWork r (clrs_for (take c.args.count (left_open records c.args.txn))) (works_of (take c.args.count (left_open records c.args.txn))) c.args.log.now c.undo_updates.new.log c.args.pages.now c.undo_updates.new.pages (g.S.Site.state c.args.site.now) (g.S.Site.state c.undo_updates.new.site) newest history
      c.args.count (c.args.count + (length x.chain - x.remaining))
  named {r = r} does =
      subst (λ (t : ℕ). UndoesWork r (clrs_for (take c.args.count (left_open records t))) (works_of (take c.args.count (left_open records t))) c.args.log.now c.undo_updates.new.log c.args.pages.now c.undo_updates.new.pages (g.S.Site.state c.args.site.now) (g.S.Site.state c.undo_updates.new.site) newest history
      c.args.count (c.args.count + (length x.chain - x.remaining))) own (undoes_few (omega arith) (omega arith) does)

pub returns-in-Ok : goal.returns-in-Ok
returns-in-Ok g c = record {
  undone = λ newest records history x h unfinished own last next few.
      let at : IsAt (record { txn = c.args.txn; last = c.args.last; next = c.args.last }) x = record { txn = sym own; last = sym last; next = sym next } in
      subst (λ (t : ℕ). UndoesLast c.undo_updates.new.log c.undo_updates.new.pages (g.S.Site.state c.undo_updates.new.site) newest records history t c.args.count c.in-Ok.at.last) own
      (undoes_last (c.in-Ok.ensures.undone newest records history x h unfinished at) (omega (arith, few, unfinished.remaining_is)));
  does = λ newest records history x h unfinished own last next few.
      let at : IsAt (record { txn = c.args.txn; last = c.args.last; next = c.args.last }) x = record { txn = sym own; last = sym last; next = sym next } in
      named g (goal.at.returns-in-Ok g c).After-undo_updates newest records history x own (undoes_answered (c.in-Ok.ensures.does newest records history x h unfinished at));
  last = c.in-Ok.ensures.last;
  works = works_answered c.in-Ok.ensures.works;
  blocks = c.in-Ok.ensures.blocks;
}

pub returns-in-Err-clause-does : goal.returns-in-Err-clause-does
returns-in-Err-clause-does g c newest records history x h unfinished own last next few =
    let at : IsAt (record { txn = c.args.txn; last = c.args.last; next = c.args.last }) x = record { txn = sym own; last = sym last; next = sym next } in
    named g (goal.at.returns-in-Err-clause-does g c).After-undo_updates newest records history x own (undoes_failed (c.in-Err.ensures.does newest records history x h unfinished at))
