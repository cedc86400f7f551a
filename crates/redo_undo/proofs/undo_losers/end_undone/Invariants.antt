use Rattle.redo_undo.proofs.Names.{History, ◌≡◌, ◌+◌, ◌-◌, ◌≤◌, ◌<◌, ℕ, List, [], Option, drop, Ok, LeavesSame, owed_for, listed, Master, Entry, end_of, PageStore, Content, KeepsInvariantBeside, Invariant, blocks_to, UndoesUpdates, IsUndoing}
use Rattle.redo_undo.proofs.Opens.{Waits}
use Rattle.redo_undo.proofs.UndoneWork.{EndsMade}
use Rattle.analysis.specs.Read as analysis
use Rattle.redo_undo.proofs.undo_losers.end_undone.Given as goal

abbrev pub invariant-loop-txn : goal.invariant-loop-txn
invariant-loop-txn g l =
    let old = g.S.Site.state l.fn.site in
    let now = g.S.Site.state l.site in
    record {
      works : KeepsInvariantBeside {T = Unit {0}} (Ok tt) l.fn.log l.log old now;
      found_going : analysis.Invariant l.found;
      before : l.last < end_of l.log;
      rises : end_of l.fn.log ≤ end_of l.log;
      waits : Waits (drop l.txn-index l.txn-items) (listed l.found.table);
      left : LeavesSame (listed l.fn.found.table) (listed l.found.table);
      commits : l.found.commits ≡ l.fn.found.commits;
      blocks : blocks_to l.log + owed_for (listed l.found.table) ≤ blocks_to l.fn.log + owed_for (listed l.fn.found.table);
      fewer : owed_for (listed l.found.table) ≤ owed_for (listed l.fn.found.table);
      updates : (pages : PageStore) (newest : Option Master) (records : List Entry) (history : History) → Invariant l.fn.log pages old → IsUndoing l.fn.log pages old newest records history l.fn.found l.fn.known →
          UndoesUpdates l.log pages now newest records history l.found l.last [];
      ends : (pages : PageStore) (newest : Option Master) (records : List Entry) (history : History) → Invariant l.fn.log pages old → IsUndoing l.fn.log pages old newest records history l.fn.found l.fn.known →
          EndsMade l.fn.log l.log pages old now newest history (owed_for (listed l.fn.found.table) - owed_for (listed l.found.table)) (listed l.fn.found.table) (listed l.found.table);
    }
