use Rattle.redo_undo.proofs.Names.{History, ◌<◌, ◌≤◌, ◌+◌, ℕ, List, length, Option, Ok, Master, Unfinished, IsUnfinished, Entry, end_of, Content, KeepsInvariant, Represents, blocks_to, IsAt}
use Rattle.redo_undo.proofs.UndoSoFar.{UndoesSoFar}
use Rattle.redo_undo.proofs.undo.undo_updates.Given as goal

abbrev pub invariant-loop-more : goal.invariant-loop-more
invariant-loop-more g l =
    let old = g.S.Site.state l.fn.site in
    let now = g.S.Site.state l.site in
    record {
      works : KeepsInvariant {T = Unit {0}} (Ok tt) l.fn.log l.log l.fn.pages l.pages old now;
      last : (l.fn.first.last ≤ l.at.last) × (l.at.last < end_of l.log);
      blocks : blocks_to l.log + l.more ≤ blocks_to l.fn.log + l.fn.count;
      undone : (newest : Option Master) (records : List Entry) (history : History) (x : Unfinished) → Represents l.fn.log l.fn.pages old newest records history → IsUnfinished records x → IsAt l.fn.first x →
          UndoesSoFar l.log l.pages now newest records history x.txn l.at l.fn.log l.fn.pages old (length x.chain) l.fn.count l.more;
    }

abbrev pub decreases-loop-more : goal.decreases-loop-more
decreases-loop-more g l = l.at.next
