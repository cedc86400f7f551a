use Rattle.redo_undo.proofs.Names.{History, ◌≡◌, ◌+◌, ◌-◌, ◌≤◌, ◌<◌, ℕ, List, false, Option, [], Ok, owed_for, IsOrder, IsTable, listed, Master, Entry, end_of, has_tail, Content, KeepsInvariant, Represents, blocks_to, Remain}
use Rattle.redo_undo.proofs.UndoneUpdates.{UndoesSoFar}
use Rattle.analysis.specs.Read as analysis
use Rattle.redo_undo.proofs.undo_losers.undo_all.Given as goal

abbrev pub invariant-loop-next : goal.invariant-loop-next
invariant-loop-next g l =
    let old = g.S.Site.state l.fn.site in
    let now = g.S.Site.state l.site in
    record {
      works : KeepsInvariant {T = Unit {0}} (Ok tt) l.fn.log l.log l.fn.pages l.pages old now;
      found_going : analysis.Invariant l.found;
      before : l.known < end_of l.log;
      order : IsOrder l.order (listed l.found.table);
      remain : Remain (listed l.found.table);
      commits : l.found.commits ≡ l.fn.found.commits;
      blocks : blocks_to l.log + owed_for (listed l.found.table) ≤ blocks_to l.fn.log + owed_for (listed l.fn.found.table);
      fewer : owed_for (listed l.found.table) ≤ owed_for (listed l.fn.found.table);
      log_reads : now.log_reads + owed_for (listed l.found.table) ≤ old.log_reads + owed_for (listed l.fn.found.table);
      so_far : (newest : Option Master) (records : List Entry) (history : History) → has_tail l.fn.log ≡ false → Represents l.fn.log l.fn.pages old newest records history → IsTable [] records (listed l.fn.found.table) →
          UndoesSoFar l.log l.pages now newest records history l.found l.known l.fn.log l.fn.pages old (owed_for (listed l.fn.found.table) - owed_for (listed l.found.table));
    }

abbrev pub decreases-loop-next : goal.decreases-loop-next
decreases-loop-next g l = owed_for (listed l.found.table)
