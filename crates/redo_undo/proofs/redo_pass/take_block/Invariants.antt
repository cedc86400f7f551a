use Rattle.redo_undo.proofs.Names.{◌-◌, ◌≡◌, ◌+◌, ◌*◌, ◌≤◌, ◌<◌, ◌++◌, List, Ok, owed_for, listed, kept_by, saved_by, Entry, log_from, entries_from, IsBlock, used_by, LogRecord, Keeps, LogsNothing, Opening, HasTaken, IsReading, LeavesOpened}
use Rattle.redo_undo.proofs.Judging.{IsPartRead}
use Rattle.redo_undo.proofs.TakenRecords.{IsPartWay}
use Rattle.analysis.specs.Read as read
use Rattle.redo_undo.proofs.redo_pass.take_block.Given as goal

abbrev pub invariant-loop-at : goal.invariant-loop-at
invariant-loop-at g l =
    let old = g.S.Site.state l.fn.site in
    let now = g.S.Site.state l.site in
    record {
      low : 2 ≤ l.at;
      high : l.at ≤ l.used;
      logs : LogsNothing {T = Unit {0}} (Ok tt) l.fn.log l.log l.fn.pages l.pages old now;
      found_going : read.Invariant l.so_far.found;
      few : l.so_far.records + 2 ≤ l.fn.so_far.records + l.at;
      more : l.fn.so_far.records ≤ l.so_far.records;
      some : 2 < l.at → l.fn.so_far.records < l.so_far.records;
      owed : owed_for (listed l.so_far.found.table) + l.fn.so_far.records ≤ owed_for (listed l.fn.so_far.found.table) + l.so_far.records;
      part : (o : Opening) (front rest : List Entry) (records : List LogRecord) → l.master ≡ saved_by o.newest → HasTaken o l.fn.log l.fn.pages old l.fn.so_far front → IsBlock l.content records → l.used ≡ used_by records →
          log_from (kept_by o.newest) o.blocks ≡ front ++ (entries_from (512 * l.block + 2) records ++ rest) → IsPartWay o l.log l.fn.pages l.pages old now l.so_far front l.block l.content l.used l.at records;
      sizes : l.so_far.judge.sizes ≡ l.fn.so_far.judge.sizes;
      reads : (o : Opening) (front rest : List Entry) (records : List LogRecord) → l.master ≡ saved_by o.newest → IsReading o l.fn.log l.fn.pages old l.fn.so_far front → IsBlock l.content records → l.used ≡ used_by records →
          log_from (kept_by o.newest) o.blocks ≡ front ++ (entries_from (512 * l.block + 2) records ++ rest) → IsPartRead o l.log l.pages now l.so_far front l.block l.content l.used l.at records;
      keeps : (o : Opening) (front rest : List Entry) (records : List LogRecord) → l.master ≡ saved_by o.newest → HasTaken o l.fn.log l.fn.pages old l.fn.so_far front → IsBlock l.content records → l.used ≡ used_by records →
          log_from (kept_by o.newest) o.blocks ≡ front ++ (entries_from (512 * l.block + 2) records ++ rest) → Keeps {T = Unit {0}} (Ok tt) l.fn.pages.flash.geometry l.fn.log l.log old now (LeavesOpened o old.told) 0 0;
    }

abbrev pub decreases-loop-at : goal.decreases-loop-at
decreases-loop-at g l = l.used - l.at
