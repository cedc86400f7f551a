use Rattle.redo_undo.proofs.Names.{◌≡◌, ◌+◌, ◌-◌, ◌*◌, ◌^◌, ◌≤◌, ℕ, List, length, take, ⊤, Ok, owed_for, listed, Master, kept_by, saved_by, LeavesTableUnder, log_from, LogRecord, Content, Keeps, KeepsInvariant, blocks_to, AsksAtRest, IsOpened, IsReadable, Opening, asked_of}
use Rattle.std.specs.Prelude.{Option}
use Rattle.redo_undo.proofs.Judging.{IsReadTo}
use Rattle.redo_undo.proofs.TakenRecords.{IsUpTo}
use Rattle.analysis.specs.Read as read
use Rattle.redo_undo.proofs.redo_pass.redo.Given as goal

abbrev pub invariant-loop-block : goal.invariant-loop-block
invariant-loop-block g l =
    let old = g.S.Site.state l.fn.site in
    let now = g.S.Site.state l.site in
    record {
      works : KeepsInvariant {T = Unit {0}} (Ok tt) l.fn.log l.log l.fn.pages l.pages old now;
      found_going : read.Invariant l.so_far.found;
      room : length l.content ≡ 503;
      some : l.block ≤ l.fn.log.kept + l.so_far.records;
      few : l.so_far.records ≤ 503 * (l.block - l.fn.log.kept);
      owed : owed_for (listed l.so_far.found.table) ≤ l.so_far.records + length l.master.active;
      blocks : blocks_to l.log ≡ blocks_to l.fn.log;
      rises : l.fn.log.ring.hi ≤ l.log.ring.hi;
      log_reads : now.log_reads ≤ old.log_reads + (l.block - l.fn.log.kept);
      sizes : l.so_far.judge.sizes.hi ≤ 2 ^ 40;
      read_to : (o : Opening) → l.master ≡ saved_by o.newest → o.sizes ≡ l.fn.pages.flash.geometry → IsReadable o l.fn.log l.fn.pages old → IsReadTo o l.log l.pages now l.so_far l.block;
      up_to : (newest : Option Master) (blocks : List (List LogRecord)) (table : List Content) (commits : ℕ) → l.master ≡ saved_by newest → IsOpened l.fn.pages.flash.geometry l.fn.log l.fn.pages old newest blocks table commits →
          IsUpTo (record { sizes = l.fn.pages.flash.geometry; image = old.image; newest = newest; blocks = blocks; table = table; commits = commits }) l.log l.pages old now l.so_far l.block;
      asked : (newest : Option Master) (blocks : List (List LogRecord)) (table : List Content) (commits : ℕ) → l.master ≡ saved_by newest → IsOpened l.fn.pages.flash.geometry l.fn.log l.fn.pages old newest blocks table commits →
          AsksAtRest {T = ⊤} (Ok tt) (asked_of (record { sizes = l.fn.pages.flash.geometry; image = old.image; newest = newest; blocks = blocks; table = table; commits = commits }) (log_from (kept_by newest) (take (l.block - kept_by newest) blocks))) l.fn.pages l.pages old now;
      keeps : (newest : Option Master) (blocks : List (List LogRecord)) (table : List Content) (commits : ℕ) → l.master ≡ saved_by newest → IsOpened l.fn.pages.flash.geometry l.fn.log l.fn.pages old newest blocks table commits →
          Keeps {T = Unit {0}} (Ok tt) l.fn.pages.flash.geometry l.fn.log l.log old now (LeavesTableUnder newest l.fn.pages.flash.geometry table commits old.told) 0 0;
    }
