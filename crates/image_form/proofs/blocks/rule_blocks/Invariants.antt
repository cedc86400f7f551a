use Rattle.image_form.proofs.Names.{ℕ, ◌≤◌, ◌<◌, List, ◌-◌, Ok, log_shape, ReadsAtMost, IsBlockOn, LogRecord, Invariant, Finds, block_on, IsLive, OnlyReads}
use Rattle.image_form.proofs.blocks.rule_blocks.Given as goal

abbrev pub invariant-loop-block : goal.invariant-loop-block
invariant-loop-block g l =
    let old = g.S.Site.state l.fn.site in
    let now = g.S.Site.state l.site in
    record {
      going : Invariant l.log now;
      stand : Finds l.log old → (n : ℕ) → IsLive (log_shape l.log.geometry) l.log.ring.hi n → l.kept ≤ n → n < l.block →
          (records : List LogRecord) × IsBlockOn l.log.geometry.pages (block_on l.log.geometry old.image n) records;
      most : l.block - l.first ≤ l.log.ring.hi - l.first;
      looks : ReadsAtMost (l.block - l.first) 0 old now;
      reads : OnlyReads {T = Unit {0}} (Ok tt) old now;
    }
