use Rattle.log_replay.proofs.Names.{ℕ, ◌-◌, ◌*◌, ◌+◌, ◌≤◌, List, Stream, IsBlock, LogRecord, StandsAt, Write}
use Rattle.log_replay.proofs.Blocks.{HeardTo}
use Rattle.log_replay.proofs.ledger.Ledger.hear_block.Given as goal

abbrev pub invariant-loop-at : goal.invariant-loop-at
invariant-loop-at l =
    (l.at ≤ l.used)
    × ((pages : ℕ) (s : Stream) (popped : List (List Write)) (records : List LogRecord)
    → StandsAt pages (512 * l.number + 2) s popped l.fn.self → IsBlock l.content records
    → HeardTo l.content l.used l.at (512 * l.number) pages s popped records l.self)

abbrev pub decreases-loop-at : goal.decreases-loop-at
decreases-loop-at l = l.used - l.at
