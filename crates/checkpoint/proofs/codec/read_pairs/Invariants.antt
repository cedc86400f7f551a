use Rattle.checkpoint.proofs.Names.{◌≡◌, length, drop, ArePairs}
use Rattle.checkpoint.proofs.codec.read_pairs.Given as goal

abbrev pub invariant-loop-place : goal.invariant-loop-place
invariant-loop-place l = record {
  count : length l.active ≡ l.place;
  spelled : ArePairs (drop 25 l.content) l.active;
}
