use Rattle.std.proofs.Common.{◌≡◌, ◌*◌, length}
use Rattle.shell_text.proofs.Pairs.{PairsRead}
use Rattle.shell_text.proofs.grammar.read_pairs.Given as goal

abbrev pub invariant-loop-place : goal.invariant-loop-place
invariant-loop-place l = record {
  long : length l.digits ≡ 2 * length l.octets;
  same : length l.octets ≡ length l.fn.octets;
  read : PairsRead l.digits l.octets l.place l.greatest;
}
