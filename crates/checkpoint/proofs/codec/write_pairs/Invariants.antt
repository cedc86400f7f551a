use Rattle.checkpoint.proofs.Names.{take, AllByRecursion, Writes, FitsFields, spelling_of_all}
use Rattle.checkpoint.proofs.codec.write_pairs.Given as goal

abbrev pub invariant-loop-place : goal.invariant-loop-place
invariant-loop-place l = record {
  written : Writes l.initial.content l.content 25 (spelling_of_all (take l.place l.active));
  fit : AllByRecursion FitsFields (take l.place l.active);
}
