-- Three logs, computed.
use Rattle.log_laws.proofs.Names.{refl, arith}
use Rattle.log_records.specs.Spelling.{spelling}
use Rattle.log_laws.specs.Rows.{OfTheLoser, OfTheSecondTry, OfTheStray}

pub of_the_loser : OfTheLoser
unfolding spelling
of_the_loser = grind arith

pub of_the_second_try : OfTheSecondTry
unfolding spelling
of_the_second_try = record {
  lsns = refl;
  left = refl;
  to_undo = refl;
  blocks = refl;
  needs = refl;
  chain = grind arith;
  reads = grind arith;
  of_open = grind arith;
  orderly = grind arith;
  shows = refl;
  counts = refl;
  refused = λ chain. absurd (let begins = chain.continues.1.1.1.1.0.begins_there 33 refl refl in grind arith);
}

pub of_the_stray : OfTheStray
unfolding spelling
of_the_stray = grind arith
