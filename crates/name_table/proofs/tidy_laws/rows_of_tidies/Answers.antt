use Rattle.name_table.proofs.Names.{refl}
use Rattle.name_table.proofs.tidy_laws.rows_of_tidies.Goals as goal

pub returns-clause-end_of_a_run : goal.returns-clause-end_of_a_run
returns-clause-end_of_a_run c = refl

pub returns-clause-moving_back : goal.returns-clause-moving_back
returns-clause-moving_back c = (refl, refl)

pub returns-clause-around_the_end : goal.returns-clause-around_the_end
returns-clause-around_the_end c = refl

pub returns-clause-at_home : goal.returns-clause-at_home
returns-clause-at_home c = (refl, refl)

pub returns-clause-full_table : goal.returns-clause-full_table
returns-clause-full_table c = refl

pub returns-clause-nothing_to_do : goal.returns-clause-nothing_to_do
returns-clause-nothing_to_do c = (refl, refl)

pub returns-clause-strange_buckets : goal.returns-clause-strange_buckets
returns-clause-strange_buckets c = (refl, refl)
