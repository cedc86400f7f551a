use Rattle.second_chance.proofs.Names.{refl}
use Rattle.second_chance.proofs.rows.rows_of_the_plain_machine.Goals as goal

pub returns-clause-read_page_leaves : goal.returns-clause-read_page_leaves
returns-clause-read_page_leaves c = refl

pub returns-clause-read_page_is_staged : goal.returns-clause-read_page_is_staged
returns-clause-read_page_is_staged c = refl

pub returns-clause-mixed : goal.returns-clause-mixed
returns-clause-mixed c = refl

pub returns-clause-mixed_stages : goal.returns-clause-mixed_stages
returns-clause-mixed_stages c = refl
