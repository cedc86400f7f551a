use Rattle.second_chance.proofs.Names.{refl}
use Rattle.second_chance.proofs.rows.rows_of_second_chances.Goals as goal

pub returns-clause-evicted_page_is_pushed : goal.returns-clause-evicted_page_is_pushed
returns-clause-evicted_page_is_pushed c = refl

pub returns-clause-read_page_has_second_chance : goal.returns-clause-read_page_has_second_chance
returns-clause-read_page_has_second_chance c = refl

pub returns-clause-read_page_stays_off_the_disk : goal.returns-clause-read_page_stays_off_the_disk
returns-clause-read_page_stays_off_the_disk c = refl

pub returns-clause-seven_have_second_chances : goal.returns-clause-seven_have_second_chances
returns-clause-seven_have_second_chances c = refl

pub returns-clause-eighth_is_staged : goal.returns-clause-eighth_is_staged
returns-clause-eighth_is_staged c = refl

pub returns-clause-mixed : goal.returns-clause-mixed
returns-clause-mixed c = refl

pub returns-clause-mixed_stages : goal.returns-clause-mixed_stages
returns-clause-mixed_stages c = refl
