use Rattle.second_chance.proofs.Flushes.{push_saves, flush_goes_on, staged_goes_on, flush_ends, staged_ends, flush_saves_all}
use Rattle.second_chance.proofs.laws.flushes_save_all.Goals as goal

pub returns-clause-saves_a_page : goal.returns-clause-saves_a_page
returns-clause-saves_a_page c = push_saves

pub returns-clause-goes_on : goal.returns-clause-goes_on
returns-clause-goes_on c = λ r cache wants. (flush_goes_on r cache wants, staged_goes_on r cache wants)

pub returns-clause-ends : goal.returns-clause-ends
returns-clause-ends c = λ r cache none. (flush_ends r cache none, staged_ends r cache none)

pub returns-clause-saves_all : goal.returns-clause-saves_all
returns-clause-saves_all c = flush_saves_all
