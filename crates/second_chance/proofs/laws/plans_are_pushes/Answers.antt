use Rattle.second_chance.proofs.Names.{leaving}
use Rattle.second_chance.proofs.Pushes.{eviction_is_planned, flush_is_planned, staged_again}
use Rattle.second_chance.proofs.laws.plans_are_pushes.Goals as goal

pub returns-clause-eviction : goal.returns-clause-eviction
returns-clause-eviction c = eviction_is_planned

pub returns-clause-flush : goal.returns-clause-flush
returns-clause-flush c = flush_is_planned

pub returns-clause-staged : goal.returns-clause-staged
returns-clause-staged c = λ r cache. (
  staged_again r.chances (leaving r cache.queue) cache.queue.first,
  staged_again r.chances (leaving r cache.queue) cache.queue.first,
)
