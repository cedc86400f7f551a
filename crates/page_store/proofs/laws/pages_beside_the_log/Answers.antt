use Rattle.page_store.proofs.Beside.{versions_beside, leaves_beside, sealed_beside}
use Rattle.page_store.proofs.laws.pages_beside_the_log.Goals as goal

pub returns-clause-versions : goal.returns-clause-versions
returns-clause-versions c = versions_beside

pub returns-clause-leaves : goal.returns-clause-leaves
returns-clause-leaves c = leaves_beside c.ring_kept.ensures

pub returns-clause-sealed : goal.returns-clause-sealed
returns-clause-sealed c = sealed_beside
