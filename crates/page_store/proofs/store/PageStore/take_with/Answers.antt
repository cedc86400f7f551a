use Rattle.page_store.proofs.Names.{◌∷◌, []}
use Rattle.page_store.proofs.store.PageStore.take_with.Goals as goal

pub returns-clause-taken : goal.returns-clause-taken
returns-clause-taken c = c.in_ok-pull.ensures.taken (c.args.evicted ∷ []) (c.in_ok-push.ensures.has [] c.new-taken.ensures)
