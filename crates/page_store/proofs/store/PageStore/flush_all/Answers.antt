use Rattle.page_store.proofs.Names.{ap, ◌∙◌, cache_of, rules_for as rules, wants_flush}
use Rattle.page_store.proofs.store.PageStore.flush_all.Goals as goal

pub returns-clause-clean : goal.returns-clause-clean
returns-clause-clean g c = ap wants_flush c.in_default.ensures.flushes.machine ∙ c.flushes_save_all.ensures.saves_all (rules c.args.self.now) (cache_of c.args.self.now)
