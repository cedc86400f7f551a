use Rattle.engine.proofs.Names.{◌∙◌, ap, entry_of}
use Rattle.engine.proofs.Namings.{counted_entries}
use Rattle.engine.proofs.sessions.count_from.Goals as goal

pub returns-clause-entries : goal.returns-clause-entries
returns-clause-entries c n = ap (λ xs. entry_of xs n) c.count_from.ensures.entries ∙ counted_entries c.args.first c.args.active.now n
