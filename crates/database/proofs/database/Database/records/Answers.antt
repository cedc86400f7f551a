use Rattle.database.proofs.Names.{ap, sym, ◌∙◌, Ok}
use Rattle.std.proofs.Common.{rules}
use Rattle.database.proofs.Sizes.{table_size}
use Rattle.database.proofs.database.Database.records.Goals as goal

pub returns-clause-records : goal.returns-clause-records
returns-clause-records g c is_open = search rules

pub returns-clause-model : goal.returns-clause-model
returns-clause-model g c k s stands = returns-clause-records g c stands.is_open ∙ ap Ok (sym (table_size k s c.args.self.now stands))
