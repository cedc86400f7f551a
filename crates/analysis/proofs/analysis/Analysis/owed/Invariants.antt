use Rattle.analysis.proofs.Names.{◌≡◌, ◌+◌, owed_for, listed}
use Rattle.analysis.proofs.Maps.{owed_values}
use Rattle.analysis.proofs.analysis.Analysis.owed.Given as goal

abbrev pub invariant-loop-transaction : goal.invariant-loop-transaction
invariant-loop-transaction l = l.sum + owed_values l.transaction-iterator ≡ owed_for (listed l.self.table)
