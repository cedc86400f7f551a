use Rattle.analysis.proofs.Takes.{taken_entries, taken_is_loser, taken_commits}
use Rattle.analysis.proofs.TakenTables.{taken_table, taken_pending, all_are_taken}
use Rattle.analysis.proofs.laws.losers_are_taken.Goals as goal

pub returns-clause-entries : goal.returns-clause-entries
returns-clause-entries c = taken_entries

pub returns-clause-losers : goal.returns-clause-losers
returns-clause-losers c = taken_is_loser

pub returns-clause-commits : goal.returns-clause-commits
returns-clause-commits c = taken_commits

pub returns-clause-table : goal.returns-clause-table
returns-clause-table c = taken_table

pub returns-clause-pending : goal.returns-clause-pending
returns-clause-pending c = taken_pending

pub returns-clause-all : goal.returns-clause-all
returns-clause-all c = all_are_taken
