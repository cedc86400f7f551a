use Rattle.analysis.proofs.Names.{refl, arith, None, listed, Entry, End}
use Rattle.analysis.proofs.Tables.{owed_taken}
use Rattle.analysis.proofs.Steps.{next_table, is_gone}
use Rattle.analysis.proofs.Reading.{no_commit, closes_read}
use Rattle.analysis.proofs.analysis.Analysis.finished.Goals as goal

pub returns-clause-going : goal.returns-clause-going
returns-clause-going c = c.in-Ok.ensures.closes.changes.ascend

pub returns-clause-read : goal.returns-clause-read
returns-clause-read c m records lsn is =
    let e : Entry = record { lsn = lsn; rec = End c.args.txn } in
    let gone = c.in-Ok.ensures.closes in
    closes_read m records e c.args.self.now (record c.args.self.now { table = c.close.new.self }) is (no_commit m records c.args.self.now is) gone.takes.was gone.there
    c.in-Ok.ensures.closes.changes refl

pub returns-clause-owed : goal.returns-clause-owed
returns-clause-owed c =
    omega (arith, owed_taken (listed c.args.self.now.table) (listed c.close.new.self) c.args.txn c.in-Ok.ensures.closes.takes)

pub returns-clause-table : goal.returns-clause-table
returns-clause-table c named records lsn is =
    let e : Entry = record { lsn = lsn; rec = End c.args.txn } in
    next_table named records e (listed c.args.self.now.table) (listed c.close.new.self) None is c.in-Ok.ensures.closes.changes (is_gone named records e refl)

pub returns-clause-takes : goal.returns-clause-takes
returns-clause-takes c = c.in-Ok.ensures.closes.takes
