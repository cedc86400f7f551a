use Rattle.analysis.proofs.Names.{◌<◌, length, drop, refl, sym, subst, ◌∙◌, arith, same_Some, Open, listed, Entry, Clr}
use Rattle.analysis.proofs.Tables.{owed_replaced, length-drop_one}
use Rattle.analysis.proofs.Steps.{next_table, goes_on}
use Rattle.analysis.proofs.Reading.{no_commit, goes_read}
use Rattle.analysis.proofs.analysis.Analysis.compensated.Goals as goal

pub returns-clause-replaces : goal.returns-clause-replaces
returns-clause-replaces c = c.in-Ok.ensures.becomes.replaces

pub returns-clause-going : goal.returns-clause-going
returns-clause-going c = c.in-Ok.ensures.becomes.changes.ascend

pub returns-clause-read : goal.returns-clause-read
returns-clause-read c m records prev page slot after is =
    let e : Entry = record { lsn = c.args.last; rec = Clr c.args.txn prev c.args._undo_next page slot after } in
    goes_read m records e c.args.self.now (record c.args.self.now { table = c.compensate.new.self }) is (no_commit m records c.args.self.now is)
    c.in-Ok.ensures.becomes refl

pub returns-clause-owed : goal.returns-clause-owed
returns-clause-owed c =
    let more = c.in-Ok.ensures.becomes in
    let same = same_Some more.replaces.was c.requires.left.x (sym more.there ∙ c.requires.left.there) in
    let some : 0 < length more.replaces.was.updates = subst (λ (x : Open). 0 < length x.updates) (sym same) c.requires.left.some in
    omega (arith, some, owed_replaced (listed c.args.self.now.table) (listed c.compensate.new.self) c.args.txn (λ (x : Open). record x { last = c.args.last; updates = drop 1 x.updates }) more.replaces, length-drop_one more.replaces.was.updates)

pub returns-clause-table : goal.returns-clause-table
returns-clause-table c named records prev page slot after is =
    let e : Entry = record { lsn = c.args.last; rec = Clr c.args.txn prev c.args._undo_next page slot after } in
    let more = c.in-Ok.ensures.becomes in
    next_table named records e (listed c.args.self.now.table) (listed c.compensate.new.self) _ is more.changes (goes_on named records e more.replaces.was (sym (is.says c.args.txn) ∙ more.there) refl)
