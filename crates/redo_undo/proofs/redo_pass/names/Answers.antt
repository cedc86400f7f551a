use Rattle.redo_undo.proofs.Names.{sym, named_at}
use Rattle.redo_undo.proofs.redo_pass.names.Goals as goal

pub returns-then-begin-txn : goal.returns-then-begin-txn
returns-then-begin-txn c = sym (named_at c.args.master.now.active c.loop-place.place c.args.txn _ c.at-begin.ensures c.if-begin-txn.true)
