use Rattle.log_replay.proofs.Names.{◌≡◌, ◌==◌, true, refl, sym, ◌∙◌}
use Rattle.log_replay.proofs.Ledgers.{Takes, undone}
use Rattle.log_replay.proofs.ledger.Ledger.undo.Goals as goal

pub returns-in-Ok : goal.returns-in-Ok
returns-in-Ok c = λ pages next s popped later stands.
    let change = c.args.change in
    let t = c.in-Some.transaction in
    let last : (change.prev == t.last) ≡ true = sym c.if-not-is_at.ensures in
    let takes : Takes change.txn t c.args.self.now (record c.args.self.now { transactions = c.take.new.self }) =
    record { taken = sym c.in-Some.ensures.taken; others = c.in-Some.ensures.others; writers = c.in-Some.ensures.writers; table = refl; commits = refl; waiting = refl } in
    undone pages change.lsn next change.txn s popped c.args.self.now _ c.undone.new.self later stands t takes change.prev c.args.undo_next change.page change.slot c.in-Some-compensated.number c.args.after.now
    last (sym c.in-Some-compensated.ensures) c.in-Ok.ensures
