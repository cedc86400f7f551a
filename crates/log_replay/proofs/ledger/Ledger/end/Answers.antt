use Rattle.log_replay.proofs.Names.{◌≡◌, [], refl, sym}
use Rattle.log_replay.proofs.Ledgers.{Takes, ended}
use Rattle.log_replay.proofs.ledger.Ledger.end.Goals as goal

pub returns : goal.returns
returns c = λ pages lsn next s popped later stands.
    let t = c.in-Some.transaction in
    let takes : Takes c.args.txn t c.args.self.now (record c.args.self.now { transactions = c.take.new.self }) =
    record { taken = sym c.in-Some.ensures.taken; others = c.in-Some.ensures.others; writers = c.in-Some.ensures.writers; table = refl; commits = refl; waiting = refl } in
    ended pages lsn next c.args.txn s popped c.args.self.now _ c.close.new.self later stands t takes c.in-Ok._net c.in-Ok.ensures (c.if-not-is_undone.ensures.0 refl)
