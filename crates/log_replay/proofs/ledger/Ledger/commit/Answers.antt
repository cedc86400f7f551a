use Rattle.log_replay.proofs.Names.{◌≡◌, ◌+◌, refl, sym, arith}
use Rattle.log_replay.proofs.Ledgers.{Takes, committed}
use Rattle.log_replay.proofs.ledger.Ledger.commit.Goals as goal

pub returns : goal.returns
returns c = λ pages lsn next s popped later stands.
    let t = c.in-Some.transaction in
    let takes : Takes c.args.txn t c.args.self.now (record c.args.self.now { transactions = c.take.new.self }) =
    record { taken = sym c.in-Some.ensures.taken; others = c.in-Some.ensures.others; writers = c.in-Some.ensures.writers; table = refl; commits = refl; waiting = refl } in
    let next_is : c.args.number ≡ c.args.self.now.commits + 1 = omega (arith, c.if-number-eq0.false, c.if-number-self.false) in
    committed pages lsn next c.args.txn s popped c.args.self.now _ _ later stands t takes c.args.number c.in-Ok.net c.close.new.self c.in-Ok.ensures next_is refl refl refl c.in-Ok-push_back.ensures.items
