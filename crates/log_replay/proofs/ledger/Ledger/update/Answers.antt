use Rattle.log_replay.proofs.Names.{◌≡◌, ◌*◌, ◌+◌, ◌==◌, length, nat_eq, true, false, refl, sym, ap, ◌∙◌, nat_lt, get, is_taken, same_content, content_at}
use Rattle.log_replay.proofs.Ledgers.{Takes, number_told, updated}
use Rattle.log_replay.proofs.ledger.Ledger.update.Goals as goal

pub returns-in-Ok : goal.returns-in-Ok
returns-in-Ok c = λ pages next s popped later stands.
    let change = c.args.change in
    let t = c.in-Some-take.transaction in
    let n = c.in-Some.number in
    let told = number_told (nat_lt change.page pages) (32 * change.page + change.slot) n (c.in-Some.ensures pages (ap length stands.shown ∙ stands.size)) in
    let stood : same_content c.args.before.now (content_at s.shown n) ≡ true =
    ap (λ l. same_content c.args.before.now (content_at l n)) (sym stands.shown) ∙ sym c.if-not-shows.ensures in
    let free : is_taken change.txn n s.unclosed ≡ false = stands.opened.taken change.txn n ∙ sym c.if-is_taken.ensures in
    let last : (change.prev == t.last) ≡ true = sym c.if-not-is_at.ensures in
    let takes : Takes change.txn t c.args.self.now (record c.args.self.now { transactions = c.take.new.self }) =
    record { taken = sym c.in-Some-take.ensures.taken; others = c.in-Some-take.ensures.others; writers = c.in-Some-take.ensures.writers; table = refl; commits = refl; waiting = refl } in
    updated pages change.lsn next change.txn s popped c.args.self.now _ c.updated.new.self later stands t takes change.prev change.page change.slot n c.args.before.now c.args.after.now
    told.1 told.0 stood free last (c.in-Ok.ensures c.requires told.1)
