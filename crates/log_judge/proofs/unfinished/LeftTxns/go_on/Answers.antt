use Rattle.log_judge.proofs.Names.{◌≡◌, ℕ, Some, sym, ap, ◌∙◌, arith, BTreeMap, is_at, lookup, remove_entry, set_value, nat_cmp, Left, Entry, txn_of}
use Rattle.std.specs.Option.{option_copied_mut}
use Rattle.log_judge.proofs.LeftOnes.{left_same, left_closed, left_few, left_more}
use Rattle.log_judge.proofs.unfinished.LeftTxns.go_on.Goals as goal

pub returns-in_default : goal.returns-in_default
returns-in_default c records comes old is =
    let e : Entry = record { lsn = c.args.lsn; rec = c.args.rec.now } in
    let new : BTreeMap ℕ Left = c.get_mut.follows.lender-at-none in
    let same : new.entries ≡ c.args.self.now.left.entries = ap (λ (m : BTreeMap ℕ Left). m.entries) c.get_mut.follows.holds-at-none in
    left_same records e new old (record { are = same ∙ is.are })
    (ap (lookup (is_at (nat_cmp (txn_of e)))) same ∙ ap (λ (n : ℕ). lookup (is_at (nat_cmp n)) c.args.self.now.left.entries) (sym c.txn_of-txn.ensures) ∙ sym c.get_mut.ensures.value ∙ ap option_copied_mut c.in_default.is)

pub returns-then-closes : goal.returns-then-closes
returns-then-closes c records comes old is =
    let e : Entry = record { lsn = c.args.lsn; rec = c.args.rec.now } in
    left_closed records e c.args.self.now.left comes.from c.args.lsn comes.in_order is c.remove.new.self (sym c.closes.ensures ∙ c.if-closes.true)
    (c.remove.ensures.entries ∙ ap (λ (n : ℕ). remove_entry (is_at (nat_cmp n)) c.args.self.now.left.entries) c.txn_of-txn.ensures)

pub returns : goal.returns
returns c records comes old is =
    let e : Entry = record { lsn = c.args.lsn; rec = c.args.rec.now } in
    let left : BTreeMap ℕ Left = c.args.self.now.left in
    let v : Left = c.in-Some.left.now in
    let found : lookup (is_at (nat_cmp (txn_of e))) left.entries ≡ Some v =
    ap (λ (n : ℕ). lookup (is_at (nat_cmp n)) left.entries) (sym c.txn_of-txn.ensures) ∙ sym c.get_mut.ensures.value ∙ ap option_copied_mut c.in-Some.is in
    let less = left_few records e left comes.from c.args.lsn comes.in_order is v found in
    let few = comes.few in
    left_more records e left comes.from c.args.lsn comes.in_order is v found (c.get_mut.follows.lender c.after.result) old (sym c.closes.ensures ∙ c.if-closes.false)
    ((c.get_mut.follows.holds c.after.result).0 ∙ (λ i. set_value (is_at (nat_cmp (c.txn_of-txn.ensures i))) left.entries (c.after.ensures (omega (arith, less, few)) i)))
