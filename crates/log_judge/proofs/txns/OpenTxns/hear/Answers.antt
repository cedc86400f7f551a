use Rattle.log_judge.proofs.Names.{◌≡◌, ◌*◌, ◌≤◌, ◌==◌, true, false, cond, ℕ, sym, ap, ◌∙◌, arith, nat_tests, closing_is_no_begin, Entry, is_closing, is_begin, has}
use Rattle.std.proofs.Common.{nat_le}
use Rattle.log_judge.proofs.Outcomes.{goes_well, memory_as}
use Rattle.log_judge.proofs.OpenOnes.{open_more, open_without, begins_go_on}
use Rattle.log_judge.proofs.txns.OpenTxns.hear.Goals as goal

pub returns-then-closes : goal.returns-then-closes
returns-then-closes c =
    let old = c.args.self.now.txns in
    let closing : is_closing c.args.rec.now ≡ true = sym c.closes.ensures ∙ c.if-closes.true in
    goes_well (λ m records redo is fresh.
    let e : Entry = record { lsn = c.args.lsn; rec = c.args.rec.now } in
    open_without m records e old c.close.new.self.txns closing (closing_is_no_begin c.args.rec.now closing)
    (λ t. c.close.ensures t ∙ ap (λ (n : ℕ). cond (n == t) false (has old t)) c.txn_of.ensures) is)

pub returns : goal.returns
returns c =
    let begins : is_begin c.args.rec.now ≡ true = sym c.begins.ensures ∙ c.if-not-begins.false in
    let behind = c.if-lsn-redo.false in
    memory_as c.begin.result (λ x pushed m records redo is fresh.
    let e : Entry = record { lsn = c.args.lsn; rec = c.args.rec.now } in
    let after : 512 * m.redo ≤ c.args.lsn = omega (arith, behind, redo) in
    let late : nat_le (512 * m.redo) c.args.lsn ≡ true = grind (arith, nat_tests, after) in
    open_more m records e c.args.self.now.txns c.begin.new.self.txns (begins_go_on c.args.rec.now begins) begins late fresh pushed is) c.begin.ensures
