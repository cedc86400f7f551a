use Rattle.image_check.proofs.Names.{◌≡◌, ◌==◌, ℕ, true, false, sym, ap, ◌∙◌, list_any, memory_as, Entry, txn_of, losers}
use Rattle.image_check.proofs.StrayOnes.{chains_same, strays_same}
use Rattle.image_check.proofs.undoable.Undoing.hear.Goals as goal

pub returns-then-is_left : goal.returns-then-is_left
returns-then-is_left c = memory_as c.hear.result (λ x heard log records at left is.
    let e : Entry = record { lsn = c.args.lsn; rec = c.args.rec } in
    let listed : list_any (λ t. t == txn_of e) (losers log) ≡ true = ap (λ (n : ℕ). list_any (λ t. t == n) (losers log)) (sym c.txn_of.ensures) ∙ sym (c.is_left.ensures log left) ∙ c.if-is_left.true in
    record { chains = heard log records at listed is.chains; strays = strays_same log records e c.args.self.now.strays.txns listed is.strays }) c.hear.ensures

pub returns : goal.returns
returns c = memory_as c.hear-2.result (λ x heard log records at left is.
    let e : Entry = record { lsn = c.args.lsn; rec = c.args.rec } in
    let unlisted : list_any (λ t. t == txn_of e) (losers log) ≡ false = ap (λ (n : ℕ). list_any (λ t. t == n) (losers log)) (sym c.txn_of.ensures) ∙ sym (c.is_left.ensures log left) ∙ c.if-is_left.false in
    record { chains = chains_same log records e c.args.self.now.chains unlisted is.chains; strays = heard log records unlisted is.strays }) c.hear-2.ensures
