use Rattle.image_check.proofs.Names.{◌≡◌, ◌==◌, inl, inr, true, false, not, ℕ, nat_eq, cond, sym, ap, ◌∙◌, cases_Bool, eqb-true, is_some, get, goes_well, memory_as, Entry, txn_of, is_closing}
use Rattle.image_check.proofs.StrayOnes.{strays_more}
use Rattle.image_check.proofs.strays.Strays.hear.Goals as goal

pub returns-then-closes : goal.returns-then-closes
returns-then-closes c =
    let old = c.args.self.now.txns in
    let off : false ≡ not (is_closing c.args.rec.now) = sym (ap not (sym c.closes.ensures ∙ c.if-closes.true)) in
    goes_well (λ log records unlisted is.
    strays_more log records (record { lsn = c.args.lsn; rec = c.args.rec.now }) old c.close.new.self.txns unlisted
    (λ t. c.close.ensures t ∙ (λ i. cond (c.txn_of-txn.ensures i == t) (off i) (is_some (get nat_eq old t)))) is)

pub returns-then-contains_key : goal.returns-then-contains_key
returns-then-contains_key c =
    let old = c.args.self.now.txns in
    let on : not (is_closing c.args.rec.now) ≡ true = ap not (sym c.closes.ensures ∙ c.if-closes.false) in
    goes_well (λ log records unlisted is.
    let e : Entry = record { lsn = c.args.lsn; rec = c.args.rec.now } in
    strays_more log records e old old unlisted (λ t. elim (cases_Bool (txn_of e == t)) [
      | inl here ↦
          let same : c.txn_of-txn.result ≡ t = c.txn_of-txn.ensures ∙ eqb-true (txn_of e) t here in
          ap (λ (n : ℕ). is_some (get nat_eq old n)) (sym same) ∙ sym c.contains_key.ensures ∙ c.if-contains_key.true ∙ sym on
          ∙ ap (λ b. cond b (not (is_closing c.args.rec.now)) (is_some (get nat_eq old t))) (sym here)
      | inr other ↦ ap (λ b. cond b (not (is_closing c.args.rec.now)) (is_some (get nat_eq old t))) (sym other)
    ]) is)

pub returns : goal.returns
returns c =
    let old = c.args.self.now.txns in
    let on : true ≡ not (is_closing c.args.rec.now) = sym (ap not (sym c.closes.ensures ∙ c.if-closes.false)) in
    memory_as c.add.result (λ x added log records unlisted is.
    strays_more log records (record { lsn = c.args.lsn; rec = c.args.rec.now }) old c.add.new.self.txns unlisted
    (λ t. added t ∙ (λ i. cond (c.txn_of-txn.ensures i == t) (on i) (is_some (get nat_eq old t)))) is) c.add.ensures
