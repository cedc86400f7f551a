use Rattle.image_check.proofs.Names.{◌≡◌, List, true, true≢false, sym, subst, ◌∙◌, eq-eqb, ne_eqb, IsKept, goes_well, Entry, is_of, txn_of, entries_of}
use Rattle.std.specs.Prelude.{drop}
use Rattle.image_check.proofs.ChainOnes.{kept_other, kept_begin, kept_behind}
use Rattle.image_check.proofs.chain.Chain.hear.Goals as goal

pub returns-then-txn_of-txn : goal.returns-then-txn_of-txn
returns-then-txn_of-txn c = goes_well (λ records k. record {
  heard = λ there goes_on. kept_other c.args.txn c.args.self.now records (record { lsn = c.args.lsn; rec = c.args.rec }) (ne_eqb _ c.args.txn (λ same. c.if-txn_of-txn.true (c.txn_of.ensures ∙ same))) k;
  wrong = λ broken. absurd (true≢false broken);
})

pub returns-then-lsn-txn : goal.returns-then-lsn-txn
returns-then-lsn-txn c = goes_well (λ records k. record {
  heard = λ there goes_on.
      let e : Entry = record { lsn = c.args.lsn; rec = c.args.rec } in
      let own : is_of c.args.txn e ≡ true = eq-eqb (txn_of e) c.args.txn (sym c.txn_of.ensures ∙ c.if-txn_of-txn.false) in
      kept_begin c.args.txn c.args.self.now records e own (there.first own c.if-lsn-txn.true) k;
  wrong = λ broken. absurd (true≢false broken);
})

pub returns-then-not-continues : goal.returns-then-not-continues
returns-then-not-continues c = goes_well (λ records k. record {
  heard = λ there goes_on. absurd (true≢false (sym goes_on));
  wrong = λ broken. record {
    own = eq-eqb _ c.args.txn (sym c.txn_of.ensures ∙ c.if-txn_of-txn.false);
    behind = c.if-lsn-txn.false;
    breaks = λ goes. true≢false (sym ((c.continues.ensures c.args.txn (drop 1 (entries_of c.args.txn records)) c.args.lsn k).1 goes) ∙ c.if-not-continues.true);
  };
})

pub returns : goal.returns
returns c = goes_well (λ records k. record {
  heard = λ there goes_on.
      let e : Entry = record { lsn = c.args.lsn; rec = c.args.rec } in
      let own : is_of c.args.txn e ≡ true = eq-eqb (txn_of e) c.args.txn (sym c.txn_of.ensures ∙ c.if-txn_of-txn.false) in
      let rest : List Entry = drop 1 (entries_of c.args.txn records) in
      subst (IsKept c.args.txn c.add.new.self) (kept_behind c.args.txn records e own (there.later own c.if-lsn-txn.false))
      (c.in_default.ensures.done c.args.txn rest k ((c.continues.ensures c.args.txn rest c.args.lsn k).0 c.if-not-continues.false));
  wrong = λ broken. absurd (true≢false broken);
})
