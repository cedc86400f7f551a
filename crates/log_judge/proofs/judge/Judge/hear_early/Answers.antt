use Rattle.log_judge.proofs.Names.{◌≡◌, ◌*◌, false, List, nat_lt, sym, subst, arith, AreLeft, in_order_filter, Entry, is_of, before_block, all_filter}
use Rattle.log_judge.proofs.Outcomes.{memory_as}
use Rattle.log_judge.proofs.LeftOnes.{early_more, early_least}
use Rattle.log_judge.proofs.judge.Judge.hear_early.Goals as goal

pub returns-clause-early : goal.returns-clause-early
returns-clause-early c = memory_as c.hear.result (λ x says records comes left.
    let few = comes.few in
    let e : Entry = record { lsn = c.args.lsn; rec = c.args.rec.now } in
    let less = early_least c.args.redo records in
    subst (λ (l : List Entry). AreLeft l c.hear.new.self.left) (sym (early_more c.args.redo records e (omega (arith, c.if-lsn-redo.false))))
    (says (before_block c.args.redo records) (record {
      from = comes.from;
      in_order = in_order_filter (λ x. nat_lt x.lsn (512 * c.args.redo)) comes.from records c.args.lsn comes.in_order;
      fresh = all_filter (λ x. is_of c.args.lsn x ≡ false) (λ x. nat_lt x.lsn (512 * c.args.redo)) records comes.fresh;
      few = omega (arith, less, few);
    }) left)) c.hear.ensures
