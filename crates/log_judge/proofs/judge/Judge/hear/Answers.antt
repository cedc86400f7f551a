use Rattle.log_judge.proofs.Names.{◌≡◌, ◌++◌, ◌∷◌, [], sym, ap, subst, AreChains, IsOfSizes, AreOpen, MayStand, AreLeft, InTurn-append, Entry, IsInTable, Master, before_block, all_append}
use Rattle.log_judge.specs.declared.judge.Judge.{Judge}
use Rattle.log_judge.specs.declared.txns.OpenTxns.{OpenTxns}
use Rattle.log_judge.proofs.Judged.{comes_next}
use Rattle.log_judge.proofs.judge.Judge.hear.Goals as goal

pub returns-clause-heard : goal.returns-clause-heard
returns-clause-heard c p records from own h order few =
    let e : Entry = record { lsn = c.args.lsn; rec = c.args.rec.now } in
    let redo : p.master.redo ≡ c.args.master.now.redo = ap (λ (m : Master). m.redo) own in
    let comes = comes_next p records from c.args.lsn h.stand order few in
    let stands = c.in-Some.ensures.stands p records own h few in
    let rest = c.hear_early.ensures.rest in
    let opens = c.in_default-hear.ensures.done p.master records redo h.are_open comes.fresh in
    let left = c.in_default-hear_early.ensures.early.done records comes (subst (λ n. AreLeft (before_block n records) c.args.self.now.early.left) redo h.are_left) in
    record {
      of_sizes = subst (IsOfSizes p) (sym (ap (λ (j : Judge). j.sizes) rest)) h.of_sizes;
      kept = h.kept;
      in_table = all_append (IsInTable p.pages) records (e ∷ []) h.in_table (stands.0, tt);
      stand = InTurn-append (MayStand p.master) [] records e h.stand stands.1;
      are_open = subst (λ (t : OpenTxns). AreOpen p.master (records ++ e ∷ []) t.txns) (sym (ap (λ (j : Judge). j.txns) rest)) opens;
      are_left = subst (λ n. AreLeft (before_block n (records ++ e ∷ [])) c.hear_early.new.self.early.left) (sym redo) left;
      heard = stands.2;
      are_chains = c.in_default-hear-2.ensures.done records comes.fresh (subst (AreChains records) (sym (ap (λ (j : Judge). j.chains) rest)) h.are_chains);
    }
