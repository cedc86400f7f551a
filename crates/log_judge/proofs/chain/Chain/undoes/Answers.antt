use Rattle.log_judge.proofs.Names.{◌≡◌, ◌-◌, ◌<◌, [], List, length, drop, get_or, sym, ◌∙◌, subst, reverse, Pending, open_updates}
use Rattle.log_judge.proofs.ChainOnes.{clr_undoes, open_are_updates, last_first}
use Rattle.log_judge.proofs.chain.Chain.undoes.Goals as goal

pub returns : goal.returns
returns c t rest k clr =
    let items : List Pending = c.args.self.now.updates.items in
    let w : Pending = c.in-Some.update.now in
    let some : 0 < length items = subst (λ (l : List Pending). 0 < length l) c.deref.ensures.value c.in-Some.ensures.item.3.0 in
    let is : w ≡ get_or items (length items - 1) w = subst (λ (l : List Pending). w ≡ get_or l (length l - 1) w) c.deref.ensures.value c.in-Some.ensures.item.1 in
    clr_undoes (open_updates [] rest) c.args.rec.now w (drop 1 (reverse items)) c.is_compensated_by.result (sym (last_first items w some is) ∙ k.left)
    (open_are_updates [] rest tt) clr c.is_compensated_by.ensures
