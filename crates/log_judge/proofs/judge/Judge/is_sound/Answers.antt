use Rattle.log_judge.proofs.Names.{sym, ap, subst, ◌∙◌, arith, Fit, Master}
use Rattle.log_judge.proofs.Judged.{opens_all, begun_all}
use Rattle.log_judge.proofs.Numbering.{numbered, heard_few}
use Rattle.log_judge.proofs.judge.Judge.is_sound.Goals as goal

pub returns : goal.returns
returns c p own h few = (
  λ linked.
      let n = c.args.self.now.numbers in
      let less = heard_few p.master.redo n p.log h.heard in
      let fit = (c.fit.ensures.fit (omega (arith, less, few))).0 c.if-not-fit.false in
      record {
        kept_before_redo = h.kept.kept_before_redo;
        redo_before_end = h.kept.redo_before_end;
        kept_is_live = h.kept.kept_is_live;
        in_table = h.in_table;
        open_transactions = opens_all p h.stand;
        begun = begun_all p h.stand;
        losers_are_linked = (c.are_linked.ensures p.log h.are_chains).0 linked;
        master_names_the_active = ap (λ (m : Master). m.active) own ∙ (c.are_named.ensures _ h.are_left).0 c.if-not-are_named.false;
        commits = numbered p n h.heard (subst (λ m. Fit n.first n.early n.late m p.hi) (sym (ap (λ (m : Master). m.commits) own))
            (subst (Fit n.first n.early n.late c.args.master.now.commits) (sym h.of_sizes.hi) fit));
      },
  λ judged. (c.are_linked.ensures p.log h.are_chains).1 judged.losers_are_linked,
)
