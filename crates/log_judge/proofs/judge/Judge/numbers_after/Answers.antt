use Rattle.log_judge.proofs.Names.{◌≡◌, ◌*◌, ◌^◌, ◌<◌, ◌++◌, ◌∷◌, [], ℕ, List, length, inl, inr, true≢false, sym, ap, subst, ◌∙◌, cases_lt, seen, Heard, NumbersAre, HasHeard, Entry, LogicalImage, IsInOrder, Master, active_in, before_block}
use Rattle.log_judge.proofs.Judged.{stand_at, table_at, early_all, numbers_break, numbers_stand}
use Rattle.log_judge.proofs.judge.Judge.numbers_after.Goals.{After-after}
use Rattle.log_judge.proofs.judge.Judge.numbers_after.Goals as goal

pub returns-then-not-is_on_disk-clause-broken : goal.returns-then-not-is_on_disk-clause-broken
returns-then-not-is_on_disk-clause-broken c p records rest from to own h few split order judged =
    true≢false (sym ((c.is_on_disk.ensures p.pages c.args.lsn h.of_sizes.pages).1 (table_at p records _ rest split judged)) ∙ c.if-not-is_on_disk.true)

pub returns-then-not-admits-clause-broken : goal.returns-then-not-admits-clause-broken
returns-then-not-admits-clause-broken c p records rest from to own h few split order judged =
    true≢false (sym ((c.admits.ensures p.master records (ap (λ (m : Master). m.redo) own) h.are_open).1 (stand_at p records _ rest split judged)) ∙ c.if-not-admits.true)

pub returns-then-not-reaches-clause-broken : goal.returns-then-not-reaches-clause-broken
returns-then-not-reaches-clause-broken c p records rest from to own h few split order judged = elim (cases_lt c.args.lsn (512 * p.master.redo)) [
  | inl less ↦ true≢false (sym (c.reaches.ensures.early p own less) ∙ c.if-not-reaches.true)
  | inr late ↦ c.reaches.ensures.named p records own h late c.if-not-reaches.true
      (judged.master_names_the_active ∙ ap (λ (l : List Entry). active_in (before_block p.master.redo l)) split
      ∙ ap active_in (early_all p.master.redo records _ rest from to (subst (λ (l : List Entry). IsInOrder from l to) split order) late))
]

module _ (c : After-after) (p : LogicalImage) (records : List Entry) (own : p.master ≡ seen c.args.master.now) (h : HasHeard p records c.args.self.now) where
  redo_is : p.master.redo ≡ c.args.master.now.redo
  redo_is = ap (λ (m : Master). m.redo) own

  numbers_are : length records < 2 ^ 62 → NumbersAre p.master.redo (records ++ record { lsn = c.args.lsn; rec = c.args.rec.now } ∷ []) c.after.result
  numbers_are few = subst (λ (n : ℕ). NumbersAre n (records ++ record { lsn = c.args.lsn; rec = c.args.rec.now } ∷ []) c.after.result) (sym redo_is)
      (c.after.ensures records few (subst (λ (n : ℕ). Heard n c.args.self.now.numbers records) redo_is h.heard))

pub returns-clause-stands : goal.returns-clause-stands
returns-clause-stands c p records own h few =
    numbers_stand c.after.result p.master.redo _ _ _ (numbers_are c p records own h few)
    ((c.is_on_disk.ensures p.pages c.args.lsn h.of_sizes.pages).0 c.if-not-is_on_disk.false)
    ((c.admits.ensures p.master records (ap (λ (m : Master). m.redo) own) h.are_open).0 c.if-not-admits.false)

pub returns-clause-broken : goal.returns-clause-broken
returns-clause-broken c p records rest from to own h few split order = numbers_break c.after.result p p.master.redo records _ rest split (numbers_are c p records own h few)
