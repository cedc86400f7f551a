use Rattle.page_store.proofs.Names.{◌≡◌, ℕ, ◌-◌, ◌≤◌, List, length, map, reverse, arith, ap, ◌∙◌, Mark, rules_for as rules, movable_mark, candidates, leaving, Placed, chances_given, pages_pulled, chances_of, staged_of, pulled_at_eviction, PoolMark}
use Rattle.second_chance.specs.declared.plan.Plan.{Plan}
use Rattle.page_store.proofs.Movable.{pulled_by_plan}
use Rattle.page_store.proofs.store.PageStore.plan_for_evicted.Goals as goal

pub returns-clause-plan : goal.returns-clause-plan
returns-clause-plan c =
    let store = c.args.self.now in
    let queue = store.flash.directory in
    let marks : c.as_slice.result.now ≡ map movable_mark (candidates store) = c.as_slice.ensures.value ∙ c.in_ok-found.ensures.marks in
    let front : List Mark = leaving (rules store) queue in
    let is = c.plan_evict.ensures in
    record {
      chances = ap (λ (p : Plan). p.chances) is ∙ ap (λ (l : List Mark). map (λ (f : Placed). f.0) (chances_of chances_given l)) c.requires.front;
      staged = ap (λ (p : Plan). p.staged) is ∙ ap (λ (l : List Mark). map (λ (f : Placed). f.0) (staged_of chances_given l)) c.requires.front;
      pulled = ap (λ (p : Plan). p.pulled) is
          ∙ ap (λ (l : List Mark). map (λ (m : PoolMark). m.page) (pulled_at_eviction pages_pulled chances_given l c.as_slice.result.now)) c.requires.front
          ∙ ap (λ (l : List PoolMark). map (λ (m : PoolMark). m.page) (pulled_at_eviction pages_pulled chances_given front l)) marks
          ∙ pulled_by_plan pages_pulled (8 - 1 - length (chances_of chances_given front)) queue (reverse store.pool.frames) (fewer (length (chances_of chances_given front)));
    }
  where
    fewer : (n : ℕ) → 8 - 1 - n ≤ 7
    fewer n = omega arith
