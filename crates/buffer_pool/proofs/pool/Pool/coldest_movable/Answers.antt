use Rattle.buffer_pool.proofs.Names.{◌≡◌, ℕ, Bool, List, IfOk, ap, take, map, subst, sym, ◌∙◌, State, mark_of, coldest_movable}
use Rattle.buffer_pool.proofs.Listed.{Listed, marks_listed, coldest_are}
use Rattle.buffer_pool.proofs.pool.Pool.coldest_movable.Goals as goal

pub returns-then-is_whole : goal.returns-then-is_whole
returns-then-is_whole c = record {
  marks = subst (λ (l : List (ℕ × Bool)). IfOk c.coldest.result (λ marks. marks.items ≡ l))
      (ap (λ (ws : Listed). take c.args.most (marks_listed ws)) (c.self.invariant.2.listed (sym c.is_whole.ensures ∙ c.if-is_whole.true))
      ∙ coldest_are c.args.most c.self.inside.size c.self.inside.pages.entries c.self.invariant.1.distinct
      ∙ ap (λ (p : State). map mark_of (coldest_movable c.args.most p)) c.self.view_is) c.coldest.ensures.marks;
}
