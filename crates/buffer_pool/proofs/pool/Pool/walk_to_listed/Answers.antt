use Rattle.buffer_pool.proofs.Names.{◌≡◌, ◌∷◌, ◌++◌, Bool, cond, [], length, arith, ap, sym, subst, ◌∙◌, length-append, state_in, State, AreDistinct}
use Rattle.buffer_pool.proofs.Listed.{sought_begins, sought_more, sought_enough, sought_all}
use Rattle.buffer_pool.proofs.pool.Pool.walk_to_listed.Goals as goal

pub loop-page-init : goal.loop-page-init
loop-page-init c = rw (c.new-marks.ensures.items, c.iter-warmer.ensures.rest)
    (sought_begins c.args.most c.args.self.now c.self.inside.pages.entries (ap (λ (p : State). state_in p.size c.self.inside.pages.entries) (sym c.self.view_is) ∙ c.self.view_is))

pub returns-then-len-most : goal.returns-then-len-most
returns-then-len-most c = record {
  marks = let enough : length c.loop-page.marks.items ≡ c.args.most = omega (arith, c.len.ensures, c.if-len-most.true, c.loop-page.marks.ok.0) in
      sought_enough c.args.most c.args.self.now c.loop-page.warmer c.loop-page.marks.items (subst (λ (p : State). AreDistinct p.frames) c.self.view_is c.self.invariant.1.distinct) c.loop-page.invariant enough;
}

pub loop-page-smaller : goal.loop-page-smaller
loop-page-smaller c =
    let shorter = ap length c.in-Some.ensures.steps in
    omega (arith, shorter, length-append c.next_back.new.self ((c.in-Some.page.now, c.in-Some.kept.now) ∷ []))

pub loop-page-preserved : goal.loop-page-preserved
loop-page-preserved c =
    let not_enough = λ (enough : length c.loop-page.marks.items ≡ c.args.most). c.if-len-most.false (omega (arith, c.len.ensures, enough, c.loop-page.marks.ok.0)) in
    sought_more c.args.most c.args.self.now c.loop-page.warmer c.next_back.new.self (c.in-Some.page.now, c.in-Some.kept.now) c.loop-page.marks.items
    c.add_mark_if.new.marks.items c.loop-page.invariant c.in-Some.ensures.steps not_enough
    (c.in_ok-add_mark_if.ensures.ok ∙ ap (λ (b : Bool). c.loop-page.marks.items ++ cond b ((c.in-Some.page.now, c.in-Some.kept.now.changed) ∷ []) []) c.is_listed.ensures)

pub returns : goal.returns
returns c = record {
  marks = sought_all c.args.most c.args.self.now c.loop-page.warmer c.loop-page.marks.items (subst (λ (p : State). AreDistinct p.frames) c.self.view_is c.self.invariant.1.distinct)
      c.loop-page.invariant c.in_default.ensures.steps.0;
}
