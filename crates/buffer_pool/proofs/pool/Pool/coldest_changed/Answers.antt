use Rattle.buffer_pool.proofs.Names.{◌≡◌, length, arith, ◌∷◌, [], ap, length-append, State}
use Rattle.buffer_pool.proofs.Walks.{walk_begins, walk_goes_on, walk_has_enough, walk_ends}
use Rattle.buffer_pool.proofs.pool.Pool.coldest_changed.Goals as goal

pub loop-page-init : goal.loop-page-init
loop-page-init c = rw (c.new-pages.ensures.items, c.iter-warmer.ensures.rest)
    (walk_begins c.args.most c.args.self.now.frames c.self.inside.pages.entries (ap (λ (p : State). p.frames) c.self.view_is))

pub returns-then-len-most : goal.returns-then-len-most
returns-then-len-most c = record {
  pages = let enough : length c.loop-page.pages.items ≡ c.args.most = omega (arith, c.len.ensures, c.if-len-most.true, c.loop-page.pages.ok.0) in
      walk_has_enough c.args.most c.args.self.now.frames c.loop-page.warmer c.loop-page.pages.items c.loop-page.invariant enough;
}

pub loop-page-smaller : goal.loop-page-smaller
loop-page-smaller c =
    let shorter = ap length c.in-Some.ensures.steps in
    omega (arith, shorter, length-append c.next_back.new.self ((c.in-Some.page.now, c.in-Some.kept.now) ∷ []))

pub loop-page-preserved : goal.loop-page-preserved
loop-page-preserved c =
    let not_enough = λ (enough : length c.loop-page.pages.items ≡ c.args.most). c.if-len-most.false (omega (arith, c.len.ensures, enough, c.loop-page.pages.ok.0)) in
    walk_goes_on c.args.most c.args.self.now.frames c.loop-page.warmer c.next_back.new.self (c.in-Some.page.now, c.in-Some.kept.now) c.loop-page.pages.items
    c.add_if.new.pages.items c.loop-page.invariant c.in-Some.ensures.steps not_enough c.in_ok-add_if.ensures.ok

pub returns : goal.returns
returns c = record {
  pages = walk_ends c.args.most c.args.self.now.frames c.loop-page.warmer c.loop-page.pages.items c.loop-page.invariant c.in_default.ensures.steps.0;
}
