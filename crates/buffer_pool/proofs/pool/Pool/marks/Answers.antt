use Rattle.buffer_pool.proofs.Names.{map, length, arith, ap, sym, ◌∙◌, State, mark_of}
use Rattle.buffer_pool.proofs.Walks.{marks_told, one_more_told, all_told}
use Rattle.buffer_pool.proofs.pool.Pool.marks.Goals as goal

pub loop-page-init : goal.loop-page-init
loop-page-init c = rw (c.new-marks.ensures.items, c.iter-colder.ensures.rest)
    (sym (marks_told c.self.inside.pages.entries ∙ ap (λ (p : State). map mark_of p.frames) c.self.view_is))

pub loop-page-smaller : goal.loop-page-smaller
loop-page-smaller c = let shorter = ap length c.in-Some.ensures.steps in omega (arith, shorter)

pub loop-page-preserved : goal.loop-page-preserved
loop-page-preserved c = one_more_told _ c.loop-page.marks.items _ c.loop-page.colder c.next.new.self (c.in-Some.page.now, c.in-Some.kept.now)
    c.loop-page.invariant c.in-Some.ensures.steps c.in_ok-push.ensures.items

pub returns : goal.returns
returns c = record {
  marks = all_told _ c.loop-page.marks.items c.loop-page.colder c.loop-page.invariant c.in_default.ensures.steps.0;
}
