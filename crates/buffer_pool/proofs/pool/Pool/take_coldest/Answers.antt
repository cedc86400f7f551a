use Rattle.buffer_pool.proofs.Names.{◌≡◌, ◌-◌, List, [], length, take, false, ap, sym, subst, ◌∙◌, AllByRecursion, struck}
use Rattle.std_lemmas.proofs.AllOf.{all_between}
use Rattle.buffer_pool.proofs.Known.{framed_in, framed-last, each_known, known, knows}
use Rattle.buffer_pool.proofs.Listed.{index_last}
use Rattle.buffer_pool.proofs.Cached.{Entry, frames-last, pool-last, split_last}
use Rattle.buffer_pool.proofs.pool.Pool.take_coldest.Goals as goal

pub invariant_of-self-2 : goal.invariant_of-self-2
invariant_of-self-2 c =
    let es : List Entry = c.self.inside.pages.entries in
    let e : Entry = (c.in_ok-page.page, c.in_ok-page.kept) in
    let is = sym c.in_ok-page.ensures.value in
    rw c.in_ok-page.ensures.entries (
      c.self.invariant.0,
      pool-last c.self.inside.size es e is c.self.invariant.1,
      index_last c.self.inside.index c.strike.new.self es (take (length es - 1) es) e (split_last es e is) c.self.invariant.2
          (c.strike.ensures.listed ∙ ap (λ b. struck e.1.stamp b c.self.inside.index.listed.entries) c.is_listed-listed.ensures) c.strike.ensures.next c.strike.ensures.whole,
    )

pub returns-clause-some : goal.returns-clause-some
returns-clause-some c = rw (← c.self.view_is, c.in_ok-page.ensures.entries, c.into_inner.ensures)
    (frames-last c.self.inside.pages.entries (c.in_ok-page.page, c.in_ok-page.kept) (sym c.in_ok-page.ensures.value))

pub returns-clause-framed : goal.returns-clause-framed
returns-clause-framed c =
    let es : List Entry = c.self.inside.pages.entries in
    let e : Entry = (c.in_ok-page.page, c.in_ok-page.kept) in
    let is = sym c.in_ok-page.ensures.value in
    rw (← c.self.view_is, c.in_ok-page.ensures.entries)
    (knows c.self.inside.size e.0 false es (take (length es - 1) es) c.self.invariant.1.distinct (pool-last c.self.inside.size es e is c.self.invariant.1).distinct
    (framed-last es e is c.self.invariant.1.distinct))

pub returns-clause-told : goal.returns-clause-told
returns-clause-told c =
    let es : List Entry = c.self.inside.pages.entries in
    let e : Entry = (c.in_ok-page.page, c.in_ok-page.kept) in
    let distinct = c.self.invariant.1.distinct in
    rw (← c.self.view_is)
    (sym (all_between (λ (x : Entry). framed_in es x.0 ≡ x.1.framed) (take (length es - 1) es) e [] (subst (AllByRecursion (λ (x : Entry). framed_in es x.0 ≡ x.1.framed)) (split_last es e (sym c.in_ok-page.ensures.value)) (each_known es distinct)))
    ∙ sym (known c.self.inside.size es distinct e.0))
