use Rattle.buffer_pool.proofs.Names.{List, nat_eq, false, ap, sym, subst, ◌∙◌, remove_entry, framed_pages, state_in, IsIndex, struck, PoolEntry}
use Rattle.buffer_pool.proofs.Known.{framed-removed, knows}
use Rattle.buffer_pool.proofs.Listed.{index_leaves}
use Rattle.buffer_pool.proofs.Cached.{Entry, state, found, missing, frames-remove_entry, none_removed, pool-remove_entry}
use Rattle.buffer_pool.proofs.pool.Pool.take_page.Goals as goal

pub invariant_of-self : goal.invariant_of-self
invariant_of-self c =
    let es : List Entry = c.self.inside.pages.entries in
    rw c.pop.ensures.entries (
      c.self.invariant.0,
      pool-remove_entry c.self.inside.size es c.args.page c.self.invariant.1,
      subst (λ (l : List Entry). IsIndex c.self.inside.index l) (sym (none_removed es c.args.page (sym c.in_err-kept.ensures.value))) c.self.invariant.2,
    )

pub returns-in_err-kept-clause-none : goal.returns-in_err-kept-clause-none
returns-in_err-kept-clause-none c = rw (c.from_residual.ensures, ← c.self.view_is) (missing c.self.inside.pages.entries c.args.page (sym c.in_err-kept.ensures.value))

pub returns-in_err-kept-clause-same : goal.returns-in_err-kept-clause-same
returns-in_err-kept-clause-same c =
    rw (c.from_residual.ensures, ← c.self.view_is, c.pop.ensures.entries) (ap (state_in c.self.inside.size)
    (none_removed c.self.inside.pages.entries c.args.page (sym c.in_err-kept.ensures.value)))

pub returns-in_err-kept-clause-after : goal.returns-in_err-kept-clause-after
returns-in_err-kept-clause-after c =
    let es : List Entry = c.self.inside.pages.entries in
    rw (← c.self.view_is, c.pop.ensures.entries)
    (ap (state c.self.inside.size (framed_pages (remove_entry (nat_eq c.args.page) es))) (frames-remove_entry es c.args.page c.self.invariant.1.distinct))

pub returns-in_err-kept-clause-framed : goal.returns-in_err-kept-clause-framed
returns-in_err-kept-clause-framed c =
    let es : List Entry = c.self.inside.pages.entries in
    rw (← c.self.view_is, c.pop.ensures.entries)
    (knows c.self.inside.size c.args.page false es (remove_entry (nat_eq c.args.page) es) c.self.invariant.1.distinct
    (pool-remove_entry c.self.inside.size es c.args.page c.self.invariant.1).distinct (framed-removed es c.args.page c.self.invariant.1.distinct))

pub invariant_of-self-2 : goal.invariant_of-self-2
invariant_of-self-2 c =
    let es : List Entry = c.self.inside.pages.entries in
    let kept : PoolEntry = c.in_ok-kept.kept in
    rw c.pop.ensures.entries (
      c.self.invariant.0,
      pool-remove_entry c.self.inside.size es c.args.page c.self.invariant.1,
      index_leaves c.self.inside.index c.strike.new.self es c.args.page kept (sym c.in_ok-kept.ensures.value) c.self.invariant.2
          (c.strike.ensures.listed ∙ ap (λ b. struck kept.stamp b c.self.inside.index.listed.entries) c.is_listed-listed.ensures) c.strike.ensures.next c.strike.ensures.whole,
    )

pub returns-clause-some : goal.returns-clause-some
returns-clause-some c = rw (← c.self.view_is, c.into_inner.ensures) (found c.self.inside.pages.entries c.args.page c.in_ok-kept.kept (sym c.in_ok-kept.ensures.value))

pub returns-clause-after : goal.returns-clause-after
returns-clause-after c =
    let es : List Entry = c.self.inside.pages.entries in
    rw (← c.self.view_is, c.pop.ensures.entries)
    (ap (state c.self.inside.size (framed_pages (remove_entry (nat_eq c.args.page) es))) (frames-remove_entry es c.args.page c.self.invariant.1.distinct))

pub returns-clause-framed : goal.returns-clause-framed
returns-clause-framed c =
    let es : List Entry = c.self.inside.pages.entries in
    rw (← c.self.view_is, c.pop.ensures.entries)
    (knows c.self.inside.size c.args.page false es (remove_entry (nat_eq c.args.page) es) c.self.invariant.1.distinct
    (pool-remove_entry c.self.inside.size es c.args.page c.self.invariant.1).distinct (framed-removed es c.args.page c.self.invariant.1.distinct))
