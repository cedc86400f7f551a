use Rattle.buffer_pool.proofs.Names.{◌≡◌, nat_eq, List, None, false, is_some, refl, ap, sym, ◌∙◌, true≢false, set_value, framed_pages, State, frame_of, struck, enlisted, PoolEntry}
use Rattle.buffer_pool.proofs.Cached.{Entry, state, missing, frames-cleared, pool-kept}
use Rattle.buffer_pool.proofs.Known.{framed-same, knows_same}
use Rattle.buffer_pool.proofs.Listed.{index_stays}
use Rattle.buffer_pool.proofs.pool.Pool.clear_changed.Goals as goal

pub unreachable-requires : goal.unreachable-requires
unreachable-requires c =
    let none : frame_of c.args.self.now.frames c.args.page ≡ None =
    sym (ap (λ (p : State). frame_of p.frames c.args.page) c.self.view_is) ∙ missing c.self.inside.pages.entries c.args.page (sym c.in_default.ensures.value) in
    true≢false (sym c.requires ∙ ap is_some none)

pub invariant_of-self : goal.invariant_of-self
invariant_of-self c =
    let es : List Entry = c.self.inside.pages.entries in
    let kept : PoolEntry = c.in-Some.kept.now in
    let now : PoolEntry = record { changed = false; framed = kept.framed; stamp = kept.stamp; content = kept.content } in (
      c.self.invariant.0,
      pool-kept c.self.inside.size es c.args.page now c.self.invariant.1,
      index_stays c.self.inside.index c.strike.new.self c.list.new.self es c.args.page kept now refl (sym c.in-Some.ensures.value) c.self.invariant.2
          (c.strike.ensures.listed ∙ ap (λ b. struck kept.stamp b c.self.inside.index.listed.entries) c.is_listed-before.ensures) c.strike.ensures.next c.strike.ensures.whole
          (λ whole. c.list.ensures.listed whole ∙ ap (λ b. enlisted kept.stamp (c.args.page, false) b c.strike.new.self.listed.entries) c.is_listed-after.ensures) c.list.ensures.next c.list.ensures.whole,
    )

pub returns-clause-after : goal.returns-clause-after
returns-clause-after c =
    let es : List Entry = c.self.inside.pages.entries in
    let kept : PoolEntry = c.in-Some.kept.now in
    let now : PoolEntry = record { changed = false; framed = kept.framed; stamp = kept.stamp; content = kept.content } in
    rw (← c.self.view_is) (ap (state c.self.inside.size (framed_pages (set_value (nat_eq c.args.page) es now)))
    (frames-cleared es c.args.page kept now refl refl c.self.invariant.1.distinct (sym c.in-Some.ensures.value)))

pub returns-clause-framed : goal.returns-clause-framed
returns-clause-framed c =
    let es : List Entry = c.self.inside.pages.entries in
    let kept : PoolEntry = c.in-Some.kept.now in
    let now : PoolEntry = record { changed = false; framed = kept.framed; stamp = kept.stamp; content = kept.content } in
    rw (← c.self.view_is) (knows_same c.self.inside.size es (set_value (nat_eq c.args.page) es now) c.self.invariant.1.distinct
    (pool-kept c.self.inside.size es c.args.page now c.self.invariant.1).distinct (framed-same es c.args.page kept now (sym c.in-Some.ensures.value) refl))

pub returns-clause-pool : goal.returns-clause-pool
returns-clause-pool c = (invariant_of-self c).1
