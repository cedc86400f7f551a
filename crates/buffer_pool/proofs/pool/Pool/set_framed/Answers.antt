use Rattle.buffer_pool.proofs.Names.{◌≡◌, nat_eq, List, None, is_some, refl, ap, sym, ◌∙◌, true≢false, none-some, set_value, framed_pages, State, frame_of, struck, enlisted, PoolEntry}
use Rattle.buffer_pool.proofs.Cached.{Entry, state, found, missing, frames-kept, pool-kept}
use Rattle.buffer_pool.proofs.Known.{framed-set, knows}
use Rattle.buffer_pool.proofs.Listed.{index_stays}
use Rattle.buffer_pool.proofs.pool.Pool.set_framed.Goals as goal

pub returns-in_default-clause-framed : goal.returns-in_default-clause-framed
returns-in_default-clause-framed c some =
    let none : frame_of c.args.self.now.frames c.args.page ≡ None =
    sym (ap (λ (p : State). frame_of p.frames c.args.page) c.self.view_is) ∙ missing c.self.inside.pages.entries c.args.page (sym c.in_default.ensures.value) in
    absurd (true≢false (sym some ∙ ap is_some none))

pub invariant_of-self-2 : goal.invariant_of-self-2
invariant_of-self-2 c =
    let es : List Entry = c.self.inside.pages.entries in
    let kept : PoolEntry = c.in-Some.kept.now in
    let now : PoolEntry = record { changed = kept.changed; framed = c.args.framed; stamp = kept.stamp; content = kept.content } in (
      c.self.invariant.0,
      pool-kept c.self.inside.size es c.args.page now c.self.invariant.1,
      index_stays c.self.inside.index c.strike.new.self c.list.new.self es c.args.page kept now refl (sym c.in-Some.ensures.value) c.self.invariant.2
          (c.strike.ensures.listed ∙ ap (λ b. struck kept.stamp b c.self.inside.index.listed.entries) c.is_listed-before.ensures) c.strike.ensures.next c.strike.ensures.whole
          (λ whole. c.list.ensures.listed whole ∙ ap (λ b. enlisted kept.stamp (c.args.page, kept.changed) b c.strike.new.self.listed.entries) c.is_listed-after.ensures) c.list.ensures.next c.list.ensures.whole,
    )

pub returns-clause-kept : goal.returns-clause-kept
returns-clause-kept c =
    let es : List Entry = c.self.inside.pages.entries in
    let kept : PoolEntry = c.in-Some.kept.now in
    let now : PoolEntry = record { changed = kept.changed; framed = c.args.framed; stamp = kept.stamp; content = kept.content } in
    rw (← c.self.view_is) (ap (state c.self.inside.size (framed_pages (set_value (nat_eq c.args.page) es now)))
    (frames-kept es c.args.page kept now refl refl (sym c.in-Some.ensures.value)))

pub returns-clause-framed : goal.returns-clause-framed
returns-clause-framed c some =
    let es : List Entry = c.self.inside.pages.entries in
    let kept : PoolEntry = c.in-Some.kept.now in
    let now : PoolEntry = record { changed = kept.changed; framed = c.args.framed; stamp = kept.stamp; content = kept.content } in
    rw (← c.self.view_is) (knows c.self.inside.size c.args.page c.args.framed es (set_value (nat_eq c.args.page) es now) c.self.invariant.1.distinct
    (pool-kept c.self.inside.size es c.args.page now c.self.invariant.1).distinct (framed-set es c.args.page kept now (sym c.in-Some.ensures.value)))

pub returns-clause-absent : goal.returns-clause-absent
returns-clause-absent c none =
    let there = found c.self.inside.pages.entries c.args.page c.in-Some.kept.now (sym c.in-Some.ensures.value) in
    absurd (none-some _ (sym none ∙ sym (ap (λ (p : State). frame_of p.frames c.args.page) c.self.view_is) ∙ there))
