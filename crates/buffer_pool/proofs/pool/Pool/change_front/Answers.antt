use Rattle.buffer_pool.proofs.Names.{◌≡◌, List, ℕ, nat_eq, true, slice_set, option_copied, refl, ap, sym, subst, ◌∙◌, none-some, set_value, frames_in, state_in, front_of, struck, PoolEntry, IsSound, FitsPage, slots_of}
use Rattle.std.specs.Box.{with_value}
use Rattle.buffer_pool.proofs.Known.{framed-same, knows_same}
use Rattle.buffer_pool.proofs.Listed.{index_same, index_stays}
use Rattle.buffer_pool.proofs.Cached.{Entry, lookup-first, pool-kept, changes_front, front_content}
use Rattle.buffer_pool.proofs.pool.Pool.change_front.Goals as goal

pub unreachable-requires-in_default-peek_mut : goal.unreachable-requires-in_default-peek_mut
unreachable-requires-in_default-peek_mut c =
    absurd (none-some c.in-Some.field-0-1.now (c.in_default-peek_mut.ensures.value
    ∙ lookup-first c.self.inside.pages.entries (c.in-Some.page.now, c.in-Some.field-0-1.now) (sym c.in-Some.ensures)))

pub set-requires-clause-sound : goal.set-requires-clause-sound
set-requires-clause-sound c = subst IsSound
    (front_content c.args.self.now c.self.inside.size c.self.inside.pages.entries (c.in-Some.page.now, c.in-Some.field-0-1.now)
    c.in-Some-peek_mut.kept.now c.self.view_is (sym c.in-Some.ensures) c.in-Some-peek_mut.ensures.value ∙ sym c.deref_mut.ensures.value) c.requires.sound

pub set-requires-clause-fits : goal.set-requires-clause-fits
set-requires-clause-fits c = subst (λ (octets : List ℕ). FitsPage (slots_of octets) c.args.slot (option_copied c.args.value))
    (front_content c.args.self.now c.self.inside.size c.self.inside.pages.entries (c.in-Some.page.now, c.in-Some.field-0-1.now)
    c.in-Some-peek_mut.kept.now c.self.view_is (sym c.in-Some.ensures) c.in-Some-peek_mut.ensures.value ∙ sym c.deref_mut.ensures.value) c.requires.fits

-- it was changed before

pub invariant_of-self : goal.invariant_of-self
invariant_of-self c =
    let es : List Entry = c.self.inside.pages.entries in
    let kept : PoolEntry = c.in-Some-peek_mut.kept.now in
    let now : PoolEntry = record { changed = kept.changed; framed = kept.framed; stamp = kept.stamp; content = with_value kept.content c.set.new.self } in (
      c.self.invariant.0,
      pool-kept c.self.inside.size es c.in-Some.page.now now c.self.invariant.1,
      index_same c.self.inside.index es c.in-Some.page.now kept now refl refl refl (sym c.in-Some-peek_mut.ensures.value) c.self.invariant.2,
    )

pub returns-then-kept-clause-front : goal.returns-then-kept-clause-front
returns-then-kept-clause-front c =
    let es : List Entry = c.self.inside.pages.entries in
    let kept : PoolEntry = c.in-Some-peek_mut.kept.now in
    let now : PoolEntry = record { changed = kept.changed; framed = kept.framed; stamp = kept.stamp; content = with_value kept.content c.set.new.self } in
    let n : ℕ = c.self.inside.size in
    let before : (front_of (frames_in es)).content ≡ kept.content.value =
    front_content (state_in n es) n es (c.in-Some.page.now, c.in-Some.field-0-1.now) kept refl (sym c.in-Some.ensures)
    c.in-Some-peek_mut.ensures.value in
    rw (← c.self.view_is) (changes_front es (c.in-Some.page.now, c.in-Some.field-0-1.now) now c.args.slot (option_copied c.args.value) c.args.lsn
    (sym c.in-Some.ensures) c.if-kept.true c.set.ensures.sound
    (c.set.ensures.slots ∙ ap (λ (octets : List ℕ). slice_set (slots_of octets) c.args.slot (option_copied c.args.value)) (c.deref_mut.ensures.value ∙ sym before)) c.set.ensures.lsn)

pub returns-then-kept-clause-framed : goal.returns-then-kept-clause-framed
returns-then-kept-clause-framed c =
    let es : List Entry = c.self.inside.pages.entries in
    let kept : PoolEntry = c.in-Some-peek_mut.kept.now in
    let now : PoolEntry = record { changed = kept.changed; framed = kept.framed; stamp = kept.stamp; content = with_value kept.content c.set.new.self } in
    rw (← c.self.view_is) (knows_same c.self.inside.size es (set_value (nat_eq c.in-Some.page.now) es now) c.self.invariant.1.distinct
    (pool-kept c.self.inside.size es c.in-Some.page.now now c.self.invariant.1).distinct (framed-same es c.in-Some.page.now kept now (sym c.in-Some-peek_mut.ensures.value) refl))

-- it wasn't

pub invariant_of-self-2 : goal.invariant_of-self-2
invariant_of-self-2 c =
    let es : List Entry = c.self.inside.pages.entries in
    let kept : PoolEntry = c.in-Some-peek_mut.kept.now in
    let now : PoolEntry = record { changed = true; framed = kept.framed; stamp = kept.stamp; content = with_value kept.content c.set.new.self } in (
      c.self.invariant.0,
      pool-kept c.self.inside.size es c.in-Some.page.now now c.self.invariant.1,
      index_stays c.self.inside.index c.strike.new.self c.list.new.self es c.in-Some.page.now kept now refl (sym c.in-Some-peek_mut.ensures.value) c.self.invariant.2
          (c.strike.ensures.listed ∙ ap (λ b. struck kept.stamp b c.self.inside.index.listed.entries) c.is_listed-before.ensures) c.strike.ensures.next c.strike.ensures.whole
          c.list.ensures.listed c.list.ensures.next c.list.ensures.whole,
    )

pub returns-clause-front : goal.returns-clause-front
returns-clause-front c =
    let es : List Entry = c.self.inside.pages.entries in
    let kept : PoolEntry = c.in-Some-peek_mut.kept.now in
    let now : PoolEntry = record { changed = true; framed = kept.framed; stamp = kept.stamp; content = with_value kept.content c.set.new.self } in
    let n : ℕ = c.self.inside.size in
    let before : (front_of (frames_in es)).content ≡ kept.content.value =
    front_content (state_in n es) n es (c.in-Some.page.now, c.in-Some.field-0-1.now) kept refl (sym c.in-Some.ensures)
    c.in-Some-peek_mut.ensures.value in
    rw (← c.self.view_is) (changes_front es (c.in-Some.page.now, c.in-Some.field-0-1.now) now c.args.slot (option_copied c.args.value) c.args.lsn
    (sym c.in-Some.ensures) refl c.set.ensures.sound
    (c.set.ensures.slots ∙ ap (λ (octets : List ℕ). slice_set (slots_of octets) c.args.slot (option_copied c.args.value)) (c.deref_mut.ensures.value ∙ sym before)) c.set.ensures.lsn)

pub returns-clause-framed : goal.returns-clause-framed
returns-clause-framed c =
    let es : List Entry = c.self.inside.pages.entries in
    let kept : PoolEntry = c.in-Some-peek_mut.kept.now in
    let now : PoolEntry = record { changed = true; framed = kept.framed; stamp = kept.stamp; content = with_value kept.content c.set.new.self } in
    rw (← c.self.view_is) (knows_same c.self.inside.size es (set_value (nat_eq c.in-Some.page.now) es now) c.self.invariant.1.distinct
    (pool-kept c.self.inside.size es c.in-Some.page.now now c.self.invariant.1).distinct (framed-same es c.in-Some.page.now kept now (sym c.in-Some-peek_mut.ensures.value) refl))
