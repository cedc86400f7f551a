use Rattle.buffer_pool.proofs.Names.{◌≡◌, ◌<◌, ◌∷◌, nat_eq, List, length, Some, ap, refl, sym, subst, ◌∙◌, lookup, remove_entry, set_value, frames_in, framed_pages, state_in, IsPool, KnowsSame, frame_of, touched, front_of, IsIndex, struck, enlisted, Frame, PoolEntry, promoted}
use Rattle.buffer_pool.proofs.Order.{touched-absent}
use Rattle.buffer_pool.proofs.Cached.{Entry, state, found, missing, front-promoted, some-promoted}
use Rattle.buffer_pool.proofs.Known.{framed-promoted, frames-renewed, knows_same, pool-renewed, set_promoted}
use Rattle.buffer_pool.proofs.Listed.{index_enters, index_leaves}
use Rattle.buffer_pool.proofs.pool.Pool.touch.Goals as goal

-- the page isn't there

pub returns-in_default-clause-found : goal.returns-in_default-clause-found
returns-in_default-clause-found c = rw (← c.self.view_is, missing c.self.inside.pages.entries c.args.page (sym c.in_default.ensures.value)) refl

pub returns-in_default-clause-after : goal.returns-in_default-clause-after
returns-in_default-clause-after c =
    let es : List Entry = c.self.inside.pages.entries in
    rw (← c.self.view_is) (ap (state c.self.inside.size (framed_pages es)) (sym (touched-absent (frames_in es) c.args.page (missing es c.args.page (sym c.in_default.ensures.value)))))

pub returns-in_default-clause-absent : goal.returns-in_default-clause-absent
returns-in_default-clause-absent c = λ is. rw (← c.self.view_is) (missing c.self.inside.pages.entries c.args.page (sym c.in_default.ensures.value))

-- it is

pub invariant_of-self-2 : goal.invariant_of-self-2
invariant_of-self-2 c =
    let es : List Entry = c.self.inside.pages.entries in
    let kept : PoolEntry = c.in-Some.kept.now in
    let now : PoolEntry = record { changed = kept.changed; framed = kept.framed; stamp = c.strike.new.self.next; content = kept.content } in
    let is : lookup (nat_eq c.args.page) es ≡ Some kept = sym c.in-Some.ensures.value in
    let entries : set_value (nat_eq c.args.page) (promoted (nat_eq c.args.page) es) now ≡ (c.args.page, now) ∷ remove_entry (nat_eq c.args.page) es = set_promoted es c.args.page kept now is in
    let left = index_leaves c.self.inside.index c.strike.new.self es c.args.page kept is c.self.invariant.2
    (c.strike.ensures.listed ∙ ap (λ b. struck kept.stamp b c.self.inside.index.listed.entries) c.is_listed-listed.ensures) c.strike.ensures.next c.strike.ensures.whole in
    let entered : IsIndex c.add.new.self ((c.args.page, now) ∷ remove_entry (nat_eq c.args.page) es) =
    index_enters c.strike.new.self c.add.new.self (remove_entry (nat_eq c.args.page) es) c.args.page now refl left
    (λ whole. c.add.ensures.listed whole ∙ ap (λ b. enlisted c.strike.new.self.next (c.args.page, kept.changed) b c.strike.new.self.listed.entries) c.is_listed-listed.ensures)
    c.add.ensures.next c.add.ensures.whole in
    let pool : IsPool (state_in c.self.inside.size ((c.args.page, now) ∷ remove_entry (nat_eq c.args.page) es)) = pool-renewed c.self.inside.size es c.args.page kept now is refl refl c.self.invariant.1 in
    rw entries (c.self.invariant.0, pool, entered)

pub returns-clause-found : goal.returns-clause-found
returns-clause-found c = rw (← c.self.view_is, found c.self.inside.pages.entries c.args.page c.in-Some.kept.now (sym c.in-Some.ensures.value)) refl

pub returns-clause-after : goal.returns-clause-after
returns-clause-after c =
    let es : List Entry = c.self.inside.pages.entries in
    let kept : PoolEntry = c.in-Some.kept.now in
    let now : PoolEntry = record { changed = kept.changed; framed = kept.framed; stamp = c.strike.new.self.next; content = kept.content } in
    let is : lookup (nat_eq c.args.page) es ≡ Some kept = sym c.in-Some.ensures.value in
    let entries : set_value (nat_eq c.args.page) (promoted (nat_eq c.args.page) es) now ≡ (c.args.page, now) ∷ remove_entry (nat_eq c.args.page) es = set_promoted es c.args.page kept now is in
    let after : state_in c.self.inside.size ((c.args.page, now) ∷ remove_entry (nat_eq c.args.page) es)
    ≡ state c.self.inside.size (framed_pages ((c.args.page, now) ∷ remove_entry (nat_eq c.args.page) es)) (touched (frames_in es) c.args.page) =
    ap (state c.self.inside.size (framed_pages ((c.args.page, now) ∷ remove_entry (nat_eq c.args.page) es))) (frames-renewed es c.args.page kept now c.self.invariant.1.distinct is refl refl) in
    rw (← c.self.view_is, entries) after

pub returns-clause-framed : goal.returns-clause-framed
returns-clause-framed c =
    let es : List Entry = c.self.inside.pages.entries in
    let kept : PoolEntry = c.in-Some.kept.now in
    let now : PoolEntry = record { changed = kept.changed; framed = kept.framed; stamp = c.strike.new.self.next; content = kept.content } in
    let is : lookup (nat_eq c.args.page) es ≡ Some kept = sym c.in-Some.ensures.value in
    let entries : set_value (nat_eq c.args.page) (promoted (nat_eq c.args.page) es) now ≡ (c.args.page, now) ∷ remove_entry (nat_eq c.args.page) es = set_promoted es c.args.page kept now is in
    let same : KnowsSame (state_in c.self.inside.size es) (state_in c.self.inside.size ((c.args.page, now) ∷ remove_entry (nat_eq c.args.page) es)) =
    knows_same c.self.inside.size es ((c.args.page, now) ∷ remove_entry (nat_eq c.args.page) es) c.self.invariant.1.distinct
    (pool-renewed c.self.inside.size es c.args.page kept now is refl refl c.self.invariant.1).distinct (framed-promoted es c.args.page kept now c.self.invariant.1.distinct is refl) in
    rw (← c.self.view_is, entries) same

pub returns-clause-pool : goal.returns-clause-pool
returns-clause-pool c = (invariant_of-self-2 c).1

pub returns-clause-front : goal.returns-clause-front
returns-clause-front c = λ really.
    let es : List Entry = c.self.inside.pages.entries in
    let kept : PoolEntry = c.in-Some.kept.now in
    let now : PoolEntry = record { changed = kept.changed; framed = kept.framed; stamp = c.strike.new.self.next; content = kept.content } in
    let is : lookup (nat_eq c.args.page) es ≡ Some kept = sym c.in-Some.ensures.value in
    let entries : set_value (nat_eq c.args.page) (promoted (nat_eq c.args.page) es) now ≡ (c.args.page, now) ∷ remove_entry (nat_eq c.args.page) es = set_promoted es c.args.page kept now is in
    let frames = frames-renewed es c.args.page kept now c.self.invariant.1.distinct is refl refl in
    let front : frame_of (frames_in es) c.args.page ≡ Some (front_of (frames_in ((c.args.page, now) ∷ remove_entry (nat_eq c.args.page) es))) =
    front-promoted es c.args.page c.self.invariant.1.distinct (rw (found es c.args.page kept is) refl) ∙ ap (λ (xs : List Frame). Some (front_of xs)) (sym frames) in
    rw (← c.self.view_is, entries) front

pub returns-clause-there : goal.returns-clause-there
returns-clause-there c = λ really.
    let es : List Entry = c.self.inside.pages.entries in
    let kept : PoolEntry = c.in-Some.kept.now in
    let now : PoolEntry = record { changed = kept.changed; framed = kept.framed; stamp = c.strike.new.self.next; content = kept.content } in
    let is : lookup (nat_eq c.args.page) es ≡ Some kept = sym c.in-Some.ensures.value in
    let entries : set_value (nat_eq c.args.page) (promoted (nat_eq c.args.page) es) now ≡ (c.args.page, now) ∷ remove_entry (nat_eq c.args.page) es = set_promoted es c.args.page kept now is in
    let frames = frames-renewed es c.args.page kept now c.self.invariant.1.distinct is refl refl in
    let there : 0 < length (frames_in ((c.args.page, now) ∷ remove_entry (nat_eq c.args.page) es)) =
    subst (λ (l : List Frame). 0 < length l) (sym frames) (some-promoted (frames_in es) c.args.page (rw (found es c.args.page kept is) refl)) in
    rw entries there
