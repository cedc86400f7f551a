use Rattle.buffer_pool.proofs.Names.{◌≡◌, ◌<◌, ◌∷◌, nat_eq, List, None, false, length, arith, refl, ap, sym, ◌∙◌, frames_in, framed_pages, state_in, State, IsPool, Knows, frame_of, IsIndex, PoolEntry, put_entries}
use Rattle.buffer_pool.proofs.Cached.{Entry, state, length_frames, frames-put, pool-put}
use Rattle.buffer_pool.proofs.Known.{framed-put, knows}
use Rattle.buffer_pool.proofs.Listed.{index_enters}
use Rattle.buffer_pool.proofs.pool.Pool.put.Goals as goal

pub invariant_of-self-2 : goal.invariant_of-self-2
invariant_of-self-2 c =
    let es : List Entry = c.self.inside.pages.entries in
    let kept : PoolEntry = record { changed = false; framed = c.args.framed; stamp = c.self.inside.index.next; content = c.in_ok-new.field-0 } in
    let none : frame_of (frames_in es) c.args.page ≡ None = ap (λ (p : State). frame_of p.frames c.args.page) c.self.view_is ∙ c.requires.absent in
    let frames : frames_in es ≡ c.args.self.now.frames = ap (λ (p : State). p.frames) c.self.view_is in
    let size : c.self.inside.size ≡ c.args.self.now.size = ap (λ (p : State). p.size) c.self.view_is in
    let room : length (frames_in es) < c.self.inside.size = omega (arith, size, ap length frames, c.requires.room) in
    let entries : put_entries nat_eq c.self.inside.pages c.args.page kept ≡ (c.args.page, kept) ∷ es =
    frames-put c.self.inside.pages c.args.page kept none (omega (arith, room, length_frames es, c.self.invariant.0)) in
    let pool : IsPool (state_in c.self.inside.size ((c.args.page, kept) ∷ es)) = pool-put c.self.inside.size es c.args.page kept none room c.self.invariant.1 in
    let index : IsIndex c.add.new.self ((c.args.page, kept) ∷ es) = index_enters c.self.inside.index c.add.new.self es c.args.page kept refl c.self.invariant.2
    c.add.ensures.listed c.add.ensures.next c.add.ensures.whole in
    rw (c.in_ok-put.ensures.entries, entries) (c.self.invariant.0, pool, index)

pub returns-clause-ok : goal.returns-clause-ok
returns-clause-ok c =
    let es : List Entry = c.self.inside.pages.entries in
    let kept : PoolEntry = record { changed = false; framed = c.args.framed; stamp = c.self.inside.index.next; content = c.in_ok-new.field-0 } in
    let none : frame_of (frames_in es) c.args.page ≡ None = ap (λ (p : State). frame_of p.frames c.args.page) c.self.view_is ∙ c.requires.absent in
    let frames : frames_in es ≡ c.args.self.now.frames = ap (λ (p : State). p.frames) c.self.view_is in
    let size : c.self.inside.size ≡ c.args.self.now.size = ap (λ (p : State). p.size) c.self.view_is in
    let room : length (frames_in es) < c.self.inside.size = omega (arith, size, ap length frames, c.requires.room) in
    let entries : put_entries nat_eq c.self.inside.pages c.args.page kept ≡ (c.args.page, kept) ∷ es =
    frames-put c.self.inside.pages c.args.page kept none (omega (arith, room, length_frames es, c.self.invariant.0)) in
    rw (← c.self.view_is, c.in_ok-put.ensures.entries)
    (ap (state_in c.self.inside.size) entries
    ∙ (λ i. state c.self.inside.size (framed_pages (sym entries i)) (record { page = c.args.page; changed = false; content = c.in_ok-new.ensures.ok i } ∷ frames_in es)))

pub returns-clause-framed : goal.returns-clause-framed
returns-clause-framed c =
    let es : List Entry = c.self.inside.pages.entries in
    let kept : PoolEntry = record { changed = false; framed = c.args.framed; stamp = c.self.inside.index.next; content = c.in_ok-new.field-0 } in
    let none : frame_of (frames_in es) c.args.page ≡ None = ap (λ (p : State). frame_of p.frames c.args.page) c.self.view_is ∙ c.requires.absent in
    let frames : frames_in es ≡ c.args.self.now.frames = ap (λ (p : State). p.frames) c.self.view_is in
    let size : c.self.inside.size ≡ c.args.self.now.size = ap (λ (p : State). p.size) c.self.view_is in
    let room : length (frames_in es) < c.self.inside.size = omega (arith, size, ap length frames, c.requires.room) in
    let entries : put_entries nat_eq c.self.inside.pages c.args.page kept ≡ (c.args.page, kept) ∷ es =
    frames-put c.self.inside.pages c.args.page kept none (omega (arith, room, length_frames es, c.self.invariant.0)) in
    let pool = pool-put c.self.inside.size es c.args.page kept none room c.self.invariant.1 in
    let tells : Knows c.args.page c.args.framed (state_in c.self.inside.size es) (state_in c.self.inside.size ((c.args.page, kept) ∷ es)) =
    knows c.self.inside.size c.args.page c.args.framed es ((c.args.page, kept) ∷ es) c.self.invariant.1.distinct pool.distinct (framed-put es c.args.page kept) in
    rw (← c.self.view_is, c.in_ok-put.ensures.entries, entries) tells
