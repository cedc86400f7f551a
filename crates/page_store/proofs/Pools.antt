-- The pool as the machine sees it.
use Rattle.std.proofs.lemmas.Grind.{common_steps}
use Rattle.page_store.proofs.Names.{arith, ◌≡◌, ◌≢◌, ℕ, ◌==◌, Bool, true, false, not, ◌&&◌, ◌||◌, cond, is_some, List, [], ◌∷◌, length, map, Some, None, refl, ap, subst, ◌∙◌, or-false, eqb-true, ne_eqb, none-some, AllByRecursion, nat_le, absent, frame_page, AreDistinct, frame_of, Frame, pool_page, Rules, Cache, holds, is_changed, without, touched, in_front, with_room, evict_coldest, Queue, with_read}
use Rattle.buffer_pool.specs.Frames as pool

pub is_held : (frames : List Frame) (page : ℕ) → holds (map pool_page frames) page ≡ is_some (frame_of frames page)
is_held [] page = refl
is_held (frame ∷ frames) page = grind (arith, common_steps, (is_held frames page))

others_unchanged : (frames : List Frame) (page : ℕ) → AllByRecursion (λ other. page ≢ other.page) frames → is_changed (map pool_page frames) page ≡ false
others_unchanged [] page all = refl
others_unchanged (frame ∷ frames) page all = grind (arith, common_steps, ne_eqb, (others_unchanged frames page all.1))

pub mark_is : (frames : List Frame) (page : ℕ) (frame : Frame) → AreDistinct frames → frame_of frames page ≡ Some frame → is_changed (map pool_page frames) page ≡ frame.changed
mark_is [] page frame distinct found = absurd (none-some frame found)
mark_is (first ∷ frames) page frame distinct found = by (first.page == page) refl found (mark_is frames page frame distinct.1)
  where
    by : (b : Bool) → (first.page == page) ≡ b → cond b (Some first) (frame_of frames page) ≡ Some frame
        → (frame_of frames page ≡ Some frame → is_changed (map pool_page frames) page ≡ frame.changed)
        → ((b && first.changed) || is_changed (map pool_page frames) page) ≡ frame.changed
    by true is found rest =
        let same : first ≡ frame = cc in
        let none = others_unchanged frames page (subst (λ (n : ℕ). AllByRecursion (λ other. n ≢ other.page) frames) (eqb-true _ _ is) distinct.0) in
        ap (λ b. first.changed || b) none ∙ or-false first.changed ∙ ap (λ (f : Frame). f.changed) same
    by false is found rest = rest found

pub none_changed : (frames : List Frame) (page : ℕ) → frame_of frames page ≡ None → is_changed (map pool_page frames) page ≡ false
none_changed [] page none = refl
none_changed (first ∷ frames) page none = grind (arith, common_steps, none-some, (none_changed frames page))

pub pages_without : (frames : List Frame) (page : ℕ) → map pool_page (pool.without frames page) ≡ without (λ other. other == page) (map pool_page frames)
pages_without [] page = refl
pages_without (frame ∷ frames) page = grind (arith, common_steps, (pages_without frames page))

-- a page that is held needs no room
pub room_held : (r : Rules) (page : ℕ) (cache : Cache) → holds cache.pool page ≡ true → with_room r page cache ≡ cache
room_held r page cache is = ap (λ b. cond (not b && nat_le r.pages (length cache.pool)) (evict_coldest r cache) cache) is

-- A touch of a page that is in the pool brings its frame to the front.
pub touched_held : (r : Rules) (frames : List Frame) (queue : Queue) (page : ℕ) (frame : Frame) → AreDistinct frames → frame_of frames page ≡ Some frame
    → ◌≡◌ {A = Cache} (record { pool = map pool_page (pool.touched frames page); queue = queue }) (touched r page false (record { pool = map pool_page frames; queue = queue }))
touched_held r frames queue page frame distinct found = grind (arith, common_steps, is_held, or-false, mark_is, frame_page, pages_without, room_held)

-- A page that isn't in the pool.

none_leaves : (frames : List Frame) (page : ℕ) → AllByRecursion (λ other. page ≢ other.page) frames → without (λ other. other == page) (map pool_page frames) ≡ map pool_page frames
none_leaves [] page all = refl
none_leaves (frame ∷ frames) page all = grind (arith, common_steps, ne_eqb, (none_leaves frames page all.1))

pub not_held : (frames : List Frame) (page : ℕ) → frame_of frames page ≡ None → holds (map pool_page frames) page ≡ false
not_held frames page none = is_held frames page ∙ ap is_some none

-- it comes to the front, read from the queue
pub in_front_absent : (frames : List Frame) (queue : Queue) (page : ℕ) → frame_of frames page ≡ None
    → ◌≡◌ {A = Cache} (record { pool = record { page = page; changed = false } ∷ map pool_page frames; queue = with_read page queue }) (in_front page false (record { pool = map pool_page frames; queue = queue }))
in_front_absent frames queue page none = grind (arith, common_steps, or-false, none_changed, none_leaves, absent, not_held)
