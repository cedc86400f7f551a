-- A touch, of a page that is in the pool and of one that isn't.
use Rattle.page_store.proofs.Names.{arith, ◌≡◌, ℕ, Bool, true, false, not, ◌&&◌, cond, IsTrue, is_some, List, [], ◌∷◌, length, Some, None, refl, sym, ap, ◌∙◌, length-map, none-some, AllByRecursion, nat_le, if◌then◌else◌, Pool, IsPool, frame_of, Frame, version_on, LogList, LogStore, evicted, pushed_for_room, pushed_by_touch, pool_page, cache_of, rules_for as rules, is_full, is_pushed, with_way, pushes, next_group, eviction_changes, room_changes, touch_changes, KeepsCurrent, IsPage, AreTold, Invariant, Matches, content_by, staged_by_eviction, PageStore, touch, staged_by, Cache, holds, lacks_room, with_room, evict_coldest, finds, misses, has_frame, State, Image, all_filter, forces}
use Rattle.std.specs.Prelude.{◌+◌}
use Rattle.page_store.proofs.Pools.{is_held, not_held}
use Rattle.page_store.proofs.Evictions.{not_forced}
use Rattle.std.proofs.lemmas.Grind.{common_steps}
use Rattle.buffer_pool.specs.Frames as pool

-- A page that isn't in the pool.
module _ (store : PageStore) (page : ℕ) (none : frame_of store.pool.frames page ≡ None) where
  pub unheld : holds (cache_of store).pool page ≡ false
  unheld = not_held store.pool.frames page none

  pub lacks : lacks_room (rules store) page (cache_of store) ≡ is_full store
  lacks = ap (λ b. not b && nat_le store.pool.size (length (cache_of store).pool)) unheld ∙ ap (λ n. nat_le store.pool.size n) (length-map store.pool.frames pool_page)

  pub way : with_way store ≡ with_room (rules store) page (cache_of store)
  way = sym (ap (λ b. cond b (evict_coldest (rules store) (cache_of store)) (cache_of store)) lacks)

  pub pushed_same : pushed_for_room store ≡ pushed_by_touch store page
  pushed_same = sym (ap (λ b. cond b (evicted store) []) lacks)

  pub changes_same : (log : LogStore) (list : LogList) (image : Image) → room_changes log list store image ≡ touch_changes log list store image page
  changes_same log list image = sym (ap (λ b. cond b (eviction_changes log list store image) []) lacks)

  pub pushes_same : (is_full store && is_pushed (cache_of store)) ≡ pushes (rules store) page (cache_of store)
  pushes_same = ap (λ b. b && is_pushed (cache_of store)) (sym lacks)

  pub room_staged : (if is_full store then staged_by_eviction (rules store) (cache_of store) else []) ≡ staged_by (rules store) (touch page false) (cache_of store)
  room_staged = sym (ap (λ b. cond b (staged_by_eviction (rules store) (cache_of store)) []) lacks)

  pub room_next : next_group (cache_of store) + (if (is_full store && is_pushed (cache_of store)) then 1 else 0) ≡ next_group (cache_of store) + (if pushes (rules store) page (cache_of store) then 1 else 0)
  room_next = ap (λ b. next_group (cache_of store) + cond b 1 0) pushes_same

  pub finds_same : has_frame (with_way store).queue page ≡ finds (rules store) page (cache_of store)
  finds_same = ap (λ (k : Cache). has_frame k.queue page) way ∙ sym (ap (λ b. not b && has_frame (with_room (rules store) page (cache_of store)).queue page) unheld)

  pub misses_same : not (has_frame (with_way store).queue page) ≡ misses (rules store) page (cache_of store)
  misses_same = ap (λ (k : Cache). not (has_frame k.queue page)) way ∙ sym (ap (λ b. not b && not (has_frame (with_room (rules store) page (cache_of store)).queue page)) unheld)

  pub not_there : IsTrue (holds (cache_of store).pool page) → ⊥
  not_there there = let is = sym there ∙ unheld in absurd cc

abbrev pub count_if : Bool → ℕ
count_if b = cond b 1 0

abbrev pub count_unless : Bool → ℕ
count_unless b = cond b 0 1

pub other_count : (b : Bool) → count_unless b ≡ count_if (not b)
other_count true = refl
other_count false = refl

-- One that is.
module _ (store : PageStore) (page : ℕ) (frame : Frame) (found : frame_of store.pool.frames page ≡ Some frame) where
  held : holds (cache_of store).pool page ≡ true
  held = is_held store.pool.frames page ∙ ap is_some found

  no_lack : lacks_room (rules store) page (cache_of store) ≡ false
  no_lack = ap (λ b. not b && nat_le store.pool.size (length (cache_of store).pool)) held

  pub nothing_forced : (log : LogStore) → forces log (pushed_by_touch store page) ≡ false
  nothing_forced log = ap (forces log) (ap (λ b. cond b (evicted store) []) no_lack) ∙ not_forced log

  pub nothing_changes : (log : LogStore) (list : LogList) (image : Image) → touch_changes log list store image page ≡ []
  nothing_changes log list image = ap (λ b. cond b (eviction_changes log list store image) []) no_lack

  pub nothing_staged : staged_by (rules store) (touch page false) (cache_of store) ≡ []
  nothing_staged = ap (λ b. cond b (staged_by_eviction (rules store) (cache_of store)) []) no_lack

  pub nothing_pushed : pushes (rules store) page (cache_of store) ≡ false
  nothing_pushed = ap (λ b. b && is_pushed (cache_of store)) no_lack

-- The same frames in another order.

pub all_found : (P : Frame → Type 0) (frames : List Frame) (page : ℕ) (frame : Frame) → AllByRecursion P frames → frame_of frames page ≡ Some frame → P frame
all_found P [] page frame all found = absurd (none-some frame found)
all_found P (first ∷ frames) page frame all found = grind (arith, common_steps, (all_found P frames page frame all.1))

pub all_touched : (P : Frame → Type 0) (frames : List Frame) (page : ℕ) (frame : Frame) → frame_of frames page ≡ Some frame → AllByRecursion P frames → AllByRecursion P (pool.touched frames page)
all_touched P frames page frame found all = grind (arith, common_steps, all_found, all_filter)

pub order_fits : (store : PageStore) (pool : Pool) (site : State) → ((n : ℕ) → frame_of pool.frames n ≡ frame_of store.pool.frames n) → Matches store site → Matches (record store { pool = pool }) site
order_fits store pool site same fits = record {
  flash = fits.flash;
  groups = fits.groups;
  holds = fits.holds;
  clean = fits.clean;
  sound = fits.sound;
  unchanged = λ page frame found unchanged. fits.unchanged page frame (sym (same page) ∙ found) unchanged;
}

pub order_current : (store : PageStore) (pool : Pool) (image : Image) → ((n : ℕ) → frame_of pool.frames n ≡ frame_of store.pool.frames n) → KeepsCurrent store image (record store { pool = pool }) image
order_current store pool image same = record { each = λ page exists. ap (λ o. content_by o (version_on store.flash.geometry image page)) (same page) }

pub pool_going : (store : PageStore) (pool : Pool) (site : State) → pool.size ≡ store.pool.size → IsPool pool → AllByRecursion (IsPage store.flash.geometry.pages) pool.frames → AreTold (record store { pool = pool }) → Invariant store site
    → Invariant (record store { pool = pool }) site
pool_going store pool site size is pages told going = grind (arith, common_steps)
