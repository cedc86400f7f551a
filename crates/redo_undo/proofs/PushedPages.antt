-- The pages that a touch pushes, by the machine and by the pool, and whether one of them waits for the log.
use Rattle.redo_undo.proofs.Names.{◌≡◌, ℕ, zero, suc, ◌+◌, ◌*◌, ◌<◌, Bool, true, false, not, ◌&&◌, ◌||◌, nat_lt, List, [], ◌∷◌, map, reverse, take, Some, refl, sym, ap, subst, ◌∙◌, arith, and_right, ltb-true, lt-leb, AllByRecursion, list_any, if◌then◌else◌, frame_of, Frame, has_tail, LogStore, AreLogged, evicted, pushed_by_touch, cache_of, rules, pool_page, IsStore, IsPage, PageStore, touch, Mirrors, Machine, pushed_with, pushed_by, Rules, PoolPage, Cache, pool_mark, lacks_room, Image, lsn_of, all_both, all_filter, all_reverse, all_take, all_weaker, any_map, map_map, map_reverse_aux, IsLogged, is_unsealed, end_now, end_forced, forces}
use Rattle.std.proofs.Common.{nat_le, filter}
use Rattle.second_chance.specs.declared.plan.PoolMark.{PoolMark}
use Rattle.second_chance.specs.Queue.{Queue}
use Rattle.ring_machine.specs.Tail.{waits}
use Rattle.page_store.proofs.Saving.{found_all}
use Rattle.page_store.specs.Pulling.{movable, evicted_of, evicted_frames}

-- The pages are those of the frames.

marked : (queue : Queue) (frames : List Frame) → filter (λ (p : PoolMark). p.changed || not p.framed) (map (pool_mark queue) (map pool_page frames)) ≡ map (λ (f : Frame). pool_mark queue (pool_page f)) (movable queue frames)
marked queue [] = grind (arith)
marked queue (frame ∷ frames) = grind (arith, (marked queue frames))

taken : {X Y : Type 0} (f : X → Y) (n : ℕ) (xs : List X) → take n (map f xs) ≡ map f (take n xs)
taken f zero xs = refl
taken f (suc n) [] = refl
taken f (suc n) (x ∷ xs) = ap (λ l. f x ∷ l) (taken f n xs)

pages_pushed : (r : Rules) (queue : Queue) (frames : List Frame) → pushed_with r queue (map pool_page frames) ≡ map (λ (f : Frame). f.page) (evicted_of r queue frames)
pages_pushed r queue [] = grind (arith)
pages_pushed r queue (coldest ∷ warmer) = grind (arith, marked, taken, map_map)

-- They stand in the pool.

evicted_all : (P : Frame → Type 0) (r : Rules) (queue : Queue) (frames : List Frame) → AllByRecursion P frames → AllByRecursion P (evicted_of r queue frames)
evicted_all P r queue [] all = grind (arith)
evicted_all P r queue (coldest ∷ warmer) all = grind (arith, all_take, all_filter)

-- A page whose LSN is sealed doesn't wait.

pub sealed_off : (end : ℕ) (content : List ℕ) → (0 < lsn_of content → lsn_of content < end) → is_unsealed end content ≡ false
sealed_off end content below = grind (arith, nat_lt, nat_le, lt-leb, ltb-true)

none_unsealed : (end : ℕ) (frames : List Frame) → AllByRecursion (λ (f : Frame). IsLogged end f.content) frames → list_any (λ (f : Frame). is_unsealed end f.content) frames ≡ false
none_unsealed end [] all = refl
none_unsealed end (frame ∷ frames) all =
    ap (λ (b : Bool). b || list_any (λ (f : Frame). is_unsealed end f.content) frames) (sealed_off end frame.content all.0.below) ∙ none_unsealed end frames all.1

any_same : {X : Type 0} (f g : X → Bool) (xs : List X) → AllByRecursion (λ x. f x ≡ g x) xs → list_any f xs ≡ list_any g xs
any_same f g [] all = refl
any_same f g (x ∷ xs) all = ap (λ (b : Bool). b || list_any f xs) all.0 ∙ ap (λ (b : Bool). g x || b) (any_same f g xs all.1)

-- the log has records wherever a page waits
tail_needed : (log : LogStore) (frames : List Frame) → AllByRecursion (λ (f : Frame). IsLogged (end_forced log) f.content) frames → forces log (map (λ (f : Frame). f.content) frames) ≡ list_any (λ (f : Frame). is_unsealed (end_now log) f.content) frames
tail_needed log frames all = ap (λ (b : Bool). has_tail log && b) (any_map (is_unsealed (end_now log)) (λ (f : Frame). f.content) frames) ∙ by (has_tail log) refl
  where
    by : (b : Bool) → has_tail log ≡ b → (b && list_any (λ (f : Frame). is_unsealed (end_now log) f.content) frames) ≡ list_any (λ (f : Frame). is_unsealed (end_now log) f.content) frames
    by true there = refl
    by false none =
        let same : end_forced log ≡ end_now log = ap (λ (b : Bool). 512 * (log.ring.hi + (if b then 1 else 0))) none ∙ omega arith in
        sym (none_unsealed (end_now log) frames (all_weaker (λ (f : Frame). IsLogged (end_forced log) f.content) (λ (f : Frame). IsLogged (end_now log) f.content) (λ f logged. subst (λ (end : ℕ). IsLogged end f.content) same logged) frames all))

-- what is asked of some frames of the pool: one waits where one isn't sealed
pub some_wait : (log : LogStore) (pages : PageStore) (image : Image) (m : Machine) → IsStore pages → Mirrors log pages image m → (frames : List Frame) → AllByRecursion (λ (f : Frame). IsPage pages.flash.geometry.pages f) frames →
    AllByRecursion (λ (f : Frame). frame_of pages.pool.frames f.page ≡ Some f) frames → list_any (waits m.tail) (map (λ (f : Frame). f.page) frames) ≡ list_any (λ (f : Frame). is_unsealed (end_now log) f.content) frames
some_wait log pages image m own is frames exist found = grind (arith, any_map, any_same, all_both)

-- The log is forced for a touch where one of the pages that it pushes waits.
pub pushed_waits : (log : LogStore) (pages : PageStore) (image : Image) (m : Machine) (page : ℕ) → IsStore pages → AreLogged (end_forced log) pages.pool.frames → Mirrors log pages image m →
    list_any (waits m.tail) (pushed_by (rules pages) (touch page false) m.cache) ≡ forces log (pushed_by_touch pages page)
pushed_waits log pages image m page own logged is =
    ap (λ (c : Cache). list_any (waits m.tail) (pushed_by (rules pages) (touch page false) c)) is.cache ∙ by (lacks_room (rules pages) page (cache_of pages))
  where
    here : list_any (waits m.tail) (pushed_with (rules pages) pages.flash.directory (reverse (map pool_page pages.pool.frames))) ≡ forces log (evicted pages)
    here =
        ap (λ (l : List PoolPage). list_any (waits m.tail) (pushed_with (rules pages) pages.flash.directory l)) (map_reverse_aux pool_page pages.pool.frames [])
        ∙ ap (list_any (waits m.tail)) (pages_pushed (rules pages) pages.flash.directory (reverse pages.pool.frames))
        ∙ some_wait log pages image m own is (evicted_frames pages)
        (evicted_all (λ (f : Frame). IsPage pages.flash.geometry.pages f) (rules pages) pages.flash.directory (reverse pages.pool.frames) (all_reverse (λ (f : Frame). IsPage pages.flash.geometry.pages f) pages.pool.frames own.pages))
        (evicted_all (λ (f : Frame). frame_of pages.pool.frames f.page ≡ Some f) (rules pages) pages.flash.directory (reverse pages.pool.frames)
        (all_reverse (λ (f : Frame). frame_of pages.pool.frames f.page ≡ Some f) pages.pool.frames (found_all pages.pool.frames own.pool.distinct)))
        ∙ sym (tail_needed log (evicted_frames pages) (evicted_all (λ (f : Frame). IsLogged (end_forced log) f.content) (rules pages) pages.flash.directory (reverse pages.pool.frames)
        (all_reverse (λ (f : Frame). IsLogged (end_forced log) f.content) pages.pool.frames logged)))

    by : (b : Bool) → list_any (waits m.tail) (if b then pushed_with (rules pages) pages.flash.directory (reverse (map pool_page pages.pool.frames)) else []) ≡ forces log (if b then evicted pages else [])
    by true = here
    by false = sym (and_right (has_tail log) false refl)

-- a flush pushes no page that waits where nothing is unsealed
pub none_waits : (log : LogStore) (pages : PageStore) (image : Image) (m : Machine) → IsStore pages → AreLogged (end_now log) pages.pool.frames → Mirrors log pages image m → (ask : Frame → Bool) →
    list_any (waits m.tail) (map (λ (f : Frame). f.page) (filter ask pages.pool.frames)) ≡ false
none_waits log pages image m own logged is ask =
    some_wait log pages image m own is (filter ask pages.pool.frames) (all_filter (λ (f : Frame). IsPage pages.flash.geometry.pages f) ask pages.pool.frames own.pages)
    (all_filter (λ (f : Frame). frame_of pages.pool.frames f.page ≡ Some f) ask pages.pool.frames (found_all pages.pool.frames own.pool.distinct))
    ∙ none_unsealed (end_now log) (filter ask pages.pool.frames) (all_filter (λ (f : Frame). IsLogged (end_now log) f.content) ask pages.pool.frames logged)
