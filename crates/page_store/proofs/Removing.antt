-- Pages leave the pool together.
use Rattle.page_store.proofs.Names.{◌≡◌, ◌≢◌, ℕ, zero, suc, ◌-◌, ◌<◌, ◌≤◌, ◌==◌, Bool, true, false, not, ◌||◌, cond, List, [], ◌∷◌, ◌++◌, length, get_or, take, map, reverse, Option, Some, None, arith, refl, sym, ap, subst, ◌∙◌, ne_eqb, length-take, length-filter, count_by-le-length, get_or_from_slice_get, AllByRecursion, slice_get, Pool, AreDistinct, Knows, frame_of, WithoutTakesOne, Frame, pool_page, rules_for as rules, mark_for, movable, without_all, LeavesOut, pulled_frames, pulled, IsPage, IsStore, AreTold, PageStore, Rules, leaving, PoolPage, must_be_pushed, without, is_pulled, chances_of, Queue, PoolMark, all_take, all_reverse, all_filter, all_passed, all_at, eq_turned}
use Rattle.page_store.proofs.Pools.{pages_without}
use Rattle.page_store.proofs.Clearing.{is_among}
use Rattle.page_store.proofs.Saving.{distinct_filter, distinct_take, distinct_reverse, found_all}
use Rattle.page_store.proofs.ToldPages.{told_without}
use Rattle.buffer_pool.specs.Frames as pool

abbrev pub page_of : Frame → ℕ
page_of f = f.page

-- One page more.
pub without_push : (pages : List ℕ) (page : ℕ) (frames : List Frame) → without_all (pages ++ page ∷ []) frames ≡ pool.without (without_all pages frames) page
without_push [] page frames = refl
without_push (p ∷ pages) page frames = without_push pages page (pool.without frames p)

-- Where a page's frame is then.
pub frames_without : WithoutTakesOne → (pages : List ℕ) (frames : List Frame) (n : ℕ) → frame_of (without_all pages frames) n ≡ cond (is_among pages n) None (frame_of frames n)
frames_without law [] frames n = refl
frames_without law (page ∷ pages) frames n =
    frames_without law pages (pool.without frames page) n ∙ ap (λ (o : Option Frame). cond (is_among pages n) None o) (law frames page n) ∙ by (page == n) (is_among pages n)
  where
    by : (a b : Bool) → cond b None (cond a None (frame_of frames n)) ≡ cond (a || b) None (frame_of frames n)
    by true true = refl
    by true false = refl
    by false b = refl

-- What holds of all frames holds of those that are left, each page stands there once, and there are no more.

pub all_left : (P : Frame → Type 0) (pages : List ℕ) (frames : List Frame) → AllByRecursion P frames → AllByRecursion P (without_all pages frames)
all_left P [] frames all = all
all_left P (page ∷ pages) frames all = all_left P pages (pool.without frames page) (all_filter P (λ (f : Frame). not (f.page == page)) frames all)

pub distinct_left : (pages : List ℕ) (frames : List Frame) → AreDistinct frames → AreDistinct (without_all pages frames)
distinct_left [] frames apart = apart
distinct_left (page ∷ pages) frames apart = distinct_left pages (pool.without frames page) (distinct_filter (λ (f : Frame). not (f.page == page)) frames apart)

pub few_left : (pages : List ℕ) (frames : List Frame) → length (without_all pages frames) ≤ length frames
few_left [] frames = omega arith
few_left (page ∷ pages) frames = omega (arith, few_left pages (pool.without frames page), length-filter (λ (f : Frame). not (f.page == page)) frames, count_by-le-length (λ (f : Frame). not (f.page == page)) frames)

-- a page is taken out of the pool
pub store_without : WithoutTakesOne → (store : PageStore) (pool' : Pool) (page : ℕ) → pool' ≡ record store.pool { frames = pool.without store.pool.frames page; framed = pool'.framed } → Knows page false store.pool pool'
    → IsStore store → IsStore (record store { pool = pool' })
store_without law store pool' page is knows own =
    let told = told_without law store pool' page (ap (λ (p : Pool). p.frames) is) knows own.told in
    subst (λ (p : Pool). IsStore (record store { pool = p })) (sym is) (record {
      least = own.least;
      most = own.most;
      pool = record { few = (let few = own.pool.few in omega (arith, few, few_left (page ∷ []) store.pool.frames)); distinct = distinct_left (page ∷ []) store.pool.frames own.pool.distinct };
      pages = all_left (IsPage store.flash.geometry.pages) (page ∷ []) store.pool.frames own.pages;
      told = subst (λ (p : Pool). AreTold (record store { pool = p })) is told;
    })

-- The pages that are pulled.

pub all_pulled : (P : Frame → Type 0) (r : Rules) (queue : Queue) (xs : List Frame) → AllByRecursion P xs → AllByRecursion P (pulled_frames r queue xs)
all_pulled P r queue xs all = by r.pulls _
  where
    by : (b : Bool) (n : ℕ) → AllByRecursion P (cond b (take n (movable queue xs)) [])
    by true n = all_take P n (movable queue xs) (all_filter P (λ (f : Frame). must_be_pushed queue (pool_page f)) xs all)
    by false n = tt

pub pulled_move : (r : Rules) (queue : Queue) (xs : List Frame) → AllByRecursion (λ (f : Frame). must_be_pushed queue (pool_page f) ≡ true) (pulled_frames r queue xs)
pulled_move r queue xs = by r.pulls _
  where
    by : (b : Bool) (n : ℕ) → AllByRecursion (λ (f : Frame). must_be_pushed queue (pool_page f) ≡ true) (cond b (take n (movable queue xs)) [])
    by true n = all_take (λ (f : Frame). must_be_pushed queue (pool_page f) ≡ true) n (movable queue xs) (all_passed (λ (f : Frame). must_be_pushed queue (pool_page f)) xs)
    by false n = tt

pub pulled_apart : (r : Rules) (queue : Queue) (xs : List Frame) → AreDistinct xs → AreDistinct (pulled_frames r queue xs)
pulled_apart r queue xs apart = by r.pulls _
  where
    by : (b : Bool) (n : ℕ) → AreDistinct (cond b (take n (movable queue xs)) [])
    by true n = distinct_take n (movable queue xs) (distinct_filter (λ (f : Frame). must_be_pushed queue (pool_page f)) xs apart)
    by false n = tt

pub pulled_few : (r : Rules) (queue : Queue) (xs : List Frame) → length (pulled_frames r queue xs) ≤ 8 - 1 - length (chances_of r.chances (leaving r queue))
pulled_few r queue xs = by r.pulls (8 - 1 - length (chances_of r.chances (leaving r queue)))
  where
    by : (b : Bool) (n : ℕ) → length (cond b (take n (movable queue xs)) []) ≤ n
    by true n = omega (arith, length-take n (movable queue xs))
    by false n = omega arith

-- The next one is there still.

module _ (law : WithoutTakesOne) (frames xs : List Frame) (found : AllByRecursion (λ (f : Frame). frame_of frames f.page ≡ Some f) xs) (apart : AreDistinct xs) where
  not_before : (k : ℕ) (d : Frame) → k < length xs → is_among (take k (map page_of xs)) (get_or xs k d).page ≡ false
  not_before k d less = at xs apart k less
    where
      at : (ys : List Frame) → AreDistinct ys → (j : ℕ) → j < length ys → is_among (take j (map page_of ys)) (get_or ys j d).page ≡ false
      at [] all j within = absurd (omega (arith, within))
      at (y ∷ ys) all zero within = refl
      at (y ∷ ys) all (suc j) within =
          ap (λ b. b || is_among (take j (map page_of ys)) (get_or ys j d).page) (ne_eqb y.page (get_or ys j d).page (all_at (λ (other : Frame). y.page ≢ other.page) ys j d all.0 (omega (arith, within))))
          ∙ at ys all.1 j (omega (arith, within))

  pub next_there : (k : ℕ) (d : Frame) → k < length xs → frame_of (without_all (take k (map page_of xs)) frames) (get_or xs k d).page ≡ Some (get_or xs k d)
  next_there k d less =
      frames_without law (take k (map page_of xs)) frames (get_or xs k d).page
      ∙ ap (λ b. cond b None (frame_of frames (get_or xs k d).page)) (not_before k d less)
      ∙ all_at (λ (f : Frame). frame_of frames f.page ≡ Some f) xs k d found less

-- The machine's pool.

pub pool_left : (queue : Queue) (xs frames : List Frame) → map pool_page (without_all (map page_of xs) frames) ≡ without (is_pulled (map (mark_for queue) xs)) (map pool_page frames)
pool_left queue [] frames = all (map pool_page frames)
  where
    all : (l : List PoolPage) → l ≡ without (is_pulled []) l
    all [] = refl
    all (p ∷ l) = ap (λ (k : List PoolPage). p ∷ k) (all l)
pool_left queue (x ∷ xs) frames =
    pool_left queue xs (pool.without frames x.page)
    ∙ ap (without (is_pulled (map (mark_for queue) xs))) (pages_without frames x.page)
    ∙ twice (map pool_page frames)
  where
    ms : List PoolMark
    ms = map (mark_for queue) xs

    twice : (l : List PoolPage) → without (is_pulled ms) (without (λ other. other == x.page) l) ≡ without (is_pulled (mark_for queue x ∷ ms)) l
    twice [] = refl
    twice (q ∷ l) =
        ap (λ b. without (is_pulled ms) (cond (not b) (q ∷ without (λ other. other == x.page) l) (without (λ other. other == x.page) l))) (eq_turned q.page x.page)
        ∙ by (x.page == q.page) (twice l)
      where
        by : (b : Bool) → without (is_pulled ms) (without (λ other. other == x.page) l) ≡ without (is_pulled (mark_for queue x ∷ ms)) l
            → without (is_pulled ms) (cond (not b) (q ∷ without (λ other. other == x.page) l) (without (λ other. other == x.page) l))
            ≡ cond (not (b || is_pulled ms q.page)) (q ∷ without (is_pulled (mark_for queue x ∷ ms)) l) (without (is_pulled (mark_for queue x ∷ ms)) l)
        by true rest = rest
        by false rest = ap (λ (k : List PoolPage). cond (not (is_pulled ms q.page)) (q ∷ k) k) rest

-- The pages that are pulled from a store, one after the other.

module _ (law : WithoutTakesOne) (store : PageStore) (own : IsStore store) where
  abbrev frames : List Frame
  frames = store.pool.frames

  abbrev xs : List Frame
  xs = pulled store

  xs_found : AllByRecursion (λ (f : Frame). frame_of frames f.page ≡ Some f) xs
  xs_found = all_pulled (λ (f : Frame). frame_of frames f.page ≡ Some f) (rules store) store.flash.directory (reverse frames)
      (all_reverse (λ (f : Frame). frame_of frames f.page ≡ Some f) frames (found_all frames own.pool.distinct))

  xs_apart : AreDistinct xs
  xs_apart = pulled_apart (rules store) store.flash.directory (reverse frames) (distinct_reverse frames own.pool.distinct)

  page_in : (ys : List Frame) (k : ℕ) (d : Frame) → k < length ys → get_or (map page_of ys) k 0 ≡ (get_or ys k d).page
  page_in [] k d less = absurd (omega (arith, less))
  page_in (y ∷ ys) zero d less = refl
  page_in (y ∷ ys) (suc k) d less = page_in ys k d (omega (arith, less))

  pub next_page : (k : ℕ) (d : Frame) → k < length xs → (page : ℕ) → slice_get (map page_of xs) k ≡ Some page → (get_or xs k d).page ≡ page
  next_page k d less page at =
      sym (page_in xs k d less) ∙ get_or_from_slice_get (map page_of xs) k page 0 at

  pub next_pulled : (k : ℕ) (d : Frame) → k < length xs → (page : ℕ) → slice_get (map page_of xs) k ≡ Some page → frame_of (without_all (take k (map page_of xs)) frames) page ≡ Some (get_or xs k d)
  next_pulled k d less page at = subst (λ (n : ℕ). frame_of (without_all (take k (map page_of xs)) frames) n ≡ Some (get_or xs k d)) (next_page k d less page at) (next_there law frames xs xs_found xs_apart k d less)

pub none_either : (b : Bool) → ◌≡◌ {A = Option Frame} (cond b None None) None
none_either true = refl
none_either false = refl

-- a page that isn't there isn't there then
pub absent_part : WithoutTakesOne → (old new : List Frame) → LeavesOut old new → (page : ℕ) → frame_of old page ≡ None → frame_of new page ≡ None
absent_part law old new part page none =
    ap (λ (l : List Frame). frame_of l page) part.left ∙ frames_without law part.pages old page ∙ ap (λ (o : Option Frame). cond (is_among part.pages page) None o) none ∙ none_either (is_among part.pages page)

pub few_part : (old new : List Frame) → LeavesOut old new → length new ≤ length old
few_part old new part = let count = ap length part.left in omega (arith, count, few_left part.pages old)
