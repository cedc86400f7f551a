-- What the pool is told of the queue on flash, as pages come and go and groups are pushed.
use Rattle.page_store.proofs.Names.{◌≡◌, ◌≢◌, ℕ, zero, suc, ◌<◌, ◌==◌, ◌||◌, Bool, true, false, true≢false, not, cond, List, [], ◌∷◌, ◌++◌, length, take, drop, map, filter, reverse, is_some, None, Some, arith, refl, sym, ap, subst, ◌∙◌, cases_eq, eqb-true, eqb-false, eq-eqb, ne_eqb, or_parts, reverse-append, filter-append, AllByRecursion, enumerate_from, Result, Ok, Err, OnOk, OnErr, IsSome, Pool, frame_of, cleared, is_movable, coldest_movable, Knows, KnowsSame, WithoutTakesOne, TouchKeepsFrames, ClearedKeepsFrames, ChangesOne, Frame, Mark, front_leaves, chance_marks, known_given, known_pushed, pushed_queue, FlashCache, pool_page, movable, AreTold, Invariant, Matches, is_marked, is_named, TellsOf, PageStore, rules_of, leaving, chance_frame, must_be_pushed, Placed, chances_of, chances_given, Queue, has_frame, in_group, in_groups, group_marks, front_marks, Known, State, Stop, or_false, or_assoc, eq_turned}
use Rattle.std.proofs.lemmas.List.Folds.{list_any-append}
use Rattle.buffer_pool.specs.Frames.{without, touched}
use Rattle.std.proofs.lemmas.Grind.{common_steps}
use Rattle.flash_cache.specs.Representation as flash_cache

never : {A : Type 0} → IsSome {T = Frame} None → A
never some = absurd (true≢false (sym some))

found_first : (frames : List Frame) (frame : Frame) → IsSome (frame_of (frame ∷ frames) frame.page)
found_first frames frame = ap (λ b. is_some (cond b (Some frame) (frame_of frames frame.page))) (eq-eqb frame.page frame.page refl)

-- The pool changes.

pub told_none : (store : PageStore) → store.pool.frames ≡ [] → AreTold store
told_none store is n some = never (subst IsSome (ap (λ (l : List Frame). frame_of l n) is) some)

pub told_same : (store : PageStore) (pool : Pool) → ((n : ℕ) → IsSome (frame_of pool.frames n) → IsSome (frame_of store.pool.frames n)) → KnowsSame store.pool pool → AreTold store
    → AreTold (record store { pool = pool })
told_same store pool there same told n some = same n ∙ told n (there n some)

pub told_without : WithoutTakesOne → (store : PageStore) (pool : Pool) (page : ℕ) → pool.frames ≡ without store.pool.frames page → Knows page false store.pool pool → AreTold store
    → AreTold (record store { pool = pool })
told_without law store pool page is knows told n some = grind (arith, common_steps, never, ne_eqb, eqb-false)

pub told_touched : TouchKeepsFrames → (store : PageStore) (pool : Pool) (page : ℕ) → pool.frames ≡ touched store.pool.frames page → KnowsSame store.pool pool → AreTold store → AreTold (record store { pool = pool })
told_touched law store pool page is same told = told_same store pool (λ n some. subst IsSome (ap (λ (l : List Frame). frame_of l n) is ∙ law store.pool.frames page n) some) same told

pub told_cleared : ClearedKeepsFrames → (store : PageStore) (pool : Pool) (page : ℕ) → pool.frames ≡ cleared store.pool.frames page → KnowsSame store.pool pool → AreTold store → AreTold (record store { pool = pool })
told_cleared law store pool page is same told = grind (arith, common_steps, told_same, never)

pub told_changed : (store : PageStore) (pool : Pool) → 0 < length store.pool.frames → ChangesOne store.pool.frames pool.frames → KnowsSame store.pool pool → AreTold store → AreTold (record store { pool = pool })
told_changed store pool there one same told = grind (arith, common_steps, told_same, cases_eq, found_first)

pub told_put : (store : PageStore) (pool : Pool) (frame : Frame) (framed : Bool) → pool.frames ≡ frame ∷ store.pool.frames → Knows frame.page framed store.pool pool
    → framed ≡ has_frame store.flash.directory frame.page → AreTold store → AreTold (record store { pool = pool })
told_put store pool frame framed is knows right told n some = grind (arith, common_steps, eqb-false, eqb-true)

-- The queue changes.

pub told_with : (store : PageStore) (cache : FlashCache) → ((n : ℕ) → has_frame cache.directory n ≡ has_frame store.flash.directory n) → AreTold store → AreTold (record store { flash = cache })
told_with store cache same told n some = told n some ∙ sym (same n)

-- Pages are told one by one.

pub tells_none : (store : PageStore) → TellsOf (λ n. false) store store
tells_none store n some right = right refl

tells_more : (before one all : ℕ → Bool) (old mid new : PageStore) → ((n : ℕ) → all n ≡ (before n || one n)) → mid.pool.frames ≡ old.pool.frames → TellsOf before old mid → TellsOf one mid new → TellsOf all old new
tells_more before one all old mid new is frames first second n some right = grind (arith, common_steps)

pub tells_mark : (marks next : List Mark) (mark : Mark) (old mid new : PageStore) → next ≡ marks ++ mark ∷ [] → mid.pool.frames ≡ old.pool.frames → TellsOf (is_marked marks) old mid
    → TellsOf (λ n. n == mark.page) mid new → TellsOf (is_marked next) old new
tells_mark marks next mark old mid new is = grind (arith, common_steps, tells_more, list_any-append, or_false, eq_turned)

pub tells_page : (pages next : List ℕ) (page : ℕ) (old mid new : PageStore) → next ≡ pages ++ page ∷ [] → mid.pool.frames ≡ old.pool.frames → TellsOf (is_named pages) old mid
    → TellsOf (λ n. n == page) mid new → TellsOf (is_named next) old new
tells_page pages next page old mid new is = grind (arith, common_steps, tells_more, list_any-append, or_false, eq_turned)

-- What may be pulled is known by what was told.

each_found : (frames : List Frame) → AllByRecursion (λ (f : Frame). IsSome (frame_of frames f.page)) frames
each_found [] = tt
each_found (frame ∷ frames) = (found_first frames frame, more frames (each_found frames))
  where
    more : (rest : List Frame) → AllByRecursion (λ (f : Frame). IsSome (frame_of frames f.page)) rest → AllByRecursion (λ (f : Frame). IsSome (frame_of (frame ∷ frames) f.page)) rest
    more [] all = tt
    more (f ∷ rest) all = (by (frame.page == f.page) all.0, more rest all.1)
      where
        by : (b : Bool) → IsSome (frame_of frames f.page) → IsSome (cond b (Some frame) (frame_of frames f.page))
        by true there = refl
        by false there = there

module _ (store : PageStore) where
  abbrev same_test : Frame → Type 0
  same_test f = is_movable store.pool f ≡ must_be_pushed store.flash.directory (pool_page f)

  filter_same : (xs : List Frame) → AllByRecursion same_test xs → filter (is_movable store.pool) (reverse xs) ≡ movable store.flash.directory (reverse xs)
  filter_same [] all = refl
  filter_same (x ∷ xs) all = grind (arith, common_steps, reverse-append, filter-append, (filter_same xs all.1))

  pub coldest_told : (most : ℕ) → AreTold store → coldest_movable most store.pool ≡ take most (movable store.flash.directory (reverse store.pool.frames))
  coldest_told most told = ap (take most) (filter_same store.pool.frames (each store.pool.frames (each_found store.pool.frames)))
    where
      each : (xs : List Frame) → AllByRecursion (λ (f : Frame). IsSome (frame_of store.pool.frames f.page)) xs → AllByRecursion same_test xs
      each [] all = tt
      each (x ∷ xs) all = (ap (λ b. x.changed || not b) (told x.page all.0), each xs all.1)

-- Which pages have a frame after a push: those that aren't in the front group and aren't given have one as before.

group_append : (xs ys : List Known) (n : ℕ) → in_group (xs ++ ys) n ≡ (in_group xs n || in_group ys n)
group_append [] ys n = refl
group_append (x ∷ xs) ys n = ap (λ b. (x.page == n) || b) (group_append xs ys n) ∙ sym (or_assoc (x.page == n) (in_group xs n) (in_group ys n))

groups_append : (gs : List (List Known)) (g : List Known) (n : ℕ) → in_groups (gs ++ g ∷ []) n ≡ (in_groups gs n || in_group g n)
groups_append [] g n = or_false (in_group g n)
groups_append (h ∷ gs) g n = ap (λ b. in_group h n || b) (groups_append gs g n) ∙ sym (or_assoc (in_group h n) (in_groups gs n) (in_group g n))

-- the marks of a group name its pages
marked_group : (group : List Known) (later : List (List Known)) (n : ℕ) → is_marked (group_marks group later) n ≡ in_group group n
marked_group [] later n = refl
marked_group (f ∷ group) later n = ap (λ b. (f.page == n) || b) (marked_group group later n)

-- a page of no mark has no second chance
no_placed : (front : List Mark) (i n : ℕ) → is_marked front n ≡ false → AllByRecursion (λ (p : Placed). (p.1.page == n) ≡ false) (enumerate_from i front)
no_placed [] i n none = tt
no_placed (m ∷ front) i n none = ((or_parts (m.page == n) (is_marked front n) none).0, no_placed front _ n (or_parts (m.page == n) (is_marked front n) none).1)

all_filter : (P : Placed → Type 0) (test : Placed → Bool) (xs : List Placed) → AllByRecursion P xs → AllByRecursion P (filter test xs)
all_filter P test [] all = tt
all_filter P test (x ∷ xs) all = grind (arith, common_steps, (all_filter P test xs all.1))

all_take : (P : Placed → Type 0) (k : ℕ) (xs : List Placed) → AllByRecursion P xs → AllByRecursion P (take k xs)
all_take P zero xs all = tt
all_take P (suc k) [] all = tt
all_take P (suc k) (x ∷ xs) all = (all.0, all_take P k xs all.1)

no_chance : (given : Bool) (front : List Mark) (n : ℕ) → is_marked front n ≡ false → AllByRecursion (λ (p : Placed). (p.1.page == n) ≡ false) (chances_of given front)
no_chance given front n h = grind (arith, common_steps, all_take, all_filter, no_placed)

none_known : (xs : List Placed) (n : ℕ) → AllByRecursion (λ (p : Placed). (p.1.page == n) ≡ false) xs → in_group (map chance_frame xs) n ≡ false
none_known [] n all = refl
none_known (x ∷ xs) n all = ap (λ b. b || in_group (map chance_frame xs) n) all.0 ∙ none_known xs n all.1

none_given : (pages : List ℕ) (changed : List Bool) (n : ℕ) → is_named pages n ≡ false → in_group (known_given pages changed) n ≡ false
none_given [] changed n none = refl
none_given (page ∷ pages) [] n none = refl
none_given (page ∷ pages) (c ∷ changed) n none = grind (arith, common_steps, or_parts, (none_given pages changed n (or_parts (page == n) (is_named pages n) none).1))

module _ (cache : FlashCache) (pages : List ℕ) (changed : List Bool) (n : ℕ) where
  abbrev front : List Mark
  front = leaving (rules_of 0 cache.geometry.groups) cache.directory

  none_pushed : is_marked front n ≡ false → is_named pages n ≡ false → in_group (known_pushed cache pages changed) n ≡ false
  none_pushed off none =
      group_append (map chance_frame (chance_marks cache)) (known_given pages changed) n
      ∙ ap (λ b. b || in_group (known_given pages changed) n) (none_known (chance_marks cache) n (no_chance chances_given front n off))
      ∙ none_given pages changed n none

  behind : (leaves : Bool) (group : List Known) (groups : List (List Known)) → is_marked (cond leaves (front_marks groups) []) n ≡ false → in_group group n ≡ false
      → in_groups (cond leaves (drop 1 groups) groups ++ group ∷ []) n ≡ in_groups groups n
  behind leaves group groups h h2 = grind (arith, common_steps, groups_append, or_false, marked_group)

  pub pushed_same : is_marked front n ≡ false → is_named pages n ≡ false → has_frame (pushed_queue cache (known_pushed cache pages changed)) n ≡ has_frame cache.directory n
  pushed_same off none = behind (front_leaves cache) (known_pushed cache pages changed) cache.directory.groups off (none_pushed off none)

-- Behind a push the pool is told of the pages of the front group and of those given: so each of its pages is told right.
pub told_pushed : (r : Result (Unit {0}) Stop) (store : PageStore) (cache : FlashCache) (marks : List Mark) (pages : List ℕ) (changed : List Bool) (first second : PageStore)
    → AreTold store → OnOk r (cache.directory ≡ pushed_queue store.flash (known_pushed store.flash pages changed)) → OnErr r (cache.directory ≡ store.flash.directory)
    → marks ≡ leaving (rules_of 0 store.flash.geometry.groups) store.flash.directory
    → first.pool.frames ≡ store.pool.frames → second.pool.frames ≡ first.pool.frames
    → TellsOf (is_marked marks) (record store { flash = cache }) first → TellsOf (is_named pages) first second → AreTold second
told_pushed r store cache marks pages changed first second told queue kept are frames frames' one two n some =
    let there' : IsSome (frame_of first.pool.frames n) = subst (λ (l : List Frame). IsSome (frame_of l n)) frames' some in
    let there : IsSome (frame_of store.pool.frames n) = subst (λ (l : List Frame). IsSome (frame_of l n)) frames there' in
    two n there' (λ none. one n there (λ off. told n there ∙ sym (same r queue kept (subst (λ (l : List Mark). is_marked l n ≡ false) are off) none)))
  where
    same : (r : Result (Unit {0}) Stop) → OnOk r (cache.directory ≡ pushed_queue store.flash (known_pushed store.flash pages changed)) → OnErr r (cache.directory ≡ store.flash.directory)
        → is_marked (leaving (rules_of 0 store.flash.geometry.groups) store.flash.directory) n ≡ false → is_named pages n ≡ false → has_frame cache.directory n ≡ has_frame store.flash.directory n
    same (Ok x) queue kept off none = ap (λ (q : Queue). has_frame q n) queue ∙ pushed_same store.flash pages changed n off none
    same (Err e) queue kept off none = ap (λ (q : Queue). has_frame q n) kept

-- The store with a pool that was told more.

abbrev with_told : PageStore → List ℕ → PageStore
with_told store framed = record store { pool = record store.pool { framed = framed } }

pub fits_told : (store after : PageStore) (site : State) → after ≡ with_told store after.pool.framed → Matches store site → Matches after site
fits_told store after site is fits = subst (λ (s : PageStore). Matches s site) (sym is) (record {
  flash = fits.flash;
  groups = fits.groups;
  holds = fits.holds;
  clean = fits.clean;
  sound = fits.sound;
  unchanged = fits.unchanged;
})

pub going_told : (store : PageStore) (cache : FlashCache) (after : PageStore) (old new : State) → cache.geometry ≡ store.flash.geometry → after ≡ with_told (record store { flash = cache }) after.pool.framed
    → flash_cache.Invariant cache new → AreTold after → Invariant store old → Invariant after new
going_told store cache after old new geometry is flash told going = grind (arith, common_steps)
