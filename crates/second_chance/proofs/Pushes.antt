-- A push, by the places and the page numbers of its plan.
use Rattle.std.proofs.lemmas.Grind.{common_steps}
use Rattle.second_chance.proofs.Names.{◌≡◌, ℕ, suc, ◌+◌, ◌==◌, Bool, true, false, ◌&&◌, ◌||◌, List, [], ◌∷◌, ◌++◌, length, map, reverse, filter, filter_map, append_assoc, length-append, slice_get, option_map, Some, arith, refl, sym, ap, ◌∙◌, ne_eqb, eqb-false, recursion_from_All, enumerate_from, AllByRecursion, Mark, names, given_again, staged_from, AreApart, EvictionIsPlanned, FlushIsPlanned, PoolPage, Cache, is_changed, pool_mark, pool_marks, is_pulled, leaving, is_full, pool_frame, chance_frame, without, saved, Placed, chances_of, staged_of, pulled_at_eviction, pulled_at_flush, frame_of, pushed, Frame, PoolMark, all_both, all_filter, all_passed, all_map, all_reverse, all_take}
use Rattle.std.proofs.lemmas.Bool.Decides.{nat_tests}

-- each of these frames stands at its place in the front group
abbrev pub StandIn : List Mark → List Placed → Type 0
StandIn front frames = AllByRecursion (λ f. slice_get front f.0 ≡ Some f.1) frames

-- the numbered marks stand at their places
behind_is : (before : List Mark) (mark : Mark) (front : List Mark) → slice_get (before ++ mark ∷ front) (length before) ≡ Some mark
behind_is [] mark front = refl
behind_is (other ∷ before) mark front = behind_is before mark front

numbered : (before front : List Mark) (n : ℕ) → n ≡ length before → StandIn (before ++ front) (enumerate_from n front)
numbered before [] n is = tt
numbered before (mark ∷ front) n is = grind (arith, slice_get, behind_is, append_assoc, length-append, (numbered (before ++ mark ∷ []) front (n + 1) (omega (arith, is, length-append before (mark ∷ [])))))

numbered_stand : (front : List Mark) → StandIn front (enumerate_from 0 front)
numbered_stand front = numbered [] front 0 refl

pub chances_stand : (given : Bool) (front : List Mark) → StandIn front (chances_of given front)
chances_stand x0 front = grind (arith, common_steps, all_take, all_filter, numbered_stand)

pub staged_stand : (given : Bool) (front : List Mark) → StandIn front (staged_of given front)
staged_stand given front = all_filter _ _ _ (numbered_stand front)

-- to look frames up by their places gives the frames
looked_up : {Y : Type 0} (h : ℕ → Mark → Y) (front : List Mark) (frames : List Placed) → StandIn front frames
    → filter_map (λ place. option_map (h place) (slice_get front place)) (map (λ f. f.0) frames) ≡ map (λ f. h f.0 f.1) frames
looked_up h front [] stand = refl
looked_up h front (f ∷ frames) stand = rw stand.0 (ap (λ l. h f.0 f.1 ∷ l) (looked_up h front frames stand.1))

names_pulled : (pulled : List PoolMark) (page : ℕ) → is_pulled pulled page ≡ names (map (λ p. p.page) pulled) page
names_pulled [] page = refl
names_pulled (p ∷ pulled) page = ap (λ b. p.page == page || b) (names_pulled pulled page)

-- a page of the pool is changed as its own entry says
other_page : (page : ℕ) (p : PoolPage) (pool : List PoolPage) → (p.page == page) ≡ false → is_changed (p ∷ pool) page ≡ is_changed pool page
other_page page p pool not_it = ap (λ b. (b && p.changed) || is_changed pool page) not_it

no_other : (page : ℕ) (pool : List PoolPage) → AllByRecursion (λ p. (p.page == page) ≡ false) pool → is_changed pool page ≡ false
no_other page [] all = refl
no_other page (p ∷ pool) all = other_page page p pool all.0 ∙ no_other page pool all.1

own_page : (p : PoolPage) (pool : List PoolPage) → is_changed pool p.page ≡ false → is_changed (p ∷ pool) p.page ≡ p.changed
own_page p pool none = grind (arith, nat_tests)

-- distinct pages, by recursion
abbrev Apart : List PoolPage → Type 0
Apart [] = Unit {0}
Apart (p ∷ pool) = AllByRecursion (λ other. (other.page == p.page) ≡ false) pool × Apart pool

apart_from : (pool : List PoolPage) → AreApart pool → Apart pool
apart_from [] apart = tt
apart_from (p ∷ pool) apart = (
  recursion_from_All (λ other. (other.page == p.page) ≡ false) pool (λ i d less. ne_eqb _ _ (λ same. apart 0 (suc i) d (omega arith) (omega (arith, less)) (sym same))),
  apart_from pool (λ i j d before within. apart (suc i) (suc j) d (omega (arith, before)) (omega (arith, within))),
)

changed_here : (pool : List PoolPage) → Apart pool → AllByRecursion (λ p. is_changed pool p.page ≡ p.changed) pool
changed_here [] apart = tt
changed_here (p ∷ pool) apart = grind (arith, own_page, no_other, all_both, other_page, ne_eqb, eqb-false, (changed_here pool apart.1))

marked_here : (cache : Cache) → AreApart cache.pool → AllByRecursion (λ m. is_changed cache.pool m.page ≡ m.changed) (pool_marks cache)
marked_here cache apart = all_map (λ m. is_changed cache.pool m.page ≡ m.changed) (pool_mark cache.queue) (reverse cache.pool)
    (all_reverse (λ p. is_changed cache.pool p.page ≡ p.changed) cache.pool (changed_here cache.pool (apart_from cache.pool apart)))

pulled_here : (pulls given : Bool) (front : List Mark) (P : PoolMark → Type 0) (pool : List PoolMark) → AllByRecursion P pool
    → AllByRecursion P (pulled_at_eviction pulls given front pool)
pulled_here x0 given front x3 pool all = grind (arith, common_steps, all_take, all_filter)

frames_here : (dirty : ℕ → Bool) (pulled : List PoolMark) → AllByRecursion (λ m. dirty m.page ≡ m.changed) pulled
    → map pool_frame pulled ≡ map (λ page. frame_of page (dirty page)) (map (λ m. m.page) pulled)
frames_here dirty [] all = refl
frames_here dirty (m ∷ pulled) all = ap (λ d. frame_of m.page d ∷ map pool_frame pulled) (sym all.0) ∙ ap (λ l. frame_of m.page (dirty m.page) ∷ l) (frames_here dirty pulled all.1)

chances_again : (given : Bool) (front : List Mark) → map chance_frame (chances_of given front) ≡ given_again front (map (λ f. f.0) (chances_of given front))
chances_again given front = sym (looked_up (λ place mark. frame_of mark.page mark.dirty) front (chances_of given front) (chances_stand given front))

pub staged_again : (given : Bool) (front : List Mark) (group : ℕ)
    → map (λ f. record { group = group; index = f.0; page = f.1.page }) (staged_of given front) ≡ staged_from group front (map (λ f. f.0) (staged_of given front))
staged_again given front group =
    sym (looked_up (λ place mark. record { group = group; index = place; page = mark.page }) front (staged_of given front) (staged_stand given front))

pub eviction_is_planned : EvictionIsPlanned
eviction_is_planned r own cache apart =
    let front : List Mark = leaving r cache.queue in
    let pulled : List PoolMark = pulled_at_eviction r.pulls r.chances front (pool_marks cache) in
    let pages : is_pulled pulled ≡ names (map (λ m. m.page) pulled) = λ i page. names_pulled pulled page i in
    let frames : map pool_frame pulled ≡ map (λ page. frame_of page (is_changed cache.pool page)) (map (λ m. m.page) pulled) =
    frames_here (is_changed cache.pool) pulled (pulled_here r.pulls r.chances front (λ m. is_changed cache.pool m.page ≡ m.changed) (pool_marks cache) (marked_here cache apart)) in
    done _ _ pages _ _ (ap (λ l. l ++ frame_of own.page own.changed ∷ map pool_frame pulled) (chances_again r.chances front)
    ∙ ap (λ l. given_again front (map (λ f. f.0) (chances_of r.chances front)) ++ frame_of own.page own.changed ∷ l) frames)
  where
    done : (f g : ℕ → Bool) → f ≡ g → (xs ys : List Frame) → xs ≡ ys
        → ◌≡◌ {A = Cache} (record { pool = without f cache.pool; queue = pushed (is_full r cache.queue) xs cache.queue })
        (record { pool = without g cache.pool; queue = pushed (is_full r cache.queue) ys cache.queue })
    done f g pages xs ys frames = λ i. record { pool = without (pages i) cache.pool; queue = pushed (is_full r cache.queue) (frames i) cache.queue }

pub flush_is_planned : FlushIsPlanned
flush_is_planned r cache =
    let front : List Mark = leaving r cache.queue in
    let pulled : List PoolMark = pulled_at_flush r.chances front (pool_marks cache) in
    let pages : is_pulled pulled ≡ names (map (λ m. m.page) pulled) = λ i page. names_pulled pulled page i in
    let frames : map pool_frame pulled ≡ map (λ page. frame_of page true) (map (λ m. m.page) pulled) =
    frames_here (λ page. true) pulled (all_take _ _ _ (turned (filter (λ m. m.changed) (pool_marks cache)) (all_passed (λ m. m.changed) (pool_marks cache)))) in
    done _ _ pages _ _ (ap (λ l. l ++ map pool_frame pulled) (chances_again r.chances front)
    ∙ ap (λ l. given_again front (map (λ f. f.0) (chances_of r.chances front)) ++ l) frames)
  where
    turned : (marks : List PoolMark) → AllByRecursion (λ m. m.changed ≡ true) marks → AllByRecursion (λ m. true ≡ m.changed) marks
    turned [] all = tt
    turned (m ∷ marks) all = (sym all.0, turned marks all.1)

    done : (f g : ℕ → Bool) → f ≡ g → (xs ys : List Frame) → xs ≡ ys
        → ◌≡◌ {A = Cache} (record { pool = saved f cache.pool; queue = pushed (is_full r cache.queue) xs cache.queue })
        (record { pool = saved g cache.pool; queue = pushed (is_full r cache.queue) ys cache.queue })
    done f g pages xs ys frames = λ i. record { pool = saved (pages i) cache.pool; queue = pushed (is_full r cache.queue) (frames i) cache.queue }
