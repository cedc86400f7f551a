-- A flush, push by push.
use Rattle.std.proofs.lemmas.Grind.{common_steps}
use Rattle.second_chance.proofs.Names.{◌≡◌, ℕ, zero, suc, ◌+◌, ◌-◌, ◌<◌, ◌≤◌, Bool, true, false, ◌&&◌, cond, List, [], ◌∷◌, ◌++◌, length, take, reverse, filter, arith, refl, sym, ap, ◌∙◌, eq-eqb, length-map, list_any, Mark, changed_count, Rules, PoolPage, Cache, saved, saved_page, pool_mark, pool_marks, is_pulled, leaving, push_changed, wants_flush, flushed_by, flushed, staged_in_push, staged_in_flush, chances_of, pulled_at_flush, PoolMark}
use Rattle.std_lemmas.proofs.Lists.{any_map, any_reverse}

-- A push saves a page.

pub few_chances : (given : Bool) (front : List Mark) → length (chances_of given front) ≤ 7
few_chances x0 front = grind (arith, common_steps)

-- some page that is changed is among the first of the changed ones
one_pulled : (n : ℕ) (marks : List PoolMark) → list_any (λ p. p.changed) marks ≡ true
    → list_any (λ p. p.changed && is_pulled (take (suc n) (filter (λ q. q.changed) marks)) p.page) marks ≡ true
one_pulled n [] some = absurd cc
one_pulled n (mark ∷ marks) some = grind (arith, eq-eqb, (one_pulled n marks))

any_marks : (test : PoolMark → Bool) (cache : Cache) → list_any test (pool_marks cache) ≡ list_any (λ p. test (pool_mark cache.queue p)) cache.pool
any_marks test cache = any_map test (pool_mark cache.queue) (reverse cache.pool) ∙ any_reverse (λ p. test (pool_mark cache.queue p)) cache.pool

pulled_some : (rules : Rules) (cache : Cache) → wants_flush cache ≡ true
    → list_any (λ p. p.changed && is_pulled (pulled_at_flush rules.chances (leaving rules cache.queue) (pool_marks cache)) p.page) cache.pool ≡ true
pulled_some r cache wants =
    let front : List Mark = leaving r cache.queue in
    let marks : List PoolMark = pool_marks cache in
    let chances : ℕ = length (chances_of r.chances front) in
    let room : suc (7 - chances) ≡ 8 - chances = omega (arith, few_chances r.chances front) in
    let found = one_pulled (7 - chances) marks (any_marks (λ p. p.changed) cache ∙ wants) in
    sym (any_marks (λ p. p.changed && is_pulled (pulled_at_flush r.chances front marks) p.page) cache)
    ∙ ap (λ n. list_any (λ p. p.changed && is_pulled (take n (filter (λ q. q.changed) marks)) p.page) marks) (sym room) ∙ found

-- what a save leaves changed
pub count_cons : (p : PoolPage) (pool : List PoolPage) → changed_count (p ∷ pool) ≡ cond p.changed 1 0 + changed_count pool
count_cons p pool = grind arith

saved_le : (f : ℕ → Bool) (pool : List PoolPage) → changed_count (saved f pool) ≤ changed_count pool
saved_le f [] = omega arith
saved_le f (p ∷ pool) = grind (arith, count_cons, (saved_le f pool))

saved_lt : (f : ℕ → Bool) (pool : List PoolPage) → list_any (λ p. p.changed && f p.page) pool ≡ true → changed_count (saved f pool) < changed_count pool
saved_lt f [] some = absurd cc
saved_lt f (p ∷ pool) some = grind (arith, count_cons, saved_le, (saved_lt f pool))

pub push_saves : (rules : Rules) (cache : Cache) → wants_flush cache ≡ true → changed_count (push_changed rules cache).pool < changed_count cache.pool
push_saves r cache wants = saved_lt (is_pulled (pulled_at_flush r.chances (leaving r cache.queue) (pool_marks cache))) cache.pool (pulled_some r cache wants)

-- Enough pushes are as good as more.

none_changed : (pool : List PoolPage) → changed_count pool ≡ 0 → list_any (λ p. p.changed) pool ≡ false
none_changed [] none = refl
none_changed (p ∷ pool) none = grind (arith, count_cons, (none_changed pool))

flushed_more : (n m : ℕ) (rules : Rules) (cache : Cache) → changed_count cache.pool ≤ n → changed_count cache.pool ≤ m → flushed_by n rules cache ≡ flushed_by m rules cache
flushed_more zero zero r cache a b = refl
flushed_more zero (suc m) r cache a b = sym (ap (λ t. cond t (flushed_by m r (push_changed r cache)) cache) (none_changed cache.pool (omega (arith, a))))
flushed_more (suc n) zero r cache a b = ap (λ t. cond t (flushed_by n r (push_changed r cache)) cache) (none_changed cache.pool (omega (arith, b)))
flushed_more (suc n) (suc m) r cache a b = by (wants_flush cache) refl (λ wants. flushed_more n m r (push_changed r cache)
    (omega (arith, push_saves r cache wants, a)) (omega (arith, push_saves r cache wants, b)))
  where
    by : (t : Bool) → wants_flush cache ≡ t → (wants_flush cache ≡ true → flushed_by n r (push_changed r cache) ≡ flushed_by m r (push_changed r cache))
        → cond t (flushed_by n r (push_changed r cache)) cache ≡ cond t (flushed_by m r (push_changed r cache)) cache
    by true wants rest = rest wants
    by false wants rest = refl

changed_le : (pool : List PoolPage) → changed_count pool ≤ length pool
changed_le [] = omega arith
changed_le (p ∷ pool) = grind (arith, count_cons, (changed_le pool))

long : (rules : Rules) (cache : Cache) → length (push_changed rules cache).pool ≡ length cache.pool
long r cache = length-map cache.pool (saved_page (is_pulled (pulled_at_flush r.chances (leaving r cache.queue) (pool_marks cache))))

no_flush : (n : ℕ) (rules : Rules) (cache : Cache) → wants_flush cache ≡ false → flushed_by n rules cache ≡ cache
no_flush x0 r cache none = grind (arith, common_steps, flushed_by, push_changed)

pub flush_ends : (rules : Rules) (cache : Cache) → wants_flush cache ≡ false → flushed rules cache ≡ cache
flush_ends r cache none = no_flush (length cache.pool) r cache none

pub flush_goes_on : (rules : Rules) (cache : Cache) → wants_flush cache ≡ true → flushed rules cache ≡ flushed rules (push_changed rules cache)
flush_goes_on r cache wants =
    flushed_more (length cache.pool) (suc (length cache.pool)) r cache (changed_le cache.pool) (omega (arith, changed_le cache.pool))
    ∙ ap (λ t. cond t (flushed_by (length cache.pool) r (push_changed r cache)) cache) wants
    ∙ ap (λ n. flushed_by n r (push_changed r cache)) (sym (long r cache))

saved_all : (n : ℕ) (rules : Rules) (cache : Cache) → changed_count cache.pool ≤ n → wants_flush (flushed_by n rules cache) ≡ false
saved_all zero r cache few = none_changed cache.pool (omega (arith, few))
saved_all (suc n) r cache few = by (wants_flush cache) refl (λ wants. saved_all n r (push_changed r cache) (omega (arith, push_saves r cache wants, few)))
  where
    by : (t : Bool) → wants_flush cache ≡ t → (wants_flush cache ≡ true → wants_flush (flushed_by n r (push_changed r cache)) ≡ false)
        → wants_flush (cond t (flushed_by n r (push_changed r cache)) cache) ≡ false
    by true wants rest = rest wants
    by false none rest = none

pub flush_saves_all : (rules : Rules) (cache : Cache) → wants_flush (flushed rules cache) ≡ false
flush_saves_all r cache = saved_all (length cache.pool) r cache (changed_le cache.pool)

staged_more : (n m : ℕ) (rules : Rules) (cache : Cache) → changed_count cache.pool ≤ n → changed_count cache.pool ≤ m → staged_in_flush n rules cache ≡ staged_in_flush m rules cache
staged_more zero zero r cache a b = refl
staged_more zero (suc m) r cache a b =
    sym (ap (λ t. cond t (staged_in_push r cache.queue ++ staged_in_flush m r (push_changed r cache)) []) (none_changed cache.pool (omega (arith, a))))
staged_more (suc n) zero r cache a b =
    ap (λ t. cond t (staged_in_push r cache.queue ++ staged_in_flush n r (push_changed r cache)) []) (none_changed cache.pool (omega (arith, b)))
staged_more (suc n) (suc m) r cache a b = by (wants_flush cache) refl (λ wants. staged_more n m r (push_changed r cache)
    (omega (arith, push_saves r cache wants, a)) (omega (arith, push_saves r cache wants, b)))
  where
    by : (t : Bool) → wants_flush cache ≡ t → (wants_flush cache ≡ true → staged_in_flush n r (push_changed r cache) ≡ staged_in_flush m r (push_changed r cache))
        → cond t (staged_in_push r cache.queue ++ staged_in_flush n r (push_changed r cache)) [] ≡ cond t (staged_in_push r cache.queue ++ staged_in_flush m r (push_changed r cache)) []
    by true wants rest = ap (λ l. staged_in_push r cache.queue ++ l) (rest wants)
    by false wants rest = refl

pub staged_goes_on : (rules : Rules) (cache : Cache) → wants_flush cache ≡ true
    → staged_in_flush (length cache.pool) rules cache ≡ staged_in_push rules cache.queue ++ staged_in_flush (length (push_changed rules cache).pool) rules (push_changed rules cache)
staged_goes_on r cache wants =
    staged_more (length cache.pool) (suc (length cache.pool)) r cache (changed_le cache.pool) (omega (arith, changed_le cache.pool))
    ∙ ap (λ t. cond t (staged_in_push r cache.queue ++ staged_in_flush (length cache.pool) r (push_changed r cache)) []) wants
    ∙ ap (λ n. staged_in_push r cache.queue ++ staged_in_flush n r (push_changed r cache)) (sym (long r cache))

no_staged : (n : ℕ) (rules : Rules) (cache : Cache) → wants_flush cache ≡ false → staged_in_flush n rules cache ≡ []
no_staged x0 r cache none = grind (arith, common_steps, staged_in_push, staged_in_flush, push_changed)

pub staged_ends : (rules : Rules) (cache : Cache) → wants_flush cache ≡ false → staged_in_flush (length cache.pool) rules cache ≡ []
staged_ends r cache none = no_staged (length cache.pool) r cache none
