-- The pool by the entries of the cache that holds it.
use Rattle.policy_sim.proofs.Names.{◌≡◌, ◌≢◌, ℕ, zero, suc, ◌-◌, ◌≤◌, ◌==◌, ◌&&◌, ◌||◌, nat_eq, Bool, true, false, not, cond, List, [], ◌∷◌, ◌++◌, length, take, is_some, Option, Some, None, arith, refl, sym, ap, subst, ◌∙◌, ne_eqb, eqb-false, eqb-true, eq-eqb, map-append, reverse-append, filter-append, none-some, AllByRecursion, keys_of, lookup, lookup_entry, remove_entry, All, unwrap_or, LruCache, put_entries, last_entry, kept_of, none_kept, entry_page, pages_in, is_movable, movable, Kept, AreApart, names, PoolPage, holds, is_changed, without, pool_mark, Queue, PoolMark, eq_turned, or_false, or_assoc}
use Rattle.std.proofs.Common.{take_all}
use Rattle.std.specs.List.{IsDistinct}
use Rattle.std.specs.Option.{option_map_or}
use Rattle.std.proofs.lemmas.List.Kept.{AllPairs-cons}
use Rattle.lru.proofs.CallerLemmas.{Contains-lookup_entry}
use Rattle.std.proofs.lemmas.Grind.{common_steps}

abbrev pub Entries : Type 0
Entries = List (ℕ × Kept)

-- Whether a page is there, and is changed.

pub held : (page : ℕ) (es : Entries) → is_some (lookup (nat_eq page) es) ≡ holds (pages_in es) page
held page [] = refl
held page (e ∷ es) = grind (arith, common_steps, eq_turned, (held page es))

none_changed : (page : ℕ) (es : Entries) → AllByRecursion (λ y. nat_eq page y ≡ false) (keys_of es) → is_changed (pages_in es) page ≡ false
none_changed page [] all = refl
none_changed page (e ∷ es) all = ap (λ b. (b && e.1.changed) || is_changed (pages_in es) page) (sym (eq_turned page e.0) ∙ all.0) ∙ none_changed page es all.1

pub marked : (page : ℕ) (es : Entries) → IsDistinct nat_eq (keys_of es) → (kept_of page es).changed ≡ is_changed (pages_in es) page
unfolding IsDistinct
marked page [] distinct = refl
marked page (e ∷ es) distinct = by (page == e.0) refl (marked page es distinct.1)
    ∙ ap (λ b. (b && e.1.changed) || is_changed (pages_in es) page) (eq_turned page e.0)
  where
    by : (b : Bool) → (page == e.0) ≡ b → (kept_of page es).changed ≡ is_changed (pages_in es) page
        → (unwrap_or (cond b (Some e.1) (lookup (nat_eq page) es)) none_kept).changed ≡ ((b && e.1.changed) || is_changed (pages_in es) page)
    by true is rest =
        let same : page ≡ e.0 = eqb-true page e.0 is in
        let none : is_changed (pages_in es) page ≡ false =
        none_changed page es (subst (λ n. AllByRecursion (λ y. nat_eq n y ≡ false) (keys_of es)) (sym same) distinct.0) in
        sym (ap (λ b. e.1.changed || b) none ∙ or_false e.1.changed)
    by false is rest = rest

-- No two pages are the same.

others : (page : ℕ) (es : Entries) → AllByRecursion (λ y. nat_eq page y ≡ false) (keys_of es) → All (λ (p : PoolPage). page ≢ p.page) (pages_in es)
others page [] all i d less = absurd (omega (arith, less))
others page (e ∷ es) all zero d less = eqb-false page e.0 all.0
others page (e ∷ es) all (suc i) d less = others page es all.1 i d (omega (arith, less))

pub apart : (es : Entries) → IsDistinct nat_eq (keys_of es) → AreApart (pages_in es)
unfolding IsDistinct
apart [] distinct = λ i j d less within. absurd (omega (arith, within))
apart (e ∷ es) distinct = AllPairs-cons (λ (a b : PoolPage). a.page ≢ b.page) (entry_page e) (pages_in es) (others e.0 es distinct.0) (apart es distinct.1)

other : (k n : ℕ) → nat_eq k n ≡ false → (n == k) ≡ false
other k n not_it = ne_eqb n k (λ same. eqb-false k n not_it (sym same))

-- a page that isn't there leaves all where they are
pub stay : (k : ℕ) (es : Entries) → AllByRecursion (λ y. nat_eq k y ≡ false) (keys_of es) → without (λ n. n == k) (pages_in es) ≡ pages_in es
stay k [] all = refl
stay k (e ∷ es) all = grind (arith, common_steps, other, (stay k es all.1))

-- to take the entry of a page out is to take out all entries of the page
pub removed : (k : ℕ) (es : Entries) → IsDistinct nat_eq (keys_of es) → pages_in (remove_entry (nat_eq k) es) ≡ without (λ n. n == k) (pages_in es)
unfolding IsDistinct
removed k [] distinct = refl
removed k (e ∷ es) distinct = by (nat_eq k e.0) refl (removed k es distinct.1)
  where
    by : (b : Bool) → nat_eq k e.0 ≡ b → pages_in (remove_entry (nat_eq k) es) ≡ without (λ n. n == k) (pages_in es)
        → pages_in (cond b es (e ∷ remove_entry (nat_eq k) es))
        ≡ cond (not (e.0 == k)) (entry_page e ∷ without (λ n. n == k) (pages_in es)) (without (λ n. n == k) (pages_in es))
    by true is rest =
        let same : k ≡ e.0 = eqb-true k e.0 is in
        sym (ap (λ b. cond (not b) (entry_page e ∷ without (λ n. n == k) (pages_in es)) (without (λ n. n == k) (pages_in es))) (eq-eqb e.0 k (sym same))
        ∙ stay k es (subst (λ n. AllByRecursion (λ y. nat_eq n y ≡ false) (keys_of es)) (sym same) distinct.0))
    by false is rest = ap (λ l. entry_page e ∷ l) rest
        ∙ sym (ap (λ b. cond (not b) (entry_page e ∷ without (λ n. n == k) (pages_in es)) (without (λ n. n == k) (pages_in es))) (other k e.0 is))

pub absent : (k : ℕ) (es : Entries) → lookup_entry (nat_eq k) es ≡ None → AllByRecursion (λ y. nat_eq k y ≡ false) (keys_of es)
absent k [] none = tt
absent k (e ∷ es) none = grind (arith, common_steps, (absent k es))

pub absent_here : (k : ℕ) (es : Entries) → lookup (nat_eq k) es ≡ None → AllByRecursion (λ y. nat_eq k y ≡ false) (keys_of es)
absent_here k [] none = tt
absent_here k (e ∷ es) none = grind (arith, common_steps, (absent_here k es))

-- After a `put` the page is in front, and nowhere else; the cache has room

remove_absent : (k : ℕ) (es : Entries) → AllByRecursion (λ y. nat_eq k y ≡ false) (keys_of es) → remove_entry (nat_eq k) es ≡ es
remove_absent k [] all = refl
remove_absent k (e ∷ es) all = ap (λ b. cond b es (e ∷ remove_entry (nat_eq k) es)) all.0 ∙ ap (λ (l : Entries). e ∷ l) (remove_absent k es all.1)

pub put_is : (c : LruCache ℕ Kept) (k : ℕ) (v : Kept) → length c.entries ≤ c.cap - 1 → put_entries nat_eq c k v ≡ (k, v) ∷ remove_entry (nat_eq k) c.entries
put_is c k v room = by (lookup_entry (nat_eq k) c.entries) refl
  where
    by : (o : Option (ℕ × Kept)) → lookup_entry (nat_eq k) c.entries ≡ o
        → option_map_or (λ e. (e.0, v) ∷ remove_entry (nat_eq k) c.entries) o ((k, v) ∷ take (c.cap - 1) c.entries) ≡ (k, v) ∷ remove_entry (nat_eq k) c.entries
    by None is =
        ap (λ (l : Entries). (k, v) ∷ l) (take_all (c.cap - 1) c.entries room)
        ∙ ap (λ (l : Entries). (k, v) ∷ l) (sym (remove_absent k c.entries (absent k c.entries is)))
    by (Some e) is =
        let found = Contains-lookup_entry (nat_eq k) c.entries e is in
        ap (λ (n : ℕ). (n, v) ∷ remove_entry (nat_eq k) c.entries) (sym (eqb-true k e.0 found.1))

-- The last entry.

pub split_last : (es : Entries) (e : ℕ × Kept) → last_entry es ≡ Some e → es ≡ take (length es - 1) es ++ e ∷ []
split_last [] e is = absurd (none-some e is)
split_last (f ∷ []) e is = let same : f ≡ e = cc in ap (λ (x : ℕ × Kept). x ∷ []) same
split_last (f ∷ g ∷ es) e is = grind (arith, common_steps, (split_last (g ∷ es) e))

pub last_page : (es : Entries) (e : ℕ × Kept) → last_entry es ≡ Some e → pages_in es ≡ pages_in (take (length es - 1) es) ++ entry_page e ∷ []
last_page es e is = ap pages_in (split_last es e is) ∙ map-append entry_page (take (length es - 1) es) (e ∷ [])

-- Pages taken out one by one.

pub without_none : (pool : List PoolPage) → pool ≡ without (names []) pool
without_none [] = refl
without_none (p ∷ pool) = ap (λ (l : List PoolPage). p ∷ l) (without_none pool)

pub without_more : (pool : List PoolPage) (gone : List ℕ) (page : ℕ)
    → without (λ n. n == page) (without (names gone) pool) ≡ without (names (gone ++ page ∷ [])) pool
without_more [] gone page = refl
without_more (p ∷ pool) gone page = grind (arith, common_steps, eq_turned, or_false, or_assoc, (without_more pool gone page))

-- What a push may take, from the cold end upward.

abbrev pub if_movable : PoolMark → List PoolMark
if_movable mark = cond (is_movable mark) (mark ∷ []) []

pub movable_more : (queue : Queue) (p : PoolPage) (pool : List PoolPage) → movable queue (p ∷ pool) ≡ movable queue pool ++ if_movable (pool_mark queue p)
movable_more queue p pool = grind (arith, common_steps, reverse-append, map-append, filter-append)
