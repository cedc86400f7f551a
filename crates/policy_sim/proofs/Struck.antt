-- The list of the pages that a push may take, as pages come and go.
use Rattle.policy_sim.proofs.Names.{◌≡◌, ℕ, ◌<◌, ◌≤◌, ◌==◌, ◌&&◌, ◌||◌, nat_eq, Bool, true, false, not, List, [], ◌∷◌, ◌++◌, map, Some, arith, refl, sym, ap, subst, ◌∙◌, append-nil, append_assoc, ne_eqb, eqb-true, eqb-false, eq-eqb, map-append, insert_entry, AllByRecursion, keys_of, lookup, remove_entry, set_value, nat_cmp, AreStamped, IsListedBy, but, enlisted, if_listed, kept_of, listed_of, none_kept, struck, page_of, pages_in, movable, Entry, Kept, holds, pool_mark, Queue, has_frame, PoolMark, and_false, and_true, or_true}
use Rattle.std.specs.List.{IsDistinct}
use Rattle.std_lemmas.proofs.Entries.{at_same, AreBelow, below_append, below_weaker, insert_before, insert_last, kept_behind, skipped}
use Rattle.policy_sim.proofs.Pooled.{Entries, movable_more}
use Rattle.std.proofs.lemmas.Grind.{common_steps}

abbrev pub Listed : Type 0
Listed = List (ℕ × Entry)

pub listed_below : (bound : ℕ) (es : Entries) → AreStamped bound es → AreBelow bound (listed_of es)
listed_below bound [] stamped = tt
listed_below bound (e ∷ es) stamped = grind (arith, common_steps, below_append, below_weaker, (listed_below e.1.stamp es stamped.1))

pub stamped_weaker : (a b : ℕ) (es : Entries) → a ≤ b → AreStamped a es → AreStamped b es
stamped_weaker a b [] le stamped = tt
stamped_weaker a b (e ∷ es) le stamped = let less = stamped.0 in (omega (arith, le, less), stamped.1)

pub stamped_removed : (bound k : ℕ) (es : Entries) → AreStamped bound es → AreStamped bound (remove_entry (nat_eq k) es)
stamped_removed bound k [] stamped = tt
stamped_removed bound k (e ∷ es) stamped = grind (arith, common_steps, stamped_weaker, (stamped_removed e.1.stamp k es stamped.1))

-- what is kept of a listed page is older than the next touch
kept_below : (bound k : ℕ) (es : Entries) → AreStamped bound es → (kept_of k es).listed ≡ true → (kept_of k es).stamp < bound
kept_below bound k [] stamped listed = absurd cc
kept_below bound k (e ∷ es) stamped listed = grind (arith, common_steps, (kept_below e.1.stamp k es stamped.1))

-- Taking off the list.

struck_here : (e : ℕ × Kept) (xs : Listed) → AreBelow e.1.stamp xs → struck e.1 (xs ++ if_listed e) ≡ xs
struck_here e xs below = grind (arith, common_steps, skipped, at_same, append-nil)

struck_later : (kept : Kept) (e : ℕ × Kept) (xs : Listed) → (kept.listed ≡ true → kept.stamp < e.1.stamp) → struck kept (xs ++ if_listed e) ≡ struck kept xs ++ if_listed e
struck_later kept e xs less = grind (arith, common_steps, kept_behind, append-nil)

pub struck_of : (bound k : ℕ) (es : Entries) → AreStamped bound es → struck (kept_of k es) (listed_of es) ≡ listed_of (remove_entry (nat_eq k) es)
struck_of bound k [] stamped = refl
struck_of bound k (e ∷ es) stamped = grind (arith, common_steps, struck_here, listed_below, struck_later, kept_below, (struck_of e.1.stamp k es stamped.1))

-- the coldest page is the first one
coldest_first : (front : Entries) (e : ℕ × Kept) → listed_of (front ++ e ∷ []) ≡ if_listed e ++ listed_of front
coldest_first [] e = sym (append-nil (if_listed e))
coldest_first (f ∷ front) e = ap (λ (l : Listed). l ++ if_listed f) (coldest_first front e) ∙ append_assoc (if_listed e) (listed_of front) (if_listed f)

pub struck_coldest : (front : Entries) (e : ℕ × Kept) → struck e.1 (listed_of (front ++ e ∷ [])) ≡ listed_of front
struck_coldest front e = grind (arith, common_steps, coldest_first, at_same)

pub stamped_front : (bound : ℕ) (front : Entries) (e : ℕ × Kept) → AreStamped bound (front ++ e ∷ []) → AreStamped bound front
stamped_front bound [] e stamped = tt
stamped_front bound (f ∷ front) e stamped = (stamped.0, stamped_front f.1.stamp front e stamped.1)

pub listed_front : (framed : ℕ → Bool) (front : Entries) (e : ℕ × Kept) → IsListedBy framed (front ++ e ∷ []) → IsListedBy framed front
listed_front framed [] e listed = tt
listed_front framed (f ∷ front) e listed = (listed.0, listed_front framed front e listed.1)

pub gone_front : (front : Entries) (e : ℕ × Kept) → IsDistinct nat_eq (keys_of (front ++ e ∷ [])) → holds (pages_in front) e.0 ≡ false
unfolding IsDistinct
gone_front [] e distinct = refl
gone_front (f ∷ front) e distinct = ap (λ b. b || holds (pages_in front) e.0) (last front distinct.0) ∙ gone_front front e distinct.1
  where
    last : (front : Entries) → AllByRecursion (λ y. nat_eq f.0 y ≡ false) (keys_of (front ++ e ∷ [])) → (f.0 == e.0) ≡ false
    last [] all = all.0
    last (g ∷ front) all = last front all.1

-- Putting on the list.

-- a page that comes to the front
pub enlisted_front : (k : ℕ) (kept : Kept) (es : Entries) → AreStamped kept.stamp es → enlisted k kept (listed_of es) ≡ listed_of ((k, kept) ∷ es)
enlisted_front k kept es stamped = grind (arith, common_steps, insert_last, listed_below, append-nil)

-- A page that is listed where it stands.

abbrev pub now_listed : Kept → Kept
now_listed kept = record { changed = kept.changed; listed = true; stamp = kept.stamp }

found_below : (bound k : ℕ) (kept : Kept) (es : Entries) → AreStamped bound es → lookup (nat_eq k) es ≡ Some kept → kept.stamp < bound
found_below bound k kept [] stamped is = absurd cc
found_below bound k kept (e ∷ es) stamped is = grind (arith, common_steps, (found_below e.1.stamp k kept es stamped.1))

behind : (e : ℕ × Kept) (kept : Kept) (entry : Entry) (xs ys : Listed) → kept.stamp < e.1.stamp → insert_entry nat_cmp xs kept.stamp entry ≡ ys
    → insert_entry nat_cmp (xs ++ if_listed e) kept.stamp entry ≡ ys ++ if_listed e
behind e kept entry xs ys less is = grind (arith, common_steps, insert_before, append-nil)

pub listed_here : (bound k : ℕ) (kept : Kept) (es : Entries) → AreStamped bound es → lookup (nat_eq k) es ≡ Some kept → kept.listed ≡ false
    → insert_entry nat_cmp (listed_of es) kept.stamp (record { page = k; changed = kept.changed }) ≡ listed_of (set_value (nat_eq k) es (now_listed kept))
listed_here bound k kept [] stamped is off = absurd cc
listed_here bound k kept (e ∷ es) stamped is off = grind (arith, common_steps, listed_below, append-nil, insert_last, eqb-true, behind, found_below, (listed_here e.1.stamp k kept es stamped.1))

pub set_pages : (k : ℕ) (kept : Kept) (es : Entries) → lookup (nat_eq k) es ≡ Some kept → pages_in (set_value (nat_eq k) es (now_listed kept)) ≡ pages_in es
set_pages k kept [] is = refl
set_pages k kept (e ∷ es) is = grind (arith, common_steps, (set_pages k kept es))

pub set_stamped : (bound k : ℕ) (kept : Kept) (es : Entries) → AreStamped bound es → lookup (nat_eq k) es ≡ Some kept → AreStamped bound (set_value (nat_eq k) es (now_listed kept))
set_stamped bound k kept [] stamped is = tt
set_stamped bound k kept (e ∷ es) stamped is = grind (arith, common_steps, (set_stamped e.1.stamp k kept es stamped.1))

-- Which pages are listed.

module _ (k : ℕ) (framed : ℕ → Bool) where
  but_here : (changed : Bool) (n : ℕ) → nat_eq k n ≡ true → true ≡ (changed || not (but k framed n))
  but_here changed n is = grind (arith, common_steps, eqb-true, eq-eqb, and_false, or_true)

  but_other : (listed changed : Bool) (n : ℕ) → nat_eq k n ≡ false → listed ≡ (changed || not (framed n)) → listed ≡ (changed || not (but k framed n))
  but_other listed changed n is on = grind (arith, common_steps, ne_eqb, eqb-false, and_true)

  pub but_absent : (es : Entries) → AllByRecursion (λ y. nat_eq k y ≡ false) (keys_of es) → IsListedBy framed es → IsListedBy (but k framed) es
  but_absent [] none listed = tt
  but_absent (e ∷ es) none listed = (but_other e.1.listed e.1.changed e.0 none.0 listed.0, but_absent es none.1 listed.1)

  none_behind : (n : ℕ) (es : Entries) → nat_eq k n ≡ true → AllByRecursion (λ y. nat_eq n y ≡ false) (keys_of es) → AllByRecursion (λ y. nat_eq k y ≡ false) (keys_of es)
  none_behind n es is all = subst (λ (m : ℕ). AllByRecursion (λ y. nat_eq m y ≡ false) (keys_of es)) (sym (eqb-true k n is)) all

  -- it is listed already
  pub but_listed : (kept : Kept) (es : Entries) → IsDistinct nat_eq (keys_of es) → lookup (nat_eq k) es ≡ Some kept → kept.listed ≡ true → IsListedBy framed es → IsListedBy (but k framed) es
  unfolding IsDistinct
  but_listed kept [] distinct is on listed = tt
  but_listed kept (e ∷ es) distinct is on listed = grind (arith, common_steps, but_here, but_absent, none_behind, but_other, (but_listed kept es distinct.1))

  -- it becomes listed
  pub but_set : (kept : Kept) (es : Entries) → IsDistinct nat_eq (keys_of es) → lookup (nat_eq k) es ≡ Some kept → IsListedBy framed es → IsListedBy (but k framed) (set_value (nat_eq k) es (now_listed kept))
  unfolding IsDistinct
  but_set kept [] distinct is listed = tt
  but_set kept (e ∷ es) distinct is listed = grind (arith, common_steps, but_here, but_absent, none_behind, but_other, (but_set kept es distinct.1))

pub listed_removed : (framed : ℕ → Bool) (k : ℕ) (es : Entries) → IsListedBy framed es → IsListedBy framed (remove_entry (nat_eq k) es)
listed_removed framed k [] listed = tt
listed_removed framed k (e ∷ es) listed = grind (arith, common_steps, (listed_removed framed k es listed.1))

-- by another test that says the same of the pages that are there
pub listed_by : (f g : ℕ → Bool) (es : Entries) → ((n : ℕ) → holds (pages_in es) n ≡ true → f n ≡ g n) → IsListedBy f es → IsListedBy g es
listed_by f g [] same listed = tt
listed_by f g (e ∷ es) same listed = grind (arith, common_steps, eq-eqb, or_true, (listed_by f g es))

-- a page that is touched
kept_listed : (framed : ℕ → Bool) (k : ℕ) (es : Entries) → IsListedBy framed es → holds (pages_in es) k ≡ true → (kept_of k es).listed ≡ ((kept_of k es).changed || not (framed k))
kept_listed framed k [] listed held = absurd cc
kept_listed framed k (e ∷ es) listed held = grind (arith, common_steps, eqb-true, ne_eqb, eqb-false, (kept_listed framed k es listed.1))

kept_none : (k : ℕ) (es : Entries) → holds (pages_in es) k ≡ false → kept_of k es ≡ none_kept
kept_none k [] held = refl
kept_none k (e ∷ es) held = grind (arith, common_steps, eq-eqb, eqb-true, ne_eqb, eqb-false, (kept_none k es))

pub touched_listed : (framed : ℕ → Bool) (k : ℕ) (es : Entries) (change unframed : Bool) → IsListedBy framed es → unframed ≡ (not (holds (pages_in es) k) && not (framed k))
    → ((kept_of k es).listed || (change || unframed)) ≡ (((kept_of k es).changed || change) || not (framed k))
touched_listed framed k es change unframed listed is = grind (arith, common_steps, kept_listed, kept_none)

-- What a push may take is the list, page by page.

abbrev pub mark_in : Queue → ℕ × Entry → PoolMark
mark_in queue w = pool_mark queue (page_of w.1)

pub listed_movable : (queue : Queue) (es : Entries) → IsListedBy (has_frame queue) es → map (mark_in queue) (listed_of es) ≡ movable queue (pages_in es)
listed_movable queue [] listed = refl
listed_movable queue (e ∷ es) listed = grind (arith, common_steps, map-append, movable_more, (listed_movable queue es listed.1))
