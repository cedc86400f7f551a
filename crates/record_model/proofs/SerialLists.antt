-- Lists, as serial order needs them.
use Rattle.record_model.proofs.Citing.{◌≡◌, ℕ, zero, suc, ◌+◌, ◌<◌, ◌≤◌, Bool, true, false, cond, List, [], ◌∷◌, length, Option, Some, None, refl, ap, ◌∙◌, arith, inl, inr, subst, cases_Bool, eqb-true, eqb-false, nat_tests, range_with_len, AllByRecursion, cons_option, ◌==◌, filter_map, find, slice_index_or, slice_set, replicate, map}

-- Tests.

pub not_both : {A : Type 0} (b : Bool) → b ≡ true → b ≡ false → A
not_both true h k = absurd cc
not_both false h k = absurd cc

pub same_is : (m : ℕ) → (m == m) ≡ true
same_is m = grind (arith, nat_tests)

-- Places.

pub get_set_same : {A : Type 0} (xs : List A) (i : ℕ) (x d : A) → i < length xs → slice_index_or (slice_set xs i x) i d ≡ x
get_set_same (y ∷ xs) (suc i) x d h = get_set_same xs i x d (omega arith)
get_set_same _ _ x d h = grind arith

pub get_set_other : {A : Type 0} (xs : List A) (i j : ℕ) (x d : A) → (i ≡ j → ⊥) → slice_index_or (slice_set xs i x) j d ≡ slice_index_or xs j d
get_set_other (y ∷ xs) zero zero x d h = absurd (h refl)
get_set_other (y ∷ xs) (suc i) (suc j) x d h = get_set_other xs i j x d (λ e. h (ap suc e))
get_set_other _ _ _ x d h = refl

pub set_set : {A : Type 0} (xs : List A) (i : ℕ) (x y : A) → slice_set (slice_set xs i x) i y ≡ slice_set xs i y
set_set (z ∷ xs) (suc i) x y = ap (λ (l : List _). z ∷ l) (set_set xs i x y)
set_set _ _ x y = refl

abbrev pub no_values : (A : Type 0) → ℕ → List (Option A)
no_values A k = replicate k None

pub get_none : (A : Type 0) (k n : ℕ) → slice_index_or (no_values A k) n None ≡ None
get_none A (suc k) (suc n) = get_none A k n
get_none A _ _ = refl

-- an option list with one value in it
pub only_one : (A : Type 0) (k n : ℕ) (x : A) → n < k → filter_map (λ (o : Option A). o) (slice_set (no_values A k) n (Some x)) ≡ x ∷ []
only_one A zero n x h = absurd (omega arith)
only_one A (suc k) zero x h = none_left k
  where
    none_left : (k : ℕ) → filter_map (λ (o : Option A). o) (Some x ∷ no_values A k) ≡ x ∷ []
    none_left zero = refl
    none_left (suc k) = none_left k
only_one A (suc k) (suc n) x h = only_one A k n x (omega arith)

-- Ranges, and what holds of each of a list.

first_fails : (test : ℕ → Bool) (a : ℕ) (rest : Option ℕ) (b : Bool) → test a ≡ b → cond b (Some a) rest ≡ None → (test a ≡ false) × (rest ≡ None)
first_fails test a rest true e h = absurd cc
first_fails test a rest false e h = (e, h)

pub none_passes : (test : ℕ → Bool) (a n : ℕ) → find test (range_with_len a n) ≡ None → (k : ℕ) → a ≤ k → k < a + n → test k ≡ false
none_passes test a zero h k above below = absurd (omega arith)
none_passes test a (suc n) h k above below =
    let both = first_fails test a _ (test a) refl h in
    elim (cases_Bool (a == k)) [ inl s ↦ subst (λ (j : ℕ). test j ≡ false) (eqb-true a k s) both.0 | inr s ↦ none_passes test (a + 1) n both.1 k (after (eqb-false a k s)) (omega arith) ]
  where
    after : (a ≡ k → ⊥) → a + 1 ≤ k
    after d = omega (arith, d)

pub passes_none : {A : Type 0} (test : A → Bool) (xs : List A) → ((x : A) → test x ≡ false) → find test xs ≡ None
passes_none test [] h = refl
passes_none test (x ∷ xs) h = rw (h x) (passes_none test xs h)

pub each_of_map : {A B : Type 0} (f : A → B) (P : B → Type 0) (xs : List A) → AllByRecursion P (map f xs) → AllByRecursion (λ x. P (f x)) xs
each_of_map f P [] h = tt
each_of_map f P (x ∷ xs) h = (h.0, each_of_map f P xs h.1)

pub map_of_each : {A B : Type 0} (f : A → B) (P : B → Type 0) (xs : List A) → AllByRecursion (λ x. P (f x)) xs → AllByRecursion P (map f xs)
map_of_each f P [] h = tt
map_of_each f P (x ∷ xs) h = (h.0, map_of_each f P xs h.1)

pub filter_map_same : {A B : Type 0} (f g : A → Option B) (xs : List A) → AllByRecursion (λ x. f x ≡ g x) xs → filter_map f xs ≡ filter_map g xs
filter_map_same f g [] h = refl
filter_map_same f g (x ∷ xs) h = ap (λ (o : Option _). cons_option o (filter_map f xs)) h.0 ∙ ap (λ (l : List _). cons_option (g x) l) (filter_map_same f g xs h.1)
