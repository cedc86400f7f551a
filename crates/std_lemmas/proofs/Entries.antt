-- Entries by rising numbers, as std's BTreeMap has them: those below a number, one taken off, one put behind or before others.
use Rattle.std.proofs.Common.{Ordering, Less, Equal, Greater, ◌≡◌, ℕ, ◌<◌, ◌≤◌, ◌==◌, Bool, true, false, cond, List, [], ◌∷◌, ◌++◌, refl, sym, ap, ◌∙◌, arith}
use Rattle.std.specs.List.{AllByRecursion}
use Rattle.std.specs.Map.{remove_entry}
use Rattle.std.specs.Ordering.{nat_cmp, match_ordering}
use Rattle.std.specs.Cmp.{nat_cmp_is, unsigned_tied}
use Rattle.std.specs.BTreeMap.{insert_entry, is_at}
use Rattle.std.proofs.lemmas.Bool.{ne_eqb, eq-eqb}

-- Numbers, compared.

at_is : (s t : ℕ) → is_at (nat_cmp s) t ≡ (s == t)
at_is s t = unsigned_tied s t

pub at_same : (s : ℕ) → is_at (nat_cmp s) s ≡ true
at_same s = at_is s s ∙ eq-eqb s s refl

at_greater : (s t : ℕ) → t < s → is_at (nat_cmp s) t ≡ false
at_greater s t less = at_is s t ∙ ne_eqb s t (λ same. omega (arith, same, less))

at_less : (s t : ℕ) → s < t → is_at (nat_cmp s) t ≡ false
at_less s t less = at_is s t ∙ ne_eqb s t (λ same. omega (arith, same, less))

-- all numbers of a list are below one
abbrev pub AreBelow : {V : Type 0} → ℕ → List (ℕ × V) → Type 0
AreBelow {V} bound ws = AllByRecursion (λ (w : ℕ × V). w.0 < bound) ws

pub below_weaker : {V : Type 0} (a b : ℕ) (ws : List (ℕ × V)) → a ≤ b → AreBelow a ws → AreBelow b ws
below_weaker a b [] le all = tt
below_weaker a b (w ∷ ws) le all = let less = all.0 in (omega (arith, le, less), below_weaker a b ws le all.1)

pub below_append : {V : Type 0} (bound : ℕ) (xs ys : List (ℕ × V)) → AreBelow bound xs → AreBelow bound ys → AreBelow bound (xs ++ ys)
below_append bound [] ys x y = y
below_append bound (w ∷ xs) ys x y = (x.0, below_append bound xs ys x.1 y)

-- Taking one off: it stands behind those below it, and one above it stays.

pub skipped : {V : Type 0} (s : ℕ) (xs ys : List (ℕ × V)) → AreBelow s xs → remove_entry (is_at (nat_cmp s)) (xs ++ ys) ≡ xs ++ remove_entry (is_at (nat_cmp s)) ys
skipped s [] ys below = refl
skipped {V} s (x ∷ xs) ys below =
    ap (λ b. cond b (xs ++ ys) (x ∷ remove_entry (is_at (nat_cmp s)) (xs ++ ys))) (at_greater s x.0 below.0)
    ∙ ap (λ (l : List (ℕ × V)). x ∷ l) (skipped s xs ys below.1)

pub kept_behind : {V : Type 0} (s : ℕ) (xs : List (ℕ × V)) (w : ℕ × V) → s < w.0 → remove_entry (is_at (nat_cmp s)) (xs ++ w ∷ []) ≡ remove_entry (is_at (nat_cmp s)) xs ++ w ∷ []
kept_behind s [] w less = ap (λ b. cond b [] (w ∷ [])) (at_less s w.0 less)
kept_behind {V} s (x ∷ xs) w less = by (is_at (nat_cmp s) x.0) (kept_behind s xs w less)
  where
    by : (b : Bool) → remove_entry (is_at (nat_cmp s)) (xs ++ w ∷ []) ≡ remove_entry (is_at (nat_cmp s)) xs ++ w ∷ []
        → cond b (xs ++ w ∷ []) (x ∷ remove_entry (is_at (nat_cmp s)) (xs ++ w ∷ [])) ≡ cond b xs (x ∷ remove_entry (is_at (nat_cmp s)) xs) ++ w ∷ []
    by true rest = refl
    by false rest = ap (λ (l : List (ℕ × V)). x ∷ l) rest

-- Putting one in: behind those below it, and before one above it.

pub insert_last : {V : Type 0} (s : ℕ) (v : V) (xs : List (ℕ × V)) → AreBelow s xs → insert_entry nat_cmp xs s v ≡ xs ++ (s, v) ∷ []
insert_last s v [] below = refl
insert_last {V} s v (x ∷ xs) below =
    ap (λ (o : Ordering). match_ordering o ((s, v) ∷ x ∷ xs) ((x.0, v) ∷ xs) (x ∷ insert_entry nat_cmp xs s v)) (sym (nat_cmp_is s x.0 Greater below.0))
    ∙ ap (λ (l : List (ℕ × V)). x ∷ l) (insert_last s v xs below.1)

pub insert_before : {V : Type 0} (s : ℕ) (v : V) (xs : List (ℕ × V)) (w : ℕ × V) → s < w.0 → insert_entry nat_cmp (xs ++ w ∷ []) s v ≡ insert_entry nat_cmp xs s v ++ w ∷ []
insert_before s v [] w less = ap (λ (o : Ordering). match_ordering o ((s, v) ∷ w ∷ []) ((w.0, v) ∷ []) (w ∷ (s, v) ∷ [])) (sym (nat_cmp_is s w.0 Less less))
insert_before {V} s v (x ∷ xs) w less = by (nat_cmp s x.0) (insert_before s v xs w less)
  where
    by : (o : Ordering) → insert_entry nat_cmp (xs ++ w ∷ []) s v ≡ insert_entry nat_cmp xs s v ++ w ∷ []
        → match_ordering o ((s, v) ∷ x ∷ xs ++ w ∷ []) ((x.0, v) ∷ xs ++ w ∷ []) (x ∷ insert_entry nat_cmp (xs ++ w ∷ []) s v)
        ≡ match_ordering o ((s, v) ∷ x ∷ xs) ((x.0, v) ∷ xs) (x ∷ insert_entry nat_cmp xs s v) ++ w ∷ []
    by Less rest = refl
    by Equal rest = refl
    by Greater rest = ap (λ (l : List (ℕ × V)). x ∷ l) rest
