-- Lists under `map`, `filter` and tests, and fronts of lists.
use Rattle.std.proofs.Common.{◌≡◌, ℕ, zero, suc, ◌+◌, ◌-◌, ◌<◌, ◌≤◌, Bool, true, false, cond, ◌||◌, List, [], ◌∷◌, ◌++◌, map, filter, reverse, length, get_or, take, drop, slice_get, Some, refl, sym, ap, ◌∙◌, length-append, length-take-le, take_at, arith}
use mathlib.Core.List.{reverse_aux}
use Rattle.std.specs.List.{AllByRecursion, list_any, range_with_len}
use Rattle.std.proofs.lemmas.List.{reverse-append, take_more, drop_more}
use Rattle.std.proofs.lemmas.List.Folds.{list_any-append}
use Rattle.std.proofs.lemmas.Bool.{or_left, or_right}
use Rattle.std.proofs.lemmas.Option.{slice_get_within, get_or_from_slice_get}
use Rattle.std_lemmas.proofs.Bools.{or_false}

-- Maps and filters.

pub map_same : {X Y : Type 0} (f g : X → Y) (xs : List X) → AllByRecursion (λ x. f x ≡ g x) xs → map f xs ≡ map g xs
map_same f g [] h = refl
map_same f g (x ∷ xs) h = ap (λ y. y ∷ map f xs) h.0 ∙ ap (λ l. g x ∷ l) (map_same f g xs h.1)

pub map_map : {X Y Z : Type 0} (g : Y → Z) (f : X → Y) (xs : List X) → map g (map f xs) ≡ map (λ x. g (f x)) xs
map_map g f [] = refl
map_map g f (x ∷ xs) = ap (λ l. g (f x) ∷ l) (map_map g f xs)

pub map_reverse_aux : {X Y : Type 0} (f : X → Y) (xs ys : List X) → reverse_aux (map f xs) (map f ys) ≡ map f (reverse_aux xs ys)
map_reverse_aux f [] ys = refl
map_reverse_aux f (x ∷ xs) ys = map_reverse_aux f xs (x ∷ ys)

pub filter_all : {X : Type 0} (test : X → Bool) (xs : List X) → AllByRecursion (λ x. test x ≡ true) xs → filter test xs ≡ xs
filter_all test [] h = refl
filter_all {X} test (x ∷ xs) h = ap (λ b. cond b (x ∷ filter test xs) (filter test xs)) h.0 ∙ ap (λ (l : List X). x ∷ l) (filter_all test xs h.1)

-- Whether any passes a test.

pub any_map : {X Y : Type 0} (test : Y → Bool) (f : X → Y) (xs : List X) → list_any test (map f xs) ≡ list_any (λ x. test (f x)) xs
any_map test f [] = refl
any_map test f (x ∷ xs) = ap (λ b. test (f x) || b) (any_map test f xs)

pub any_reverse : {X : Type 0} (test : X → Bool) (xs : List X) → list_any test (reverse xs) ≡ list_any test xs
any_reverse test [] = refl
any_reverse test (x ∷ xs) =
    ap (list_any test) (reverse-append (x ∷ []) xs) ∙ list_any-append test (reverse xs) (x ∷ [])
    ∙ swap (list_any test (reverse xs)) (test x) ∙ ap (λ b. test x || b) (any_reverse test xs)
  where
    swap : (a b : Bool) → (a || (b || false)) ≡ (b || a)
    swap true true = refl
    swap true false = refl
    swap false b = or_false b ∙ sym (or_false b)

-- one does where it stands between two parts
pub any_between : {X : Type 0} (test : X → Bool) (xs : List X) (x : X) (ys : List X) → test x ≡ true → list_any test (xs ++ x ∷ ys) ≡ true
any_between test xs x ys here = list_any-append test xs (x ∷ ys) ∙ or_right (list_any test xs) (test x || list_any test ys) (or_left (test x) (list_any test ys) here)

-- Lengths, and parts at the front.

pub length_front : {X : Type 0} (xs ys : List X) (n : ℕ) → n ≤ length xs → length (take n xs ++ ys) ≡ n + length ys
length_front xs ys n h = length-append (take n xs) ys ∙ ap (λ k. k + length ys) (length-take-le n xs h)

pub front_same : {X : Type 0} (xs ys us vs : List X) → length xs ≡ length ys → xs ++ us ≡ ys ++ vs → xs ≡ ys
front_same xs ys us vs size same = sym (take_at xs us (length xs) refl) ∙ ap (take (length xs)) same ∙ take_at ys vs (length xs) (sym size)

pub take_next : {X : Type 0} (xs : List X) (i : ℕ) (x : X) → slice_get xs i ≡ Some x → take (i + 1) xs ≡ take i xs ++ x ∷ []
take_next xs i x is = take_more xs i x (slice_get_within xs i x is) ∙ ap (λ y. take i xs ++ y ∷ []) (get_or_from_slice_get xs i x x is)

-- a part between two places, by its first element
pub part_first : {X : Type 0} (xs : List X) (d : X) (from to : ℕ) → from < to → to ≤ length xs → take (to - from) (drop from xs) ≡ get_or xs from d ∷ take (to - (from + 1)) (drop (from + 1) xs)
part_first xs d from to less fits =
    let some : to - from ≡ suc (to - (from + 1)) = omega (arith, less) in
    ap (λ n. take n (drop from xs)) some ∙ ap (take (suc (to - (from + 1)))) (drop_more xs from d (omega (arith, less, fits)))

pub range_push : (a n : ℕ) → range_with_len a n ++ (a + n) ∷ [] ≡ range_with_len a (n + 1)
range_push a zero = let here : a + 0 ≡ a = omega arith in ap (λ (k : ℕ). k ∷ []) here
range_push a (suc n) =
    let there : a + suc n ≡ (a + 1) + n = omega arith in
    let long : suc (n + 1) ≡ suc n + 1 = omega arith in
    ap (λ (k : ℕ). (a ∷ range_with_len (a + 1) n) ++ k ∷ []) there ∙ ap (λ (l : List ℕ). a ∷ l) (range_push (a + 1) n) ∙ ap (range_with_len a) long
