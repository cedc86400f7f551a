-- What the loops of a plan have chosen so far.
use Rattle.std.proofs.lemmas.Grind.{common_steps}
use Rattle.second_chance.proofs.Names.{◌≡◌, ℕ, ◌+◌, ◌<◌, ◌≤◌, Bool, true, false, not, ◌&&◌, cond, List, [], ◌∷◌, ◌++◌, length, get_or, take, drop, map, filter, take-append-drop, append-nil, arith, sym, ap, ◌∙◌, map-append, take_all, take-append-le, length-map, filter_more, filter-append, filter_agree, length-enumerate_from, get_or-enumerate_from, enumerate_from, Mark, names, Placed, chances_of, staged_of}

-- the numbers of those among the first i that pass the test
abbrev pub chosen : {X : Type 0} → (X → Bool) → (X → ℕ) → List X → ℕ → List ℕ
chosen test number xs i = map number (filter test (take i xs))

one : {X : Type 0} (number : X → ℕ) (b : Bool) (x : X) → map number (cond b (x ∷ []) []) ≡ cond b (number x ∷ []) []
one number x1 x = grind (arith, common_steps)

-- one look more
pub chosen_more : {X : Type 0} (test : X → Bool) (number : X → ℕ) (xs : List X) (i : ℕ) (d : X) → i < length xs
    → chosen test number xs (i + 1) ≡ chosen test number xs i ++ cond (test (get_or xs i d)) (number (get_or xs i d) ∷ []) []
chosen_more test number xs i d less = grind (arith, common_steps, filter_more, map-append, one)

-- where so many are found, they are the first of all
pub chosen_enough : {X : Type 0} (n : ℕ) (test : X → Bool) (number : X → ℕ) (xs : List X) (i : ℕ) → length (chosen test number xs i) ≡ n
    → chosen test number xs i ≡ map number (take n (filter test xs))
chosen_enough {X = X} n test number xs i enough =
    let found : List X = filter test (take i xs) in
    let rest : List X = filter test (drop i xs) in
    let long : length found ≡ n = sym (length-map found number) ∙ enough in
    ap (map number) (
    sym (take_all n found (omega (arith, long)))
    ∙ sym (take-append-le n found rest (omega (arith, long)))
    ∙ ap (take n) (sym (filter-append test (take i xs) (drop i xs)) ∙ ap (filter test) (take-append-drop i xs))
    )

-- where all were looked at
pub chosen_whole : {X : Type 0} (test : X → Bool) (number : X → ℕ) (xs : List X) (i : ℕ) → length xs ≤ i → chosen test number xs i ≡ map number (filter test xs)
chosen_whole test number xs i all = ap (λ l. map number (filter test l)) (take_all i xs all)

-- and no more than so many were found
pub chosen_all : {X : Type 0} (n : ℕ) (test : X → Bool) (number : X → ℕ) (xs : List X) (i : ℕ) → length xs ≤ i → length (chosen test number xs i) ≤ n
    → chosen test number xs i ≡ map number (take n (filter test xs))
chosen_all {X = X} n test number xs i all few = grind (arith, chosen_whole, take_all, length-map)

-- Frames by their places.

abbrev pub place : Placed → ℕ
place f = f.0

-- of the first frames of a group, the places of those that pass
abbrev pub placed : (ℕ → Mark → Bool) → List Mark → ℕ → List ℕ
placed test front i = chosen (λ f. test f.0 f.1) place (enumerate_from 0 front) i

at_place : (test : ℕ → Mark → Bool) (i j : ℕ) (mark : Mark) → i ≡ j → cond (test i mark) (i ∷ []) [] ≡ cond (test j mark) (j ∷ []) []
at_place test i j mark same = ap (λ n. cond (test n mark) (n ∷ []) []) same

pub placed_more : (test : ℕ → Mark → Bool) (front : List Mark) (i : ℕ) (d : Mark) → i < length front
    → placed test front (i + 1) ≡ placed test front i ++ cond (test i (get_or front i d)) (i ∷ []) []
placed_more test front i d less =
    chosen_more (λ f. test f.0 f.1) place (enumerate_from 0 front) i (0, d) (omega (arith, less, length-enumerate_from 0 front))
    ∙ ap (λ (f : Placed). placed test front i ++ cond (test f.0 f.1) (f.0 ∷ []) []) (get_or-enumerate_from 0 front i (0, d) less)
    ∙ ap (λ l. placed test front i ++ l) (at_place test (0 + i) i (get_or front i d) (omega arith))

pub placed_then : (test : ℕ → Mark → Bool) (front : List Mark) (i : ℕ) (d : Mark) → i < length front → test i (get_or front i d) ≡ true
    → placed test front (i + 1) ≡ placed test front i ++ i ∷ []
placed_then test front i d less is = placed_more test front i d less ∙ ap (λ b. placed test front i ++ cond b (i ∷ []) []) is

pub placed_else : (test : ℕ → Mark → Bool) (front : List Mark) (i : ℕ) (d : Mark) → i < length front → test i (get_or front i d) ≡ false
    → placed test front (i + 1) ≡ placed test front i
placed_else test front i d less is =
    placed_more test front i d less ∙ ap (λ b. placed test front i ++ cond b (i ∷ []) []) is ∙ append-nil (placed test front i)

-- frames that were read, of a group that gives second chances
abbrev pub is_chance : ℕ → Mark → Bool
is_chance i mark = mark.valid && mark.referenced

pub chances_enough : (front : List Mark) (i : ℕ) → length (placed is_chance front i) ≡ 7 → placed is_chance front i ≡ map place (chances_of true front)
chances_enough front i enough = chosen_enough 7 (λ f. is_chance f.0 f.1) place (enumerate_from 0 front) i enough

pub chances_all : (front : List Mark) (i : ℕ) → length front ≤ i → length (placed is_chance front i) ≤ 7 → placed is_chance front i ≡ map place (chances_of true front)
chances_all front i all few = chosen_all 7 (λ f. is_chance f.0 f.1) place (enumerate_from 0 front) i (omega (arith, all, length-enumerate_from 0 front)) few

-- frames for the disk, beside those of these places
abbrev pub is_staged : List ℕ → ℕ → Mark → Bool
is_staged chances i mark = (mark.valid && mark.dirty) && not (names chances i)

pub staged_all : (chances : List ℕ) (front : List Mark) (i : ℕ) → length front ≤ i
    → placed (is_staged chances) front i ≡ map place (filter (λ f. is_staged chances f.0 f.1) (enumerate_from 0 front))
staged_all chances front i all = chosen_whole (λ f. is_staged chances f.0 f.1) place (enumerate_from 0 front) i (omega (arith, all, length-enumerate_from 0 front))

pub staged_are : (given : Bool) (front : List Mark)
    → map place (filter (λ f. is_staged (map place (chances_of given front)) f.0 f.1) (enumerate_from 0 front)) ≡ map place (staged_of given front)
staged_are given front = grind (arith, filter_agree)
