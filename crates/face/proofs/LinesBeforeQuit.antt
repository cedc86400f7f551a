-- Lines that are carried out one after the other, none of which quits: their turns, states and work.
use Rattle.face.proofs.Names.{◌≡◌, ⊎_elim, ℕ, zero, suc, ◌+◌, ◌≤◌, Bool, true, false, List, [], ◌∷◌, ◌++◌, map, drop, refl, sym, ◌∙◌, ap, arith, append_assoc, cond, count_by, if◌then◌else◌, cases_lt, append-nil, map-append, sum_by-append, sum_by_push, AllByRecursion, step, after_lines, up_to_quit, Line, is_quit, is_cache, later_listings, State, CacheLine, generated}
use Rattle.face.specs.Workload.{numbers_of}

-- none of them quits
abbrev pub NoneQuits : List Line → Type 0
NoneQuits lines = AllByRecursion (λ l. is_quit l ≡ false) lines

-- no listing is left of none
chosen : Bool → List (List CacheLine)
chosen b = if b then drop 1 [] else []

chosen_none : (b : Bool) → chosen b ≡ []
unfolding chosen
chosen_none true = refl
chosen_none false = refl

pub no_listings : (line : Line) → later_listings line [] ≡ []
unfolding chosen
no_listings line = chosen_none (is_cache line)

pub after_cons : (s : State) (line : Line) (lines : List Line) → after_lines s (line ∷ lines) [] ≡ after_lines (step s line []).after lines []
after_cons s line lines = ap (after_lines (step s line []).after lines) (no_listings line)

pub all_answered : (lines : List Line) → NoneQuits lines → up_to_quit lines ≡ lines
all_answered [] goes = refl
all_answered (line ∷ lines) goes = λ i. line ∷ (if goes.0 i then [] else all_answered lines goes.1 i)

pub none_quits_map : (f : ℕ → Line) (xs : List ℕ) → ((x : ℕ) → is_quit (f x) ≡ false) → NoneQuits (map f xs)
none_quits_map f [] goes = tt
none_quits_map f (x ∷ xs) goes = (goes x, none_quits_map f xs goes)

-- Counts.

pub count_join : {X : Type 0} (p : X → Bool) (xs ys : List X) → count_by p (xs ++ ys) ≡ count_by p xs + count_by p ys
count_join p xs ys = sum_by-append (λ x. cond (p x) 1 0) xs ys

pub count_one : {X : Type 0} (p : X → Bool) (x : X) → count_by p (x ∷ []) ≡ (if p x then 1 else 0)
count_one p x = grind (arith, sum_by_push)

-- Numbers.

-- the lines of one number more
pub one_more : (f : ℕ → Line) (seed i : ℕ) → map f (numbers_of seed (suc i)) ≡ map f (numbers_of seed i) ++ f (generated seed (suc i)) ∷ []
one_more f seed i = map-append f (numbers_of seed i) (generated seed (suc i) ∷ [])

-- the first numbers of some
front_of : (seed i : ℕ) (count : ℕ) → i ≤ count → (later : List ℕ) × (numbers_of seed count ≡ numbers_of seed i ++ later)
front_of seed zero zero few = ([], refl)
front_of seed (suc i) zero few = absurd (omega (arith, few))
front_of seed i (suc count) few = ⊎_elim
    (λ less. let so_far = front_of seed i count (omega (arith, less)) in (
      so_far.0 ++ generated seed (suc count) ∷ [],
      ap (λ (l : List ℕ). l ++ generated seed (suc count) ∷ []) so_far.1 ∙ append_assoc (numbers_of seed i) so_far.0 (generated seed (suc count) ∷ []),
    ))
    (λ all. let same : i ≡ suc count = omega (arith, all, few) in ([], ap (numbers_of seed) (sym same) ∙ sym (append-nil (numbers_of seed i))))
    (cases_lt i (suc count))

pub front_lines : (f : ℕ → Line) (seed i count : ℕ) → i ≤ count → (later : List Line) × (map f (numbers_of seed count) ≡ map f (numbers_of seed i) ++ later)
front_lines f seed i count few =
    let front = front_of seed i count few in
    (map f front.0, ap (map f) front.1 ∙ map-append f (numbers_of seed i) front.0)
