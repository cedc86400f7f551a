-- The frames that are staged: each at its place, and no page twice.
use Rattle.std.proofs.lemmas.Grind.{common_steps}
use Rattle.second_chance.proofs.Names.{◌≡◌, ◌≢◌, ℕ, ◌+◌, Bool, true, false, not, ◌&&◌, ◌||◌, List, [], ◌∷◌, slice_get, AllPairs, arith, and_parts, eq-eqb, All-from_recursion, enumerate_from, AllByRecursion, All, Mark, IsStagedIn, Placed, staged_of, is_among, chances_of, in_group, group_marks, Frame, all_both, all_passed}
use Rattle.std.proofs.lemmas.List.Kept.{AllPairs-cons, AllPairs-filter}
use Rattle.second_chance.proofs.Pushes.{staged_stand}

pub staged_stand_in : (given : Bool) (front : List Mark) → All (IsStagedIn front) (staged_of given front)
staged_stand_in given front = grind (arith, All-from_recursion, all_both, slice_get, and_parts, staged_stand, all_passed)

-- the pages of marks are those of the frames
other_pages : (page n : ℕ) (behind : List Frame) (later : List (List Frame)) → in_group behind page ≡ false
    → AllByRecursion (λ (f : Placed). page ≢ f.1.page) (enumerate_from n (group_marks behind later))
other_pages page n [] later none = tt
other_pages page n (frame ∷ behind) later none = grind (arith, eq-eqb, (other_pages page (n + 1) behind later))

valid_first : (a b : Bool) → not (a || b) ≡ true → a ≡ false
valid_first x0 b is = grind (arith, common_steps)

once : (n : ℕ) (group : List Frame) (later : List (List Frame)) → AllPairs (λ a b. a.1.valid ≡ true → a.1.page ≢ b.1.page) (enumerate_from n (group_marks group later))
once n [] later = λ i j d before within. absurd (omega (arith, within))
once n (frame ∷ behind) later = grind (arith, AllPairs-cons, All-from_recursion, other_pages, valid_first, (once (n + 1) behind later))

-- No page is staged twice.
pub staged_apart : (given : Bool) (group : List Frame) (later : List (List Frame)) → AllPairs (λ a b. a.1.page ≢ b.1.page) (staged_of given (group_marks group later))
staged_apart given group later i j d before within =
    let front : List Mark = group_marks group later in
    AllPairs-filter (λ a b. a.1.valid ≡ true → a.1.page ≢ b.1.page) (λ f. (f.1.valid && f.1.dirty) && not (is_among (chances_of given front) f.0)) (enumerate_from 0 front) (once 0 group later)
    i j d before within (staged_stand_in given front i d (omega (arith, before, within))).valid
