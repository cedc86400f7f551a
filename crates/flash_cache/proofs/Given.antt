-- The frames given, one by one.
use Rattle.flash_cache.proofs.Names.{◌≡◌, ℕ, zero, suc, ◌<◌, Bool, false, List, [], ◌∷◌, ◌++◌, length, get_or, map, take, arith, refl, ap, frames_given, known_given, Frame, known_of, Known}
use Rattle.slotted_page.specs.Layout.{lsn_of as page_lsn}
use Rattle.frame_group.specs.Groups.{lsn_of}
use Rattle.std.proofs.lemmas.Grind.{common_steps}
pub use Rattle.std_lemmas.proofs.AllOf.{all_append}

pub same_lsn : (octets : List ℕ) → page_lsn octets ≡ lsn_of octets
unfolding page_lsn lsn_of
same_lsn octets = refl

-- the first n of them
abbrev pub given_before : List ℕ → List Bool → List (List ℕ) → ℕ → List Frame
given_before pages changed contents n = take n (frames_given pages changed contents)

abbrev pub frame_at_place : List ℕ → List Bool → List (List ℕ) → ℕ → Frame
frame_at_place pages changed contents n = record { page = get_or pages n 0; dirty = get_or changed n false; octets = get_or contents n [] }

pub length-given : (pages : List ℕ) (changed : List Bool) (contents : List (List ℕ)) → length changed ≡ length pages → length contents ≡ length pages → length (frames_given pages changed contents) ≡ length pages
length-given [] changed contents marks lists = refl
length-given (p ∷ pages) [] contents marks lists = absurd (omega (arith, marks))
length-given (p ∷ pages) (c ∷ changed) [] marks lists = absurd (omega (arith, lists))
length-given (p ∷ pages) (c ∷ changed) (o ∷ contents) marks lists = ap suc (length-given pages changed contents (omega (arith, marks)) (omega (arith, lists)))

pub given_at : (pages : List ℕ) (changed : List Bool) (contents : List (List ℕ)) (n : ℕ) (d : Frame) → length changed ≡ length pages → length contents ≡ length pages → n < length pages
    → get_or (frames_given pages changed contents) n d ≡ frame_at_place pages changed contents n
given_at [] changed contents n d marks lists lt = absurd (omega (arith, lt))
given_at (p ∷ pages) [] contents n d marks lists lt = absurd (omega (arith, marks))
given_at (p ∷ pages) (c ∷ changed) [] n d marks lists lt = absurd (omega (arith, lists))
given_at (p ∷ pages) (c ∷ changed) (o ∷ contents) zero d marks lists lt = refl
given_at (p ∷ pages) (c ∷ changed) (o ∷ contents) (suc n) d marks lists lt = given_at pages changed contents n d (omega (arith, marks)) (omega (arith, lists)) (omega (arith, lt))

pub one_more : (pages : List ℕ) (changed : List Bool) (contents : List (List ℕ)) (n : ℕ) → length changed ≡ length pages → length contents ≡ length pages → n < length pages
    → given_before pages changed contents (suc n) ≡ given_before pages changed contents n ++ frame_at_place pages changed contents n ∷ []
one_more [] changed contents n marks lists lt = absurd (omega (arith, lt))
one_more (p ∷ pages) [] contents n marks lists lt = absurd (omega (arith, marks))
one_more (p ∷ pages) (c ∷ changed) [] n marks lists lt = absurd (omega (arith, lists))
one_more (p ∷ pages) (c ∷ changed) (o ∷ contents) zero marks lists lt = refl
one_more (p ∷ pages) (c ∷ changed) (o ∷ contents) (suc n) marks lists lt = grind (arith, common_steps, (one_more pages changed contents n (omega (arith, marks)) (omega (arith, lists)) (omega (arith, lt))))

-- as the directory knows them
pub known_of_given : (pages : List ℕ) (changed : List Bool) (contents : List (List ℕ)) → length changed ≡ length pages → length contents ≡ length pages
    → map (λ frame. known_of frame.page frame.dirty) (frames_given pages changed contents) ≡ known_given pages changed
known_of_given [] changed contents marks lists = refl
known_of_given (p ∷ pages) [] contents marks lists = absurd (omega (arith, marks))
known_of_given (p ∷ pages) (c ∷ changed) [] marks lists = absurd (omega (arith, lists))
known_of_given (p ∷ pages) (c ∷ changed) (o ∷ contents) marks lists =
    ap (λ (l : List Known). known_of p c ∷ l) (known_of_given pages changed contents (omega (arith, marks)) (omega (arith, lists)))
