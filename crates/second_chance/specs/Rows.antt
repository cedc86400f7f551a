-- Runs that were worked out by hand. Of each, the lines that are asked, the listing of the cache after them, and what
-- was staged.
use Rattle.std.specs.Prelude.{◌≡◌, ℕ, ◌*◌, Bool, true, false, List, [], ◌∷◌, ◌++◌, map, flat_map, Some}
use Rattle.std.specs.List.{range_with_len}
use Rattle.record_model.specs.declared.words.Command.TheVariants.{Get, Set, Checkpoint}
use Rattle.record_model.specs.declared.words.CacheLine.{CacheLine}
use Rattle.record_model.specs.declared.words.CacheLine.TheVariants.{Frame, Pool}
use Rattle.record_model.specs.Run.{Line, turns}
use Rattle.record_model.specs.Touches.{CacheOp, touch, flush, run_touches}
use Rattle.record_model.specs.Rows.{fresh}
use Rattle.second_chance.specs.Machine.{Rules, Cache, opened, after_works, listing, Staged, staged_by_works}

-- Eight groups on flash, of which the queue uses seven, a pool of so many pages, with second chances and pulled pages
-- or without.
abbrev pub rules : ℕ → Bool → Rules
rules pages chances = record { pages = pages; groups = 7; chances = chances; pulls = chances }

abbrev pub blank : Cache
blank = opened (record { first = 0; groups = [] })

-- the listing after the lines of a run on blank devices, and the frames that it staged
abbrev pub shown : ℕ → Bool → List Line → List CacheLine
shown pages chances lines = listing
    (after_works (rules pages chances) (run_touches (turns (fresh 63) lines [])) blank)

abbrev pub staged : ℕ → Bool → List Line → List Staged
staged pages chances lines = staged_by_works (rules pages chances)
    (run_touches (turns (fresh 63) lines [])) blank

-- a set of the first record of a page, and a get of it
abbrev pub set_in : ℕ → Line
set_in page = Some (Set (32 * page) (1 ∷ []))

abbrev pub get_in : ℕ → Line
get_in page = Some (Get (32 * page))

-- A page that is only touched next is in the pool, and the changed page before it is alone in its group.
abbrev pub two_sets : List Line
two_sets = set_in 0 ∷ set_in 1 ∷ []

abbrev pub EvictedPageIsPushed : Type 0
EvictedPageIsPushed = shown 1 true two_sets ≡ Frame 0 0 0 true true false ∷ Pool 1 true ∷ []

-- Page 0 is read while it is in the queue, so it is put into the last group again when its group leaves.
abbrev pub nine_sets : List Line
nine_sets =
    set_in 0 ∷ set_in 1 ∷ get_in 0 ∷ set_in 2 ∷ set_in 3 ∷ set_in 4 ∷ set_in 5 ∷ set_in 6 ∷ set_in 7 ∷ set_in 8 ∷ []

abbrev pub ReadPageHasSecondChance : Type 0
ReadPageHasSecondChance =
    shown 1 true nine_sets
    ≡ Frame 1 0 1 true true false ∷ Frame 2 0 2 true true false ∷ Frame 3 0 3 true true false
    ∷ Frame 4 0 4 true true false
    ∷ Frame 5 0 5 true true false ∷ Frame 6 0 6 true true false ∷ Frame 7 0 0 true true false
    ∷ Frame 7 1 7 true true false
    ∷ Pool 8 true ∷ []

abbrev pub ReadPageStaysOffTheDisk : Type 0
ReadPageStaysOffTheDisk = staged 1 true nine_sets ≡ []

-- Without second chances it leaves with its group, and goes to the disk.
abbrev pub ReadPageLeaves : Type 0
ReadPageLeaves =
    shown 1 false nine_sets
    ≡ Frame 1 0 1 true true false ∷ Frame 2 0 2 true true false ∷ Frame 3 0 3 true true false
    ∷ Frame 4 0 4 true true false
    ∷ Frame 5 0 5 true true false ∷ Frame 6 0 6 true true false ∷ Frame 7 0 7 true true false ∷ Pool 8 true ∷ []

abbrev pub ReadPageIsStaged : Type 0
ReadPageIsStaged = staged 1 false nine_sets ≡ record { group = 0; index = 0; page = 0 } ∷ []

-- Eight pages of the front group are referenced: seven have a second chance, and the eighth is staged.
abbrev pub eight_read : List Line
eight_read =
    map set_in (range_with_len 0 9)
    ++ (map get_in (range_with_len 0 8) ++ flat_map (λ n. set_in 8 ∷ Some Checkpoint ∷ []) (range_with_len 0 6))

abbrev pub SevenHaveSecondChances : Type 0
SevenHaveSecondChances =
    shown 8 true eight_read
    ≡ Frame 1 0 8 false true true ∷ map (λ group. Frame group 0 8 false true false) (range_with_len 2 5)
    ++ map (λ page. Frame 7 page page true true false) (range_with_len 0 7)
    ++ (Frame 7 7 8 true true false ∷ Pool 8 false ∷ Pool 7 false ∷ Pool 6 false ∷ Pool 5 false ∷ Pool 4 false
    ∷ Pool 3 false ∷ Pool 2 false ∷ Pool 1 false ∷ [])

abbrev pub EighthIsStaged : Type 0
EighthIsStaged = staged 8 true eight_read ≡ record { group = 0; index = 7; page = 7 } ∷ []

-- Twenty pieces of work on a pool of three pages and a queue of two groups, worked out by a separate program. With
-- second chances pages are also pulled at evictions.
abbrev pub mixed : List CacheOp
mixed =
    touch 0 true ∷ flush ∷ touch 4 true ∷ touch 5 true ∷ touch 1 true ∷ touch 3 true ∷ flush ∷ touch 5 true ∷ flush
    ∷ touch 3 false
    ∷ touch 0 true ∷ touch 2 false ∷ touch 5 false ∷ touch 1 true ∷ touch 2 false ∷ touch 4 false ∷ touch 5 true ∷ flush
    ∷ touch 2 false
    ∷ touch 4 false ∷ []

abbrev pub small : Bool → Rules
small chances = record { pages = 3; groups = 2; chances = chances; pulls = chances }

abbrev pub MixedWithChances : Type 0
MixedWithChances =
    listing (after_works (small true) mixed blank)
    ≡ Frame 5 0 5 false true true ∷ Frame 5 1 1 true true false ∷ Frame 5 2 4 true false true
    ∷ Frame 6 0 2 true false false
    ∷ Frame 6 1 5 true true false ∷ Pool 4 false ∷ Pool 2 false ∷ Pool 5 false ∷ []

abbrev pub MixedWithChancesStages : Type 0
MixedWithChancesStages =
    staged_by_works (small true) mixed blank
    ≡ record { group = 0; index = 0; page = 0 } ∷ record { group = 1; index = 0; page = 4 } ∷ record {
      group = 1;
      index = 2;
      page = 1;
    }
    ∷ record { group = 2; index = 0; page = 3 } ∷ record { group = 4; index = 0; page = 0 } ∷ []

abbrev pub MixedWithout : Type 0
MixedWithout =
    listing (after_works (small false) mixed blank)
    ≡ Frame 5 0 1 true true false ∷ Frame 6 0 5 true true false ∷ Pool 4 false ∷ Pool 2 false ∷ Pool 5 false ∷ []

abbrev pub MixedWithoutStages : Type 0
MixedWithoutStages =
    staged_by_works (small false) mixed blank
    ≡ record { group = 0; index = 0; page = 0 } ∷ record { group = 1; index = 0; page = 4 } ∷ record {
      group = 2;
      index = 1;
      page = 1;
    }
    ∷ record { group = 2; index = 2; page = 3 } ∷ record { group = 3; index = 0; page = 5 } ∷ record {
      group = 4;
      index = 0;
      page = 0;
    } ∷ []
