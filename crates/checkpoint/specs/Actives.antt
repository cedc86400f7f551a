-- The active transactions of a master, and how they are spelled.
use Rattle.std.specs.Prelude.{◌≡◌, ℕ, ◌+◌, ◌*◌, ◌^◌, ◌<◌, List, ◌++◌, length, take, flat_map, slice_index_or}
use Rattle.std.specs.List.{AllByRecursion}
use Rattle.std.specs.Int.{w64, to_be_bytes}
use Rattle.checkpoint.specs.declared.pairs.Pair.{Pair}

abbrev pub no_pair : Pair
no_pair = record { begin = 0; last = 0 }

-- the LSNs of the Begins ascend
abbrev pub Ascend : List Pair → Type 0
Ascend pairs = (i : ℕ) → i + 1 < length pairs
    → (slice_index_or pairs i no_pair).begin < (slice_index_or pairs (i + 1) no_pair).begin

abbrev pub pair_spelling : Pair → List ℕ
pair_spelling pair = to_be_bytes w64 pair.begin ++ to_be_bytes w64 pair.last

abbrev pub spelling_of_all : List Pair → List ℕ
spelling_of_all pairs = flat_map pair_spelling pairs

-- the numbers of a pair fit their fields
abbrev pub FitsFields : Pair → Type 0
FitsFields pair = (pair.begin < 2 ^ 64) × (pair.last < 2 ^ 64)

-- octets begin with pairs, one after the other
pub record ArePairs (octets : List ℕ) (pairs : List Pair) : Type 0 where
  pub text : take (16 * length pairs) octets ≡ spelling_of_all pairs
  pub fit : AllByRecursion FitsFields pairs
