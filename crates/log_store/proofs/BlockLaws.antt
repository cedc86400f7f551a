-- The newest blocks of an image.
use Rattle.log_store.proofs.Names.{◌≡◌, ℕ, ◌+◌, ◌-◌, ◌≤◌, List, [], ◌∷◌, ◌++◌, length, drop, sym, ap, ◌∙◌, arith, length-append, length-drop, drop-drop, drop-append-le, drop-map, map-append, AllByRecursion, max, log_shape, units_on, KeepsUnits, AreBlock, LogRecord, HasBlocks, live_count, IsRing, last_of, appended, Image, Geometry, all_drop}
use Rattle.log_records.specs.Spelling.{block}

-- the last ones of the last ones
last_twice : (k m : ℕ) (xs : List (List ℕ)) → k ≤ m → last_of k (last_of m xs) ≡ last_of k xs
last_twice k m xs le = grind (arith, length-drop, drop-drop)

-- of a list with one more
last_more : (k : ℕ) (xs : List (List ℕ)) (x : List ℕ) → k ≤ length xs → last_of (k + 1) (xs ++ x ∷ []) ≡ last_of k xs ++ x ∷ []
last_more k xs x le = grind (arith, length-append, drop-append-le)

all_more : (blocks : List (List LogRecord)) (records : List LogRecord) → AllByRecursion AreBlock blocks → AreBlock records → AllByRecursion AreBlock (blocks ++ records ∷ [])
all_more [] records all are = (are, tt)
all_more (first ∷ blocks) records all are = (all.0, all_more blocks records all.1 are)

-- they stay where the ring has the same units
pub blocks_stay : (g : Geometry) (first : ℕ) (blocks : List (List LogRecord)) (a b : Image) → HasBlocks g first blocks a → KeepsUnits (log_shape g) a b → HasBlocks g first blocks b
blocks_stay g first blocks a b has keeps = grind arith

-- as many units live
lives : (g : Geometry) (first : ℕ) (blocks : List (List LogRecord)) (a : Image) → HasBlocks g first blocks a → length blocks ≤ length (units_on (log_shape g) a).live
lives g first blocks a has =
    let count = live_count (log_shape g) a.log in
    let next = has.next in
    let few = has.few in
    omega (arith, count, next, few)

-- one block more
pub blocks_more : (g : Geometry) (first : ℕ) (blocks : List (List LogRecord)) (records : List LogRecord) (a b : Image) → HasBlocks g first blocks a → length blocks + 1 ≤ g.blocks - 1 → AreBlock records →
    IsRing (log_shape g) b.log → units_on (log_shape g) b ≡ appended (log_shape g) (units_on (log_shape g) a) (block records) → HasBlocks g first (blocks ++ records ∷ []) b
blocks_more g first blocks records a b has room are form units = grind (arith, length-append, all_more, last_twice, last_more, map-append)

-- and fewer, from a later one on
pub blocks_from : (g : Geometry) (first from : ℕ) (blocks : List (List LogRecord)) (a : Image) → HasBlocks g first blocks a → from ≤ first + length blocks → HasBlocks g (max first from) (drop (from - first) blocks) a
blocks_from g first from blocks a has within =
    let live = (units_on (log_shape g) a).live in
    let n = from - first in
    let size = length-drop n blocks in
    let next = has.next in
    let few = has.few in
    let enough = lives g first blocks a has in record {
      form = has.form;
      next = omega (arith, size, next, within);
      few = omega (arith, size, few);
      are_blocks = all_drop AreBlock n blocks has.are_blocks;
      units =
          ap (λ (k : ℕ). drop k live) (omega (arith, size, enough, within))
          ∙ sym (drop-drop n (length live - length blocks) live)
          ∙ ap (drop n) has.units ∙ drop-map block n blocks;
    }
