-- The log block by block.
use Rattle.log_laws.proofs.Names.{◌≡◌, ℕ, zero, suc, ◌+◌, ◌*◌, ◌<◌, List, [], ◌∷◌, ◌++◌, length, take, drop, ap, append_assoc, arith, append-nil, slice_index_or, entries_from, log_from, LogRecord}

abbrev pub block_of : List (List LogRecord) → ℕ → List LogRecord
block_of blocks n = slice_index_or blocks n []

-- the blocks before one, that one, and those behind it
pub log_split : (first n k : ℕ) (blocks : List (List LogRecord)) → k ≡ first + n → n < length blocks →
    log_from first blocks ≡ log_from first (take n blocks) ++ (entries_from (512 * k + 2) (block_of blocks n) ++ log_from (k + 1) (drop (suc n) blocks))
log_split first n k [] is less = absurd (omega (arith, less))
log_split first zero k (records ∷ blocks) is less = grind arith
log_split first (suc n) k (records ∷ blocks) is less = grind (arith, append_assoc, (log_split (first + 1) n k blocks (omega (arith, is)) (omega (arith, less))))

-- and one more of them
pub log_take : (first n k : ℕ) (blocks : List (List LogRecord)) → k ≡ first + n → n < length blocks →
    log_from first (take (suc n) blocks) ≡ log_from first (take n blocks) ++ entries_from (512 * k + 2) (block_of blocks n)
log_take first n k [] is less = absurd (omega (arith, less))
log_take first zero k (records ∷ blocks) is less = grind (arith, append-nil)
log_take first (suc n) k (records ∷ blocks) is less = grind (arith, append_assoc, (log_take (first + 1) n k blocks (omega (arith, is)) (omega (arith, less))))

pub take_whole : (n : ℕ) (blocks : List (List LogRecord)) → n ≡ length blocks → take n blocks ≡ blocks
take_whole zero (records ∷ blocks) is = absurd (omega (arith, is))
take_whole (suc n) (records ∷ blocks) is = ap (λ (l : List (List LogRecord)). records ∷ l) (take_whole n blocks (omega (arith, is)))
take_whole _ [] is = grind arith
