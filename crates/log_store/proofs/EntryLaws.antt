-- The list of a log's records.
use Rattle.log_store.proofs.Names.{◌≡◌, ℕ, ◌+◌, ◌*◌, Bool, true, false, List, [], ◌∷◌, ◌++◌, length, refl, sym, ap, ◌∙◌, append_assoc, arith, append-nil, length-append, flat_map, Entry, entries_from, log_from, used_by, LogRecord, LogList, next_block, entries, sealed_if, with_record, Finds, Represents, LogStore, State}
use Rattle.log_records.specs.Spelling.{spelling}

abbrev entry : ℕ → LogRecord → Entry
entry lsn rec = record { lsn = lsn; rec = rec }

-- the last of records one after the other stands behind all before it
entries_more : (lsn : ℕ) (records : List LogRecord) (rec : LogRecord) → entries_from lsn (records ++ rec ∷ []) ≡ entries_from lsn records ++ record { lsn = lsn + length (flat_map spelling records); rec = rec } ∷ []
entries_more lsn [] rec = ap (λ (n : ℕ). entry n rec ∷ []) (omega arith)
entries_more lsn (first ∷ records) rec =
    ap (λ (l : List Entry). record { lsn = lsn; rec = first } ∷ l) (entries_more (lsn + length (spelling first)) records rec
    ∙ ap (λ (n : ℕ). entries_from (lsn + length (spelling first)) records ++ entry n rec ∷ []) (omega (arith, length-append (spelling first) (flat_map spelling records))))

-- the last of blocks one after the other
blocks_more : (first : ℕ) (blocks : List (List LogRecord)) (records : List LogRecord) → log_from first (blocks ++ records ∷ []) ≡ log_from first blocks ++ entries_from (512 * (first + length blocks) + 2) records
blocks_more first [] records = append-nil (entries_from (512 * first + 2) records) ∙ ap (λ (n : ℕ). entries_from (512 * n + 2) records) (omega arith)
blocks_more first (block ∷ blocks) records =
    ap (λ (l : List Entry). entries_from (512 * first + 2) block ++ l) (blocks_more (first + 1) blocks records
    ∙ ap (λ (n : ℕ). log_from (first + 1) blocks ++ entries_from (512 * n + 2) records) (omega arith))
    ∙ sym (append_assoc (entries_from (512 * first + 2) block) (log_from (first + 1) blocks) _)

-- sealing changes no record
pub sealing_keeps : (sealing : Bool) (log : LogList) → entries (sealed_if sealing log) ≡ entries log
sealing_keeps true log = append-nil (log_from log.first (log.blocks ++ log.tail ∷ [])) ∙ blocks_more log.first log.blocks log.tail
sealing_keeps false log = refl

-- a record more stands behind them
pub one_more : (rec : LogRecord) (log : LogList) (lsn : ℕ) → lsn ≡ 512 * next_block log + used_by log.tail → entries (with_record rec log) ≡ entries log ++ record { lsn = lsn; rec = rec } ∷ []
one_more rec log lsn is = grind (arith, entries_more, append_assoc)

-- where a store puts its next record
pub next_place : (store : LogStore) (site : State) (log : LogList) (lsn : ℕ) → Finds store site → Represents store site.image log → lsn ≡ 512 * store.ring.hi + store.used → lsn ≡ 512 * next_block log + used_by log.tail
next_place store site log lsn fits holds is = grind arith
