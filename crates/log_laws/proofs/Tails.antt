-- A log that goes on record by record.
use Rattle.log_laws.proofs.Names.{◌≡◌, ℕ, ◌+◌, ◌*◌, List, [], ◌∷◌, ◌++◌, length, Some, None, ap, subst, ◌∙◌, append_assoc, arith, append-nil, length-append, filter_map-append, length-range_with_len, AllByRecursion, cons_option, Option, flat_map, Follows, IsUndoable, sealed, next_entries, table_after, table_after_all, writes_in, Carries, CommitsRunOn, whole, next_lsn, in_order_from, Entry, entries_from, log_from, table_of, LogicalImage, IsSound, IsInOrder, InTurn, IsInTable, HasRoom, AreOrderly, Means, commit_number, commit_numbers, commit_count, LogRecord, Commit, Content, table_with, all_append}
use Rattle.log_records.specs.Spelling.{spelling, AreBlock}
use Rattle.log_laws.proofs.Parts.{InTurn-right}
use Rattle.log_laws.proofs.Follow.{table_behind}
use Rattle.log_laws.proofs.Orders.{InTurn-all, InTurn-append, entries_in_order, in_order_to, in_order-append}
use Rattle.log_laws.proofs.Seals.{undoable_behind_all, table_behind_all, sealed_is_sound, sealed_means, numbered_with}
use Rattle.log_laws.proofs.Commits.{table_none}
use Rattle.log_laws.proofs.Orderly.{orderly_behind}

pub entries_append : (lsn : ℕ) (xs ys : List LogRecord) → entries_from lsn (xs ++ ys) ≡ entries_from lsn xs ++ entries_from (lsn + length (flat_map spelling xs)) ys
entries_append lsn [] ys = grind arith
entries_append lsn (x ∷ xs) ys = grind (arith, length-append, (entries_append (lsn + length (spelling x)) xs ys))

last_entry : (p : LogicalImage) (tail : List LogRecord) (rec : LogRecord) → next_entries p (tail ++ rec ∷ []) ≡ next_entries p tail ++ record { lsn = next_lsn p tail; rec = rec } ∷ []
last_entry p tail rec = grind (arith, entries_append)

pub whole_more : (p : LogicalImage) (tail : List LogRecord) (rec : LogRecord) → whole p (tail ++ rec ∷ []) ≡ whole p tail ++ record { lsn = next_lsn p tail; rec = rec } ∷ []
whole_more p tail rec = grind (arith, last_entry, append_assoc)

pub carries_nothing : (p : LogicalImage) → IsSound p → Carries p []
carries_nothing p sound = record { sound = sound; follow = tt }

pub carries_more : (p : LogicalImage) (tail : List LogRecord) (rec : LogRecord) → Carries p tail → Follows p.master p.pages (whole p tail) (record { lsn = next_lsn p tail; rec = rec }) → Carries p (tail ++ rec ∷ [])
carries_more p tail rec c f = grind (arith, last_entry, InTurn-append)

pub whole_in_order : (p : LogicalImage) (tail : List LogRecord) → Carries p tail → IsInOrder (512 * p.master.kept) (whole p tail) (next_lsn p tail)
whole_in_order p tail c =
    in_order-append (512 * p.master.kept) (512 * p.hi) (next_lsn p tail) p.log (next_entries p tail) c.sound.in_order
    (in_order_from (512 * p.hi + 2) (512 * p.hi) (next_entries p tail) (next_lsn p tail) (omega arith)
    (in_order_to (512 * p.hi + 2) (next_entries p tail) (512 * p.hi + 2 + length (flat_map spelling tail)) (next_lsn p tail) (omega arith) (entries_in_order (512 * p.hi + 2) tail)))

undoable_of : (p : LogicalImage) → IsSound p → IsUndoable p.log
undoable_of p sound = record { undone = sound.losers_can_be_undone; held = sound.losers_hold_others_off }

pub whole_is_undoable : (p : LogicalImage) (tail : List LogRecord) → Carries p tail → IsUndoable (whole p tail)
whole_is_undoable p tail c = undoable_behind_all p.master p.pages p.log (next_entries p tail) (undoable_of p c.sound) c.follow

-- Wherever redo begins, over an orderly log.

pub whole_stays_orderly : (p : LogicalImage) (tail : List LogRecord) → Carries p tail → AreOrderly p.log → AreOrderly (whole p tail)
whole_stays_orderly p tail c orderly =
    orderly_behind p (next_entries p tail) (512 * p.hi + 2 + length (flat_map spelling tail)) c.sound orderly
    (in_order_from (512 * p.hi + 2) (512 * p.hi) (next_entries p tail) (512 * p.hi + 2 + length (flat_map spelling tail)) (omega arith) (entries_in_order (512 * p.hi + 2) tail)) c.follow

pub table_more : (p : LogicalImage) (tail : List LogRecord) (e : Entry) → Carries p tail → Follows p.master p.pages (whole p tail) e →
    table_of (whole p tail ++ e ∷ []) p.pages ≡ table_after (table_of (whole p tail) p.pages) (whole p tail) e.rec
table_more p tail e c f = table_behind p.master p.pages (whole p tail) (whole_is_undoable p tail c) e f

pub commits_more : (log : List Entry) (e : Entry) (number : ℕ) → commit_number e ≡ Some number → commit_numbers (log ++ e ∷ []) ≡ commit_numbers log ++ number ∷ []
commits_more log e number h = filter_map-append commit_number log (e ∷ []) ∙ ap (λ (o : Option ℕ). commit_numbers log ++ cons_option o []) h

pub commits_stay : (log : List Entry) (e : Entry) → commit_number e ≡ None → commit_numbers (log ++ e ∷ []) ≡ commit_numbers log
commits_stay log e h = filter_map-append commit_number log (e ∷ []) ∙ ap (λ (o : Option ℕ). commit_numbers log ++ cons_option o []) h ∙ append-nil (commit_numbers log)

pub tail_without_commit : (p : LogicalImage) (tail : List LogRecord) → Carries p tail → commit_numbers (next_entries p tail) ≡ [] → table_of (whole p tail) p.pages ≡ table_of p.log p.pages
tail_without_commit p tail c none = grind (arith, table_behind_all, undoable_of, table_none)

pub sealed_tail : (p : LogicalImage) (tail : List LogRecord) → Carries p tail → AreBlock tail → HasRoom (sealed p tail) → (more : ℕ) → CommitsRunOn p tail more → IsSound (sealed p tail)
sealed_tail p tail c block room more commits =
    sealed_is_sound p tail c.sound (record { are_block = block; follow = c.follow; numbered = numbered_with p tail c.sound block more commits; room = room })

-- the sealed logical image stands for the table behind the tail's records, and so many commits more
pub sealed_tail_means : (p : LogicalImage) (tail : List LogRecord) → Carries p tail → AreBlock tail → HasRoom (sealed p tail) → (more : ℕ) → CommitsRunOn p tail more → (table : List Content) (count : ℕ) → Means p table count →
    Means (sealed p tail) (table_after_all table p.log (next_entries p tail)) (count + more)
sealed_tail_means p tail c block room more commits table count means =
    subst (λ (n : ℕ). Means (sealed p tail) (table_after_all table p.log (next_entries p tail)) (count + n)) (ap length commits ∙ length-range_with_len (commit_count p + 1) more)
    (sealed_means p tail c.sound (record { are_block = block; follow = c.follow; numbered = numbered_with p tail c.sound block more commits; room = room }) table count means)

-- Logs without checkpoints.

pub log_from-append : (blocks : List (List LogRecord)) (records : List LogRecord) (number : ℕ) →
    log_from number (blocks ++ records ∷ []) ≡ log_from number blocks ++ entries_from (512 * (number + length blocks) + 2) records
log_from-append [] records number = grind (arith, append-nil)
log_from-append (b ∷ blocks) records number = grind (arith, append_assoc, (log_from-append blocks records (number + 1)))

pub whole_in_table : (p : LogicalImage) (tail : List LogRecord) → Carries p tail → AllByRecursion (IsInTable p.pages) (whole p tail)
whole_in_table p tail c = grind (arith, all_append, InTurn-all)

pub InTurn-left : {X : Type 0} (P : List X → X → Type 0) (earlier xs ys : List X) → InTurn P earlier (xs ++ ys) → InTurn P earlier xs
InTurn-left P earlier [] ys h = tt
InTurn-left P earlier (x ∷ xs) ys h = (h.0, InTurn-left P (earlier ++ x ∷ []) xs ys h.1)

pub whole_sealed : (p : LogicalImage) (tail : List LogRecord) → whole (sealed p tail) [] ≡ whole p tail
whole_sealed p tail = append-nil (whole p tail)

pub carries_front : (p : LogicalImage) (front : List LogRecord) (rec : LogRecord) → Carries p (front ++ rec ∷ []) → Carries p front × Follows p.master p.pages (whole p front) (record { lsn = next_lsn p front; rec = rec })
carries_front p front rec c = grind (arith, last_entry, InTurn-left, InTurn-right)

pub tail_with_commit : (p : LogicalImage) (front : List LogRecord) (t number : ℕ) → Carries p (front ++ Commit t number ∷ []) → commit_numbers (next_entries p front) ≡ [] →
    table_of (whole p (front ++ Commit t number ∷ [])) p.pages ≡ table_with (table_of p.log p.pages) (writes_in t (whole p front))
tail_with_commit p front t number c none =
    let before = carries_front p front (Commit t number) c in
    ap (λ (l : List Entry). table_of l p.pages) (whole_more p front (Commit t number))
    ∙ table_more p front (record { lsn = next_lsn p front; rec = Commit t number }) before.0 before.1
    ∙ ap (λ (table : List Content). table_with table (writes_in t (whole p front))) (tail_without_commit p front before.0 none)
