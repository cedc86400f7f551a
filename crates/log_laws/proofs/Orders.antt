-- Logs in order, and the parts of a log.
use Rattle.log_laws.proofs.Names.{◌≡◌, ℕ, ◌+◌, ◌≤◌, Bool, false, cond, List, [], ◌∷◌, ◌++◌, length, None, refl, sym, ap, subst, ◌∙◌, append_assoc, arith, append-nil, length-append, AllByRecursion, filter, flat_map, some_octet, in_order_from, Entry, entries_from, last_where, InTurn, IsInOrder, LogRecord}
use Rattle.log_records.specs.Spelling.{spelling}
use Rattle.log_laws.proofs.Lists.{one_false}
pub use Rattle.std_lemmas.proofs.Lists.{filter_all}

pub in_order_to : (from : ℕ) (log : List Entry) (to to' : ℕ) → to ≤ to' → IsInOrder from log to → IsInOrder from log to'
in_order_to from [] to to' l h = omega arith
in_order_to from (e ∷ log) to to' l h = (h.0, in_order_to (e.lsn + 1) log to to' l h.1)

pub in_order-append : (from mid to : ℕ) (xs ys : List Entry) → IsInOrder from xs mid → IsInOrder mid ys to → IsInOrder from (xs ++ ys) to
in_order-append from mid to [] ys h k = in_order_from mid from ys to h k
in_order-append from mid to (x ∷ xs) ys h k = (h.0, in_order-append (x.lsn + 1) mid to xs ys h.1 k)

-- records of a block are in order
pub entries_in_order : (lsn : ℕ) (records : List LogRecord) → IsInOrder lsn (entries_from lsn records) (lsn + length (flat_map spelling records))
entries_in_order lsn [] = omega arith
entries_in_order lsn (rec ∷ records) = (
  omega arith,
  in_order_to (lsn + 1) (entries_from (lsn + length (spelling rec)) records) (lsn + length (spelling rec) + length (flat_map spelling records)) (lsn + length (flat_map spelling (rec ∷ records)))
      (omega (arith, length-append (spelling rec) (flat_map spelling records)))
      (in_order_from (lsn + length (spelling rec)) (lsn + 1) (entries_from (lsn + length (spelling rec)) records) (lsn + length (spelling rec) + length (flat_map spelling records)) (omega (arith, some_octet rec)) (entries_in_order (lsn + length (spelling rec)) records)),
)

-- none comes before the first
pub all_from : (from : ℕ) (log : List Entry) (to : ℕ) → IsInOrder from log to → AllByRecursion (λ e. from ≤ e.lsn) log
all_from from [] to h = tt
all_from from (e ∷ log) to h = (h.0, all_from from log to (let b = h.0 in in_order_from (e.lsn + 1) from log to (omega (arith, b)) h.1))

pub none_passes : {X : Type 0} (test : X → Bool) (xs : List X) → AllByRecursion (λ x. test x ≡ false) xs → last_where test xs ≡ None
none_passes test [] h = refl
none_passes {X} test (x ∷ xs) h = grind (arith, one_false, (none_passes test xs h.1))

pub filter_none : {X : Type 0} (test : X → Bool) (xs : List X) → AllByRecursion (λ x. test x ≡ false) xs → filter test xs ≡ []
filter_none test [] h = refl
filter_none test (x ∷ xs) h = ap (λ b. cond b (x ∷ filter test xs) (filter test xs)) h.0 ∙ filter_none test xs h.1

pub InTurn-append_all : {X : Type 0} (P : List X → X → Type 0) (earlier xs ys : List X) → InTurn P earlier xs → InTurn P (earlier ++ xs) ys → InTurn P earlier (xs ++ ys)
InTurn-append_all {X} P earlier [] ys h k = subst (λ (l : List X). InTurn P l ys) (append-nil earlier) k
InTurn-append_all {X} P earlier (x ∷ xs) ys h k = (h.0, InTurn-append_all P (earlier ++ x ∷ []) xs ys h.1 (subst (λ (l : List X). InTurn P l ys) (sym (append_assoc earlier (x ∷ []) xs)) k))

pub InTurn-weaker : {X : Type 0} (P Q : List X → X → Type 0) → ((earlier : List X) (x : X) → P earlier x → Q earlier x) → (earlier xs : List X) → InTurn P earlier xs → InTurn Q earlier xs
InTurn-weaker P Q w earlier [] h = tt
InTurn-weaker P Q w earlier (x ∷ xs) h = (w earlier x h.0, InTurn-weaker P Q w (earlier ++ x ∷ []) xs h.1)

pub InTurn-all : {X : Type 0} (P : List X → X → Type 0) (Q : X → Type 0) → ((earlier : List X) (x : X) → P earlier x → Q x) → (earlier xs : List X) → InTurn P earlier xs → AllByRecursion Q xs
InTurn-all P Q w earlier [] h = tt
InTurn-all P Q w earlier (x ∷ xs) h = (w earlier x h.0, InTurn-all P Q w (earlier ++ x ∷ []) xs h.1)

-- what holds of each item and those before it holds on where it holds of the new one
pub InTurn-append : {X : Type 0} (P : List X → X → Type 0) (earlier xs : List X) (x : X) → InTurn P earlier xs → P (earlier ++ xs) x → InTurn P earlier (xs ++ x ∷ [])
InTurn-append P earlier [] x h p = (rw (← append-nil earlier) p, tt)
InTurn-append P earlier (y ∷ xs) x h p = (h.0, InTurn-append P (earlier ++ y ∷ []) xs x h.1 (rw append_assoc p))
