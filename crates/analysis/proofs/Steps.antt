-- The table after one more record.
use Rattle.std.proofs.lemmas.Grind.{common_steps}
use Rattle.analysis.proofs.Names.{arith, ◌≡◌, ℕ, true, false, List, [], Option, Some, None, cond-true, and_parts, none-some, Open, found_in, Changes, is_active, open_at, open_in, IsTable, loser_of, IsLoser, Entry, txn_of, is_closing, is_closed, entries_of, Active, is_known, Begin}
use Rattle.analysis.proofs.Records.{with, after_record, closed_own, known_own, open_own}

-- whether a transaction is active, by what is said of it
pub active_some : (named : List Active) (records : List Entry) (t : ℕ) (x : Open) → open_in named records t ≡ Some x → (is_active named records t ≡ true) × (open_at named records t ≡ x)
active_some named records t x is = grind (arith, common_steps)

pub active_none : (named : List Active) (records : List Entry) (t : ℕ) → open_in named records t ≡ None → is_active named records t ≡ false
active_none named records t is = grind (arith, none-some)

module _ (named : List Active) (records : List Entry) (e : Entry) (old new : List Open) (now : Option Open) (is : IsTable named records old) (changes : Changes old new (txn_of e) now) where
  pub next_table : now ≡ open_in named (with records e) (txn_of e) → IsTable named (with records e) new
  next_table same = grind (arith, common_steps)

module _ (named : List Active) (records : List Entry) (e : Entry) where
  -- a record that doesn't close its transaction, which is active
  pub goes_on : (x : Open) → open_in named records (txn_of e) ≡ Some x → is_closing e.rec ≡ false → Some (after_record x e) ≡ open_in named (with records e) (txn_of e)
  goes_on x is going = grind (arith, active_some, and_parts, known_own, closed_own, open_own, cond-true)

  -- one that closes it
  pub is_gone : is_closing e.rec ≡ true → None ≡ open_in named (with records e) (txn_of e)
  is_gone closing = grind (arith, common_steps)

-- a Begin of a transaction that isn't active and was not closed
module _ (named : List Active) (records : List Entry) (lsn : ℕ) (none : open_in named records lsn ≡ None) (not_closed : is_closed records lsn ≡ false) (fresh : is_known named records lsn ≡ false → entries_of lsn records ≡ []) where
  abbrev e : Entry
  e = record { lsn = lsn; rec = Begin }

  unknown : is_known named records lsn ≡ false
  unknown = grind (arith, active_none)

  pub is_new : Some (record { txn = lsn; last = lsn; updates = [] }) ≡ open_in named (with records e) lsn
  is_new = grind (arith, common_steps)

-- each record is of a transaction that is known, and so with one more
pub known_more : (named : List Active) (records : List Entry) (e : Entry) → ((t : ℕ) → is_known named records t ≡ false → entries_of t records ≡ []) → is_known named (with records e) (txn_of e) ≡ true →
    (t : ℕ) → is_known named (with records e) t ≡ false → entries_of t (with records e) ≡ []
known_more named records e known here t unknown = grind (arith, common_steps)

pub known_active : (named : List Active) (records : List Entry) (e : Entry) (x : Open) → open_in named records (txn_of e) ≡ Some x → is_known named (with records e) (txn_of e) ≡ true
known_active named records e x is = grind (arith, common_steps)

pub known_begin : (named : List Active) (records : List Entry) (lsn : ℕ) → let e : Entry = record { lsn = lsn; rec = Begin } in is_known named (with records e) lsn ≡ true
known_begin named records lsn = grind (arith, common_steps)

-- what is said of a transaction is what its loser has
pub is_loser : (named : List Active) (records : List Entry) (table : List Open) (t : ℕ) (x : Open) → IsTable named records table → found_in table t ≡ Some x → IsLoser named records (loser_of x)
is_loser named records table t x is there = grind (arith, common_steps)
