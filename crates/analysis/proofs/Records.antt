-- What one more record says.
use Rattle.std.proofs.lemmas.Grind.{common_steps}
use Rattle.analysis.proofs.Names.{arith, ◌≡◌, ℕ, ◌==◌, ◌&&◌, ◌||◌, Bool, true, cond, List, [], ◌∷◌, ◌++◌, map, drop, Option, refl, sym, ap, ◌∙◌, eq-eqb, map-append, list_any, filter, Open, open_at, Entry, txn_of, is_of, is_closing, is_closed, entries_of, Active, is_known, last_number, commit_number, commit_numbers, is_begin, open_by, open_updates, LogRecord, Begin, Update, Clr, or_false, or_assoc}

abbrev pub with : List Entry → Entry → List Entry
with records e = records ++ e ∷ []

-- Lists with one item more.

filter_more : (test : Entry → Bool) (records : List Entry) (e : Entry) → filter test (with records e) ≡ filter test records ++ cond (test e) (e ∷ []) []
filter_more test [] e = refl
filter_more test (x ∷ records) e = grind (arith, (filter_more test records e))

any_more : (test : Entry → Bool) (records : List Entry) (e : Entry) → list_any test (with records e) ≡ (list_any test records || test e)
any_more test [] e = or_false (test e)
any_more test (x ∷ records) e = ap (λ b. test x || b) (any_more test records e) ∙ sym (or_assoc (test x) (list_any test records) (test e))

last_more : (d : ℕ) (numbers : List ℕ) (n : ℕ) → last_number d (numbers ++ n ∷ []) ≡ n
last_more d [] n = refl
last_more d (m ∷ numbers) n = last_more m numbers n

open_more : (updates entries : List Entry) (e : Entry) → open_updates updates (with entries e) ≡ open_by (open_updates updates entries) e e.rec
open_more updates [] e = refl
open_more updates (x ∷ entries) e = open_more (open_by updates x x.rec) entries e

pub numbers_more : (records : List Entry) (e : Entry) (o : Option ℕ) → commit_number e ≡ o → commit_numbers (with records e) ≡ commit_numbers records ++ commit_numbers (e ∷ [])
numbers_more [] e o is = refl
numbers_more (x ∷ records) e o is = grind (arith, (numbers_more records e o is))

-- A record of its own.

-- the LSNs of the Updates that remain after one more record
abbrev pub updates_by : List ℕ → ℕ → LogRecord → List ℕ
updates_by updates lsn (Update txn prev page slot before after) = lsn ∷ updates
updates_by updates lsn (Clr txn prev undo_next page slot after) = drop 1 updates
updates_by updates lsn _ = updates

abbrev pub after_record : Open → Entry → Open
after_record x e = record { txn = x.txn; last = e.lsn; updates = updates_by x.updates e.lsn e.rec }

updates_are : (us : List Entry) (e : Entry) (rec : LogRecord) → map (λ x. x.lsn) (open_by us e rec) ≡ updates_by (map (λ x. x.lsn) us) e.lsn rec
updates_are us e Begin = grind arith
updates_are _ e _ = grind arith

module _ (named : List Active) (records : List Entry) (e : Entry) (t : ℕ) (own : txn_of e ≡ t) where
  is_own : is_of t e ≡ true
  is_own = eq-eqb (txn_of e) t own

  entries_own : entries_of t (with records e) ≡ with (entries_of t records) e
  entries_own = filter_more (is_of t) records e ∙ ap (λ b. entries_of t records ++ cond b (e ∷ []) []) is_own

  pub closed_own : is_closed (with records e) t ≡ (is_closed records t || is_closing e.rec)
  closed_own = any_more (λ x. is_of t x && is_closing x.rec) records e ∙ ap (λ b. is_closed records t || (b && is_closing e.rec)) is_own

  pub known_own : is_known named (with records e) t ≡ (is_known named records t || (is_begin e.rec && (e.lsn == t)))
  known_own = grind (arith, common_steps)

  -- what is said of it
  pub open_own : open_at named (with records e) t ≡ after_record (open_at named records t) e
  open_own = grind (arith, entries_own, map-append, last_more, open_more, updates_are)
