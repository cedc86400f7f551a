-- The records that a transaction has updated.
use Rattle.engine.proofs.Names.{◌≡◌, ◌==◌, ℕ, Bool, ◌||◌, List, [], ◌∷◌, ◌++◌, length, Option, None, Some, refl, sym, ap, ◌∙◌, arith, filter-append, filter_map-append, list_any, cons_option, filter_map, updated, written_is, Entry, entries_of, is_number, is_on, is_update, number_of, updates_in, IsLoserChain, LogRecord, Begin, Update, Clr, Commit, End}
use Rattle.log_laws.specs.Follow as follow

pub updated_more : (entries : List Entry) (e : Entry) → updated (entries ++ e ∷ []) ≡ updated entries ++ updated (e ∷ [])
updated_more entries e =
    ap (filter_map (λ (u : Entry). number_of u.rec)) (filter-append (λ (u : Entry). is_update u.rec) entries (e ∷ []))
    ∙ filter_map-append (λ (u : Entry). number_of u.rec) (updates_in entries) (updates_in (e ∷ []))

pub updated_count : (entries : List Entry) → length (updated entries) ≡ length (updates_in entries)
updated_count [] = refl
updated_count (e ∷ entries) = by e.lsn e.rec (updated_count entries)
  where
    by : (lsn : ℕ) (rec : LogRecord) → length (updated entries) ≡ length (updates_in entries) → length (updated (record { lsn = lsn; rec = rec } ∷ entries)) ≡ length (updates_in (record { lsn = lsn; rec = rec } ∷ entries))
    by lsn (Update txn prev page slot before after) rest = omega (arith, rest)
    by lsn (Clr txn prev undo_next page slot after) rest = rest
    by lsn Begin rest = rest
    by lsn (Commit txn number) rest = rest
    by lsn (End txn) rest = rest

numbers_are : (us : List Entry) (number : ℕ) → list_any (λ n. n == number) (filter_map (λ (u : Entry). number_of u.rec) us) ≡ list_any (is_on number) us
numbers_are [] number = refl
numbers_are (u ∷ us) number = by (number_of u.rec) (numbers_are us number)
  where
    by : (o : Option ℕ) → list_any (λ n. n == number) (filter_map (λ (u : Entry). number_of u.rec) us) ≡ list_any (is_on number) us →
        list_any (λ n. n == number) (cons_option o (filter_map (λ (u : Entry). number_of u.rec) us)) ≡ (is_number number o || list_any (is_on number) us)
    by None rest = rest
    by (Some n) rest = ap (λ (b : Bool). (n == number) || b) rest

-- where an unfinished transaction has a record on a number, it has updated the number
pub updated_is : (records : List Entry) (t number : ℕ) → IsLoserChain t (entries_of t records) → list_any (λ n. n == number) (updated (entries_of t records)) ≡ follow.has_written records t number
updated_is records t number chain = numbers_are (updates_in (entries_of t records)) number ∙ sym (written_is records t number chain)
