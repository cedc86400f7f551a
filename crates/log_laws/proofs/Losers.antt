-- Transactions at work, and transactions that are undone.
use Rattle.std.proofs.lemmas.Grind.{common_steps}
use Rattle.log_laws.proofs.Names.{◌≡◌, ℕ, ◌+◌, ◌*◌, ◌/◌, ◌<◌, ◌≤◌, ⊎_elim, Bool, true, false, cond, not, ◌&&◌, ◌||◌, List, [], ◌∷◌, ◌++◌, length, map, drop, Some, refl, sym, ap, subst, ◌∙◌, arith, and_from, and_parts, and_left, and_right, or_left, or_right, or_parts, or_cases, cases_Bool, eqb-true, eq-eqb, le-leb, le-ltb, not-true, not_from_false, append-nil, filter-append, list_any-append, same_Some, AllByRecursion, list_any, filter, IsTrue, ◌==◌, nat_lt, Follows, CanBeUndone, IsActive, IsFresh, IsFreeFor, IsUndoable, next_entries, Carries, whole, next_lsn, Entry, Version, txn_of, is_of, is_on, is_update, is_closing, is_closed, is_loser, entries_of, updates_in, first_update, shown, HasOpenRoom, Active, Master, LogicalImage, IsOpen, IsInTable, is_known, before_block, from_block, last_lsn, last_number, is_begin, open_by, open_updates, left_open, losers, owed_by, LogRecord, Begin, Update, Clr, Content, Write, all_filter, all_weaker, all_passed, all_drop, or_without_last, any_map}
use Rattle.log_laws.proofs.Lists.{any_find, some_or_none}
use Rattle.log_laws.proofs.Values.{with, closed_same, closed_by, last_is_own, update_of}
use Rattle.log_laws.proofs.Chains.{any_open, none_any}
use Rattle.log_laws.proofs.Orders.{filter_none, all_from, entries_in_order}
use Rattle.log_laws.proofs.Parts.{parts_at}
use Rattle.log_laws.proofs.Appends.{begins, chain_start, fresh_entries, fresh_open, update_follows, clr_follows, free_off, has_written_is}
use Rattle.log_laws.proofs.Owing.{left_push}
use Rattle.log_laws.proofs.Standing.{writes_of, writes_more, standing_count}
use Rattle.log_laws.proofs.Tails.{whole_in_order, whole_is_undoable}

-- The records of a transaction.

pub entries_other : (log : List Entry) (e : Entry) (t : ℕ) → is_of t e ≡ false → entries_of t (with log e) ≡ entries_of t log
entries_other log e t h = filter-append (is_of t) log (e ∷ []) ∙ ap (λ b. entries_of t log ++ cond b (e ∷ []) []) h ∙ append-nil (entries_of t log)

pub entries_own : (log : List Entry) (e : Entry) (t : ℕ) → is_of t e ≡ true → entries_of t (with log e) ≡ entries_of t log ++ e ∷ []
entries_own log e t h = filter-append (is_of t) log (e ∷ []) ∙ ap (λ b. entries_of t log ++ cond b (e ∷ []) []) h

pub last_number_of : (n : ℕ) (entries : List Entry) (e : Entry) → last_number n (map (λ x. x.lsn) (entries ++ e ∷ [])) ≡ e.lsn
last_number_of n [] e = refl
last_number_of n (x ∷ entries) e = last_number_of x.lsn entries e

pub last_more : (log : List Entry) (e : Entry) (t : ℕ) → last_lsn (entries_of t (with log e)) ≡ cond (is_of t e) e.lsn (last_lsn (entries_of t log))
last_more log e t = grind (arith, entries_own, last_number_of, entries_other, cases_Bool)

-- Open transactions stay open.

known_more : (active : List Active) (redo : ℕ) (log : List Entry) (e : Entry) (t : ℕ) → IsTrue (is_known active (from_block redo log) t) → IsTrue (is_known active (from_block redo (with log e)) t)
known_more active redo log e t h = grind (arith, or_left, or_right, filter-append, list_any-append, or_cases)

known_begun : (active : List Active) (redo : ℕ) (log : List Entry) (t : ℕ) → 512 * redo ≤ t → IsTrue (is_known active (from_block redo (with log (begins t))) t)
known_begun active redo log t late = grind (arith, or_right, filter-append, list_any-append, le-leb, or_left, eq-eqb)

pub open_more : (m : Master) (log : List Entry) (e : Entry) (t : ℕ) → IsOpen m log t → (is_of t e && is_closing e.rec) ≡ false → IsOpen m (with log e) t
open_more m log e t o h = record { known = known_more m.active m.redo log e t o.known; not_closed = closed_same log e t h ∙ o.not_closed }

-- Transactions at work.

pub loser_goes_on : (log : List Entry) (e : Entry) → is_closing e.rec ≡ false → is_closed log (txn_of e) ≡ false → is_loser (with log e) (txn_of e) ≡ true
loser_goes_on log e c lives = grind (arith, and_from, list_any-append, or_right, or_left, eq-eqb, not_from_false, closed_same, and_right)

pub active_begun : (m : Master) (log : List Entry) (lsn : ℕ) → IsFresh lsn log → 512 * m.redo ≤ lsn → IsActive m (with log (record { lsn = lsn; rec = Begin })) lsn lsn []
active_begun m log lsn fresh late = grind (arith, common_steps, with, begins, entries_own, eq-eqb, fresh_entries, known_begun, closed_same, and_right, fresh_open, chain_start)

pub active_may_write : (m : Master) (pages : List Version) (log : List Entry) (lsn t last page slot : ℕ) (writes : List Write) (before after : Content) →
    IsUndoable log → IsActive m log t last writes → 32 * page + slot < 32 * length pages → IsFreeFor log t (32 * page + slot) → before ≡ shown log pages (32 * page + slot) →
    HasOpenRoom (with log (record { lsn = lsn; rec = Update t last page slot before after })) pages ((32 * page + slot) / 32) →
    Follows m pages log (record { lsn = lsn; rec = Update t last page slot before after })
active_may_write m pages log lsn t last page slot writes before after undoable a within free is room =
    update_follows m pages log lsn t last page slot before after within a.lives undoable a.chain a.last_is free is room

pub active_writes : (m : Master) (log : List Entry) (lsn t last page slot : ℕ) (writes : List Write) (before after : Content) → IsActive m log t last writes →
    CanBeUndone (with log (record { lsn = lsn; rec = Update t last page slot before after })) t →
    IsActive m (with log (record { lsn = lsn; rec = Update t last page slot before after })) t lsn (writes ++ (32 * page + slot, after) ∷ [])
active_writes m log lsn t last page slot writes before after a undone = grind (arith, common_steps, entries_own, eq-eqb, open_more, and_right, loser_goes_on, last_number_of, writes_of, left_push, writes_more)

pub active_stays : (m : Master) (log : List Entry) (e : Entry) (t last : ℕ) (writes : List Write) → IsActive m log t last writes → is_of t e ≡ false → IsActive m (with log e) t last writes
active_stays m log e t last writes a h = grind (arith, common_steps, entries_other, open_more, and_left)

pub active_owes : (m : Master) (log : List Entry) (t last : ℕ) (writes : List Write) → IsActive m log t last writes → owed_by log t ≡ length writes + 1
active_owes m log t last writes a = ap (λ n. n + 1) (sym (ap length a.writes_are ∙ standing_count log t))

-- Which transactions are unfinished.

pub loser_stays : (log : List Entry) (e : Entry) (t : ℕ) → is_of t e ≡ false → is_loser (with log e) t ≡ is_loser log t
loser_stays log e t h = grind (arith, list_any-append, or_without_last, closed_same, and_left)

pub loser_is_closed : (log : List Entry) (e : Entry) → is_closing e.rec ≡ true → is_loser (with log e) (txn_of e) ≡ false
loser_is_closed log e c = grind (arith, closed_by, and_from, eq-eqb, and_right)

pub loser_is_not_closed : (log : List Entry) (t : ℕ) → is_loser log t ≡ true → is_closed log t ≡ false
loser_is_not_closed log t h = not-true (is_closed log t) (and_parts (list_any (is_of t) log) (not (is_closed log t)) h).1

-- Undo.

pub any_of_those : {X : Type 0} (test other : X → Bool) (xs : List X) → list_any test (filter other xs) ≡ true → list_any test xs ≡ true
any_of_those test other [] h = h
any_of_those test other (x ∷ xs) h = grind (arith, or_left, or_right, or_cases, (any_of_those test other xs))

-- a transaction whose Begin is among these records, and that none of them closes, is one of their losers
begin_is_listed : (closed : ℕ → Bool) (t : ℕ) (xs : List Entry) → closed t ≡ false → list_any (λ x. is_begin x.rec && (x.lsn == t)) xs ≡ true →
    list_any (λ s. s == t) (map (λ (x : Entry). x.lsn) (filter (λ x. is_begin x.rec && not (closed x.lsn)) xs)) ≡ true
begin_is_listed closed t [] lives h = h
begin_is_listed closed t (x ∷ xs) lives h = grind (arith, common_steps, or_cases, and_parts, and_from, not_from_false, eqb-true, or_left, or_right, (begin_is_listed closed t xs lives))

-- An unfinished transaction is open: its Begin stands from the redo block on, or it was active there.
module _ (p : LogicalImage) (tail : List LogRecord) (t : ℕ) (c : Carries p tail) (loser : is_loser (whole p tail) t ≡ true) where
  abbrev old : List Entry
  old = before_block p.master.redo p.log

  abbrev new : List Entry
  new = from_block p.master.redo (whole p tail)

  abbrev begins_there : List Entry → Bool
  begins_there l = list_any (λ x. is_begin x.rec && (x.lsn == t)) l

  tail_is_new : before_block p.master.redo (next_entries p tail) ≡ []
  tail_is_new =
      filter_none (λ e. nat_lt e.lsn (512 * p.master.redo)) (next_entries p tail)
      (all_weaker (λ e. 512 * p.hi + 2 ≤ e.lsn) (λ e. nat_lt e.lsn (512 * p.master.redo) ≡ false) (λ e late. le-ltb e.lsn (512 * p.master.redo) (let before = c.sound.redo_before_end in omega (arith, late, before)))
      (next_entries p tail) (all_from (512 * p.hi + 2) (next_entries p tail) _ (entries_in_order (512 * p.hi + 2) tail)))

  parts : whole p tail ≡ before_block p.master.redo p.log ++ from_block p.master.redo (whole p tail)
  parts =
      parts_at p.master.redo (512 * p.master.kept) (whole p tail) (next_lsn p tail) (whole_in_order p tail c)
      ∙ ap (λ (l : List Entry). l ++ from_block p.master.redo (whole p tail))
      (filter-append (λ e. nat_lt e.lsn (512 * p.master.redo)) p.log (next_entries p tail) ∙ ap (λ (l : List Entry). before_block p.master.redo p.log ++ l) tail_is_new ∙ append-nil (before_block p.master.redo p.log))

  not_closed : is_closed (whole p tail) t ≡ false
  not_closed = loser_is_not_closed (whole p tail) t loser

  open_before : is_closed (before_block p.master.redo p.log) t ≡ false
  open_before = grind (arith, or_parts, list_any-append, parts, not_closed)

  begun : (begins_there old || begins_there new) ≡ true
  begun =
      let chain = (whole_is_undoable p tail c).undone t loser in
      sym (list_any-append (λ x. is_begin x.rec && (x.lsn == t)) old new) ∙ ap begins_there (sym parts)
      ∙ any_of_those (λ x. is_begin x.rec && (x.lsn == t)) (is_of t) (whole p tail)
      (ap begins_there chain.begins ∙ or_left (t == t) (begins_there (drop 1 (entries_of t (whole p tail)))) (eq-eqb t t refl))

  named : begins_there old ≡ true → list_any (λ a. a.begin == t) p.master.active ≡ true
  named there =
      ap (list_any (λ (a : Active). a.begin == t)) c.sound.master_names_the_active
      ∙ any_map (λ (a : Active). a.begin == t) (λ s. record { begin = s; last = last_lsn (entries_of s old) }) (losers old)
      ∙ begin_is_listed (is_closed old) t old open_before there

  pub loser_is_known : IsOpen p.master (whole p tail) t
  loser_is_known = grind (arith, common_steps, or_left, named, or_right, or_cases, begun, not_closed)

-- what is left to be undone are Updates among these records
pub all_left_open : (P : Entry → Type 0) (updates entries : List Entry) → AllByRecursion P updates → AllByRecursion (λ e. is_update e.rec ≡ true → P e) entries → AllByRecursion P (open_updates updates entries)
all_left_open P updates [] h a = h
all_left_open P updates (e ∷ entries) h a = by_rec e.lsn e.rec a.0 (λ us k. all_left_open P us entries k a.1)
  where
    by_rec : (lsn : ℕ) (rec : LogRecord) → (is_update rec ≡ true → P (record { lsn = lsn; rec = rec })) → ((us : List Entry) → AllByRecursion P us → AllByRecursion P (open_updates us entries)) →
        AllByRecursion P (open_updates (open_by updates (record { lsn = lsn; rec = rec }) rec) entries)
    by_rec lsn (Update txn prev page slot before after) a f = f (record { lsn = lsn; rec = Update txn prev page slot before after } ∷ updates) (a refl, h)
    by_rec lsn (Clr txn prev undo_next page slot after) a f = f (drop 1 updates) (all_drop P 1 updates h)
    by_rec lsn _ a f = f updates h

pub left_are_its_updates : (log : List Entry) (t : ℕ) → AllByRecursion (λ u. (is_update u.rec ≡ true) × (txn_of u ≡ t)) (left_open log t)
left_are_its_updates log t = grind (arith, all_left_open, all_weaker, eqb-true, all_passed)

pub left_keep : (P : Entry → Type 0) (log : List Entry) (t : ℕ) → AllByRecursion P log → AllByRecursion P (left_open log t)
left_keep P log t all = grind (arith, all_left_open, all_weaker, all_filter)

-- what an unfinished transaction has written it has alone
alone : (log : List Entry) (t number : ℕ) (f : Entry) → IsUndoable log → is_closed log t ≡ false → first_update log t number ≡ Some f → IsFreeFor log t number
alone log t number f undoable lives first s open' written = grind (arith, some_or_none, last_is_own, none_any, has_written_is, update_of, same_Some)

pub clr_of_last_follows : (m : Master) (pages : List Version) (log : List Entry) (lsn t own at prev page slot : ℕ) (before after : Content) (rest : List Entry) →
    IsUndoable log → IsOpen m log t → is_loser log t ≡ true → AllByRecursion (IsInTable pages) log →
    left_open log t ≡ record { lsn = at; rec = Update own prev page slot before after } ∷ rest →
    Follows m pages log (record { lsn = lsn; rec = Clr t (last_lsn (entries_of t log)) prev page slot before })
clr_of_last_follows m pages log lsn t own at prev page slot before after rest undoable lives loser in_table left =
    let u : Entry = record { lsn = at; rec = Update own prev page slot before after } in
    let number = 32 * page + slot in
    let within = (subst (AllByRecursion (IsInTable pages)) left (left_keep (IsInTable pages) log t in_table)).0 number refl in
    let there : list_any (is_on number) (left_open log t) ≡ true = ap (list_any (is_on number)) left ∙ or_left (number == number) (list_any (is_on number) rest) (eq-eqb number number refl) in
    let update : list_any (is_on number) (updates_in (entries_of t log)) ≡ true = ⊎_elim (λ a. absurd (grind arith)) (λ b. b) (any_open (is_on number) [] (entries_of t log) there) in
    let first = any_find (is_on number) (updates_in (entries_of t log)) update in
    clr_follows m pages log lsn t (last_lsn (entries_of t log)) prev page slot before u rest within lives (undoable.undone t loser) refl left (refl, refl, refl, refl)
    (free_off log t number (record { lsn = lsn; rec = Clr t (last_lsn (entries_of t log)) prev page slot before }) refl refl (alone log t number first.0 undoable lives.not_closed first.1))
