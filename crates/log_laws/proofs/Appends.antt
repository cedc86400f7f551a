-- Which records may stand behind a log.
use Rattle.std.proofs.lemmas.Grind.{common_steps}
use Rattle.log_laws.proofs.Names.{◌≡◌, ℕ, ◌+◌, ◌*◌, ◌/◌, ◌<◌, Bool, true, false, cond, List, [], ◌∷◌, ◌++◌, length, Some, refl, sym, ap, subst, ◌∙◌, arith, or_left, or_right, eq-eqb, eqb-true, filter-append, same_Some, AllByRecursion, list_any, filter, filter_map, ◌==◌, Follows, CanBeUndone, IsUndoable, IsUndone, IsFresh, IsFreeFor, has_written, write_of, Entry, Version, txn_of, is_of, is_on, is_number, number_of, is_closing, is_closed, entries_of, last_on, shown, HasOpenRoom, Master, IsOpen, IsLoserChain, Undoes, Continues, Compensates, HoldsOff, ShowsLast, last_lsn, left_open, Begin, Update, Clr, Commit, End, Content, Write, all_weaker}
use Rattle.log_laws.proofs.Values.{with, shown_begins}
use Rattle.log_laws.proofs.Orders.{filter_none, InTurn-append}

-- Chains.

abbrev pub begins : ℕ → Entry
begins t = record { lsn = t; rec = Begin }

pub chain_start : (t : ℕ) → IsLoserChain t (begins t ∷ [])
chain_start t = record { begins = refl; continues = tt }

-- one record more
pub chain_push : (t : ℕ) (entries : List Entry) (e : Entry) → IsLoserChain t entries → Continues entries e → IsLoserChain t (entries ++ e ∷ [])
chain_push t entries e chain c = grind (arith, InTurn-append)

filter_push : (test : Entry → Bool) (entries : List Entry) (e : Entry) → test e ≡ true → filter test (entries ++ e ∷ []) ≡ filter test entries ++ e ∷ []
filter_push test entries e h = filter-append test entries (e ∷ []) ∙ ap (λ b. filter test entries ++ cond b (e ∷ []) []) h

-- Records of each kind.

pub fresh_entries : (lsn : ℕ) (log : List Entry) → IsFresh lsn log → entries_of lsn log ≡ []
fresh_entries lsn log h = filter_none (is_of lsn) log h

pub fresh_open : (lsn : ℕ) (log : List Entry) → IsFresh lsn log → is_closed log lsn ≡ false
fresh_open lsn [] h = refl
fresh_open lsn (e ∷ log) h = grind (arith, common_steps, (fresh_open lsn log h.1))

-- a record that is on nothing is held off by nothing
off_nothing : (log entries : List Entry) (e : Entry) → ((number : ℕ) → is_on number e ≡ false) → AllByRecursion (λ u. HoldsOff log u e) entries
off_nothing log [] e h = tt
off_nothing log (u ∷ entries) e h = grind (arith, (off_nothing log entries e h))

-- What a transaction has written.

any_written : (n : ℕ) (entries : List Entry) → list_any (λ (w : Write). w.0 == n) (filter_map (λ e. write_of e.rec) entries) ≡ list_any (is_on n) entries
any_written n [] = refl
any_written n (e ∷ entries) = grind (arith, (any_written n entries))

pub has_written_is : (log : List Entry) (t n : ℕ) → has_written log t n ≡ list_any (is_on n) (entries_of t log)
has_written_is log t n = any_written n (entries_of t log)

any_more : (n t : ℕ) (e : Entry) (log : List Entry) → list_any (is_on n) (entries_of t log) ≡ true → list_any (is_on n) (entries_of t (e ∷ log)) ≡ true
any_more n t e log h = grind (arith, or_right)

pub all_written : (log : List Entry) → AllByRecursion (λ u. (n : ℕ) → is_on n u ≡ true → list_any (is_on n) (entries_of (txn_of u) log) ≡ true) log
all_written [] = tt
all_written (e ∷ log) = grind (arith, eq-eqb, or_left, all_weaker, any_more, (all_written log))

-- where no other transaction has written a number, none holds off a record there
pub free_off : (log : List Entry) (t number : ℕ) (e : Entry) → txn_of e ≡ t → number_of e.rec ≡ Some number → IsFreeFor log t number → AllByRecursion (λ u. HoldsOff log u e) log
free_off log t number e own is free =
    all_weaker (λ u. (n : ℕ) → is_on n u ≡ true → list_any (is_on n) (entries_of (txn_of u) log) ≡ true) (λ u. HoldsOff log u e)
    (λ u h n a b c d.
    let same : number ≡ n = eqb-true number n (sym (ap (is_number n) is) ∙ c) in
    free (txn_of u) d (subst (λ k. has_written log (txn_of u) k ≡ true) (sym same) (has_written_is log (txn_of u) n ∙ h n b)) ∙ sym own)
    log (all_written log)

module _ (m : Master) (pages : List Version) (log : List Entry) where
  pub begin_follows : (lsn : ℕ) → IsFresh lsn log → Follows m pages log (record { lsn = lsn; rec = Begin })
  begin_follows lsn fresh = grind (arith, filter-append, fresh_entries, eq-eqb, chain_start, off_nothing)

  pub entries_push : (e : Entry) → entries_of (txn_of e) (with log e) ≡ entries_of (txn_of e) log ++ e ∷ []
  entries_push e = filter_push (is_of (txn_of e)) log e (eq-eqb (txn_of e) (txn_of e) refl)

  -- a record that goes on with its transaction
  pub chain_more : (e : Entry) → IsLoserChain (txn_of e) (entries_of (txn_of e) log) → Continues (entries_of (txn_of e) log) e → IsLoserChain (txn_of e) (entries_of (txn_of e) (with log e))
  chain_more e chain c = subst (IsLoserChain (txn_of e)) (sym (entries_push e)) (chain_push (txn_of e) (entries_of (txn_of e) log) e chain c)

  pub update_follows : (lsn t prev page slot : ℕ) (before after : Content) → 32 * page + slot < 32 * length pages → IsOpen m log t →
      IsUndoable log → IsLoserChain t (entries_of t log) → prev ≡ last_lsn (entries_of t log) →
      IsFreeFor log t (32 * page + slot) → before ≡ shown log pages (32 * page + slot) →
      HasOpenRoom (with log (record { lsn = lsn; rec = Update t prev page slot before after })) pages ((32 * page + slot) / 32) →
      Follows m pages log (record { lsn = lsn; rec = Update t prev page slot before after })
  update_follows lsn t prev page slot before after within lives undoable chain last free is room = record {
    in_table = λ number h. subst (λ n. n < 32 * length pages) (same_Some (32 * page + slot) number h) within;
    of_open = λ other. lives;
    can_be_undone = λ loser. chain_more (record { lsn = lsn; rec = Update t prev page slot before after }) chain (record {
      linked = last;
      undoes = tt;
      begins_there = λ number h n. subst (λ k. ShowsLast before (last_on (entries_of t log) k)) (same_Some (32 * page + slot) number n)
          (shown_begins log pages t (32 * page + slot) before undoable lives.not_closed is);
    });
    held_off = free_off log t (32 * page + slot) (record { lsn = lsn; rec = Update t prev page slot before after }) refl refl free;
    from_shown = λ number h n. is ∙ ap (shown log pages) (same_Some (32 * page + slot) number n);
    ends_undone = λ h. absurd (grind arith);
    room_in_page = λ number h n.
        subst (λ k. HasOpenRoom (with log (record { lsn = lsn; rec = Update t prev page slot before after })) pages (k / 32)) (same_Some (32 * page + slot) number n) room;
  }

  pub clr_follows : (lsn t prev undo_next page slot : ℕ) (after : Content) (u : Entry) (rest : List Entry) → 32 * page + slot < 32 * length pages → IsOpen m log t →
      IsLoserChain t (entries_of t log) → prev ≡ last_lsn (entries_of t log) →
      left_open log t ≡ u ∷ rest → Compensates (Clr t prev undo_next page slot after) u.rec →
      AllByRecursion (λ v. HoldsOff log v (record { lsn = lsn; rec = Clr t prev undo_next page slot after })) log →
      Follows m pages log (record { lsn = lsn; rec = Clr t prev undo_next page slot after })
  clr_follows lsn t prev undo_next page slot after u rest within lives chain last next back off = record {
    in_table = λ number h. subst (λ n. n < 32 * length pages) (same_Some (32 * page + slot) number h) within;
    of_open = λ other. lives;
    can_be_undone = λ loser. chain_more (record { lsn = lsn; rec = Clr t prev undo_next page slot after }) chain
        (record { linked = last; undoes = subst (λ (l : List Entry). Undoes l (Clr t prev undo_next page slot after)) (sym next) back; begins_there = λ number h. absurd (grind arith) });
    held_off = off;
    from_shown = λ number h. absurd (grind arith);
    ends_undone = λ h. absurd (grind arith);
    room_in_page = λ number h. absurd (grind arith);
  }

  closed_no_loser : (e : Entry) → is_closing e.rec ≡ true → CanBeUndone (with log e) (txn_of e)
  closed_no_loser e h loser = grind (arith, common_steps)

  pub commit_follows : (lsn t n : ℕ) → IsOpen m log t → Follows m pages log (record { lsn = lsn; rec = Commit t n })
  commit_follows lsn t n lives = grind (arith, common_steps, closed_no_loser, off_nothing)

  pub end_follows : (lsn t : ℕ) → IsOpen m log t → IsUndone log t → Follows m pages log (record { lsn = lsn; rec = End t })
  end_follows lsn t lives undone = grind (arith, common_steps, closed_no_loser, off_nothing)
