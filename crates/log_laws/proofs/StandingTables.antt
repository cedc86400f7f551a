-- What the writes of a transaction that stand leave of the table.
use Rattle.log_laws.proofs.Names.{◌≡◌, ℕ, ◌<◌, false, List, length, Some, None, refl, sym, ap, subst, ◌∙◌, arith, ext_get_or, list_any, Option, option_map, unwrap_or, IsUndoable, IsFreeFor, writes_in, standing_in, has_written, length_table_of, Entry, Version, is_on, is_closed, entries_of, updates_in, last_where, first_update, after_of, value_of, shown, table_of, IsLoserChain, left_open, Content, content_at, table_with, last_write}
use Rattle.log_laws.proofs.Appends.{has_written_is}
use Rattle.log_laws.proofs.Chains.{top_on, none_on, RunsFrom, Runs, runs_in_chain, any_in_chain}
use Rattle.log_laws.proofs.Shown.{shown_is_seen}
use Rattle.log_laws.proofs.Standing.{last_standing}
use Rattle.log_laws.proofs.Tables.{content_of_table, content_with, last_write_of, length_table_with}
use Rattle.log_laws.proofs.Values.{value_held}

-- Of an open transaction: what it has written last is what the last of its writes that stand has written, or what stood
-- before all of them.

module _ (log : List Entry) (pages : List Version) (t : ℕ) (undoable : IsUndoable log) (lives : is_closed log t ≡ false) (chain : IsLoserChain t (entries_of t log)) where
  pub last_stands : (number : ℕ) → unwrap_or (last_write (writes_in t log) number) (value_of log pages number) ≡ unwrap_or (last_write (standing_in t log) number) (value_of log pages number)
  last_stands number =
      ap (λ (o : Option Content). unwrap_or o (value_of log pages number)) (last_write_of (entries_of t log) number)
      ∙ by (first_update log t number) (last_where (is_on number) (entries_of t log)) refl (runs_in_chain number t (entries_of t log) chain)
      ∙ sym (ap (λ (o : Option Content). unwrap_or o (value_of log pages number)) (last_standing (left_open log t) number))
    where
      by : (f x : Option Entry) → first_update log t number ≡ f → Runs number f x (left_open log t) → unwrap_or (option_map (λ (u : Entry). after_of u.rec) x) (value_of log pages number) ≡ top_on number (value_of log pages number) (left_open log t)
      by None None first h = sym (none_on number (value_of log pages number) (left_open log t) h).0
      by (Some f) (Some x) first h = h.1 ∙ ap (λ (c : Content). top_on number c (left_open log t)) (sym (value_held log pages t number f undoable.held lives first))
      by None (Some x) first h = absurd h
      by (Some f) None first h = absurd h

  -- so its Commit writes what stands
  pub table_stands : table_with (table_of log pages) (writes_in t log) ≡ table_with (table_of log pages) (standing_in t log)
  table_stands =
      ext_get_or None (table_with table (writes_in t log)) (table_with table (standing_in t log))
      (length_table_with table (writes_in t log) ∙ sym (length_table_with table (standing_in t log)))
      (λ number within. each number (omega (arith, length_table_with table (writes_in t log), within)))
    where
      table : List Content
      table = table_of log pages

      each : (number : ℕ) → number < length table → content_at (table_with table (writes_in t log)) number ≡ content_at (table_with table (standing_in t log)) number
      each number within =
          let value = content_of_table log pages number (omega (arith, within, length_table_of log pages)) in
          content_with table (writes_in t log) number within ∙ ap (unwrap_or (last_write (writes_in t log) number)) value ∙ last_stands number
          ∙ sym (content_with table (standing_in t log) number within ∙ ap (unwrap_or (last_write (standing_in t log) number)) value)

  -- and that is what it sees
  pub shown_stands : (number : ℕ) → IsFreeFor log t number → shown log pages number ≡ unwrap_or (last_write (standing_in t log) number) (value_of log pages number)
  shown_stands number free = shown_is_seen log pages t number undoable lives free ∙ last_stands number

  -- each Update that is left begins with what those before it leave, and the first of them with the value
  pub left_begin_there : (number : ℕ) → RunsFrom number (value_of log pages number) (left_open log t)
  left_begin_there number = by (first_update log t number) (last_where (is_on number) (entries_of t log)) refl (runs_in_chain number t (entries_of t log) chain)
    where
      by : (f x : Option Entry) → first_update log t number ≡ f → Runs number f x (left_open log t) → RunsFrom number (value_of log pages number) (left_open log t)
      by None None first h = (none_on number (value_of log pages number) (left_open log t) h).1
      by (Some f) (Some x) first h = subst (λ (c : Content). RunsFrom number c (left_open log t)) (sym (value_held log pages t number f undoable.held lives first)) h.0
      by None (Some x) first h = absurd h
      by (Some f) None first h = absurd h

-- what a transaction has written are the records of its Updates, those that are compensated too
pub written_is : (log : List Entry) (t number : ℕ) → IsLoserChain t (entries_of t log) → has_written log t number ≡ list_any (is_on number) (updates_in (entries_of t log))
written_is log t number chain = has_written_is log t number ∙ any_in_chain number t (entries_of t log) chain
