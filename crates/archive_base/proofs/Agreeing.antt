-- The stream behind a sound log stands for it.
use Rattle.std.proofs.lemmas.Grind.{common_steps}
use Rattle.std.proofs.Common.{◌≡◌, ℕ, ◌+◌, ◌*◌, ◌<◌, ◌≤◌, ◌==◌, Bool, true, false, cond, not, ◌&&◌, ◌||◌, List, [], ◌∷◌, ◌++◌, length, map, refl, sym, ap, subst, ◌∙◌, arith}
use Rattle.std.specs.Prelude.{Option, Some, None, IsTrue, find, flat_map, option_map, unwrap_or, filter}
use Rattle.std.specs.List.{AllByRecursion, list_any}
use Rattle.std.specs.Option.{option_or}
use Rattle.std.proofs.lemmas.Bool.{and_left, and_right, eqb-true, eq-eqb}
use Rattle.std.proofs.lemmas.List.{ext_get_or}
use Rattle.std.proofs.lemmas.List.FromFn.{length-map-range_with_len, get_or-map-range_with_len}
use Rattle.std.proofs.lemmas.Option.{same_Some, none-some}
use Rattle.std_lemmas.proofs.AllOf.{all_both, all_filter, all_map, all_weaker}
use Rattle.record_model.specs.State.{Content, Write, content_at, last_write, table_with}
use Rattle.log_records.specs.Log.{Entry, after_of, before_of, entries_of, first_update, is_closed, shown_by, slot_at, table_of, value_of, is_loser, is_of, is_on, is_update, last_on, last_where, shown, txn_of}
use Rattle.log_records.specs.Unfinished.{is_begin, left_open, losers}
use Rattle.log_records.specs.Sound.{IsSound, LogicalImage}
use Rattle.log_laws.specs.Follow.{IsUndoable, shown_table, writes_in}
use Rattle.log_laws.proofs.Chains.{RunsFrom, Runs, runs_in_chain, top_on}
use Rattle.log_laws.proofs.Listing.{loser_is_listed}
use Rattle.log_laws.proofs.Losers.{left_are_its_updates, left_keep, loser_is_not_closed}
use Rattle.log_laws.proofs.Parts.{all_below, are_losers}
use Rattle.log_laws.proofs.Tables.{content_with, last_write_of, length_table_with}
use Rattle.log_laws.proofs.Values.{is_loser_with, last_is_own, last_of_own, update_of, value_closed}
use Rattle.log_records.proofs.Values.{content_of_table, length_table_of}
use Rattle.std_lemmas.proofs.Options.{option_or_none}
use Rattle.log_archive.specs.Accepted.{Standing, Unclosed, is_unclosed, put_in}
use Rattle.log_archive.specs.Values.{Agrees, AgreesAt, Ascends, HasNotWritten, HasWritten, IsOpenAt, Wrote, is_at, undone}
use Rattle.log_archive.proofs.Ascending.{last_put, put_ascends}
use Rattle.archive_base.specs.Base.{base_stream, put_all, standing_by, unclosed_at, unclosed_in}

-- Nets.

pub all_ascend : (net writes : List Write) → Ascends net → Ascends (put_all net writes)
all_ascend net [] ascends = ascends
all_ascend net (write ∷ writes) ascends = all_ascend (put_in write net) writes (put_ascends write net ascends)

pub last_of_all : (net writes : List Write) (number : ℕ) → Ascends net → last_write (put_all net writes) number ≡ option_or (last_write writes number) (last_write net number)
last_of_all net [] number ascends = refl
last_of_all net (write ∷ writes) number ascends = grind (arith, common_steps, last_put, put_ascends, (last_of_all (put_in write net) writes number (put_ascends write net ascends)))

-- what a transaction has left last on a number
pub net_says : (log : List Entry) (t number : ℕ) → last_write (unclosed_at log t).net number ≡ option_map (λ (x : Entry). after_of x.rec) (last_where (is_on number) (entries_of t log))
net_says log t number = grind (arith, common_steps, last_of_all, last_write_of)

-- what two lists of writes leave
last_of_both : (a b : List Write) (number : ℕ) → last_write (a ++ b) number ≡ option_or (last_write b number) (last_write a number)
last_of_both [] b number = sym (option_or_none (last_write b number))
last_of_both (w ∷ a) b number = grind (arith, common_steps, (last_of_both a b number))

-- Lists of transactions.

pub find_listed : (log : List Entry) (t : ℕ) (ns : List ℕ) → find (is_unclosed t) (map (unclosed_at log) ns) ≡ cond (list_any (λ n. n == t) ns) (Some (unclosed_at log t)) None
find_listed log t [] = refl
find_listed log t (n ∷ ns) = by (n == t) refl (find_listed log t ns)
  where
    by : (b : Bool) → (n == t) ≡ b → find (is_unclosed t) (map (unclosed_at log) ns) ≡ cond (list_any (λ n. n == t) ns) (Some (unclosed_at log t)) None →
        cond b (Some (unclosed_at log n)) (find (is_unclosed t) (map (unclosed_at log) ns)) ≡ cond (b || list_any (λ n. n == t) ns) (Some (unclosed_at log t)) None
    by true at rest = ap (λ m. Some (unclosed_at log m)) (eqb-true n t at)
    by false at rest = rest

-- Standing Updates.

on_update : (number : ℕ) (u : Entry) → is_update u.rec ≡ true → is_at number (standing_by u.rec) ≡ is_on number u
on_update number u is = grind (arith, common_steps)

before_update : (u : Entry) → is_update u.rec ≡ true → (standing_by u.rec).before ≡ before_of u.rec
before_update u is = grind (arith, common_steps)

abbrev pub as_standing : List Entry → List Standing
as_standing us = map (λ (u : Entry). standing_by u.rec) us

-- undoing Updates that each begin with what those before it leave
pub leads_back : (number : ℕ) (first : Content) (us : List Entry) → AllByRecursion (λ u. is_update u.rec ≡ true) us → RunsFrom number first us → undone number (top_on number first us) (as_standing us) ≡ first
leads_back number first [] are runs = refl
leads_back number first (u ∷ us) are runs = by (is_on number u) refl (leads_back number first us are.1 runs.1)
  where
    by : (b : Bool) → is_on number u ≡ b → undone number (top_on number first us) (as_standing us) ≡ first → undone number (top_on number first (u ∷ us)) (as_standing (u ∷ us)) ≡ first
    by true on rest =
        ap (λ c. undone number c (as_standing us)) (ap (λ b. cond b (standing_by u.rec).before (top_on number first (u ∷ us))) (on_update number u are.0 ∙ on) ∙ before_update u are.0 ∙ runs.0 on) ∙ rest
    by false off rest =
        ap (λ c. undone number c (as_standing us)) (ap (λ b. cond b (standing_by u.rec).before (top_on number first (u ∷ us))) (on_update number u are.0 ∙ off)
        ∙ ap (λ b. unwrap_or (option_map (λ (x : Entry). after_of x.rec) (cond b (Some u) (find (is_on number) us))) first) off) ∙ rest

-- Of one number.

module _ (p : LogicalImage) (sound : IsSound p) where
  pub undoable : IsUndoable p.log
  undoable = record { undone = sound.losers_can_be_undone; held = sound.losers_hold_others_off }

  early_records : AllByRecursion (λ e. e.lsn < 512 * p.hi + 2) p.log
  early_records = all_weaker (λ e. e.lsn < 512 * p.hi) (λ e. e.lsn < 512 * p.hi + 2) (λ e less. omega (arith, less)) p.log (all_below (512 * p.master.kept) p.log (512 * p.hi) sound.in_order)

  begun_before : AllByRecursion (λ e. txn_of e < 512 * p.hi + 2) p.log
  begun_before = all_both (λ e. e.lsn < 512 * p.hi + 2) (λ e. txn_of e ≤ e.lsn) (λ e. txn_of e < 512 * p.hi + 2) (λ e less at. omega (arith, less, at)) p.log early_records sound.begun

  pub losers_early : AllByRecursion (λ t. t.begin < 512 * p.hi + 2) (unclosed_in p.log)
  losers_early =
      all_map (λ t. t.begin < 512 * p.hi + 2) (unclosed_at p.log) (losers p.log)
      (all_map (λ n. n < 512 * p.hi + 2) (λ (e : Entry). e.lsn) (filter (λ e. is_begin e.rec && not (is_closed p.log e.lsn)) p.log)
      (all_filter (λ e. e.lsn < 512 * p.hi + 2) (λ e. is_begin e.rec && not (is_closed p.log e.lsn)) p.log early_records))

  -- an unfinished transaction is the one that the last record is of, on each number that it has written
  pub writes_last : (t number : ℕ) (x : Entry) → is_loser p.log t ≡ true → last_where (is_on number) (entries_of t p.log) ≡ Some x →
      (last_on p.log number ≡ Some x) × (txn_of x ≡ t) × ((u : Entry) × (first_update p.log t number ≡ Some u))
  writes_last t number x loser last =
      let lives = loser_is_not_closed p.log t loser in
      let first = update_of p.log t number x (sound.losers_can_be_undone t) lives last in
      let own = last_is_own p.log t number first.0 sound.losers_hold_others_off lives first.1 in
      let same : own.0 ≡ x = same_Some _ _ (sym (last_of_own p.log t number own.0 own.1 own.2) ∙ last) in
      (own.1 ∙ ap Some same, sym (ap txn_of same) ∙ own.2, first)

  module _ (t number : ℕ) (loser : is_loser p.log t ≡ true) where
    abbrev us : List Entry
    us = left_open p.log t

    are_updates : AllByRecursion (λ u. is_update u.rec ≡ true) us
    are_updates = all_weaker (λ u. (is_update u.rec ≡ true) × (txn_of u ≡ t)) (λ u. is_update u.rec ≡ true) (λ u both. both.0) us (left_are_its_updates p.log t)

    wrote_none : last_where (is_on number) (entries_of t p.log) ≡ None → HasNotWritten p.log number (unclosed_at p.log t)
    wrote_none none = record {
      none = off;
      stays = all_map (λ u. is_at number u ≡ false) (λ (u : Entry). standing_by u.rec) us
          (all_both (λ u. (is_of t u && is_on number u) ≡ false) (λ u. (is_update u.rec ≡ true) × (txn_of u ≡ t)) (λ u. is_at number (standing_by u.rec) ≡ false)
          (λ u miss own. on_update number u own.0 ∙ sym (ap (λ b. b && is_on number u) (eq-eqb (txn_of u) t own.1)) ∙ miss) us
          (left_keep (λ u. (is_of t u && is_on number u) ≡ false) p.log t off) (left_are_its_updates p.log t));
    }
      where
        each : (xs : List Entry) → last_where (is_on number) (filter (is_of t) xs) ≡ None → AllByRecursion (λ e. (is_of t e && is_on number e) ≡ false) xs
        each [] miss = tt
        each (x ∷ xs) miss = by (is_of t x) refl miss (each xs)
          where
            two : (a b : Option Entry) → option_or a b ≡ None → (a ≡ None) × (b ≡ None)
            two None b is = (refl, is)
            two (Some a) b is = let bad : Some a ≡ None = is in cc

            one_off : (b : Bool) → cond b (Some x) None ≡ None → b ≡ false
            one_off true is = let bad : Some x ≡ None = is in cc
            one_off false is = refl

            by : (b : Bool) → is_of t x ≡ b → last_where (is_on number) (cond b (x ∷ filter (is_of t) xs) (filter (is_of t) xs)) ≡ None → (last_where (is_on number) (filter (is_of t) xs) ≡ None → AllByRecursion (λ e. (is_of t e && is_on number e) ≡ false) xs) → AllByRecursion (λ e. (is_of t e && is_on number e) ≡ false) (x ∷ xs)
            by true own is later = let parts = two (last_where (is_on number) (filter (is_of t) xs)) (cond (is_on number x) (Some x) None) is in (and_right (is_of t x) (is_on number x) (one_off (is_on number x) parts.1), later parts.0)
            by false other is later = (and_left (is_of t x) (is_on number x) other, later is)

        off : AllByRecursion (λ e. (is_of t e && is_on number e) ≡ false) p.log
        off = each p.log none

    wrote_some : (x : Entry) → last_where (is_on number) (entries_of t p.log) ≡ Some x → HasWritten p.log number (unclosed_at p.log t) (after_of x.rec)
    wrote_some x last =
        let w = writes_last t number x loser last in
        let first = w.2 in
        let runs : Runs number (Some first.0) (Some x) us = subst (λ (o : Option Entry). Runs number o (Some x) us) first.1
        (subst (λ (o : Option Entry). Runs number (first_update p.log t number) o us) last (runs_in_chain number t (entries_of t p.log) (sound.losers_can_be_undone t loser))) in
        record {
          last = x;
          last_is = w.0;
          own = w.1;
          leaves = refl;
          first = first.0;
          first_is = first.1;
          leads_back = ap (λ c. undone number c (as_standing us)) runs.1 ∙ leads_back number (before_of first.0.rec) us are_updates runs.0;
        }

    pub loser_is_open : IsOpenAt p.log number (unclosed_at p.log t)
    loser_is_open = record {
      unclosed = loser_is_not_closed p.log t loser;
      ascends = all_ascend [] (writes_in t p.log) tt;
      wrote = by (last_where (is_on number) (entries_of t p.log)) refl;
    }
      where
        by : (o : Option Entry) → last_where (is_on number) (entries_of t p.log) ≡ o → Wrote p.log number (unclosed_at p.log t) (last_write (unclosed_at p.log t).net number)
        by None last = subst (Wrote p.log number (unclosed_at p.log t)) (sym (net_says p.log t number ∙ ap (option_map (λ (x : Entry). after_of x.rec)) last)) (wrote_none last)
        by (Some x) last = subst (Wrote p.log number (unclosed_at p.log t)) (sym (net_says p.log t number ∙ ap (option_map (λ (x : Entry). after_of x.rec)) last)) (wrote_some x last)

  shows : (number : ℕ) → number < 32 * length p.pages → content_at (shown_table p.log p.pages) number ≡ shown p.log p.pages number
  shows number within = get_or-map-range_with_len (shown p.log p.pages) 0 (32 * length p.pages) number number None within (omega arith)

  agrees_at : (number : ℕ) → number < 32 * length p.pages → AgreesAt p.log p.pages number (512 * p.hi + 2) (base_stream p)
  agrees_at number within = record {
    shows = shows number within;
    closed = closed;
    opened = all_map (IsOpenAt p.log number) (unclosed_at p.log) (losers p.log) (all_weaker (λ t. IsTrue (is_loser p.log t)) (λ t. IsOpenAt p.log number (unclosed_at p.log t)) (λ t loser. loser_is_open t number loser) (losers p.log) (are_losers p.log));
    begun = begun_before;
    early = losers_early;
  }
    where
      closed : (x : Entry) → last_on p.log number ≡ Some x → find (is_unclosed (txn_of x)) (unclosed_in p.log) ≡ None → is_closed p.log (txn_of x) ≡ true
      closed x last none = by (is_closed p.log (txn_of x)) refl
        where
          by : (b : Bool) → is_closed p.log (txn_of x) ≡ b → is_closed p.log (txn_of x) ≡ true
          by true is = is
          by false lives =
              let loser = is_loser_with p.log (txn_of x) number x lives (last_of_own p.log (txn_of x) number x last refl) in
              let there = find_listed p.log (txn_of x) (losers p.log) ∙ ap (λ b. cond b (Some (unclosed_at p.log (txn_of x))) None) (loser_is_listed p.log (txn_of x) undoable loser) in
              let bad : None ≡ Some (unclosed_at p.log (txn_of x)) = sym none ∙ there in cc

  pub base_agrees : Agrees p.log p.pages (base_stream p)
  base_agrees = record {
    size = length-map-range_with_len (shown p.log p.pages) 0 (32 * length p.pages);
    at = agrees_at;
  }

  -- What shows is the table with what they have left.

  -- what their nets leave on a number, or none of them does
  abbrev Leaves : ℕ → List Unclosed → Option Content → Type 0
  Leaves number ts None = AllByRecursion (λ t. last_write t.net number ≡ None) ts
  Leaves number ts (Some left) = shown p.log p.pages number ≡ left

  leaves : (number : ℕ) (ts : List Unclosed) → AllByRecursion (IsOpenAt p.log number) ts → Leaves number ts (last_write (flat_map (λ (t : Unclosed). t.net) ts) number)
  leaves number [] opened = tt
  leaves number (t ∷ ts) opened =
      subst (Leaves number (t ∷ ts)) (sym (last_of_both t.net (flat_map (λ (u : Unclosed). u.net) ts) number))
      (by (last_write (flat_map (λ (u : Unclosed). u.net) ts) number) (last_write t.net number) refl (leaves number ts opened.1))
    where
      by : (later own : Option Content) → last_write t.net number ≡ own → Leaves number ts later → Leaves number (t ∷ ts) (option_or later own)
      by (Some left) own says rest = rest
      by None None says rest = (says, rest)
      by None (Some left) says rest =
          let w : HasWritten p.log number t left = subst (Wrote p.log number t) says opened.0.wrote in
          ap (shown_by (slot_at p.pages number)) w.last_is ∙ w.leaves

  net_of_found : (number t : ℕ) (ns : List ℕ) → AllByRecursion (λ u. last_write u.net number ≡ None) (map (unclosed_at p.log) ns) → list_any (λ n. n == t) ns ≡ true → last_write (unclosed_at p.log t).net number ≡ None
  net_of_found number t [] none there = let bad : false ≡ true = there in cc
  net_of_found number t (n ∷ ns) none there = by (n == t) refl there (net_of_found number t ns none.1)
    where
      by : (b : Bool) → (n == t) ≡ b → (b || list_any (λ n. n == t) ns) ≡ true → (list_any (λ n. n == t) ns ≡ true → last_write (unclosed_at p.log t).net number ≡ None) → last_write (unclosed_at p.log t).net number ≡ None
      by true same is later = subst (λ m. last_write (unclosed_at p.log m).net number ≡ None) (eqb-true n t same) none.0
      by false other is later = later is

  shows_value : (number : ℕ) → AllByRecursion (λ t. last_write t.net number ≡ None) (unclosed_in p.log) → shown p.log p.pages number ≡ value_of p.log p.pages number
  shows_value number none = by_last (last_on p.log number) refl
    where
      by_last : (o : Option Entry) → last_on p.log number ≡ o → shown p.log p.pages number ≡ value_of p.log p.pages number
      by_last None last = grind arith
      by_last (Some x) last = by_open (is_closed p.log (txn_of x)) refl
        where
          by_open : (b : Bool) → is_closed p.log (txn_of x) ≡ b → shown p.log p.pages number ≡ value_of p.log p.pages number
          by_open true is = ap (shown_by (slot_at p.pages number)) last ∙ sym (value_closed p.log p.pages number x last is)
          by_open false lives =
              let own = last_of_own p.log (txn_of x) number x last refl in
              let loser = is_loser_with p.log (txn_of x) number x lives own in
              let says = net_says p.log (txn_of x) number ∙ ap (option_map (λ (y : Entry). after_of y.rec)) own in
              let nothing = net_of_found number (txn_of x) (losers p.log) none (loser_is_listed p.log (txn_of x) undoable loser) in
              let bad : Some (after_of x.rec) ≡ None = sym says ∙ nothing in absurd (none-some _ (sym bad))

  shows_with : (number : ℕ) → number < 32 * length p.pages → shown p.log p.pages number ≡ content_at (table_with (table_of p.log p.pages) (flat_map (λ (t : Unclosed). t.net) (unclosed_in p.log))) number
  shows_with number within =
      by (last_write (flat_map (λ (t : Unclosed). t.net) (unclosed_in p.log)) number) (leaves number (unclosed_in p.log) (agrees_at number within).opened)
      ∙ sym (content_with (table_of p.log p.pages) (flat_map (λ (t : Unclosed). t.net) (unclosed_in p.log)) number (subst (λ n. number < n) (sym (length_table_of p.log p.pages)) within))
    where
      by : (o : Option Content) → Leaves number (unclosed_in p.log) o → shown p.log p.pages number ≡ unwrap_or o (content_at (table_of p.log p.pages) number)
      by None none = shows_value number none ∙ sym (content_of_table p.log p.pages number within)
      by (Some left) is = is

  pub base_shows : shown_table p.log p.pages ≡ table_with (table_of p.log p.pages) (flat_map (λ (t : Unclosed). t.net) (unclosed_in p.log))
  base_shows =
      ext_get_or None (shown_table p.log p.pages) there (length-map-range_with_len (shown p.log p.pages) 0 (32 * length p.pages) ∙ sym (length_table_with (table_of p.log p.pages) (flat_map (λ (t : Unclosed). t.net) (unclosed_in p.log)) ∙ length_table_of p.log p.pages))
      (λ number within. each number (subst (λ n. number < n) (length-map-range_with_len (shown p.log p.pages) 0 (32 * length p.pages)) within))
    where
      there : List Content
      there = table_with (table_of p.log p.pages) (flat_map (λ (t : Unclosed). t.net) (unclosed_in p.log))

      each : (number : ℕ) → number < 32 * length p.pages → content_at (shown_table p.log p.pages) number ≡ content_at there number
      each number within = shows number within ∙ shows_with number within
