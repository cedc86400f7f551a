-- A new master keeps a logical image sound, and what it means.
use Rattle.std.proofs.lemmas.Grind.{common_steps}
use Rattle.log_laws.proofs.Names.{◌≡◌, ℕ, ◌+◌, ◌-◌, ◌*◌, ◌/◌, ◌%◌, ◌<◌, ◌≤◌, ⊎_elim, Bool, true, false, cond, not, ◌&&◌, ◌||◌, List, [], ◌∷◌, ◌++◌, length, map, drop, Some, None, refl, sym, ap, subst, ◌∙◌, append_assoc, arith, or_left, or_right, or_parts, and_from, and_parts, cases_Bool, eqb-true, leb-true, ltb-true, lt-ltb, le-leb, lt-leb, append-nil, length-append, drop_at, filter-append, filter_map-append, list_any-append, AllByRecursion, list_any, range_with_len, option_or, Option, filter, find, IsTrue, nat_lt, nat_le, last_where-append, all_last, page_and_slot, Entry, Version, version_at, slot_at, txn_of, is_of, is_on, is_loser, is_closed, is_closing, entries_of, updates_in, last_where, last_on, first_update, number_of, before_first, after_of, value_after, value_of, shown, longest, open_length, put_back, LogicalImage, IsSound, Means, InTurn, IsOfOpenTransaction, IsOrderly, AreOrderly, IsLoserChain, Pairwise, HoldsOff, FitsLog, ShowsLast, IsInTable, HasRoomInPage, before_block, from_block, last_known, redone, active_in, commit_number, commit_numbers, commit_count, is_begin, losers, owed, Content, content_at, length_of, all_left, all_right, all_both, all_filter, all_weaker, all_passed, map_same, filter_all}
use Rattle.std.proofs.lemmas.Nat.{mod_below}
use Rattle.log_laws.specs.NewImage.{with_master, MayCheckpoint}
use Rattle.log_laws.proofs.Lists.{all_find, any_find, find_passes, last_passes}
use Rattle.log_laws.proofs.Values.{closed_push, value_same, value_closed, last_of_own, is_loser_with, is_number-Some}
use Rattle.log_laws.proofs.Orders.{filter_none}
use Rattle.log_laws.proofs.Parts.{begin_is, are_losers, commits_parts, all_made, filter_same, sum_same, pairwise_right, pairwise_within, InTurn-right, parts_at, all_below, in_order_filter, in_order_raise, last_of_both', drop_range}
use Rattle.log_laws.proofs.Rooms.{flat_same, known_on, shows_itself, total_within}
use Rattle.log_laws.proofs.Versions.{table_same}

abbrev first_lsn : List Entry → ℕ
first_lsn [] = 0
first_lsn (e ∷ entries) = e.lsn

-- The closing record of a transaction that has a kept record is kept.

still_open : (before acc xs : List Entry) → ((t : ℕ) → is_closed before t ≡ true → is_closed acc t ≡ true) → InTurn IsOrderly acc xs → AllByRecursion (λ e. is_closed before (txn_of e) ≡ false) xs
still_open before acc [] c h = grind arith
still_open before acc (e ∷ xs) c h = grind (arith, cases_Bool, closed_push, or_left, (still_open before (acc ++ e ∷ []) xs (λ t closed. closed_push acc e t ∙ or_left (is_closed acc t) ((is_of t e && is_closing e.rec) || false) (c t closed)) h.1))

in_parts : (p : LogicalImage) (kept : ℕ) → IsSound p → p.log ≡ before_block kept p.log ++ from_block kept p.log
in_parts p kept sound = parts_at kept (512 * p.master.kept) p.log (512 * p.hi) sound.in_order

orderly_part : (p : LogicalImage) (kept : ℕ) → IsSound p → AreOrderly p.log → InTurn IsOrderly (before_block kept p.log) (from_block kept p.log)
orderly_part p kept sound orderly = InTurn-right IsOrderly [] (before_block kept p.log) (from_block kept p.log) (subst (InTurn IsOrderly []) (in_parts p kept sound) orderly)

orderly_open : (p : LogicalImage) (kept : ℕ) → IsSound p → AreOrderly p.log → AllByRecursion (λ e. is_closed (before_block kept p.log) (txn_of e) ≡ false) (from_block kept p.log)
orderly_open p kept sound orderly = still_open (before_block kept p.log) (before_block kept p.log) (from_block kept p.log) (λ t h. h) (orderly_part p kept sound orderly)

-- a log keeps its order where records before it are left out
orderly_without : (before acc xs : List Entry) → InTurn IsOrderly (before ++ acc) xs → InTurn IsOrderly acc xs
orderly_without before acc [] h = grind arith
orderly_without before acc (e ∷ xs) h = grind (arith, or_parts, list_any-append, append_assoc, (orderly_without before (acc ++ e ∷ []) xs (subst (λ (l : List Entry). InTurn IsOrderly l xs) (append_assoc before acc (e ∷ [])) h.1)))

pub master_is_orderly : (p : LogicalImage) (kept : ℕ) → IsSound p → AreOrderly p.log → AreOrderly (with_master p kept).log
master_is_orderly p kept sound orderly =
    orderly_without (before_block kept p.log) [] (from_block kept p.log) (subst (λ (l : List Entry). InTurn IsOrderly l (from_block kept p.log)) (sym (append-nil (before_block kept p.log))) (orderly_part p kept sound orderly))

module _ (p : LogicalImage) (kept : ℕ) (sound : IsSound p) (may : MayCheckpoint p kept)
    (open_kept : AllByRecursion (λ e. is_closed (before_block kept p.log) (txn_of e) ≡ false) (from_block kept p.log)) where
  pub parts : p.log ≡ before_block kept p.log ++ from_block kept p.log
  parts = parts_at kept (512 * p.master.kept) p.log (512 * p.hi) sound.in_order

  left : (P : Entry → Type 0) → AllByRecursion P p.log → AllByRecursion P (before_block kept p.log)
  left P h = all_left P (before_block kept p.log) (from_block kept p.log) (subst (AllByRecursion P) parts h)

  right : (P : Entry → Type 0) → AllByRecursion P p.log → AllByRecursion P (from_block kept p.log)
  right P h = all_right P (before_block kept p.log) (from_block kept p.log) (subst (AllByRecursion P) parts h)

  is_old : AllByRecursion (λ e. e.lsn < 512 * kept) (before_block kept p.log)
  is_old = grind (arith, all_weaker, ltb-true, all_passed)

  is_kept : AllByRecursion (λ e. 512 * kept ≤ e.lsn) (from_block kept p.log)
  is_kept = grind (arith, all_weaker, leb-true, all_passed)

  closed_is : (t : ℕ) → is_closed p.log t ≡ (is_closed (before_block kept p.log) t || is_closed (from_block kept p.log) t)
  closed_is t = ap (λ (l : List Entry). is_closed l t) parts ∙ list_any-append (λ e. is_of t e && is_closing e.rec) (before_block kept p.log) (from_block kept p.log)

  closed_kept : (t : ℕ) → is_closed (before_block kept p.log) t ≡ false → is_closed p.log t ≡ is_closed (from_block kept p.log) t
  closed_kept t h = closed_is t ∙ ap (λ b. b || is_closed (from_block kept p.log) t) h

  open_here : (t : ℕ) → list_any (is_of t) (from_block kept p.log) ≡ true → is_closed (before_block kept p.log) t ≡ false
  open_here t h = grind (arith, common_steps, any_find, eqb-true, find_passes, all_find)

  -- the begins of unfinished transactions are kept
  begins_kept : AllByRecursion (λ e. (is_begin e.rec && not (is_closed p.log e.lsn)) ≡ true → 512 * kept ≤ e.lsn) p.log
  begins_kept = all_made (λ t. 512 * kept ≤ t) (λ (e : Entry). e.lsn) (λ e. is_begin e.rec && not (is_closed p.log e.lsn)) p.log may.losers_kept

  entries_parts : (t : ℕ) → entries_of t p.log ≡ entries_of t (before_block kept p.log) ++ entries_of t (from_block kept p.log)
  entries_parts t = ap (entries_of t) parts ∙ filter-append (is_of t) (before_block kept p.log) (from_block kept p.log)

  begin_late : (t : ℕ) → IsTrue (is_loser p.log t) → 512 * kept ≤ t
  begin_late t h = grind (arith, common_steps, all_filter, begins_kept, and_parts)

  -- so all records of unfinished ones are
  none_old : (t : ℕ) → IsTrue (is_loser p.log t) → entries_of t (before_block kept p.log) ≡ []
  none_old t h = by_first (entries_of t (before_block kept p.log)) refl
    where
      by_first : (es : List Entry) → entries_of t (before_block kept p.log) ≡ es → entries_of t (before_block kept p.log) ≡ []
      by_first [] e = e
      by_first (y ∷ es) e = absurd (
          let chain = sound.losers_can_be_undone t h in
          let same : y.lsn ≡ t = ap first_lsn (sym (entries_parts t ∙ ap (λ (l : List Entry). l ++ entries_of t (from_block kept p.log)) e) ∙ chain.begins) in
          let early = subst (AllByRecursion (λ x. x.lsn < 512 * kept)) e (all_filter (λ x. x.lsn < 512 * kept) (is_of t) (before_block kept p.log) is_old) in
          let early0 = early.0 in
          let late = begin_late t h in omega (arith, same, early0, late))

  entries_kept : (t : ℕ) → IsTrue (is_loser p.log t) → entries_of t p.log ≡ entries_of t (from_block kept p.log)
  entries_kept t h = entries_parts t ∙ ap (λ (l : List Entry). l ++ entries_of t (from_block kept p.log)) (none_old t h)

  loser_still : (t : ℕ) → IsTrue (is_loser (from_block kept p.log) t) → IsTrue (is_loser p.log t)
  loser_still t h = grind (arith, common_steps, and_parts, and_from, parts, list_any-append, or_right, closed_kept, open_here)

  -- The unfinished transactions are the same, with the same records.

  and_same : (a b c : Bool) → (a ≡ true → b ≡ c) → (a && b) ≡ (a && c)
  and_same x0 b c h = grind (arith, common_steps)

  losers_same : losers p.log ≡ losers (from_block kept p.log)
  losers_same =
      ap (map (λ (e : Entry). e.lsn))
      (ap (filter (λ e. is_begin e.rec && not (is_closed p.log e.lsn))) parts
      ∙ filter-append (λ e. is_begin e.rec && not (is_closed p.log e.lsn)) (before_block kept p.log) (from_block kept p.log)
      ∙ ap (λ (l : List Entry). l ++ filter (λ e. is_begin e.rec && not (is_closed p.log e.lsn)) (from_block kept p.log))
      (filter_none (λ e. is_begin e.rec && not (is_closed p.log e.lsn)) (before_block kept p.log)
      (all_both (λ e. (is_begin e.rec && not (is_closed p.log e.lsn)) ≡ true → 512 * kept ≤ e.lsn) (λ e. e.lsn < 512 * kept) (λ e. (is_begin e.rec && not (is_closed p.log e.lsn)) ≡ false)
      (λ e late early. ⊎_elim (λ t. absurd (let l = late t in omega (arith, l, early))) (λ f. f) (cases_Bool (is_begin e.rec && not (is_closed p.log e.lsn))))
      (before_block kept p.log) (left (λ e. (is_begin e.rec && not (is_closed p.log e.lsn)) ≡ true → 512 * kept ≤ e.lsn) begins_kept) is_old))
      ∙ filter_same (λ e. is_begin e.rec && not (is_closed p.log e.lsn)) (λ e. is_begin e.rec && not (is_closed (from_block kept p.log) e.lsn)) (from_block kept p.log)
      (all_weaker (λ e. is_closed (before_block kept p.log) (txn_of e) ≡ false) (λ e. (is_begin e.rec && not (is_closed p.log e.lsn)) ≡ (is_begin e.rec && not (is_closed (from_block kept p.log) e.lsn)))
      (λ e h. and_same (is_begin e.rec) (not (is_closed p.log e.lsn)) (not (is_closed (from_block kept p.log) e.lsn))
      (λ b. ap not (closed_kept e.lsn (subst (λ t. is_closed (before_block kept p.log) t ≡ false) (begin_is e b) h))))
      (from_block kept p.log) open_kept))

  active_same : active_in p.log ≡ active_in (from_block kept p.log)
  active_same = grind (arith, common_steps, map_same, all_weaker, entries_kept, are_losers, losers_same)

  owed_same : owed p.log ≡ owed (from_block kept p.log)
  owed_same = grind (arith, common_steps, sum_same, all_weaker, entries_kept, are_losers, losers_same)

  held_kept : Pairwise (HoldsOff (from_block kept p.log)) (from_block kept p.log)
  held_kept =
      pairwise_within (λ e. is_closed (before_block kept p.log) (txn_of e) ≡ false) (HoldsOff p.log) (HoldsOff (from_block kept p.log))
      (λ u x o h number a b c d. h number a b c (closed_kept (txn_of u) o ∙ d))
      (from_block kept p.log) open_kept
      (pairwise_right (HoldsOff p.log) (before_block kept p.log) (from_block kept p.log) (subst (Pairwise (HoldsOff p.log)) parts sound.losers_hold_others_off))

  -- What is known of a number.

  last_parts : (test : Entry → Bool) → last_where test p.log ≡ option_or (last_where test (from_block kept p.log)) (last_where test (before_block kept p.log))
  last_parts test = ap (last_where test) parts ∙ last_where-append test (before_block kept p.log) (from_block kept p.log)

  shows_kept : (v : Version) (slot number : ℕ) → ShowsLast (content_at v.slots slot) (last_known p.log v.lsn number) → ShowsLast (content_at v.slots slot) (last_known (from_block kept p.log) v.lsn number)
  shows_kept v slot number h = grind (arith, common_steps, last_parts)

  below : AllByRecursion (λ e. e.lsn < 512 * p.hi) (from_block kept p.log)
  below = right (λ e. e.lsn < 512 * p.hi) (all_below (512 * p.master.kept) p.log (512 * p.hi) sound.in_order)

  all_before : before_block p.hi (from_block kept p.log) ≡ from_block kept p.log
  all_before = grind (arith, filter_all, all_weaker, lt-ltb, below)

  none_behind : from_block p.hi (from_block kept p.log) ≡ []
  none_behind = grind (arith, filter_none, all_weaker, lt-leb, below)

  fits_kept : (page : ℕ) → FitsLog p page (version_at p.pages page) → FitsLog (with_master p kept) page (version_at p.pages page)
  fits_kept page f = record {
    logged = f.logged;
    shows = λ slot h. shows_kept (version_at p.pages page) slot (32 * page + slot) (f.shows slot h);
    knows = all_filter (λ e. (number : ℕ) → number_of e.rec ≡ Some number → number / 32 ≡ page → e.lsn ≤ (version_at p.pages page).lsn) (λ e. nat_lt e.lsn (512 * p.hi)) (from_block kept p.log)
        (right (λ e. (number : ℕ) → number_of e.rec ≡ Some number → number / 32 ≡ page → e.lsn ≤ (version_at p.pages page).lsn)
        (all_weaker (λ e. (number : ℕ) → number_of e.rec ≡ Some number → e.lsn ≤ (version_at p.pages (number / 32)).lsn) (λ e. (number : ℕ) → number_of e.rec ≡ Some number → number / 32 ≡ page → e.lsn ≤ (version_at p.pages page).lsn)
        (λ e h number n same. subst (λ q. e.lsn ≤ (version_at p.pages q).lsn) same (h number n)) p.log may.flushed));
  }

  -- Commits.

  count_same : commit_count (with_master p kept) ≡ commit_count p
  count_same = ap (λ (l : List Entry). commit_count p + length (commit_numbers l)) none_behind ∙ omega arith

  numbers_parts : commit_numbers p.log ≡ commit_numbers (before_block kept p.log) ++ commit_numbers (from_block kept p.log)
  numbers_parts = ap commit_numbers parts ∙ filter_map-append commit_number (before_block kept p.log) (from_block kept p.log)

  lengths : length (commit_numbers p.log) ≡ length (commit_numbers (before_block kept p.log)) + length (commit_numbers (from_block kept p.log))
  lengths = ap length numbers_parts ∙ length-append (commit_numbers (before_block kept p.log)) (commit_numbers (from_block kept p.log))

  lengths_at_redo : length (commit_numbers p.log) ≡ length (commit_numbers (before_block p.master.redo p.log)) + length (commit_numbers (from_block p.master.redo p.log))
  lengths_at_redo = commits_parts p.master.redo (512 * p.master.kept) p.log (512 * p.hi) sound.in_order

  run_on_kept : commit_numbers (from_block kept p.log) ≡ range_with_len (commit_count p + 1 - length (commit_numbers (before_block p.hi (from_block kept p.log)))) (length (commit_numbers (from_block kept p.log)))
  run_on_kept =
      let k = length (commit_numbers (before_block kept p.log)) in
      let before = length (commit_numbers (before_block p.master.redo p.log)) in
      let b = sound.commits.before_redo in
      sym (drop_at (commit_numbers (before_block kept p.log)) (commit_numbers (from_block kept p.log)) k refl)
      ∙ ap (drop k) (sym numbers_parts ∙ sound.commits.run_on)
      ∙ drop_range k (p.master.commits + 1 - before) (length (commit_numbers p.log))
      ∙ ap (λ n. range_with_len (p.master.commits + 1 - before + k) n) (omega (arith, lengths))
      ∙ ap (λ n. range_with_len n (length (commit_numbers (from_block kept p.log)))) (omega (arith, lengths, lengths_at_redo, b, ap (λ (l : List Entry). length (commit_numbers l)) all_before))

  opens_kept : (acc xs : List Entry) → AllByRecursion (λ e. e.lsn < 512 * p.hi) xs → InTurn (IsOfOpenTransaction (with_master p kept).master) acc xs
  opens_kept acc [] b = tt
  opens_kept acc (e ∷ xs) b = (λ late other. absurd (let c = b.0 in omega (arith, c, late)), opens_kept (acc ++ e ∷ []) xs b.1)

  -- What pages have room for: each version shows all, and what is left to be undone is the same.

  shows_known : (number lsn : ℕ) → number < 32 * length p.pages → ShowsLast (slot_at p.pages number) (last_known p.log (version_at p.pages (number / 32)).lsn number)
  shows_known number lsn within = grind (arith, page_and_slot, mod_below)

  all_known : (number lsn : ℕ) → (version_at p.pages (number / 32)).lsn ≤ lsn → last_known p.log lsn number ≡ last_on p.log number
  all_known number lsn later = grind (arith, known_on, all_weaker, is_number-Some)

  shows_all : (number lsn : ℕ) → number < 32 * length p.pages → (version_at p.pages (number / 32)).lsn ≤ lsn → ShowsLast (slot_at p.pages number) (last_known p.log lsn number)
  shows_all number lsn within later = grind (arith, all_known, shows_known)

  kept_shows : (slot : Content) (test : Entry → Bool) → ShowsLast slot (last_where test p.log) → ShowsLast slot (last_where test (from_block kept p.log))
  kept_shows slot test shows = grind (arith, last_parts)

  -- whatever is redone, the slot stays
  redone_stays : (number lsn : ℕ) → number < 32 * length p.pages → (version_at p.pages (number / 32)).lsn ≤ lsn → redone (with_master p kept) lsn number ≡ redone p (version_at p.pages (number / 32)).lsn number
  redone_stays number lsn within later =
      shows_itself (slot_at p.pages number) (last_known (from_block kept p.log) lsn number) (kept_shows (slot_at p.pages number) (λ e. is_on number e && nat_le e.lsn lsn) (shows_all number lsn within later))
      ∙ sym (shows_itself (slot_at p.pages number) (last_known p.log (version_at p.pages (number / 32)).lsn number) (shows_known number lsn within))

  shown_same : (number : ℕ) → number < 32 * length p.pages → shown (from_block kept p.log) p.pages number ≡ shown p.log p.pages number
  shown_same number within =
      let shows = subst (ShowsLast (slot_at p.pages number)) (all_known number (version_at p.pages (number / 32)).lsn (omega arith)) (shows_known number 0 within) in
      shows_itself (slot_at p.pages number) (last_on (from_block kept p.log) number) (kept_shows (slot_at p.pages number) (is_on number) shows)
      ∙ sym (shows_itself (slot_at p.pages number) (last_on p.log number) shows)

  put_back_same : (number : ℕ) → put_back (from_block kept p.log) number ≡ put_back p.log number
  put_back_same number = grind (arith, losers_same, flat_same, all_weaker, entries_kept, are_losers)

  room_kept : (page : ℕ) → page < length p.pages → HasRoomInPage (with_master p kept) page
  room_kept page exists = record {
    redone_fits = λ lsn later.
        let same = total_within page (λ number. length_of (redone (with_master p kept) lsn number)) (λ number. length_of (redone p (version_at p.pages page).lsn number))
        (λ slot less. subst (λ q. length_of (redone (with_master p kept) lsn (32 * page + slot)) ≤ length_of (redone p (version_at p.pages q).lsn (32 * page + slot))) (page_is slot less)
        (no_more (redone_stays (32 * page + slot) lsn (omega (arith, exists, less)) (subst (λ q. (version_at p.pages q).lsn ≤ lsn) (sym (page_is slot less)) later)))) in
        let old = (sound.room_in_pages page exists).redone_fits (version_at p.pages page).lsn (omega arith) in
        omega (arith, same, old);
    open_fits =
        let same = total_within page (open_length (from_block kept p.log) p.pages) (open_length p.log p.pages)
        (λ slot less. same_length (shown_same (32 * page + slot) (omega (arith, exists, less))) (put_back_same (32 * page + slot))) in
        let old = (sound.room_in_pages page exists).open_fits in
        omega (arith, same, old);
  }
    where
      page_is : (slot : ℕ) → slot < 32 → (32 * page + slot) / 32 ≡ page
      page_is slot less = omega (arith, less)

      no_more : {a b : Content} → a ≡ b → length_of a ≤ length_of b
      no_more {a} {b} same = let e = ap length_of same in omega (arith, e)

      same_length : {a b : Content} {us vs : List Content} → a ≡ b → us ≡ vs → longest (a ∷ us) ≤ longest (b ∷ vs)
      same_length {a} {b} {us} {vs} first rest = let e : longest (a ∷ us) ≡ longest (b ∷ vs) = λ i. longest (first i ∷ rest i) in omega (arith, e)

  pub master_with_sound : IsSound (with_master p kept)
  master_with_sound = record {
    kept_before_redo = may.kept_in_log;
    redo_before_end = omega arith;
    kept_is_live = let a = sound.kept_is_live in let b = may.kept_rises in omega (arith, a, b);
    in_order = in_order_raise (512 * p.master.kept) (512 * kept) (from_block kept p.log) (512 * p.hi) (let a = may.kept_in_log in omega (arith, a)) is_kept (in_order_filter (λ e. nat_le (512 * kept) e.lsn) (512 * p.master.kept) p.log (512 * p.hi) sound.in_order);
    in_table = right (IsInTable p.pages) sound.in_table;
    open_transactions = opens_kept [] (from_block kept p.log) below;
    begun = right (λ e. txn_of e ≤ e.lsn) sound.begun;
    losers_can_be_undone = λ t h. subst (IsLoserChain t) (entries_kept t (loser_still t h)) (sound.losers_can_be_undone t (loser_still t h));
    losers_hold_others_off = held_kept;
    versions_fit = λ page h. fits_kept page (sound.versions_fit page h);
    room_for_undo = let a = sound.room_for_undo in let b = may.kept_rises in omega (arith, a, b, owed_same);
    master_names_the_active = active_same ∙ ap active_in (sym all_before);
    commits = record {
      before_redo = let b = sound.commits.before_redo in omega (arith, b, lengths, lengths_at_redo, ap (λ (l : List Entry). length (commit_numbers l)) all_before);
      run_on = run_on_kept;
      fit = let f = sound.commits.fit in omega (arith, f, count_same);
    };
    room_in_pages = room_kept;
  }

  -- The table.

  -- a number whose records are all left out has the slot that the last of them wrote
  slot_is : (number : ℕ) (x : Entry) → number < 32 * length p.pages → last_on p.log number ≡ Some x → slot_at p.pages number ≡ after_of x.rec
  slot_is number x within last =
      let v = version_at p.pages (number / 32) in
      let on = is_number-Some number (number_of x.rec) (last_passes (is_on number) p.log x last) in
      let low = all_last (λ e. (n : ℕ) → number_of e.rec ≡ Some n → e.lsn ≤ (version_at p.pages (n / 32)).lsn) (is_on number) p.log x may.flushed last number on in
      let fits = sound.versions_fit (number / 32) (let q = page_and_slot number in omega (arith, q, within)) in
      subst (ShowsLast (slot_at p.pages number))
      (ap (last_known p.log v.lsn) (page_and_slot number) ∙ last_of_both' (is_on number) (λ e. nat_le e.lsn v.lsn) p.log x last (le-leb x.lsn v.lsn low))
      (fits.shows (number % 32) (mod_below number 32 (omega arith)))

  value_kept : (number : ℕ) → number < 32 * length p.pages → value_of (from_block kept p.log) p.pages number ≡ value_of p.log p.pages number
  value_kept number within = by_kept (last_on (from_block kept p.log) number) refl
    where
      L : List Entry
      L = from_block kept p.log

      last_is : last_on p.log number ≡ option_or (last_on (from_block kept p.log) number) (last_on (before_block kept p.log) number)
      last_is = last_parts (is_on number)

      by_old : last_on (from_block kept p.log) number ≡ None → (o : Option Entry) → last_on (before_block kept p.log) number ≡ o → value_of (from_block kept p.log) p.pages number ≡ value_of p.log p.pages number
      by_old none None e = ap (value_after (from_block kept p.log) number (slot_at p.pages number)) none ∙ sym (ap (value_after p.log number (slot_at p.pages number)) (last_is ∙ ap (λ (o : Option Entry). option_or o (last_on (before_block kept p.log) number)) none ∙ e))
      by_old none (Some x) e =
          let last : last_on p.log number ≡ Some x = last_is ∙ ap (λ (o : Option Entry). option_or o (last_on (before_block kept p.log) number)) none ∙ e in
          ap (value_after (from_block kept p.log) number (slot_at p.pages number)) none ∙ slot_is number x within last
          ∙ sym (value_closed p.log p.pages number x last (⊎_elim (λ c. c) (λ o. absurd (
          let loser = is_loser_with p.log (txn_of x) number x o (last_of_own p.log (txn_of x) number x last refl) in
          let never : None ≡ Some x = ap (last_where (is_on number)) (sym (none_old (txn_of x) loser)) ∙ last_of_own (before_block kept p.log) (txn_of x) number x e refl in grind arith)) (cases_Bool (is_closed p.log (txn_of x)))))

      by_kept : (o : Option Entry) → last_on (from_block kept p.log) number ≡ o → value_of (from_block kept p.log) p.pages number ≡ value_of p.log p.pages number
      by_kept None e = by_old e (last_on (before_block kept p.log) number) refl
      by_kept (Some x) e =
          let last : last_on p.log number ≡ Some x = last_is ∙ ap (λ (o : Option Entry). option_or o (last_on (before_block kept p.log) number)) e in
          let closed = closed_kept (txn_of x) (all_last (λ y. is_closed (before_block kept p.log) (txn_of y) ≡ false) (is_on number) (from_block kept p.log) x open_kept e) in
          ap (value_after (from_block kept p.log) number (slot_at p.pages number)) e
          ∙ ⊎_elim
          (λ c. ap (λ b. cond b (after_of x.rec) (before_first (first_update (from_block kept p.log) (txn_of x) number))) (sym closed ∙ c) ∙ sym (value_closed p.log p.pages number x last c))
          (λ o. value_same p.log (from_block kept p.log) (slot_at p.pages number) number x (sym closed)
          (ap (λ (es : List Entry). find (is_on number) (updates_in es)) (sym (entries_kept (txn_of x) (is_loser_with p.log (txn_of x) number x o (last_of_own p.log (txn_of x) number x last refl)))))
          ∙ sym (ap (value_after p.log number (slot_at p.pages number)) last))
          (cases_Bool (is_closed p.log (txn_of x)))

  pub master_with_means : (table : List Content) (count : ℕ) → Means p table count → Means (with_master p kept) table count
  master_with_means table count means = grind (arith, common_steps, table_same, value_kept, count_same)

pub master_is_sound : (p : LogicalImage) (kept : ℕ) → IsSound p → AreOrderly p.log → MayCheckpoint p kept → IsSound (with_master p kept)
master_is_sound p kept sound orderly may = master_with_sound p kept sound may (orderly_open p kept sound orderly)

pub master_means : (p : LogicalImage) (kept : ℕ) → IsSound p → AreOrderly p.log → MayCheckpoint p kept → (table : List Content) (count : ℕ) → Means p table count → Means (with_master p kept) table count
master_means p kept sound orderly may = master_with_means p kept sound may (orderly_open p kept sound orderly)

-- A master that keeps no block.

none_kept : (p : LogicalImage) → IsSound p → from_block p.hi p.log ≡ []
none_kept p sound =
    filter_none (λ e. nat_le (512 * p.hi) e.lsn) p.log
    (all_weaker (λ e. e.lsn < 512 * p.hi) (λ e. nat_le (512 * p.hi) e.lsn ≡ false) (λ e h. lt-leb (512 * p.hi) e.lsn h) p.log (all_below (512 * p.master.kept) p.log (512 * p.hi) sound.in_order))

empty_open : (p : LogicalImage) → IsSound p → AllByRecursion (λ e. is_closed (before_block p.hi p.log) (txn_of e) ≡ false) (from_block p.hi p.log)
empty_open p sound = subst (AllByRecursion (λ e. is_closed (before_block p.hi p.log) (txn_of e) ≡ false)) (sym (none_kept p sound)) tt

pub empty_master_is_sound : (p : LogicalImage) → IsSound p → MayCheckpoint p p.hi → IsSound (with_master p p.hi)
empty_master_is_sound p sound may = master_with_sound p p.hi sound may (empty_open p sound)

pub empty_master_means : (p : LogicalImage) → IsSound p → MayCheckpoint p p.hi → (table : List Content) (count : ℕ) → Means p table count → Means (with_master p p.hi) table count
empty_master_means p sound may = master_with_means p p.hi sound may (empty_open p sound)

pub empty_master_is_orderly : (p : LogicalImage) → IsSound p → AreOrderly (with_master p p.hi).log
empty_master_is_orderly p sound = subst AreOrderly (sym (none_kept p sound)) tt
