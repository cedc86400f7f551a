-- What undoing a transaction reads.
use Rattle.std.proofs.lemmas.Grind.{common_steps}
use Rattle.log_laws.proofs.Names.{◌≡◌, ℕ, ◌+◌, ◌<◌, ◌≤◌, ◌||◌, true, cond, List, [], ◌∷◌, ◌++◌, length, drop, map, Some, refl, sym, ap, subst, ◌∙◌, append_assoc, arith, eq-eqb, eqb-true, ne_eqb, append-nil, length-append, filter-append, AllByRecursion, find, ◌==◌, ⊤, IsUnfinished, top_lsn, goes_back, IsLink, IsUndoChain, in_order_left, Entry, txn_of, is_of, is_update, is_loser, entries_of, updates_in, InTurn, IsInOrder, IsLoserChain, Continues, Compensates, Undoes, last_lsn, last_number, is_clr, clrs_in, open_by, open_updates, left_open, prev_of, LogRecord, Begin, Update, Clr, all_right, all_both, all_weaker, all_filter, all_passed, all_drop}
use Rattle.log_laws.proofs.Chains.{open_append}
use Rattle.log_laws.proofs.Orders.{all_from}
use Rattle.log_laws.proofs.Parts.{in_order_filter, all_below}
use Rattle.log_laws.proofs.Losers.{left_are_its_updates, left_keep, all_left_open, last_number_of}

-- Records by their LSNs.

last_below : (n from : ℕ) (entries : List Entry) (to : ℕ) → IsInOrder from entries to → 1 ≤ length entries → last_number n (map (λ e. e.lsn) entries) < to
last_below n from [] to order some = absurd (omega (arith, some))
last_below n from (x ∷ []) to order some = let b = order.1 in omega (arith, b)
last_below n from (x ∷ y ∷ entries) to order some = last_below x.lsn (x.lsn + 1) (y ∷ entries) to order.1 (omega arith)

all_up_to_last : (n from : ℕ) (entries : List Entry) (to : ℕ) → IsInOrder from entries to → AllByRecursion (λ e. e.lsn ≤ last_number n (map (λ x. x.lsn) entries)) entries
all_up_to_last n from [] to order = tt
all_up_to_last n from (x ∷ []) to order = (omega arith, tt)
all_up_to_last n from (x ∷ y ∷ entries) to order = grind (arith, (all_up_to_last x.lsn (x.lsn + 1) (y ∷ entries) to order.1))

abbrev IsFound : List Entry → Entry → Type 0
IsFound log e = find (λ x. x.lsn == e.lsn) log ≡ Some e

all_found : (from : ℕ) (log : List Entry) (to : ℕ) → IsInOrder from log to → AllByRecursion (IsFound log) log
all_found from [] to order = tt
all_found from (x ∷ log) to order = grind (arith, eq-eqb, all_both, ne_eqb, all_from, (all_found (x.lsn + 1) log to order.1))

pub found_by_lsn : (from to : ℕ) (earlier : List Entry) (e : Entry) (rest : List Entry) → IsInOrder from (earlier ++ e ∷ rest) to → find (λ x. x.lsn == e.lsn) (earlier ++ e ∷ rest) ≡ Some e
found_by_lsn from to earlier e rest order = grind (arith, all_right, all_found)

-- Along the records of a transaction.

-- what undoing reads from an LSN on, where these Updates are left and there are so many CLRs
record ReadsBack (log : List Entry) (t from : ℕ) (left : List Entry) (clrs : ℕ) : Type 0 where
  chain : List Entry
  is : IsUndoChain log t from chain
  reads : updates_in chain ≡ left
  few : length chain ≤ length left + clrs

reads_more : (log : List Entry) (t from : ℕ) (left : List Entry) (clrs more : ℕ) → clrs ≤ more → ReadsBack log t from left clrs → ReadsBack log t from left more
reads_more log t from left clrs more less r = record { chain = r.chain; is = r.is; reads = r.reads; few = let few = r.few in omega (arith, few, less) }

-- from the record before each Update that is left those are read that are left below it
abbrev AreBased : List Entry → ℕ → ℕ → List Entry → Type 0
AreBased log t clrs [] = ⊤
AreBased log t clrs (u ∷ rest) = ReadsBack log t (prev_of u.rec) rest clrs × (t ≤ prev_of u.rec) × (prev_of u.rec < u.lsn) × AreBased log t clrs rest

based_more : (log : List Entry) (t clrs more : ℕ) (us : List Entry) → clrs ≤ more → AreBased log t clrs us → AreBased log t more us
based_more log t clrs more [] less b = tt
based_more log t clrs more (u ∷ rest) less b = (reads_more log t (prev_of u.rec) rest clrs more less b.0, b.1, b.2, based_more log t clrs more rest less b.3)

record Stand (log : List Entry) (t last : ℕ) (left : List Entry) (clrs : ℕ) : Type 0 where
  late : t ≤ last
  here : ReadsBack log t last left clrs
  based : AreBased log t clrs left

-- a record in the log, of this transaction
abbrev IsThere : List Entry → ℕ → Entry → Type 0
IsThere log t e = IsFound log e × (txn_of e ≡ t)

undone_prev : (c u : LogRecord) → Compensates c u → goes_back c ≡ prev_of u
undone_prev x0 x1 h = grind (arith, common_steps)

-- one record more
step : (log : List Entry) (t last : ℕ) (us : List Entry) (clrs : ℕ) (lsn : ℕ) (rec : LogRecord) → Stand log t last us clrs → last < lsn → AllByRecursion (λ u. u.lsn < lsn) us →
    prev_of rec ≡ last → Undoes us rec → IsThere log t (record { lsn = lsn; rec = rec }) →
    Stand log t lsn (open_by us (record { lsn = lsn; rec = rec }) rec) (clrs + length (clrs_in (record { lsn = lsn; rec = rec } ∷ [])))
step log t last us clrs lsn (Update txn prev page slot before after) s less below is u there =
    let e : Entry = record { lsn = lsn; rec = Update txn prev page slot before after } in
    let here : ReadsBack log t prev us clrs = subst (λ n. ReadsBack log t n us clrs) (sym is) s.here in
    let late : t ≤ prev = subst (λ n. t ≤ n) (sym is) s.late in
    let falls : prev < lsn = subst (λ n. n < lsn) (sym is) less in
    let more : clrs ≤ clrs + 0 = omega arith in
    record {
      late = omega (arith, late, falls);
      here = record {
        chain = e ∷ here.chain;
        is = (record { lsn = refl; found = there.0; own = there.1; change = refl; late = late; falls = falls }, here.is);
        reads = ap (λ (l : List Entry). e ∷ l) here.reads;
        few = let few = here.few in omega (arith, few);
      };
      based = (reads_more log t prev us clrs (clrs + 0) more here, late, falls, based_more log t clrs (clrs + 0) us more s.based);
    }
step log t last (v ∷ us) clrs lsn (Clr txn prev undo_next page slot after) s less below is u there =
    let e : Entry = record { lsn = lsn; rec = Clr txn prev undo_next page slot after } in
    let b = s.based in
    let back : undo_next ≡ prev_of v.rec = undone_prev (Clr txn prev undo_next page slot after) v.rec u in
    let base : ReadsBack log t undo_next us clrs = subst (λ n. ReadsBack log t n us clrs) (sym back) b.0 in
    let late : t ≤ undo_next = subst (λ n. t ≤ n) (sym back) b.1 in
    let first = b.2 in
    let before = below.0 in
    let more : clrs ≤ clrs + 1 = omega arith in
    record {
      late = let l = s.late in omega (arith, l, less);
      here = record {
        chain = e ∷ base.chain;
        is = (record { lsn = refl; found = there.0; own = there.1; change = refl; late = late; falls = omega (arith, back, first, before) }, base.is);
        reads = base.reads;
        few = let few = base.few in omega (arith, few);
      };
      based = based_more log t clrs (clrs + 1) us more b.3;
    }
step log t last _ clrs lsn _ s less below is u there = absurd u

record IsReady (log : List Entry) (t : ℕ) (earlier : List Entry) : Type 0 where
  some : 1 ≤ length earlier
  stand : Stand log t (last_lsn earlier) (open_updates [] earlier) (length (clrs_in earlier))

clrs_more : (earlier : List Entry) (e : Entry) → length (clrs_in (earlier ++ e ∷ [])) ≡ length (clrs_in earlier) + length (clrs_in (e ∷ []))
clrs_more earlier e = ap length (filter-append (λ x. is_clr x.rec) earlier (e ∷ [])) ∙ length-append (clrs_in earlier) (clrs_in (e ∷ []))

ready_more : (log : List Entry) (t from : ℕ) (earlier : List Entry) (e : Entry) → IsInOrder from earlier e.lsn → Continues earlier e → IsThere log t e → IsReady log t earlier → IsReady log t (earlier ++ e ∷ [])
ready_more log t from earlier e order c there r =
    let below : AllByRecursion (λ u. u.lsn < e.lsn) (open_updates [] earlier) =
    all_left_open (λ u. u.lsn < e.lsn) [] earlier tt (all_weaker (λ u. u.lsn < e.lsn) (λ u. is_update u.rec ≡ true → u.lsn < e.lsn) (λ u b update. b) earlier (all_below from earlier e.lsn order)) in
    let now = step log t (last_lsn earlier) (open_updates [] earlier) (length (clrs_in earlier)) e.lsn e.rec r.stand (last_below 0 from earlier e.lsn order r.some) below c.linked c.undoes there in
    record {
      some = omega (arith, length-append earlier (e ∷ []));
      stand = subst (λ n. Stand log t n (open_updates [] (earlier ++ e ∷ [])) (length (clrs_in (earlier ++ e ∷ [])))) (sym (last_number_of 0 earlier e))
          (subst (λ n. Stand log t e.lsn (open_updates [] (earlier ++ e ∷ [])) n) (sym (clrs_more earlier e))
          (subst (λ (us : List Entry). Stand log t e.lsn us (length (clrs_in earlier) + length (clrs_in (e ∷ [])))) (sym (open_append [] earlier (e ∷ []))) now));
    }

ready_all : (log : List Entry) (t from to : ℕ) (earlier entries : List Entry) → InTurn Continues earlier entries → IsInOrder from (earlier ++ entries) to → AllByRecursion (IsThere log t) entries →
    IsReady log t earlier → IsReady log t (earlier ++ entries)
ready_all log t from to earlier [] c order there r = grind (arith, append-nil)
ready_all log t from to earlier (e ∷ entries) c order there r = grind (arith, append_assoc, ready_more, in_order_left, (ready_all log t from to (earlier ++ e ∷ []) entries c.1 (subst (λ (l : List Entry). IsInOrder from l to) (sym (append_assoc earlier (e ∷ []) entries)) order) there.1))

-- The records that undoing an unfinished transaction reads.

module _ (from to : ℕ) (log : List Entry) (t : ℕ) (order : IsInOrder from log to) (its : IsLoserChain t (entries_of t log)) where
  all_there : AllByRecursion (IsThere log t) (entries_of t log)
  all_there = grind (arith, all_both, eqb-true, all_filter, all_found, all_passed)

  own_order : IsInOrder from (entries_of t log) to
  own_order = in_order_filter (is_of t) from log to order

  ready : IsReady log t (entries_of t log)
  ready = subst (IsReady log t) (sym its.begins)
      (ready_all log t from to (record { lsn = t; rec = Begin } ∷ []) (drop 1 (entries_of t log)) its.continues (subst (λ (l : List Entry). IsInOrder from l to) its.begins own_order)
      (all_drop (IsThere log t) 1 (entries_of t log) all_there)
      (record { some = omega arith; stand = record { late = omega arith; here = record { chain = []; is = refl; reads = refl; few = omega arith }; based = tt } }))

  at_top : (u : Entry) (rest : List Entry) → left_open log t ≡ u ∷ rest → AreBased log t (length (clrs_in (entries_of t log))) (u ∷ rest)
  at_top u rest left = subst (AreBased log t (length (clrs_in (entries_of t log)))) left ready.stand.based

  -- the last Update that is left
  pub top_stands : (u : Entry) (rest : List Entry) → left_open log t ≡ u ∷ rest → IsLink log t u.lsn u × (is_update u.rec ≡ true) × (u.lsn ≤ last_lsn (entries_of t log))
  top_stands u rest left =
      let b = at_top u rest left in
      let late = b.1 in
      let falls = b.2 in
      let own = (subst (AllByRecursion (λ x. (is_update x.rec ≡ true) × (txn_of x ≡ t))) left (left_are_its_updates log t)).0 in
      let up = all_left_open (λ x. x.lsn ≤ last_lsn (entries_of t log)) [] (entries_of t log) tt
      (all_weaker (λ x. x.lsn ≤ last_lsn (entries_of t log)) (λ x. is_update x.rec ≡ true → x.lsn ≤ last_lsn (entries_of t log)) (λ x p update. p) (entries_of t log)
      (all_up_to_last 0 from (entries_of t log) to own_order)) in
      let same = as_prev u.rec own.0 in (
        record {
          lsn = refl;
          found = (subst (AllByRecursion (IsFound log)) left (left_keep (IsFound log) log t (all_found from log to order))).0;
          own = own.1;
          change = ap (λ b. b || is_clr u.rec) own.0;
          late = omega (arith, late, same);
          falls = omega (arith, falls, same);
        },
        own.0,
        (subst (AllByRecursion (λ x. x.lsn ≤ last_lsn (entries_of t log))) left up).0,
      )
    where
      as_prev : (rec : LogRecord) → is_update rec ≡ true → goes_back rec ≡ prev_of rec
      as_prev (Update txn prev page slot before after) h = refl
      as_prev _ h = absurd (grind arith)

  -- how many records these are at most
  abbrev pub most : ℕ
  most = length (left_open log t) + length (clrs_in (entries_of t log))

  module _ (last remaining : ℕ) (loser : is_loser log t ≡ true) (last_is : last ≡ last_lsn (entries_of t log)) (remaining_is : remaining ≡ length (left_open log t)) where
    -- undoing may begin with the last record of the transaction
    pub unfinished_from_last : (chain : List Entry) × IsUnfinished log (record { txn = t; last = last; next = last; remaining = remaining; chain = chain }) × (length chain ≤ most)
    unfinished_from_last = grind (arith, ready)

    -- or with the last Update that is left
    pub unfinished_from_top : (next : ℕ) → next ≡ top_lsn t (left_open log t) → (chain : List Entry) × IsUnfinished log (record { txn = t; last = last; next = next; remaining = remaining; chain = chain }) × (length chain ≤ most)
    unfinished_from_top next next_is = by_left (left_open log t) refl
      where
        by_left : (us : List Entry) → left_open log t ≡ us → (chain : List Entry) × IsUnfinished log (record { txn = t; last = last; next = next; remaining = remaining; chain = chain }) × (length chain ≤ most)
        by_left [] left = (
          [],
          record {
            loser = loser;
            last_is = last_is;
            chain_is = next_is ∙ ap (top_lsn t) left;
            left_is = sym left;
            early = let late = ready.stand.late in let at = next_is ∙ ap (top_lsn t) left in omega (arith, late, at, last_is);
            remaining_is = remaining_is;
          },
          omega arith,
        )
        by_left (u ∷ rest) left =
            let top = top_stands u rest left in
            let base = (at_top u rest left).0 in
            let at : next ≡ u.lsn = next_is ∙ ap (top_lsn t) left in
            let back = from_prev u.rec top.1 base.chain base.is in (
              u ∷ base.chain,
              record {
                loser = loser;
                last_is = last_is;
                chain_is = subst (λ n. IsUndoChain log t n (u ∷ base.chain)) (sym at) (top.0, back);
                left_is = first_reads base.chain top.1 ∙ ap (λ (l : List Entry). u ∷ l) base.reads ∙ sym left;
                early = let early = top.2 in omega (arith, early, at, last_is);
                remaining_is = remaining_is;
              },
              (let few = base.few in let many = ap length left in omega (arith, few, many)),
            )
          where
            from_prev : (rec : LogRecord) → is_update rec ≡ true → (chain : List Entry) → IsUndoChain log t (prev_of rec) chain → IsUndoChain log t (goes_back rec) chain
            from_prev (Update txn prev page slot before after) h chain is = is
            from_prev _ h chain is = absurd (grind arith)

            first_reads : (chain : List Entry) → is_update u.rec ≡ true → updates_in (u ∷ chain) ≡ u ∷ updates_in chain
            first_reads chain h = ap (λ b. cond b (u ∷ updates_in chain) (updates_in chain)) h
