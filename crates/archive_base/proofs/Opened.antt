-- What was heard of a sound log are its unfinished transactions.
use Rattle.std.proofs.lemmas.Grind.{common_steps}
use Rattle.std.proofs.Common.{◌≡◌, ℕ, ◌+◌, ◌*◌, ◌<◌, ◌≤◌, ◌==◌, nat_eq, Bool, true, false, cond, not, ◌&&◌, ◌||◌, List, [], ◌∷◌, ◌++◌, map, drop, refl, sym, ap, subst, ◌∙◌, arith}
use Rattle.std.specs.Prelude.{Option, Some, None, filter_map, option_map}
use Rattle.std.specs.List.{AllByRecursion, list_any}
use Rattle.std.proofs.lemmas.Bool.{and_from, eqb-true, eq-eqb, ne_eqb, and_right, or_left, or_parts, or_right}
use Rattle.std.proofs.lemmas.Option.{same_Some, none-some}
use Rattle.std_lemmas.proofs.AllOf.{all_both, all_each, all_map, all_passed, all_weaker}
use Rattle.std_lemmas.proofs.Lists.{any_map}
use Rattle.indexmap.specs.IndexMap.{get}
use Rattle.record_model.specs.State.{Write, last_write}
use Rattle.log_records.specs.declared.log_record.LogRecord.{LogRecord}
use Rattle.log_records.specs.declared.log_record.LogRecord.TheVariants.{Begin, Update, Clr, Commit, End}
use Rattle.log_records.specs.Log.{Entry, after_of, entries_of, is_closed, is_closing, is_loser, is_of, is_on, is_update, last_where, txn_of}
use Rattle.log_records.specs.Unfinished.{is_begin, left_open, losers, open_by, open_updates}
use Rattle.log_records.specs.Sound.{Continues, HaveBegunBefore, InTurn, IsInOrder, IsLoserChain, IsSound, LogicalImage, Undoes, last_number}
use Rattle.log_laws.specs.Follow.{write_of}
use Rattle.log_laws.proofs.Appends.{all_written}
use Rattle.log_laws.proofs.Chains.{none_any, open_append}
use Rattle.log_laws.proofs.Listing.{Ascends, above, listed_is_loser, loser_is_listed, losers_ascend}
use Rattle.log_laws.proofs.Losers.{left_are_its_updates, left_keep}
use Rattle.log_laws.proofs.Lists.{or_is_none}
use Rattle.log_laws.proofs.Orders.{all_from}
use Rattle.std.proofs.lemmas.List.Elements.{filter_map-append}
use Rattle.log_archive.specs.Accepted.{Unclosed, is_taken, is_unclosed, put_in}
use Rattle.log_archive.proofs.Ascending.{none_written}
use Rattle.log_replay.specs.Opened.{AreOpen, EachOnce, HoldsItsOwn, begun, has_written, is_others, number_of}
use Rattle.log_replay.specs.declared.transactions.Transactions.{Transactions}
use Rattle.archive_base.specs.Base.{put_all, standing_by, unclosed_at, unclosed_in}
use Rattle.archive_base.specs.Opening.{HasHeard, HaveClaimed, IsWriter, heard, heard_by}
use Rattle.archive_base.proofs.Agreeing.{as_standing, find_listed, losers_early, net_says, undoable, writes_last}

-- Only its own records matter.

heard_own : (t : ℕ) (o : Option Unclosed) (log : List Entry) → heard t o (entries_of t log) ≡ heard t o log
heard_own t o [] = refl
heard_own t o (x ∷ log) = by (is_of t x) refl (heard_own t (heard_by x.lsn x.rec o) log) (heard_own t o log)
  where
    by : (b : Bool) → is_of t x ≡ b → heard t (heard_by x.lsn x.rec o) (entries_of t log) ≡ heard t (heard_by x.lsn x.rec o) log → heard t o (entries_of t log) ≡ heard t o log →
        heard t o (cond b (x ∷ entries_of t log) (entries_of t log)) ≡ heard t (cond b (heard_by x.lsn x.rec o) o) log
    by true own here later = ap (λ b. heard t (cond b (heard_by x.lsn x.rec o) o) (entries_of t log)) own ∙ here
    by false other here later = later

-- An unfinished one.

standing_less : (us : List Entry) → drop 1 (as_standing us) ≡ as_standing (drop 1 us)
standing_less [] = refl
standing_less (u ∷ us) = refl

-- a transaction by what is known of it
abbrev known : ℕ → ℕ → List Entry → List Write → Unclosed
known t last us net = record { begin = t; last = last; standing = as_standing us; net = net }

put_both : (net first later : List Write) → put_all net (first ++ later) ≡ put_all (put_all net first) later
put_both net [] later = refl
put_both net (w ∷ first) later = put_both (put_in w net) first later

abbrev writes_by : List Entry → List Write
writes_by entries = filter_map (λ (e : Entry). write_of e.rec) entries

undoes_nothing : (us : List Entry) → Undoes us Begin → ⊥
undoes_nothing [] h = h
undoes_nothing (u ∷ us) h = h

no_commit : (txn number : ℕ) (us : List Entry) → Undoes us (Commit txn number) → ⊥
no_commit txn number [] h = h
no_commit txn number (u ∷ us) h = h

no_end : (txn : ℕ) (us : List Entry) → Undoes us (End txn) → ⊥
no_end txn [] h = h
no_end txn (u ∷ us) h = h

one_more : (t last lsn : ℕ) (rec : LogRecord) (us : List Entry) (net : List Write) → Undoes us rec →
    heard_by lsn rec (Some (known t last us net)) ≡ Some (known t lsn (open_by us (record { lsn = lsn; rec = rec }) rec) (put_all net (writes_by (record { lsn = lsn; rec = rec } ∷ []))))
one_more t last lsn Begin us net undoes = absurd (undoes_nothing us undoes)
one_more t last lsn (Update txn prev page slot before after) us net undoes = refl
one_more t last lsn (Clr txn prev undo_next page slot after) us net undoes =
    ap (λ l. Some (record { begin = t; last = lsn; standing = l; net = put_in (32 * page + slot, after) net })) (standing_less us)
one_more t last lsn (Commit txn number) us net undoes = absurd (no_commit txn number us undoes)
one_more t last lsn (End txn) us net undoes = absurd (no_end txn us undoes)

-- behind more records of its own
heard_more : (t last : ℕ) (us : List Entry) (net : List Write) (earlier entries : List Entry) → us ≡ open_updates [] earlier → InTurn Continues earlier entries → AllByRecursion (λ e. is_of t e ≡ true) entries →
    heard t (Some (known t last us net)) entries
    ≡ Some (known t (last_number last (map (λ (e : Entry). e.lsn) entries)) (open_updates us entries) (put_all net (writes_by entries)))
heard_more t last us net earlier [] left continues own = refl
heard_more t last us net earlier (e ∷ entries) left continues own =
    ap (λ b. heard t (cond b (heard_by e.lsn e.rec (Some (known t last us net))) (Some (known t last us net))) entries) own.0
    ∙ ap (λ o. heard t o entries) (one_more t last e.lsn e.rec us net (subst (λ l. Undoes l e.rec) (sym left) continues.0.undoes))
    ∙ heard_more t e.lsn (open_by us e e.rec) (put_all net (writes_by (e ∷ []))) (earlier ++ e ∷ []) entries
    (ap (λ l. open_by l e e.rec) left ∙ sym (open_append [] earlier (e ∷ []))) continues.1 own.1
    ∙ ap (λ l. Some (known t (last_number e.lsn (map (λ (x : Entry). x.lsn) entries)) (open_updates (open_by us e e.rec) entries) l))
    (sym (put_both net (writes_by (e ∷ [])) (writes_by entries)) ∙ ap (put_all net) (sym (filter_map-append (λ (x : Entry). write_of x.rec) (e ∷ []) entries)))

all_own : (t : ℕ) (log : List Entry) → AllByRecursion (λ e. is_of t e ≡ true) (entries_of t log)
all_own t log = all_passed (is_of t) log

loser_heard : (t : ℕ) (log : List Entry) → IsLoserChain t (entries_of t log) → heard t None log ≡ Some (unclosed_at log t)
loser_heard t log chain =
    sym (heard_own t None log) ∙ ap (heard t None) chain.begins
    ∙ ap (λ b. heard t (cond b (Some (begun t)) None) rest) (eq-eqb t t refl)
    ∙ heard_more t t [] [] (record { lsn = t; rec = Begin } ∷ []) rest refl chain.continues (subst (AllByRecursion (λ e. is_of t e ≡ true)) chain.begins (all_own t log)).1
    ∙ ap (λ l. Some (known t (last_number 0 (map (λ (x : Entry). x.lsn) l)) (open_updates [] l) (put_all [] (writes_by l)))) (sym chain.begins)
  where
    rest : List Entry
    rest = drop 1 (entries_of t log)

-- Closed ones.

none_left : (t : ℕ) (log : List Entry) → AllByRecursion (λ e. t < e.lsn) log → heard t None log ≡ None
none_left t [] later = refl
none_left t (e ∷ log) later = by (is_of t e) refl (none_left t log later.1)
  where
    none_by : (lsn : ℕ) (rec : LogRecord) → t < lsn → is_of t (record { lsn = lsn; rec = rec }) ≡ true → heard_by lsn rec None ≡ None
    none_by lsn Begin less own = let same = eqb-true lsn t own in absurd (omega (arith, less, same))
    none_by lsn (Update txn prev page slot before after) less own = refl
    none_by lsn (Clr txn prev undo_next page slot after) less own = refl
    none_by lsn (Commit txn number) less own = refl
    none_by lsn (End txn) less own = refl

    by : (b : Bool) → is_of t e ≡ b → heard t None log ≡ None → heard t (cond b (heard_by e.lsn e.rec None) None) log ≡ None
    by true own rest = ap (λ o. heard t o log) (none_by e.lsn e.rec later.0 own) ∙ rest
    by false other rest = rest

closed_none : (t from to : ℕ) (o : Option Unclosed) (log : List Entry) → IsInOrder from log to → HaveBegunBefore log → is_closed log t ≡ true → heard t o log ≡ None
closed_none t from to o [] order begun closed = let bad : false ≡ true = closed in cc
closed_none t from to o (e ∷ log) order begun closed =
    by (is_of t e) refl (is_closing e.rec) refl closed (λ now is. closed_none t (e.lsn + 1) to now log order.1 begun.1 is)
  where
    none_by : (rec : LogRecord) (lsn : ℕ) (now : Option Unclosed) → is_closing rec ≡ true → heard_by lsn rec now ≡ None
    none_by Begin lsn now is = let bad : false ≡ true = is in cc
    none_by (Update txn prev page slot before after) lsn now is = let bad : false ≡ true = is in cc
    none_by (Clr txn prev undo_next page slot after) lsn now is = let bad : false ≡ true = is in cc
    none_by (Commit txn number) lsn now is = refl
    none_by (End txn) lsn now is = refl

    by : (own : Bool) → is_of t e ≡ own → (closes : Bool) → is_closing e.rec ≡ closes → ((own && closes) || is_closed log t) ≡ true →
        ((now : Option Unclosed) → is_closed log t ≡ true → heard t now log ≡ None) → heard t (cond own (heard_by e.lsn e.rec o) o) log ≡ None
    by true own true closes is later =
        ap (λ x. heard t x log) (none_by e.rec e.lsn o closes)
        ∙ none_left t log (let at = begun.0 in let same = eqb-true (txn_of e) t own in all_weaker (λ x. e.lsn + 1 ≤ x.lsn) (λ x. t < x.lsn) (λ x more. omega (arith, more, at, same)) log (all_from (e.lsn + 1) log to order.1))
    by true own false closes is later = later (heard_by e.lsn e.rec o) is
    by false own closes at is later = later o is

-- Of a sound log.

none_last : (net : List Write) (number : ℕ) → last_write net number ≡ None → list_any (λ (w : Write). w.0 == number) net ≡ false
none_last [] number none = refl
none_last (w ∷ net) number none = grind (arith, common_steps, or_is_none, (none_last net number))

-- a transaction has left something on a number where it has a record there
net_any : (log : List Entry) (t number : ℕ) → list_any (is_on number) (entries_of t log) ≡ true → has_written number (unclosed_at log t) ≡ true
net_any log t number any = by (has_written number (unclosed_at log t)) refl (last_where (is_on number) (entries_of t log)) refl
  where
    by : (b : Bool) → has_written number (unclosed_at log t) ≡ b → (o : Option Entry) → last_where (is_on number) (entries_of t log) ≡ o → has_written number (unclosed_at log t) ≡ true
    by true is o last = is
    by false is None last = let bad : true ≡ false = sym any ∙ none_any (is_on number) (entries_of t log) last in cc
    by false is (Some x) last =
        let says = net_says log t number ∙ ap (option_map (λ (y : Entry). after_of y.rec)) last in
        absurd (none-some _ (sym (none_written (unclosed_at log t).net number is) ∙ says))

-- and only there
any_net : (log : List Entry) (t number : ℕ) → has_written number (unclosed_at log t) ≡ true → (x : Entry) × (last_where (is_on number) (entries_of t log) ≡ Some x)
any_net log t number has = by (last_where (is_on number) (entries_of t log)) refl
  where
    by : (o : Option Entry) → last_where (is_on number) (entries_of t log) ≡ o → (x : Entry) × (last_where (is_on number) (entries_of t log) ≡ Some x)
    by (Some x) last = (x, last)
    by None last =
        let says = net_says log t number ∙ ap (option_map (λ (y : Entry). after_of y.rec)) last in
        let bad : true ≡ false = sym has ∙ none_last (unclosed_at log t).net number says in cc

abbrev listed : ℕ → List ℕ → Bool
listed t ns = list_any (λ n. n == t) ns

once_each : (log : List Entry) (from : ℕ) (ns : List ℕ) → Ascends from ns → EachOnce (map (unclosed_at log) ns)
once_each log from [] ascends = tt
once_each log from (n ∷ ns) ascends =
    (find_listed log n ns ∙ ap (λ b. cond b (Some (unclosed_at log n)) None) (absent ns (above (n + 1) ns ascends.1)), once_each log (n + 1) ns ascends.1)
  where
    absent : (ms : List ℕ) → AllByRecursion (λ m. n + 1 ≤ m) ms → listed n ms ≡ false
    absent [] all = refl
    absent (m ∷ ms) all = let more = all.0 in ap (λ b. b || listed n ms) (ne_eqb m n (λ same. omega (arith, more, same))) ∙ absent ms all.1

each_listed : (P : ℕ → Type 0) (ns : List ℕ) → ((n : ℕ) → listed n ns ≡ true → P n) → AllByRecursion P ns
each_listed P [] f = tt
each_listed P (n ∷ ns) f = (f n (or_left (n == n) (listed n ns) (eq-eqb n n refl)), each_listed P ns (λ m is. f m (or_right (n == m) (listed m ns) is)))

any_listed : (test : ℕ → Bool) (ns : List ℕ) (t : ℕ) → listed t ns ≡ true → test t ≡ true → list_any test ns ≡ true
any_listed test [] t is passes = is
any_listed test (n ∷ ns) t is passes = by (n == t) refl is (λ there. any_listed test ns t there passes)
  where
    by : (b : Bool) → (n == t) ≡ b → (b || listed t ns) ≡ true → (listed t ns ≡ true → list_any test ns ≡ true) → (test n || list_any test ns) ≡ true
    by true same is later = or_left (test n) (list_any test ns) (ap test (eqb-true n t same) ∙ passes)
    by false other is later = or_right (test n) (list_any test ns) (later is)

none_any_of : (test : ℕ → Bool) (ns : List ℕ) → AllByRecursion (λ n. test n ≡ false) ns → list_any test ns ≡ false
none_any_of test [] all = refl
none_any_of test (n ∷ ns) all = ap (λ b. b || list_any test ns) all.0 ∙ none_any_of test ns all.1

module _ (p : LogicalImage) (sound : IsSound p) where
  heard_is : (t : ℕ) → heard t None p.log ≡ cond (listed t (losers p.log)) (Some (unclosed_at p.log t)) None
  heard_is t = by (listed t (losers p.log)) refl (is_closed p.log t) refl
    where
      by : (b : Bool) → listed t (losers p.log) ≡ b → (closed : Bool) → is_closed p.log t ≡ closed → heard t None p.log ≡ cond b (Some (unclosed_at p.log t)) None
      by true is closed at = loser_heard t p.log (sound.losers_can_be_undone t (listed_is_loser p.log t is))
      by false is true at = closed_none t (512 * p.master.kept) (512 * p.hi) None p.log sound.in_order sound.begun at
      by false is false lives = sym (heard_own t None p.log) ∙ ap (heard t None) (empty p.log (by_any (list_any (is_of t) p.log) refl))
        where
          by_any : (b : Bool) → list_any (is_of t) p.log ≡ b → list_any (is_of t) p.log ≡ false
          by_any false any = any
          by_any true any =
              let loser : is_loser p.log t ≡ true = and_from (list_any (is_of t) p.log) (not (is_closed p.log t)) any (ap not lives) in
              let bad : true ≡ false = sym (loser_is_listed p.log t (undoable p sound) loser) ∙ is in cc

          empty : (xs : List Entry) → list_any (is_of t) xs ≡ false → entries_of t xs ≡ []
          empty [] none = refl
          empty (x ∷ xs) none = let parts = or_parts (is_of t x) (list_any (is_of t) xs) none in ap (λ b. cond b (x ∷ entries_of t xs) (entries_of t xs)) parts.0 ∙ empty xs parts.1

  loser_of : (n : ℕ) → listed n (losers p.log) ≡ true → is_loser p.log n ≡ true
  loser_of n is = listed_is_loser p.log n is

  -- two that have written a number are one
  one_writer : (a b number : ℕ) → listed a (losers p.log) ≡ true → listed b (losers p.log) ≡ true → has_written number (unclosed_at p.log a) ≡ true → has_written number (unclosed_at p.log b) ≡ true → a ≡ b
  one_writer a b number in_a in_b has_a has_b =
      let x = any_net p.log a number has_a in
      let y = any_net p.log b number has_b in
      let wx = writes_last p sound a number x.0 (loser_of a in_a) x.1 in
      let wy = writes_last p sound b number y.0 (loser_of b in_b) y.1 in
      let same : x.0 ≡ y.0 = same_Some _ _ (sym wx.0 ∙ wy.0) in
      sym wx.1 ∙ ap txn_of same ∙ wy.1

  module _ (kept : Transactions) (has : HasHeard p.log kept) (claimed : HaveClaimed kept) where
    is_kept : (t : ℕ) → get nat_eq kept.active t ≡ cond (listed t (losers p.log)) (Some (unclosed_at p.log t)) None
    is_kept t = has t ∙ heard_is t

    taken : (txn number : ℕ) → is_taken txn number (unclosed_in p.log) ≡ is_others txn (get nat_eq kept.writers number)
    taken txn number =
        any_map (λ t. not (is_unclosed txn t) && list_any (λ w. w.0 == number) t.net) (unclosed_at p.log) (losers p.log)
        ∙ by (get nat_eq kept.writers number) (claimed number)
      where
        by : (o : Option ℕ) → IsWriter (λ t. get nat_eq kept.active t) number o → list_any (λ n. not (n == txn) && has_written number (unclosed_at p.log n)) (losers p.log) ≡ is_others txn o
        by None none = none_any_of (λ n. not (n == txn) && has_written number (unclosed_at p.log n)) (losers p.log)
            (each_listed (λ n. (not (n == txn) && has_written number (unclosed_at p.log n)) ≡ false) (losers p.log)
            (λ n is. ap (λ b. not (n == txn) && b) (none n (unclosed_at p.log n) (is_kept n ∙ ap (λ b. cond b (Some (unclosed_at p.log n)) None) is)) ∙ and_right (not (n == txn)) false refl))
        by (Some w) (u, there, wrote) = by_own (w == txn) refl
          where
            there_is : (b : Bool) → listed w (losers p.log) ≡ b → cond b (Some (unclosed_at p.log w)) None ≡ Some u → (listed w (losers p.log) ≡ true) × (unclosed_at p.log w ≡ u)
            there_is true is same = (is, same_Some _ _ same)
            there_is false is same = absurd (none-some _ same)

            own : (listed w (losers p.log) ≡ true) × (unclosed_at p.log w ≡ u)
            own = there_is (listed w (losers p.log)) refl (sym (is_kept w) ∙ there)

            writes : has_written number (unclosed_at p.log w) ≡ true
            writes = ap (has_written number) own.1 ∙ wrote

            by_own : (b : Bool) → (w == txn) ≡ b → list_any (λ n. not (n == txn) && has_written number (unclosed_at p.log n)) (losers p.log) ≡ not (w == txn)
            by_own false other = any_listed (λ n. not (n == txn) && has_written number (unclosed_at p.log n)) (losers p.log) w own.0 (and_from (not (w == txn)) (has_written number (unclosed_at p.log w)) (ap not other) writes) ∙ sym (ap not other)
            by_own true same = none_any_of (λ n. not (n == txn) && has_written number (unclosed_at p.log n)) (losers p.log)
                (each_listed (λ n. (not (n == txn) && has_written number (unclosed_at p.log n)) ≡ false) (losers p.log) (λ n is. off n is (has_written number (unclosed_at p.log n)) refl)) ∙ sym (ap not same)
              where
                off : (n : ℕ) → listed n (losers p.log) ≡ true → (b : Bool) → has_written number (unclosed_at p.log n) ≡ b → (not (n == txn) && has_written number (unclosed_at p.log n)) ≡ false
                off n is false none = ap (λ b. not (n == txn) && b) none ∙ and_right (not (n == txn)) false refl
                off n is true some =
                    let one : n ≡ w = one_writer n w number is own.0 some writes in
                    ap (λ b. not b && has_written number (unclosed_at p.log n)) (eq-eqb n txn (one ∙ eqb-true w txn same))

    holds_own : AllByRecursion HoldsItsOwn (unclosed_in p.log)
    holds_own = all_map HoldsItsOwn (unclosed_at p.log) (losers p.log) (all_each (λ t. HoldsItsOwn (unclosed_at p.log t)) each (losers p.log))
      where
        number_is : (rec : LogRecord) (lsn : ℕ) → is_update rec ≡ true → is_on (number_of (standing_by rec)) (record { lsn = lsn; rec = rec }) ≡ true
        number_is Begin lsn is = let bad : false ≡ true = is in cc
        number_is (Update txn prev page slot before after) lsn is = eq-eqb (32 * page + slot) (32 * page + slot) refl
        number_is (Clr txn prev undo_next page slot after) lsn is = let bad : false ≡ true = is in cc
        number_is (Commit txn number) lsn is = let bad : false ≡ true = is in cc
        number_is (End txn) lsn is = let bad : false ≡ true = is in cc

        each : (t : ℕ) → HoldsItsOwn (unclosed_at p.log t)
        each t = all_map (λ u. has_written (number_of u) (unclosed_at p.log t) ≡ true) (λ (u : Entry). standing_by u.rec) (left_open p.log t)
            (all_both (λ u. (n : ℕ) → is_on n u ≡ true → list_any (is_on n) (entries_of (txn_of u) p.log) ≡ true) (λ u. (is_update u.rec ≡ true) × (txn_of u ≡ t)) (λ u. has_written (number_of (standing_by u.rec)) (unclosed_at p.log t) ≡ true)
            (λ u any own. net_any p.log t (number_of (standing_by u.rec)) (subst (λ x. list_any (is_on (number_of (standing_by u.rec))) (entries_of x p.log) ≡ true) own.1 (any (number_of (standing_by u.rec)) (number_is u.rec u.lsn own.0))))
            (left_open p.log t)
            (left_keep (λ u. (n : ℕ) → is_on n u ≡ true → list_any (is_on n) (entries_of (txn_of u) p.log) ≡ true) p.log t (all_written p.log)) (left_are_its_updates p.log t))

    pub are_open : AreOpen (512 * p.hi + 2) (unclosed_in p.log) kept
    are_open = record {
      known = λ t. is_kept t ∙ sym (find_listed p.log t (losers p.log));
      taken = taken;
      early = losers_early p sound;
      apart = once_each p.log (512 * p.master.kept) (losers p.log) (losers_ascend (λ x. is_begin x.rec && not (is_closed p.log x.lsn)) (512 * p.master.kept) p.log (512 * p.hi) sound.in_order);
      own = holds_own;
    }
