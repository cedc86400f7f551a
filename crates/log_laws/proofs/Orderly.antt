-- A sound log whose redo block is the first is orderly.
use Rattle.log_laws.proofs.Names.{◌≡◌, ℕ, ◌+◌, ◌*◌, ◌<◌, ◌≤◌, ⊎_elim, true, false, ◌&&◌, List, [], ◌∷◌, ◌++◌, not, sym, subst, arith, ap, ◌∙◌, and_parts, or_cases, cases_Bool, eqb-true, ne_eqb, AllByRecursion, list_any, filter, IsTrue, nat_lt, ◌==◌, Follows, IsFresh, Entry, txn_of, is_closed, entries_of, Master, IsOpen, IsSound, LogicalImage, InTurn, IsInOrder, IsOrderly, AreOrderly, HaveBegunBefore, before_block, from_block, is_known, last_lsn, is_begin, losers, all_append, all_push, all_both, all_filter, all_weaker, all_map}
use Rattle.log_laws.proofs.Lists.{all_find, any_find, find_passes}
use Rattle.log_laws.proofs.Orders.{InTurn-all, InTurn-weaker, InTurn-append_all}
use Rattle.log_laws.proofs.Parts.{begin_is, all_below}
use Rattle.log_laws.proofs.Appends.{fresh_open}

-- a Begin among records that all come before an LSN does so too
begun_before : (t to : ℕ) (entries : List Entry) → AllByRecursion (λ e. e.lsn < to) entries → list_any (λ e. is_begin e.rec && (e.lsn == t)) entries ≡ true → t < to
begun_before t to entries below h = grind (arith, any_find, eqb-true, and_parts, find_passes, all_find)

-- what is behind all these records, and is of no transaction that one of them is of
pub fresh_of : (lsn : ℕ) (entries : List Entry) → AllByRecursion (λ e. e.lsn < lsn) entries → AllByRecursion (λ e. txn_of e ≤ e.lsn) entries → IsFresh lsn entries
fresh_of lsn entries below begun = grind (arith, all_both, ne_eqb)

-- a transaction that is known begins before
known_before : (m : Master) (earlier : List Entry) (t to : ℕ) → AllByRecursion (λ a. a.begin < to) m.active → AllByRecursion (λ e. e.lsn < to) earlier → IsTrue (is_known m.active (from_block m.redo earlier) t) → t < to
known_before m earlier t to named below known = grind (arith, any_find, eqb-true, find_passes, all_find, begun_before, all_filter, or_cases)

-- records that are of open transactions, behind records that are orderly
orderly_from : (m : Master) (from : ℕ) (earlier log : List Entry) (to : ℕ) → AllByRecursion (λ a. a.begin < from) m.active → IsInOrder from log to →
    AllByRecursion (λ e. e.lsn < from) earlier → AllByRecursion (λ e. txn_of e ≤ e.lsn) earlier →
    InTurn (λ earlier e. is_begin e.rec ≡ false → IsOpen m earlier (txn_of e)) earlier log → InTurn IsOrderly earlier log
orderly_from m from earlier [] to named order below begun h = tt
orderly_from m from earlier (e ∷ log) to named order below begun h =
    let is : IsOrderly earlier e = ⊎_elim by_begin by_other (cases_Bool (is_begin e.rec)) in (
      is,
      orderly_from m (e.lsn + 1) (earlier ++ e ∷ []) log to
          (all_weaker (λ a. a.begin < from) (λ a. a.begin < e.lsn + 1) (λ a b. let f = order.0 in omega (arith, f, b)) m.active named) order.1
          (all_push (λ x. x.lsn < e.lsn + 1) earlier e (all_weaker (λ x. x.lsn < from) (λ x. x.lsn < e.lsn + 1) (λ x b. let f = order.0 in omega (arith, f, b)) earlier below) (omega arith))
          (all_push (λ x. txn_of x ≤ x.lsn) earlier e begun is.begun) h.1,
    )
  where
    before : AllByRecursion (λ x. x.lsn < e.lsn) earlier
    before = all_weaker (λ x. x.lsn < from) (λ x. x.lsn < e.lsn) (λ x b. let f = order.0 in omega (arith, f, b)) earlier below

    by_begin : is_begin e.rec ≡ true → IsOrderly earlier e
    by_begin b =
        let own = begin_is e b in
        record {
          begun = omega (arith, own);
          not_closed = ap (is_closed earlier) own ∙ fresh_open e.lsn earlier (fresh_of e.lsn earlier before begun);
        }

    by_other : is_begin e.rec ≡ false → IsOrderly earlier e
    by_other b =
        let o = h.0 b in
        let less = known_before m earlier (txn_of e) e.lsn (all_weaker (λ a. a.begin < from) (λ a. a.begin < e.lsn) (λ a c. let f = order.0 in omega (arith, f, c)) m.active named) before o.known in
        record { begun = omega (arith, less); not_closed = o.not_closed }

-- the master names transactions that have begun
named_below : (p : LogicalImage) → IsSound p → AllByRecursion (λ a. a.begin < 512 * p.hi) p.master.active
named_below p sound =
    let old = before_block p.master.redo p.log in
    subst (AllByRecursion (λ a. a.begin < 512 * p.hi)) (sym sound.master_names_the_active)
    (all_map (λ a. a.begin < 512 * p.hi) (λ t. record { begin = t; last = last_lsn (entries_of t old) }) (losers old)
    (all_map (λ t. t < 512 * p.hi) (λ (e : Entry). e.lsn) (filter (λ e. is_begin e.rec && not (is_closed old e.lsn)) old)
    (all_filter (λ e. e.lsn < 512 * p.hi) (λ e. is_begin e.rec && not (is_closed old e.lsn)) old
    (all_filter (λ e. e.lsn < 512 * p.hi) (λ e. nat_lt e.lsn (512 * p.master.redo)) p.log (all_below (512 * p.master.kept) p.log (512 * p.hi) sound.in_order)))))

-- records that are of open transactions have begun before
begun_from : (m : Master) (from : ℕ) (earlier log : List Entry) (to : ℕ) → AllByRecursion (λ a. a.begin < from) m.active → IsInOrder from log to →
    AllByRecursion (λ e. e.lsn < from) earlier →
    InTurn (λ earlier e. is_begin e.rec ≡ false → IsOpen m earlier (txn_of e)) earlier log → HaveBegunBefore log
begun_from m from earlier [] to named order below h = tt
begun_from m from earlier (e ∷ log) to named order below h = (
  ⊎_elim by_begin by_other (cases_Bool (is_begin e.rec)),
  begun_from m (e.lsn + 1) (earlier ++ e ∷ []) log to
      (all_weaker (λ a. a.begin < from) (λ a. a.begin < e.lsn + 1) (λ a b. let f = order.0 in omega (arith, f, b)) m.active named) order.1
      (all_push (λ x. x.lsn < e.lsn + 1) earlier e (all_weaker (λ x. x.lsn < from) (λ x. x.lsn < e.lsn + 1) (λ x b. let f = order.0 in omega (arith, f, b)) earlier below) (omega arith))
      h.1,
)
  where
    by_begin : is_begin e.rec ≡ true → txn_of e ≤ e.lsn
    by_begin b = let own = begin_is e b in omega (arith, own)

    by_other : is_begin e.rec ≡ false → txn_of e ≤ e.lsn
    by_other b =
        let less = known_before m earlier (txn_of e) e.lsn (all_weaker (λ a. a.begin < from) (λ a. a.begin < e.lsn) (λ a c. let f = order.0 in omega (arith, f, c)) m.active named)
        (all_weaker (λ x. x.lsn < from) (λ x. x.lsn < e.lsn) (λ x c. let f = order.0 in omega (arith, f, c)) earlier below) (h.0 b).known in
        omega (arith, less)

-- records that follow have begun before, as those in front of them
pub begun_behind : (p : LogicalImage) (entries : List Entry) (to : ℕ) → IsSound p → IsInOrder (512 * p.hi) entries to → InTurn (Follows p.master p.pages) p.log entries → HaveBegunBefore (p.log ++ entries)
begun_behind p entries to sound order follow =
    all_append (λ e. txn_of e ≤ e.lsn) p.log entries sound.begun
    (begun_from p.master (512 * p.hi) p.log entries to (named_below p sound) order (all_below (512 * p.master.kept) p.log (512 * p.hi) sound.in_order)
    (InTurn-weaker (Follows p.master p.pages) (λ earlier e. is_begin e.rec ≡ false → IsOpen p.master earlier (txn_of e)) (λ earlier e f. f.of_open) p.log entries follow))

-- records that follow keep a log orderly
pub orderly_behind : (p : LogicalImage) (entries : List Entry) (to : ℕ) → IsSound p → AreOrderly p.log → IsInOrder (512 * p.hi) entries to → InTurn (Follows p.master p.pages) p.log entries → AreOrderly (p.log ++ entries)
orderly_behind p entries to sound orderly order follow =
    InTurn-append_all IsOrderly [] p.log entries orderly
    (orderly_from p.master (512 * p.hi) p.log entries to (named_below p sound) order (all_below (512 * p.master.kept) p.log (512 * p.hi) sound.in_order)
    (InTurn-all IsOrderly (λ e. txn_of e ≤ e.lsn) (λ earlier e o. o.begun) [] p.log orderly)
    (InTurn-weaker (Follows p.master p.pages) (λ earlier e. is_begin e.rec ≡ false → IsOpen p.master earlier (txn_of e)) (λ earlier e f. f.of_open) p.log entries follow))

pub fresh_behind : (from : ℕ) (log : List Entry) (to lsn : ℕ) → IsInOrder from log to → AreOrderly log → to ≤ lsn → IsFresh lsn log
fresh_behind from log to lsn order orderly late = grind (arith, fresh_of, all_weaker, all_below, InTurn-all)
