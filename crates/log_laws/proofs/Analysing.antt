-- What analysis keeps of each unfinished transaction.
use Rattle.std.proofs.lemmas.Grind.{common_steps}
use Rattle.log_laws.proofs.Names.{◌≡◌, ℕ, ◌+◌, ◌-◌, ◌≤◌, true, false, List, [], ◌∷◌, ◌++◌, length, map, drop, refl, sym, ap, subst, ◌∙◌, arith, and_parts, or_from, eq-eqb, ne_eqb, map-append, AllByRecursion, list_any, IsTrue, Summary, unfinished_at, unfinished_in, remaining_by, after_record, IsFresh, Entry, txn_of, is_of, is_closing, is_loser, IsInOrder, last_lsn, is_begin, losers, open_by, open_updates, LogRecord, Begin, all_right, all_weaker, all_map, map_same}
use Rattle.log_laws.proofs.Values.{with}
use Rattle.log_laws.proofs.Parts.{are_losers}
use Rattle.log_laws.proofs.Appends.{fresh_entries}
use Rattle.log_laws.proofs.Owing.{left_push}
use Rattle.log_laws.proofs.Losers.{entries_own, last_more}
use Rattle.log_laws.proofs.Listing.{Ascends, above, losers_ascend, is_listed, losers_begin, losers_stay, losers_closed}

-- One transaction.

at_other : (log : List Entry) (e : Entry) (t : ℕ) → is_of t e ≡ false → unfinished_at (with log e) t ≡ unfinished_at log t
at_other log e t h = grind (arith, common_steps)

less_one : (us : List Entry) → length (drop 1 us) ≡ length us - 1
less_one x0 = grind (arith, common_steps)

remaining_is : (us : List Entry) (e : Entry) (rec : LogRecord) → length (open_by us e rec) ≡ remaining_by (length us) rec
remaining_is us e x2 = grind (arith, common_steps, less_one)

pub at_own : (log : List Entry) (e : Entry) (t : ℕ) → is_of t e ≡ true → unfinished_at (with log e) t ≡ after_record (unfinished_at log t) e
at_own log e t h = grind (arith, last_more, left_push, remaining_is)

-- Lists of them.

first_or : Summary → List Summary → Summary
first_or d [] = d
first_or d (x ∷ xs) = x

first_is : (x y : Summary) (xs ys : List Summary) → x ∷ xs ≡ y ∷ ys → x ≡ y
unfolding first_or
first_is x y xs ys e = ap (first_or x) e

rest_is : (x y : Summary) (xs ys : List Summary) → x ∷ xs ≡ y ∷ ys → xs ≡ ys
rest_is x y xs ys e = ap (drop 1) e

others_same : (log : List Entry) (e : Entry) (ns : List ℕ) → AllByRecursion (λ n. is_of n e ≡ false) ns → map (unfinished_at (with log e)) ns ≡ map (unfinished_at log) ns
others_same log e ns h = grind (arith, map_same, all_weaker, at_other)

-- in a list that ascends one changes
one_changes : (log : List Entry) (e : Entry) (from : ℕ) (ns : List ℕ) (front : List Summary) (x : Summary) (back : List Summary) → Ascends from ns →
    map (unfinished_at log) ns ≡ front ++ x ∷ back → x.txn ≡ txn_of e → map (unfinished_at (with log e)) ns ≡ front ++ after_record x e ∷ back
one_changes log e from [] [] x back a split own = absurd (let l = ap length split in omega (arith, l))
one_changes log e from [] (y ∷ front) x back a split own = absurd (let l = ap length split in omega (arith, l))
one_changes log e from (n ∷ ns) [] x back a split own =
    let head : unfinished_at log n ≡ x = first_is (unfinished_at log n) x (map (unfinished_at log) ns) back split in
    let same : n ≡ txn_of e = ap (λ (z : Summary). z.txn) head ∙ own in
    ap (λ (z : Summary). z ∷ map (unfinished_at (with log e)) ns) (at_own log e n (eq-eqb (txn_of e) n (sym same)) ∙ ap (λ (z : Summary). after_record z e) head)
    ∙ ap (λ (l : List Summary). after_record x e ∷ l)
    (others_same log e ns (all_weaker (λ s. n + 1 ≤ s) (λ s. is_of s e ≡ false) (λ s b. ne_eqb (txn_of e) s (λ eq. omega (arith, b, same, eq))) ns (above (n + 1) ns a.1))
    ∙ rest_is (unfinished_at log n) x (map (unfinished_at log) ns) back split)
one_changes log e from (n ∷ ns) (y ∷ front) x back a split own =
    let head : unfinished_at log n ≡ y = first_is (unfinished_at log n) y (map (unfinished_at log) ns) (front ++ x ∷ back) split in
    let rest : map (unfinished_at log) ns ≡ front ++ x ∷ back = rest_is (unfinished_at log n) y (map (unfinished_at log) ns) (front ++ x ∷ back) split in
    let later = (all_right (λ (z : Summary). n + 1 ≤ z.txn) front (x ∷ back) (subst (AllByRecursion (λ (z : Summary). n + 1 ≤ z.txn)) rest (all_map (λ (z : Summary). n + 1 ≤ z.txn) (unfinished_at log) ns (above (n + 1) ns a.1)))).0 in
    ap (λ (z : Summary). z ∷ map (unfinished_at (with log e)) ns) (at_other log e n (ne_eqb (txn_of e) n (λ eq. omega (arith, later, own, eq))) ∙ head)
    ∙ ap (λ (l : List Summary). y ∷ l) (one_changes log e (n + 1) ns front x back a.1 rest own)

txns_of : (log : List Entry) (ns : List ℕ) → map (λ (z : Summary). z.txn) (map (unfinished_at log) ns) ≡ ns
txns_of log [] = refl
txns_of log (n ∷ ns) = ap (λ (l : List ℕ). n ∷ l) (txns_of log ns)

losers_split : (log : List Entry) (front : List Summary) (x : Summary) (back : List Summary) → unfinished_in log ≡ front ++ x ∷ back →
    losers log ≡ map (λ (z : Summary). z.txn) front ++ x.txn ∷ map (λ (z : Summary). z.txn) back
losers_split log front x back split = sym (txns_of log (losers log)) ∙ ap (map (λ (z : Summary). z.txn)) split ∙ map-append (λ (z : Summary). z.txn) front (x ∷ back)

-- One more record.

pub unfinished_begin : (log : List Entry) (lsn : ℕ) → IsFresh lsn log →
    unfinished_in (with log (record { lsn = lsn; rec = Begin })) ≡ unfinished_in log ++ record { txn = lsn; last = lsn; remaining = 0 } ∷ []
unfinished_begin log lsn fresh =
    let e : Entry = record { lsn = lsn; rec = Begin } in
    ap (map (unfinished_at (with log e))) (losers_begin log lsn fresh)
    ∙ map-append (unfinished_at (with log e)) (losers log) (lsn ∷ [])
    ∙ ap (λ (l : List Summary). l ++ unfinished_at (with log e) lsn ∷ []) (others_same log e (losers log) (all_weaker (λ t. IsTrue (is_loser log t)) (λ t. is_of t e ≡ false) (λ t loser. ne_eqb lsn t (λ same. not_fresh t loser same)) (losers log) (are_losers log)))
    ∙ ap (λ (es : List Entry). unfinished_in log ++ record { txn = lsn; last = last_lsn es; remaining = length (open_updates [] es) } ∷ [])
    (entries_own log e lsn (eq-eqb lsn lsn refl) ∙ ap (λ (l : List Entry). l ++ e ∷ []) (fresh_entries lsn log fresh))
  where
    none_of : (l : List Entry) → AllByRecursion (λ e. is_of lsn e ≡ false) l → list_any (is_of lsn) l ≡ false
    none_of [] h = refl
    none_of (x ∷ l) h = or_from (is_of lsn x) (list_any (is_of lsn) l) h.0 (none_of l h.1)

    not_fresh : (t : ℕ) → IsTrue (is_loser log t) → lsn ≡ t → ⊥
    not_fresh t loser same = grind (arith, and_parts, none_of)

pub unfinished_more : (from to : ℕ) (log : List Entry) (e : Entry) (front : List Summary) (x : Summary) (back : List Summary) → IsInOrder from log to →
    is_begin e.rec ≡ false → is_closing e.rec ≡ false → unfinished_in log ≡ front ++ x ∷ back → x.txn ≡ txn_of e →
    unfinished_in (with log e) ≡ front ++ after_record x e ∷ back
unfinished_more from to log e front x back order b c split own =
    ap (map (unfinished_at (with log e))) (losers_stay log e b c) ∙ one_changes log e from (losers log) front x back (losers_ascend (is_listed log) from log to order) split own

-- in a list that ascends one is taken out
one_leaves : (log : List Entry) (e : Entry) (from : ℕ) (ns : List ℕ) (front : List Summary) (x : Summary) (back : List Summary) → Ascends from ns →
    map (unfinished_at log) ns ≡ front ++ x ∷ back → x.txn ≡ txn_of e →
    map (unfinished_at (with log e)) (map (λ (z : Summary). z.txn) front ++ map (λ (z : Summary). z.txn) back) ≡ front ++ back
one_leaves log e from [] [] x back a split own = absurd (let l = ap length split in omega (arith, l))
one_leaves log e from [] (y ∷ front) x back a split own = absurd (let l = ap length split in omega (arith, l))
one_leaves log e from (n ∷ ns) [] x back a split own =
    let head : unfinished_at log n ≡ x = first_is (unfinished_at log n) x (map (unfinished_at log) ns) back split in
    let same : n ≡ txn_of e = ap (λ (z : Summary). z.txn) head ∙ own in
    let rest : map (unfinished_at log) ns ≡ back = rest_is (unfinished_at log n) x (map (unfinished_at log) ns) back split in
    ap (map (unfinished_at (with log e))) (ap (map (λ (z : Summary). z.txn)) (sym rest) ∙ txns_of log ns)
    ∙ others_same log e ns (all_weaker (λ s. n + 1 ≤ s) (λ s. is_of s e ≡ false) (λ s b. ne_eqb (txn_of e) s (λ eq. omega (arith, b, same, eq))) ns (above (n + 1) ns a.1))
    ∙ rest
one_leaves log e from (n ∷ ns) (y ∷ front) x back a split own =
    let head : unfinished_at log n ≡ y = first_is (unfinished_at log n) y (map (unfinished_at log) ns) (front ++ x ∷ back) split in
    let rest : map (unfinished_at log) ns ≡ front ++ x ∷ back = rest_is (unfinished_at log n) y (map (unfinished_at log) ns) (front ++ x ∷ back) split in
    let later = (all_right (λ (z : Summary). n + 1 ≤ z.txn) front (x ∷ back) (subst (AllByRecursion (λ (z : Summary). n + 1 ≤ z.txn)) rest (all_map (λ (z : Summary). n + 1 ≤ z.txn) (unfinished_at log) ns (above (n + 1) ns a.1)))).0 in
    ap (λ t. unfinished_at (with log e) t ∷ map (unfinished_at (with log e)) (map (λ (z : Summary). z.txn) front ++ map (λ (z : Summary). z.txn) back)) (ap (λ (z : Summary). z.txn) (sym head))
    ∙ ap (λ (z : Summary). z ∷ map (unfinished_at (with log e)) (map (λ (z : Summary). z.txn) front ++ map (λ (z : Summary). z.txn) back)) (at_other log e n (ne_eqb (txn_of e) n (λ eq. omega (arith, later, own, eq))) ∙ head)
    ∙ ap (λ (l : List Summary). y ∷ l) (one_leaves log e (n + 1) ns front x back a.1 rest own)

pub unfinished_closed : (from to : ℕ) (log : List Entry) (e : Entry) (front : List Summary) (x : Summary) (back : List Summary) → IsInOrder from log to →
    is_closing e.rec ≡ true → unfinished_in log ≡ front ++ x ∷ back → x.txn ≡ txn_of e →
    unfinished_in (with log e) ≡ front ++ back
unfinished_closed from to log e front x back order c split own =
    ap (map (unfinished_at (with log e)))
    (losers_closed from to log e (map (λ (z : Summary). z.txn) front) (map (λ (z : Summary). z.txn) back) order c
    (losers_split log front x back split ∙ ap (λ n. map (λ (z : Summary). z.txn) front ++ n ∷ map (λ (z : Summary). z.txn) back) own))
    ∙ one_leaves log e from (losers log) front x back (losers_ascend (is_listed log) from log to order) split own

-- what is listed is a loser, as the log says of it
pub unfinished_there : (log : List Entry) (front : List Summary) (x : Summary) (back : List Summary) → unfinished_in log ≡ front ++ x ∷ back → IsTrue (is_loser log x.txn) × (x ≡ unfinished_at log x.txn)
unfinished_there log front x back split =
    (all_right (λ (z : Summary). IsTrue (is_loser log z.txn) × (z ≡ unfinished_at log z.txn)) front (x ∷ back) (subst (AllByRecursion (λ (z : Summary). IsTrue (is_loser log z.txn) × (z ≡ unfinished_at log z.txn))) split
    (all_map (λ (z : Summary). IsTrue (is_loser log z.txn) × (z ≡ unfinished_at log z.txn)) (unfinished_at log) (losers log)
    (all_weaker (λ t. IsTrue (is_loser log t)) (λ t. IsTrue (is_loser log t) × (unfinished_at log t ≡ unfinished_at log t)) (λ t loser. (loser, refl)) (losers log) (are_losers log))))).0
