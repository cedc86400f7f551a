-- The work of undoing: CLRs one after the other, and the Ends of transactions of which nothing remains.
use Rattle.redo_undo.proofs.Names.{History, ◌≡◌, ◌==◌, ℕ, zero, suc, ◌+◌, ◌*◌, ◌≤◌, ◌<◌, Bool, true, false, cond, not, ◌&&◌, ◌||◌, nat_eq, List, [], ◌∷◌, ◌++◌, map, drop, replicate, reverse, length, Option, Some, refl, sym, ap, subst, ◌∙◌, arith, append-nil, append_assoc, eqb-true, true≢false, and_from, and_parts, or_left, filter-append, same_Some, list_any, AllByRecursion, Ok, if◌then◌else◌, OneTable, TableOfUnfinished, ActiveIsUnfinished, Open, found_in, AscendFrom, TakesOut, IsTable, open_at, listed, Analysis, Master, logical_image_under, kept_by, top_stands, next_lsn, IsLink, Entry, txn_of, is_of, is_update, is_closed, number_of, before_of, IsInOrder, left_open, pending, losers, LogStore, PageStore, Content, touch, page_is, Represents, UndoesUpdates, HasNone, clrs_for, none_remains, ends_for, UndoesWork, takes_back, ends, RingOp, cached, logged, changed, clr_octets, clr_on, clr_work, undoing_one, is_empty, only_ends, undo_work, undoing_work, State, any_reverse}
use Rattle.std.proofs.Common.{filter, find, eq-eqb, ne_eqb, length-append}
use Rattle.std.proofs.lemmas.Grind.{flat_map-append}
use Rattle.log_laws.proofs.Pendings.{waits}
use Rattle.redo_undo.proofs.Found.{lives, order, undoable, open_is}
use Rattle.redo_undo.proofs.Opens.{found_here}

-- CLRs.

-- the slot of a page is touched, and then changed in front
pub back_is : (page slot front : ℕ) (before : Content) → slot < 32 → front ≡ page → cached (touch page false) ∷ changed (clr_octets before) front ∷ [] ≡ takes_back (32 * page + slot, before)
back_is page slot front before less same = grind (arith, page_is)

pub clr_is : (u : Entry) (number : ℕ) (before : Content) → number_of u.rec ≡ Some number → before_of u.rec ≡ before → clr_work u ≡ takes_back (number, before)
clr_is u number before at is = ap (clr_on (before_of u.rec)) at ∙ ap (λ (b : Content). takes_back (number, b)) is

pub clrs_more : (done : List Entry) (u : Entry) → clrs_for (done ++ u ∷ []) ≡ clrs_for done ++ clr_work u
clrs_more done u = flat_map-append clr_work done (u ∷ []) ∙ ap (λ (w : List RingOp). clrs_for done ++ w) (append-nil (clr_work u))

pub clrs_are : (done rest : List Entry) (u : Entry) → clrs_for (done ++ u ∷ rest) ≡ (clrs_for done ++ clr_work u) ++ clrs_for rest
clrs_are done rest u = flat_map-append clr_work done (u ∷ rest) ∙ sym (append_assoc (clrs_for done) (clr_work u) (clrs_for rest))

-- Ends.

pub more_ends : (a b : ℕ) → replicate (a + b) (logged 9) ≡ replicate a (logged 9) ++ replicate b (logged 9)
more_ends zero b = ap (λ (n : ℕ). replicate n (logged 9)) (omega arith)
more_ends (suc a) b = ap (λ (n : ℕ). replicate n (logged 9)) (more a) ∙ ap (λ (w : List RingOp). logged 9 ∷ w) (more_ends a b)
  where
    more : (a : ℕ) → suc a + b ≡ suc (a + b)
    more a = omega arith

pub one_end : (a : ℕ) → replicate (suc a) (logged 9) ≡ replicate a (logged 9) ++ ends
one_end zero = refl
one_end (suc a) = ap (λ (w : List RingOp). logged 9 ∷ w) (one_end a)

-- so many of them were made, and the others are left
pub record EndsMade (log log' : LogStore) (pages : PageStore) (before now : State) (newest : Option Master) (history : History) (records : ℕ) (all left : List Open) : Type 0 where
  pub count : ℕ
  pub of_all : length (filter none_remains all) ≡ count + length (filter none_remains left)
  pub made : UndoesWork {T = Unit {0}} (Ok tt) (replicate count (logged 9)) [] log log' pages pages before now newest history records 0

-- a transaction of which nothing remains is taken out
pub takes_one : (old new : List Open) (t : ℕ) → AscendFrom 0 old → HasNone old t → TakesOut old new t → length (filter none_remains old) ≡ suc (length (filter none_remains new))
takes_one old new t ascend none takes = grind (arith, same_Some, found_here, nat_eq, filter-append, length-append)

-- there is one where it is found
pub some_none : (table : List Open) (t : ℕ) → HasNone table t → 1 ≤ length (filter none_remains table)
some_none table t none = by table none.there
  where
    empty : none_remains none.x ≡ true
    empty = ap (λ (l : List ℕ). nat_eq (length l) 0) none.none

    by : (l : List Open) → found_in l t ≡ Some none.x → 1 ≤ length (filter none_remains l)
    by [] there = cc
    by (x ∷ l) there = at (x.txn == t) there (by l)
      where
        longer : (b : Bool) → 1 ≤ length (filter none_remains l) → 1 ≤ length (cond b (x ∷ filter none_remains l) (filter none_remains l))
        longer true some = omega arith
        longer false some = some

        at : (b : Bool) → cond b (Some x) (found_in l t) ≡ Some none.x → (found_in l t ≡ Some none.x → 1 ≤ length (filter none_remains l)) → 1 ≤ length (filter none_remains (x ∷ l))
        at true here rest =
            let same : x ≡ none.x = same_Some x none.x here in
            let is : none_remains x ≡ true = ap none_remains same ∙ empty in
            subst (λ (b : Bool). 1 ≤ length (cond b (x ∷ filter none_remains l) (filter none_remains l))) (sym is) (omega arith)
        at false behind rest = longer (none_remains x) (rest behind)

-- and none where of each one something remains
pub no_ends : (table : List Open) → AllByRecursion (λ (x : Open). 0 < length x.updates) table → length (filter none_remains table) ≡ 0
no_ends [] all = grind (arith)
no_ends (x ∷ table) all = grind (arith, nat_eq, ne_eqb, (no_ends table all.1))

-- so many are there from the beginning
empty_is : (updates : List Entry) → nat_eq (length (map (λ (u : Entry). u.lsn) updates)) 0 ≡ is_empty updates
empty_is [] = refl
empty_is (u ∷ updates) = ne_eqb (suc (length (map (λ (x : Entry). x.lsn) updates))) 0 (λ same. omega (arith, same))

counted : (records : List Entry) (ts : List ℕ) → length (filter none_remains (map (open_at [] records) ts)) ≡ length (filter (λ (t : ℕ). is_empty (left_open records t)) ts)
counted records [] = grind (arith)
counted records (t ∷ ts) = grind (arith, empty_is, (counted records ts))

pub ends_are : OneTable → TableOfUnfinished → (records : List Entry) (table : List Open) (from to : ℕ) → IsTable [] records table → IsInOrder from records to → ends_for table ≡ replicate (length (only_ends records)) (logged 9)
ends_are one unfinished records table from to is order =
    ap (λ (l : List Open). replicate (length (filter none_remains l)) (logged 9)) (one [] records table (map (open_at [] records) (losers records)) is (unfinished [] records from to tt order))
    ∙ ap (λ (n : ℕ). replicate n (logged 9)) (counted records (losers records))

-- all that is undone begins with them
pub ended_first : ActiveIsUnfinished → OneTable → TableOfUnfinished → {log : LogStore} {pages : PageStore} {site : State} {newest : Option Master} {records : List Entry} {history : History} (found : Analysis) → Represents log pages site newest records history → IsTable [] records (listed found.table) →
    undo_work records ≡ ends_for (listed found.table) ++ undoing_work (reverse (pending records))
ended_first active one unfinished {log = log} {pages = pages} {site = site} {newest = newest} {records = records} {history = history} found h is =
    ap (λ (w : List RingOp). w ++ undoing_work (reverse (pending records))) (sym (ends_are one unfinished records (listed found.table) (512 * kept_by newest) _ is (order active log pages site newest records history found h is)))

-- Whether an Update of a transaction waits to be undone.

not_among : (f w : Entry → Bool) (xs : List Entry) → ((e : Entry) → f e ≡ true → w e ≡ false) → list_any f (filter w xs) ≡ false
not_among f w [] never = grind (arith)
not_among f w (e ∷ xs) never = grind (arith, waits, (not_among f w xs never))

among : (f w : Entry → Bool) (xs : List Entry) (e : Entry) (test : Entry → Bool) → find test xs ≡ Some e → f e ≡ true → w e ≡ true → list_any f (filter w xs) ≡ true
among f w [] e test found own waits = cc
among f w (x ∷ xs) e test found own waits = at (test x) found (λ later. among f w xs e test later own waits)
  where
    skip : (b : Bool) → list_any f (filter w xs) ≡ true → list_any f (cond b (x ∷ filter w xs) (filter w xs)) ≡ true
    skip true there = or_after (f x) (list_any f (filter w xs)) there
      where
        or_after : (a b : Bool) → b ≡ true → (a || b) ≡ true
        or_after true b is = refl
        or_after false b is = is
    skip false there = there

    at : (b : Bool) → cond b (Some x) (find test xs) ≡ Some e → (find test xs ≡ Some e → list_any f (filter w xs) ≡ true) → list_any f (filter w (x ∷ xs)) ≡ true
    at true here rest =
        let same : x ≡ e = same_Some x e here in
        ap (λ (b : Bool). list_any f (cond b (x ∷ filter w xs) (filter w xs))) (ap w same ∙ waits) ∙ or_left (f x) (list_any f (filter w xs)) (ap f same ∙ own)
    at false behind rest = skip (w x) (rest behind)

-- one does where some are left, and none where none is
pub still_pending : (log : List Entry) (t : ℕ) → ((u : Entry) (rest : List Entry) → left_open log t ≡ u ∷ rest → IsLink log t u.lsn u × (is_update u.rec ≡ true)) → is_closed log t ≡ false → list_any (is_of t) (pending log) ≡ not (is_empty (left_open log t))
still_pending log t next lives = by (left_open log t) refl
  where
    by : (us : List Entry) → left_open log t ≡ us → list_any (is_of t) (pending log) ≡ not (is_empty us)
    by [] none = not_among (is_of t) (waits log) log never
      where
        never : (e : Entry) → is_of t e ≡ true → waits log e ≡ false
        never e own =
            ap (λ (l : List Entry). is_update e.rec && not (is_closed log (txn_of e)) && list_any (λ u. u.lsn == e.lsn) l) (ap (left_open log) (eqb-true (txn_of e) t own) ∙ none)
            ∙ and_none (is_update e.rec && not (is_closed log (txn_of e)))
          where
            and_none : (b : Bool) → (b && false) ≡ false
            and_none true = refl
            and_none false = refl
    by (u ∷ rest) is =
        let n = next u rest is in
        among (is_of t) (waits log) log u (λ e. e.lsn == u.lsn) n.0.found (ap (λ (s : ℕ). s == t) n.0.own ∙ eq-eqb t t refl)
        (and_from (is_update u.rec && not (is_closed log (txn_of u))) (list_any (λ v. v.lsn == u.lsn) (left_open log (txn_of u)))
        (and_from (is_update u.rec) (not (is_closed log (txn_of u))) n.1 (ap not (ap (is_closed log) n.0.own ∙ lives)))
        (ap (λ (l : List Entry). list_any (λ v. v.lsn == u.lsn) l) (ap (left_open log) n.0.own ∙ is) ∙ or_left (u.lsn == u.lsn) (list_any (λ v. v.lsn == u.lsn) rest) (eq-eqb u.lsn u.lsn refl)))

-- behind the CLR of the last Update of all: whether its transaction has one of the earlier ones is whether analysis has one of it
pub waits_where : (active : ActiveIsUnfinished) (log : LogStore) (pages : PageStore) (site : State) (newest : Option Master) (records : List Entry) (history : History) (found : Analysis) (known : ℕ) (u : Entry) (earlier : List Entry) → reverse (pending records) ≡ u ∷ earlier →
    UndoesUpdates log pages site newest records history found known (u ∷ []) → (x : Open) → found_in (listed found.table) (txn_of u) ≡ Some x → list_any (is_of (txn_of u)) earlier ≡ not (none_remains x)
waits_where active log pages site newest records history found known u earlier all first x there =
    let now = first.some.now in
    let log_now = records ++ first.some.more in
    let p = logical_image_under newest pages.flash.geometry site.image now.holds.log_holds.blocks in
    let lives = lives active log pages site newest log_now history found now.holds now.analysis (txn_of u) x there in
    let next : (v : Entry) (rest : List Entry) → left_open log_now (txn_of u) ≡ v ∷ rest → IsLink log_now (txn_of u) v.lsn v × (is_update v.rec ≡ true) = λ v rest is.
    (let stands = top_stands (512 * kept_by newest) (next_lsn p now.holds.log_holds.tail) log_now (txn_of u) (order active log pages site newest log_now history found now.holds now.analysis)
    ((undoable active log pages site newest log_now history found now.holds now.analysis).undone (txn_of u) lives) v rest is in (stands.0, stands.1)) in
    let still : is_closed log_now (txn_of u) ≡ false = not_closed (is_closed log_now (txn_of u)) (and_parts (list_any (is_of (txn_of u)) log_now) (not (is_closed log_now (txn_of u))) lives).1 in
    ap (list_any (is_of (txn_of u))) (ap (drop 1) (sym all ∙ first.left)) ∙ any_reverse (is_of (txn_of u)) (pending log_now) ∙ still_pending log_now (txn_of u) next still
    ∙ sym (ap not (ap none_remains (open_is active log pages site newest log_now history found now.holds now.analysis (txn_of u) x there).1 ∙ empty_is (left_open log_now (txn_of u))))
  where
    not_closed : (b : Bool) → not b ≡ true → b ≡ false
    not_closed true is = absurd (true≢false (sym is))
    not_closed false is = refl

-- What comes behind the CLR of an Update, by whether its transaction waits.

pub without_end : (u : Entry) (earlier : List Entry) → list_any (is_of (txn_of u)) earlier ≡ true → undoing_one u earlier ≡ clr_work u
without_end u earlier some = ap (λ (b : Bool). clr_work u ++ (if b then [] else ends)) some ∙ append-nil (clr_work u)

pub with_end : (u : Entry) (earlier : List Entry) → list_any (is_of (txn_of u)) earlier ≡ false → undoing_one u earlier ≡ clr_work u ++ ends
with_end u earlier none = ap (λ (b : Bool). clr_work u ++ (if b then [] else ends)) none
