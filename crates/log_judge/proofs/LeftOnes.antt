-- Which transactions are unfinished after one record more.
use Rattle.std.proofs.lemmas.Grind.{common_steps}
use Rattle.log_judge.proofs.Names.{◌≡◌, ℕ, ◌+◌, ◌*◌, ◌<◌, ◌≤◌, Bool, true, false, ◌&&◌, cond, List, [], ◌∷◌, ◌++◌, length, map, drop, get_or, Option, Some, None, refl, sym, ap, ◌∙◌, arith, nat_lt, add-one, drop-cons, eqb-true, lt-ltb, append-nil, map-append, filter-append, none-some, get_or_from_slice_get, BTreeMap, insert_entry, is_at, AllByRecursion, lookup, remove_entry, set_value, nat_cmp, filter, slice_get, ◌↔◌, Pair, AreLeft, entry_of, left_of, Left, all_below, all_made, filter_same, closed_push, IsFresh, closing_is_no_begin, Entry, txn_of, is_of, is_closing, is_closed, entries_of, Active, IsInOrder, last_lsn, before_block, active_in, is_begin, losers, open_by, open_updates, LogRecord, all_weaker, map_same}
use Rattle.std.proofs.Common.{not}
use Rattle.std.specs.Prelude.{◌==◌}
use Rattle.std.specs.Cmp.{unsigned_tied}
use Rattle.std.proofs.lemmas.List.Sums.{count_by-le-length, length-filter}
use Rattle.std.proofs.lemmas.Map.{NonePasses, none_passes_from_lookup}
use Rattle.std_lemmas.proofs.Entries.{AreBelow, insert_last}
use Rattle.log_laws.specs.Analysis.{Summary, unfinished_at, unfinished_in, remaining_by, after_record}
use Rattle.log_laws.proofs.Analysing.{unfinished_begin, unfinished_more, unfinished_closed, unfinished_there}
use Rattle.log_judge.proofs.OpenOnes.{begin_only}

-- A record of a transaction that isn't in the list.

abbrev is_listed : List Entry → Entry → Bool
is_listed log x = is_begin x.rec && not (is_closed log x.lsn)

listed_same : (log : List Entry) (e x : Entry) → (is_listed log x ≡ true → (txn_of e == x.lsn) ≡ false) → is_listed (log ++ e ∷ []) x ≡ is_listed log x
listed_same log e x other = grind (arith, common_steps, closed_push)

losers_same : (log : List Entry) (e : Entry) → is_begin e.rec ≡ false → AllByRecursion (λ n. (txn_of e == n) ≡ false) (losers log) → losers (log ++ e ∷ []) ≡ losers log
losers_same log e old others =
    let lsns : List Entry → List ℕ = map (λ (x : Entry). x.lsn) in
    let more : Entry → Bool = is_listed (log ++ e ∷ []) in
    ap lsns (filter-append more log (e ∷ []))
    ∙ ap (λ (b : Bool). lsns (filter more log ++ cond (b && not (is_closed (log ++ e ∷ []) e.lsn)) (e ∷ []) [])) old
    ∙ ap lsns (append-nil (filter more log))
    ∙ ap lsns (filter_same more (is_listed log) log
    (all_weaker (λ x. is_listed log x ≡ true → (txn_of e == x.lsn) ≡ false) (λ x. more x ≡ is_listed log x) (λ x other. listed_same log e x other) log
    (all_made (λ n. (txn_of e == n) ≡ false) (λ (x : Entry). x.lsn) (is_listed log) log others)))

-- a record of another transaction changes nothing of one
at_other : (log : List Entry) (e : Entry) (t : ℕ) → is_of t e ≡ false → unfinished_at (log ++ e ∷ []) t ≡ unfinished_at log t
at_other log e t other = grind (arith, common_steps, filter-append, append-nil)

pub unfinished_same : (log : List Entry) (e : Entry) → is_begin e.rec ≡ false → AllByRecursion (λ n. (txn_of e == n) ≡ false) (losers log) → unfinished_in (log ++ e ∷ []) ≡ unfinished_in log
unfinished_same log e old others = grind (arith, common_steps, losers_same, map_same, all_weaker, at_other)

-- Where one stands in the list.

absent : (log : List Entry) (t : ℕ) (ns : List ℕ) → lookup (is_at (nat_cmp t)) (map entry_of (map (unfinished_at log) ns)) ≡ None → AllByRecursion (λ n. (t == n) ≡ false) ns
absent log t [] none = grind (arith, common_steps)
absent log t (n ∷ ns) none = grind (arith, common_steps, none-some, (absent log t ns))

record Split (us : List Summary) (t : ℕ) (v : Left) : Type 0 where
  pub front : List Summary
  pub x : Summary
  pub back : List Summary
  pub is : us ≡ front ++ x ∷ back
  pub own : x.txn ≡ t
  pub read : v ≡ left_of x
  pub removed : remove_entry (is_at (nat_cmp t)) (map entry_of us) ≡ map entry_of (front ++ back)
  pub changed : (y : Summary) → y.txn ≡ t → set_value (is_at (nat_cmp t)) (map entry_of us) (left_of y) ≡ map entry_of (front ++ y ∷ back)

split : (us : List Summary) (t : ℕ) (v : Left) → lookup (is_at (nat_cmp t)) (map entry_of us) ≡ Some v → Split us t v
split [] t v found = absurd (none-some v found)
split (u ∷ us) t v found = by (is_at (nat_cmp t) u.txn) refl found (split us t v)
  where
    rest : List (ℕ × Left)
    rest = map entry_of us

    by : (b : Bool) → is_at (nat_cmp t) u.txn ≡ b → cond b (Some (left_of u)) (lookup (is_at (nat_cmp t)) rest) ≡ Some v → (lookup (is_at (nat_cmp t)) rest ≡ Some v → Split us t v) → Split (u ∷ us) t v
    by true here found later =
        let own : t ≡ u.txn = eqb-true t u.txn (sym (unsigned_tied t u.txn) ∙ here) in
        record {
          front = [];
          x = u;
          back = us;
          is = refl;
          own = sym own;
          read = let same : left_of u ≡ v = cc in sym same;
          removed = ap (λ (b : Bool). cond b rest (entry_of u ∷ remove_entry (is_at (nat_cmp t)) rest)) here;
          changed = λ y named. ap (λ (b : Bool). cond b ((u.txn, left_of y) ∷ rest) (entry_of u ∷ set_value (is_at (nat_cmp t)) rest (left_of y))) here
              ∙ ap (λ (n : ℕ). (n, left_of y) ∷ rest) (sym own ∙ sym named);
        }
    by false other found later =
        let at = later found in
        record {
          front = u ∷ at.front;
          x = at.x;
          back = at.back;
          is = ap (λ (l : List Summary). u ∷ l) at.is;
          own = at.own;
          read = at.read;
          removed = ap (λ (b : Bool). cond b rest (entry_of u ∷ remove_entry (is_at (nat_cmp t)) rest)) other ∙ ap (λ (l : List (ℕ × Left)). entry_of u ∷ l) at.removed;
          changed = λ y named. ap (λ (b : Bool). cond b ((u.txn, left_of y) ∷ rest) (entry_of u ∷ set_value (is_at (nat_cmp t)) rest (left_of y))) other
              ∙ ap (λ (l : List (ℕ × Left)). entry_of u ∷ l) (at.changed y named);
        }

remove_none : (test : ℕ → Bool) (es : List (ℕ × Left)) → NonePasses test es → remove_entry test es ≡ es
remove_none test [] none = refl
remove_none test (e ∷ es) none = ap (λ (b : Bool). cond b es (e ∷ remove_entry test es)) none.0 ∙ ap (λ (l : List (ℕ × Left)). e ∷ l) (remove_none test es none.1)

-- How many Updates remain at most.

open_few : (updates entries : List Entry) → length (open_updates updates entries) ≤ length updates + length entries
open_few updates [] = grind (arith, common_steps)
open_few updates (e ∷ entries) = grind (arith, common_steps, (open_few (open_by updates e e.rec) entries))

passed_few : (test : Entry → Bool) (xs : List Entry) → length (filter test xs) ≤ length xs
passed_few test xs = grind (arith, common_steps, length-filter, count_by-le-length)

remaining_few : (log : List Entry) (front : List Summary) (x : Summary) (back : List Summary) → unfinished_in log ≡ front ++ x ∷ back → x.remaining ≤ length log
remaining_few log front x back is =
    let there : x.remaining ≡ length (open_updates [] (entries_of x.txn log)) = ap (λ (z : Summary). z.remaining) (unfinished_there log front x back is).1 in
    let few = open_few [] (entries_of x.txn log) in
    let all = passed_few (is_of x.txn) log in
    omega (arith, there, few, all)

-- One record more.

listed_below : (records : List Entry) (test : Entry → Bool) (to : ℕ) (log : List Entry) → AllByRecursion (λ e. e.lsn < to) log → AreBelow to (map entry_of (map (unfinished_at records) (map (λ (x : Entry). x.lsn) (filter test log))))
listed_below records test to [] all = grind (arith, common_steps)
listed_below records test to (e ∷ log) all = grind (arith, common_steps, AreBelow, (listed_below records test to log all.1))

pub left_begins : (records : List Entry) (from lsn : ℕ) (rec : LogRecord) (old new : BTreeMap ℕ Left) → is_begin rec ≡ true → IsInOrder from records lsn → IsFresh lsn records → AreLeft records old →
    new.entries ≡ insert_entry nat_cmp old.entries lsn (record { last = lsn; remaining = 0 }) → AreLeft (records ++ record { lsn = lsn; rec = rec } ∷ []) new
left_begins records from lsn rec old new begins order fresh is put = grind (arith, common_steps, begin_only, insert_last, listed_below, all_below, map-append, unfinished_begin)

pub left_same : (records : List Entry) (e : Entry) (left : BTreeMap ℕ Left) → is_begin e.rec ≡ false → AreLeft records left → lookup (is_at (nat_cmp (txn_of e))) left.entries ≡ None → AreLeft (records ++ e ∷ []) left
left_same records e left old is none = grind (arith, common_steps, unfinished_same, absent)

module _ (records : List Entry) (e : Entry) (left : BTreeMap ℕ Left) (from to : ℕ) (order : IsInOrder from records to) (is : AreLeft records left) where
  module _ (v : Left) (found : lookup (is_at (nat_cmp (txn_of e))) left.entries ≡ Some v) where
    parts : Split (unfinished_in records) (txn_of e) v
    parts = split (unfinished_in records) (txn_of e) v (ap (lookup (is_at (nat_cmp (txn_of e)))) (sym is.are) ∙ found)

    closed_there : (new : BTreeMap ℕ Left) → is_closing e.rec ≡ true → new.entries ≡ remove_entry (is_at (nat_cmp (txn_of e))) left.entries → AreLeft (records ++ e ∷ []) new
    closed_there new closing taken = grind (arith, common_steps, parts, unfinished_closed)

    pub left_few : v.remaining ≤ length records
    left_few = grind (arith, common_steps, remaining_few, parts)

    pub left_more : (new : BTreeMap ℕ Left) → is_begin e.rec ≡ false → is_closing e.rec ≡ false →
        new.entries ≡ set_value (is_at (nat_cmp (txn_of e))) left.entries (record { last = e.lsn; remaining = remaining_by v.remaining e.rec }) → AreLeft (records ++ e ∷ []) new
    left_more new old goes_on put =
        let after : Left = left_of (after_record parts.x e) in
        record {
          are = put ∙ (λ i. set_value (is_at (nat_cmp (txn_of e))) (is.are i) (record { last = e.lsn; remaining = remaining_by (parts.read i).remaining e.rec })) ∙ parts.changed (after_record parts.x e) parts.own
              ∙ ap (map entry_of) (sym (unfinished_more from to records e parts.front parts.x parts.back order old goes_on parts.is parts.own));
        }

  pub left_closed : (new : BTreeMap ℕ Left) → is_closing e.rec ≡ true → new.entries ≡ remove_entry (is_at (nat_cmp (txn_of e))) left.entries → AreLeft (records ++ e ∷ []) new
  left_closed new closing taken = by (lookup (is_at (nat_cmp (txn_of e))) left.entries) refl
    where
      by : (o : Option Left) → lookup (is_at (nat_cmp (txn_of e))) left.entries ≡ o → AreLeft (records ++ e ∷ []) new
      by (Some v) found = closed_there v found new closing taken
      by None none =
          let same = left_same records e left (closing_is_no_begin e.rec closing) is none in
          record { are = taken ∙ remove_none (is_at (nat_cmp (txn_of e))) left.entries (none_passes_from_lookup (is_at (nat_cmp (txn_of e))) left.entries none) ∙ same.are }

-- what a master names of one
abbrev pub pair_of : ℕ × Left → Pair
pair_of e = record { begin = e.0; last = e.1.last }

-- The next of them, and of those that a master names.
module _ (rest new all : List (ℕ × Left)) (e : ℕ × Left) (active : List Pair) (place : ℕ) (a : Pair) (is : rest ≡ e ∷ new) (inside : length rest + place ≡ length active) (there : slice_get active place ≡ Some a)
    (same : (map pair_of rest ≡ drop place active) ↔ (map pair_of all ≡ active)) where
  dropped : drop place active ≡ a ∷ drop (place + 1) active
  dropped =
      drop-cons active place a (let long = ap (λ (l : List (ℕ × Left)). length l) is in omega (arith, inside, long))
      ∙ (λ i. get_or_from_slice_get active place a a there i ∷ drop (sym (add-one place) i) active)

  pub named_more : pair_of e ≡ a → (map pair_of new ≡ drop (place + 1) active) ↔ (map pair_of all ≡ active)
  named_more named = grind (arith, common_steps, dropped)

  pub named_not : (pair_of e ≡ a → ⊥) → map pair_of all ≡ active → ⊥
  named_not other whole = other (ap (λ (l : List Pair). get_or l 0 a) (sym (ap (map pair_of) is) ∙ same.1 whole ∙ dropped))

-- The records before another one, and those before a block.

pub early_least : (redo : ℕ) (records : List Entry) → length (before_block redo records) ≤ length records
early_least redo records = passed_few (λ x. nat_lt x.lsn (512 * redo)) records

pub early_more : (redo : ℕ) (records : List Entry) (e : Entry) → e.lsn < 512 * redo → before_block redo (records ++ e ∷ []) ≡ before_block redo records ++ e ∷ []
early_more redo records e less = grind (arith, common_steps, filter-append, nat_lt, lt-ltb)

-- What undoing makes, and what a master names.

abbrev active_of : Pair → Active
active_of pair = record { begin = pair.begin; last = pair.last }

abbrev pair_back : Active → Pair
pair_back a = record { begin = a.begin; last = a.last }

actives : (records : List Entry) (ns : List ℕ) → map active_of (map pair_of (map entry_of (map (unfinished_at records) ns))) ≡ map (λ t. record { begin = t; last = last_lsn (entries_of t records) }) ns
actives records [] = refl
actives records (n ∷ ns) = ap (λ (l : List Active). record { begin = n; last = last_lsn (entries_of n records) } ∷ l) (actives records ns)

back_again : (pairs : List Pair) → map pair_back (map active_of pairs) ≡ pairs
back_again [] = refl
back_again (pair ∷ pairs) = ap (λ (l : List Pair). pair ∷ l) (back_again pairs)

pub named_are_active : (records : List Entry) (left : BTreeMap ℕ Left) (pairs : List Pair) → AreLeft records left → map pair_of left.entries ≡ pairs → map active_of pairs ≡ active_in records
named_are_active records left pairs is same = ap (map active_of) (sym same ∙ ap (map pair_of) is.are) ∙ actives records (losers records)

pub active_are_named : (records : List Entry) (left : BTreeMap ℕ Left) (pairs : List Pair) → AreLeft records left → map active_of pairs ≡ active_in records → map pair_of left.entries ≡ pairs
active_are_named records left pairs is same =
    sym (back_again (map pair_of left.entries))
    ∙ ap (map pair_back) (ap (λ (l : List (ℕ × Left)). map active_of (map pair_of l)) is.are ∙ actives records (losers records) ∙ sym same)
    ∙ back_again pairs
