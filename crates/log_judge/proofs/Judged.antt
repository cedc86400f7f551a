-- What the rules say of one record more, and of all of them.
use Rattle.log_judge.proofs.Names.{◌≡◌, ℕ, ◌+◌, ◌*◌, ◌^◌, ◌<◌, ◌≤◌, Bool, false, cond, nat_lt, List, [], ◌∷◌, ◌++◌, length, Option, Some, None, refl, sym, ap, subst, ◌∙◌, append_assoc, arith, nat_tests, append-nil, filter-append, same_Some, AllByRecursion, filter, IfSome, IfNone, IsTrue, ◌↔◌, Heard, NumbersAre, MayStand, IsJudged, Comes, Numbers, InTurn-weaker, InTurn-all, InTurn-right, all_below, Entry, Version, txn_of, LogicalImage, InTurn, IsInOrder, IsInTable, IsOfOpenTransaction, before_block, commit_numbers, all_right}
use Rattle.log_laws.proofs.Orderly.{fresh_of}

-- The next record.

pub stand_at : (p : LogicalImage) (front : List Entry) (e : Entry) (back : List Entry) → p.log ≡ front ++ e ∷ back → IsJudged p → MayStand p.master front e
stand_at p front e back split judged = record {
  begun = (all_right (λ x. txn_of x ≤ x.lsn) front (e ∷ back) (subst (AllByRecursion (λ x. txn_of x ≤ x.lsn)) split judged.begun)).0;
  of_open = (InTurn-right (IsOfOpenTransaction p.master) [] front (e ∷ back) (subst (InTurn (IsOfOpenTransaction p.master) []) split judged.open_transactions)).0;
}

pub table_at : (p : LogicalImage) (front : List Entry) (e : Entry) (back : List Entry) → p.log ≡ front ++ e ∷ back → IsJudged p → IsInTable p.pages e
table_at p front e back split judged = (all_right (IsInTable p.pages) front (e ∷ back) (subst (AllByRecursion (IsInTable p.pages)) split judged.in_table)).0

-- on a page of the disk
pub on_disk : (page slot pages : ℕ) (of : List Version) → slot < 32 → length of ≡ pages → IsTrue (nat_lt page pages) ↔ ((number : ℕ) → Some (32 * page + slot) ≡ Some number → number < 32 * length of)
on_disk page slot pages of small size = (
  λ inside number is. let same = same_Some _ _ is in let less : page < pages = grind (arith, nat_tests, inside) in omega (arith, same, less, small, size),
  λ all. let here = all (32 * page + slot) refl in let less : page < pages = omega (arith, here, small, size) in grind (arith, nat_tests, less),
)

-- The records before the redo block, once one behind has come.

tail_order : (from : ℕ) (xs ys : List Entry) (to : ℕ) → IsInOrder from (xs ++ ys) to → (f : ℕ) × IsInOrder f ys to
tail_order from [] ys to order = (from, order)
tail_order from (x ∷ xs) ys to order = tail_order (x.lsn + 1) xs ys to order.1

none_before : (n from : ℕ) (xs : List Entry) (to : ℕ) → IsInOrder from xs to → n ≤ from → filter (λ x. nat_lt x.lsn n) xs ≡ []
none_before n from [] to order less = refl
none_before n from (x ∷ xs) to order less =
    let low = order.0 in
    let over : n ≤ x.lsn = omega (arith, less, low) in
    let no : nat_lt x.lsn n ≡ false = grind (arith, nat_tests, over) in
    ap (λ (b : Bool). cond b (x ∷ filter (λ y. nat_lt y.lsn n) xs) (filter (λ y. nat_lt y.lsn n) xs)) no ∙ none_before n (x.lsn + 1) xs to order.1 (omega (arith, over))

pub early_all : (redo : ℕ) (front : List Entry) (e : Entry) (back : List Entry) (from to : ℕ) → IsInOrder from (front ++ e ∷ back) to → 512 * redo ≤ e.lsn → before_block redo (front ++ e ∷ back) ≡ before_block redo front
early_all redo front e back from to order late =
    let tail = tail_order from front (e ∷ back) to order in
    let none : filter (λ x. nat_lt x.lsn (512 * redo)) (e ∷ back) ≡ [] = none_before (512 * redo) e.lsn (e ∷ back) to (let low = tail.1.0 in (omega arith, tail.1.1)) late in
    filter-append (λ x. nat_lt x.lsn (512 * redo)) front (e ∷ back) ∙ ap (λ (l : List Entry). before_block redo front ++ l) none ∙ append-nil (before_block redo front)

-- The numbers of the commits.

pub numbers_break : (o : Option Numbers) (p : LogicalImage) (redo : ℕ) (front : List Entry) (e : Entry) (back : List Entry) → p.log ≡ front ++ e ∷ back → NumbersAre redo (front ++ e ∷ []) o → IfNone o (IsJudged p → ⊥)
numbers_break None p redo front e back split are = λ judged. are back _ _ (ap commit_numbers (append_assoc front (e ∷ []) back ∙ sym split) ∙ judged.commits.run_on)
numbers_break (Some n) p redo front e back split are = tt

pub numbers_stand : (o : Option Numbers) (redo : ℕ) (records : List Entry) (A B : Type 0) → NumbersAre redo records o → A → B → IfSome o (λ n. A × B × Heard redo n records)
numbers_stand None redo records A B are a b = tt
numbers_stand (Some n) redo records A B are a b = (a, b, are)

-- What the next record asks of those before it.
pub comes_next : (p : LogicalImage) (records : List Entry) (from lsn : ℕ) → InTurn (MayStand p.master) [] records → IsInOrder from records lsn → length records < 2 ^ 62 → Comes records lsn
comes_next p records from lsn stand order few = record {
  from = from;
  in_order = order;
  fresh = fresh_of lsn records (all_below from records lsn order) (InTurn-all (MayStand p.master) (λ x. txn_of x ≤ x.lsn) (λ earlier x may. may.begun) [] records stand);
  few = few;
}

-- All records.
pub opens_all : (p : LogicalImage) → InTurn (MayStand p.master) [] p.log → InTurn (IsOfOpenTransaction p.master) [] p.log
opens_all p stand = InTurn-weaker (MayStand p.master) (IsOfOpenTransaction p.master) (λ earlier e may. may.of_open) [] p.log stand

pub begun_all : (p : LogicalImage) → InTurn (MayStand p.master) [] p.log → AllByRecursion (λ x. txn_of x ≤ x.lsn) p.log
begun_all p stand = InTurn-all (MayStand p.master) (λ x. txn_of x ≤ x.lsn) (λ earlier e may. may.begun) [] p.log stand
