-- Which transactions are open after one record more.
use Rattle.std.proofs.lemmas.Grind.{common_steps}
use Rattle.log_judge.proofs.Names.{arith, ◌≡◌, ℕ, ◌*◌, Bool, true, false, true≢false, ◌&&◌, ◌||◌, cond, List, [], ◌∷◌, ◌++◌, refl, sym, ap, ◌∙◌, and_right, eqb-true, filter-append, list_any-append, list_any, nat_le, Pair, AreOpen, MayStand, fresh_open, InTurn-weaker, InTurn-all, InTurn-right, closed_push, IsFresh, Entry, txn_of, is_closing, Active, Master, LogicalImage, InTurn, is_known, from_block, is_begin, LogRecord, Begin, Update, Clr, Commit, End, has, all_right, or_without_last, or_without, or_assoc}
use Rattle.std.specs.Prelude.{map, ◌==◌}
use Rattle.lsn_set.specs.declared.lsn_set.LsnSet.{LsnSet}

-- Which transactions are known.

passes_one : {X : Type 0} (p : X → Bool) (b : Bool) (x : X) → list_any p (cond b (x ∷ []) []) ≡ (b && p x)
passes_one p true x = grind (arith, common_steps)
passes_one p false x = grind (arith, common_steps)

abbrev is_new : ℕ → Entry → ℕ → Bool
is_new redo e t = nat_le (512 * redo) e.lsn && (is_begin e.rec && (e.lsn == t))

known_push : (active : List Active) (redo : ℕ) (records : List Entry) (e : Entry) (t : ℕ) →
    is_known active (from_block redo (records ++ e ∷ [])) t ≡ (is_known active (from_block redo records) t || is_new redo e t)
known_push active redo records e t = grind (arith, common_steps, filter-append, list_any-append, passes_one, or_assoc)

-- Which are open.

-- a transaction begins from the redo block on
pub open_more : (m : Master) (records : List Entry) (e : Entry) (old new : LsnSet) → is_closing e.rec ≡ false → is_begin e.rec ≡ true → nat_le (512 * m.redo) e.lsn ≡ true → IsFresh e.lsn records →
    ((t : ℕ) → has new t ≡ cond (e.lsn == t) true (has old t)) → AreOpen m records old → AreOpen m (records ++ e ∷ []) new
open_more m records e old new goes_on begins late fresh updates is = grind (arith, common_steps, known_push, closed_push, or_without_last, and_right, eqb-true, fresh_open)

-- a transaction is closed
pub open_without : (m : Master) (records : List Entry) (e : Entry) (old new : LsnSet) → is_closing e.rec ≡ true → is_begin e.rec ≡ false →
    ((t : ℕ) → has new t ≡ cond (txn_of e == t) false (has old t)) → AreOpen m records old → AreOpen m (records ++ e ∷ []) new
open_without m records e old new closing no_begin updates is = grind (arith, common_steps, and_right, known_push, or_without, closed_push)

-- before the first record
pub open_first : (m : Master) (pairs : List Pair) (txns : LsnSet) → m.active ≡ map (λ pair. record { begin = pair.begin; last = pair.last }) pairs →
    ((t : ℕ) → has txns t ≡ list_any (λ (pair : Pair). pair.begin == t) pairs) → AreOpen m [] txns
open_first m pairs txns named is = record {
  are = λ t.
      is t ∙ all t pairs ∙ by (list_any (λ (a : Active). a.begin == t) (map (λ (pair : Pair). record { begin = pair.begin; last = pair.last }) pairs))
      ∙ ap (λ (l : List Active). is_known l [] t && true) (sym named);
}
  where
    all : (t : ℕ) (xs : List Pair) → list_any (λ (x : Pair). x.begin == t) xs ≡ list_any (λ (a : Active). a.begin == t) (map (λ (pair : Pair). record { begin = pair.begin; last = pair.last }) xs)
    all t [] = refl
    all t (x ∷ xs) = ap (λ (b : Bool). (x.begin == t) || b) (all t xs)

    by : (b : Bool) → b ≡ ((b || false) && true)
    by true = refl
    by false = refl

-- Which records they are.

pub begin_only : (rec : LogRecord) → is_begin rec ≡ true → rec ≡ Begin
begin_only Begin begins = refl
begin_only (Update txn prev page slot before after) begins = absurd (true≢false (sym begins))
begin_only (Clr txn prev undo_next page slot after) begins = absurd (true≢false (sym begins))
begin_only (Commit txn number) begins = absurd (true≢false (sym begins))
begin_only (End txn) begins = absurd (true≢false (sym begins))

pub begins_go_on : (rec : LogRecord) → is_begin rec ≡ true → is_closing rec ≡ false
begins_go_on rec begins = ap is_closing (begin_only rec begins)
