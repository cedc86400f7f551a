-- The open transactions as they are kept, behind a record.
use Rattle.log_replay.proofs.Names.{◌≡◌, ℕ, ◌+◌, ◌<◌, ◌≤◌, ◌==◌, nat_eq, Bool, true, false, not, ◌&&◌, ◌||◌, cond, List, [], ◌∷◌, refl, sym, ap, subst, ◌∙◌, arith, and_right, eqb-true, eq-eqb, AllByRecursion, list_any, Option, Some, None, find, get, Standing, Unclosed, is_taken, is_unclosed, without, AreOpen, EachOnce, HoldsItsOwn, begun, has_written, is_others, written, Transactions, Write}
use Rattle.log_replay.proofs.Opens.{find_without, not_begun, all_without, all_weaker, once_without, found, taken_written, taken_closed}

earlier : (lsn next : ℕ) (ts : List Unclosed) → lsn < next → AllByRecursion (λ t. t.begin < lsn) ts → AllByRecursion (λ t. t.begin < next) ts
earlier lsn next ts later = all_weaker (λ t. t.begin < lsn) (λ t. t.begin < next) (λ t early. omega (arith, early, later)) ts

-- One begins.
pub begins_open : (lsn next : ℕ) (ts : List Unclosed) (old new : Transactions) → lsn < next → AreOpen lsn ts old →
    ((txn : ℕ) → get nat_eq new.active txn ≡ cond (lsn == txn) (Some (begun lsn)) (get nat_eq old.active txn)) → new.writers ≡ old.writers → AreOpen next (begun lsn ∷ ts) new
begins_open lsn next ts old new later are opened writers = record {
  known = λ txn. opened txn ∙ ap (cond (lsn == txn) (Some (begun lsn))) (are.known txn);
  taken = λ txn number. ap (λ b. b || is_taken txn number ts) (and_right (not (lsn == txn)) false refl) ∙ are.taken txn number ∙ (λ i. is_others txn (get nat_eq (sym writers i) number));
  early = (later, earlier lsn next ts later are.early);
  apart = (not_begun lsn ts are.early, are.apart);
  own = (tt, are.own);
}

module _ (lsn next txn : ℕ) (ts : List Unclosed) (t : Unclosed) (old new : Transactions) (later : lsn < next) (are : AreOpen lsn ts old) (is : find (is_unclosed txn) ts ≡ Some t) where
  begins : t.begin ≡ txn
  begins = (found HoldsItsOwn txn ts t are.own is).1

  -- one has written a record
  pub puts_open : (write : Write) (standing : List Standing) → is_taken txn write.0 ts ≡ false → HoldsItsOwn (written lsn write standing t) →
      ((x : ℕ) → get nat_eq new.active x ≡ cond (t.begin == x) (Some (written lsn write standing t)) (cond (txn == x) None (get nat_eq old.active x))) →
      ((n : ℕ) → get nat_eq new.writers n ≡ cond (write.0 == n) (Some t.begin) (get nat_eq old.writers n)) →
      AreOpen next (written lsn write standing t ∷ without txn ts) new
  puts_open write standing free own opened writers = record {
    known = λ x. opened x ∙ ap (λ o. cond (t.begin == x) (Some (written lsn write standing t)) (cond (txn == x) None o)) (are.known x)
        ∙ ap (cond (t.begin == x) (Some (written lsn write standing t))) (sym (find_without txn x ts));
    taken = λ x n. taken_written txn x n ts t lsn write standing (get nat_eq old.writers n) are.apart is begins free (are.taken x n) ∙ ap (is_others x) (sym (writers n));
    early =
        let mine : t.begin < lsn = (found (λ u. u.begin < lsn) txn ts t are.early is).0 in
        (omega (arith, mine, later), all_without (λ u. u.begin < next) txn ts (earlier lsn next ts later are.early));
    apart = (find_without txn t.begin ts ∙ ap (λ b. cond b None (find (is_unclosed t.begin) ts)) (eq-eqb txn t.begin (sym begins)), once_without txn ts are.apart);
    own = (own, all_without HoldsItsOwn txn ts are.own);
  }

  -- one is closed
  pub closes_open :
      ((x : ℕ) → get nat_eq new.active x ≡ cond (txn == x) None (get nat_eq old.active x)) →
      ((n : ℕ) → get nat_eq new.writers n ≡ cond (has_written n t) None (get nat_eq old.writers n)) →
      AreOpen next (without txn ts) new
  closes_open opened writers = record {
    known = λ x. opened x ∙ ap (cond (txn == x) None) (are.known x) ∙ sym (find_without txn x ts);
    taken = λ x n. taken_closed txn x n ts t (get nat_eq old.writers n) are.apart is begins (λ y. are.taken y n) ∙ ap (is_others x) (sym (writers n));
    early = all_without (λ u. u.begin < next) txn ts (earlier lsn next ts later are.early);
    apart = once_without txn ts are.apart;
    own = all_without HoldsItsOwn txn ts are.own;
  }

-- and so they are before a later LSN
pub open_later : (lsn next : ℕ) (ts : List Unclosed) (kept : Transactions) → lsn ≤ next → AreOpen lsn ts kept → AreOpen next ts kept
open_later lsn next ts kept later are = record {
  known = are.known;
  taken = are.taken;
  early = all_weaker (λ t. t.begin < lsn) (λ t. t.begin < next) (λ t early. omega (arith, early, later)) ts are.early;
  apart = are.apart;
  own = are.own;
}
