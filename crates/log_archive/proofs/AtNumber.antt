-- What a record behind a log changes of what a stream says of one number.
use Rattle.std.proofs.lemmas.Grind.{common_steps}
use Rattle.std.proofs.Common.{◌≡◌, ℕ, ◌<◌, Bool, true, false, cond, ◌&&◌, List, [], ◌∷◌, refl, sym, ap, subst, ◌∙◌, arith}
use Rattle.std.specs.Prelude.{Option, Some, None, find}
use Rattle.std.specs.List.{AllByRecursion}
use Rattle.std.proofs.lemmas.Bool.{and_left, and_right, and_from, eqb-true, eq-eqb}
use Rattle.std.proofs.lemmas.Option.{same_Some}
use Rattle.std_lemmas.proofs.AllOf.{all_push}
use Rattle.record_model.specs.State.{Content, last_write}
use Rattle.log_records.specs.Log.{Entry, Version, before_first, before_of, first_update, is_closed, is_closing, is_of, is_on, is_update, last_on, shown, txn_of, value_of}
use Rattle.log_records.proofs.Lists.{all_last}
use Rattle.log_laws.proofs.Lists.{last_passes}
use Rattle.log_laws.proofs.Values.{with, closed_same, first_same, last_same, updates_there, value_closed, value_open, value_same, first_is}
use Rattle.log_archive.specs.Accepted.{Standing, Stream, Unclosed, is_unclosed}
use Rattle.log_archive.specs.Values.{AgreesAt, HasNotWritten, HasWritten, IsOpenAt, Wrote, is_at, undone}

-- Who has written the number.

-- a transaction with no record there has no Update there
pub no_first : (log : List Entry) (t number : ℕ) → AllByRecursion (λ e. (is_of t e && is_on number e) ≡ false) log → first_update log t number ≡ None
no_first log t number none = first_is log t number ∙ by log none
  where
    here : (a b c : Bool) → (a && c) ≡ false → (a && (b && c)) ≡ false
    here true true c is = is
    here true false c is = refl
    here false b c is = refl

    by : (xs : List Entry) → AllByRecursion (λ e. (is_of t e && is_on number e) ≡ false) xs → find (updates_there t number) xs ≡ None
    by [] all = refl
    by (x ∷ xs) all = ap (λ b. cond b (Some x) (find (updates_there t number) xs)) (here (is_of t x) (is_update x.rec) (is_on number x) all.0) ∙ by xs all.1

-- and isn't that of the last record there
pub not_last : (log : List Entry) (number : ℕ) (t : Unclosed) (x : Entry) → HasNotWritten log number t → last_on log number ≡ Some x → txn_of x ≡ t.begin → ⊥
not_last log number t x none is own =
    let on = last_passes (is_on number) log x is in
    let miss : (is_of t.begin x && is_on number x) ≡ false = all_last (λ e. (is_of t.begin e && is_on number e) ≡ false) (is_on number) log x none.none is in
    let hit : (is_of t.begin x && is_on number x) ≡ true = and_from (is_of t.begin x) (is_on number x) (eq-eqb (txn_of x) t.begin own) on in
    let bad : true ≡ false = sym hit ∙ miss in cc

pub not_written_push : (log : List Entry) (number : ℕ) (t : Unclosed) (e : Entry) → (is_of t.begin e && is_on number e) ≡ false → HasNotWritten log number t → HasNotWritten (with log e) number t
not_written_push log number t e miss none = record { none = all_push (λ x. (is_of t.begin x && is_on number x) ≡ false) log e none.none miss; stays = none.stays }

pub wrote_off : (log : List Entry) (number : ℕ) (t : Unclosed) (e : Entry) (left : Option Content) → is_on number e ≡ false → Wrote log number t left → Wrote (with log e) number t left
wrote_off log number t e None off wrote = not_written_push log number t e (and_right (is_of t.begin e) (is_on number e) off) wrote
wrote_off log number t e (Some left) off wrote = record {
  last = wrote.last;
  last_is = last_same log e number off ∙ wrote.last_is;
  own = wrote.own;
  leaves = wrote.leaves;
  first = wrote.first;
  first_is = first_same log e t.begin number (and_right (is_update e.rec) (is_on number e) off) ∙ wrote.first_is;
  leads_back = wrote.leads_back;
}

-- one that goes on unclosed behind a record on another number
pub open_off : (log : List Entry) (number : ℕ) (t : Unclosed) (e : Entry) → is_on number e ≡ false → (is_of t.begin e && is_closing e.rec) ≡ false → IsOpenAt log number t → IsOpenAt (with log e) number t
open_off log number t e off goes lives = record {
  unclosed = closed_same log e t.begin goes ∙ lives.unclosed;
  ascends = lives.ascends;
  wrote = wrote_off log number t e (last_write t.net number) off lives.wrote;
}

-- and behind one of another transaction, where it hasn't written the number
pub open_other : (log : List Entry) (number : ℕ) (t : Unclosed) (e : Entry) → is_of t.begin e ≡ false → last_write t.net number ≡ None → IsOpenAt log number t → IsOpenAt (with log e) number t
open_other log number t e other none lives = record {
  unclosed = closed_same log e t.begin (and_left (is_of t.begin e) (is_closing e.rec) other) ∙ lives.unclosed;
  ascends = lives.ascends;
  wrote = subst (Wrote (with log e) number t) (sym none)
      (not_written_push log number t e (and_left (is_of t.begin e) (is_on number e) other) (subst (Wrote log number t) none lives.wrote));
}

-- undoing what isn't there
pub undone_stays : (number : ℕ) (content : Content) (standing : List Standing) → AllByRecursion (λ u. is_at number u ≡ false) standing → undone number content standing ≡ content
undone_stays number content [] stays = refl
undone_stays number content (u ∷ standing) stays = ap (λ b. undone number (cond b u.before content) standing) stays.0 ∙ undone_stays number content standing stays.1

-- Values.

pub value_off : (log : List Entry) (versions : List Version) (e : Entry) (number : ℕ) → is_closing e.rec ≡ false → is_on number e ≡ false → value_of (with log e) versions number ≡ value_of log versions number
value_off log versions e number goes off = grind (arith, common_steps, with, last_same, value_same, closed_same, and_right, first_same)

-- where a transaction has written the number, its value is what stood before
pub value_written : (log : List Entry) (versions : List Version) (number : ℕ) (t : Unclosed) (left : Content) → is_closed log t.begin ≡ false → (w : HasWritten log number t left) → value_of log versions number ≡ before_of w.first.rec
value_written log versions number t left lives w =
    value_open log versions number w.last w.last_is (ap (is_closed log) w.own ∙ lives)
    ∙ ap before_first (ap (λ x. first_update log x number) w.own ∙ w.first_is)

module _ (log : List Entry) (versions : List Version) (number lsn : ℕ) (s : Stream) (agrees : AgreesAt log versions number lsn s) where
  -- one that is found is open, with this Begin
  pub found : (txn : ℕ) (t : Unclosed) → find (is_unclosed txn) s.unclosed ≡ Some t → IsOpenAt log number t × (t.begin ≡ txn) × (t.begin < lsn)
  found txn t is = by s.unclosed agrees.opened agrees.early is
    where
      by : (ts : List Unclosed) → AllByRecursion (IsOpenAt log number) ts → AllByRecursion (λ t. t.begin < lsn) ts → find (is_unclosed txn) ts ≡ Some t → IsOpenAt log number t × (t.begin ≡ txn) × (t.begin < lsn)
      by [] all early is = let bad : None ≡ Some t = is in cc
      by (u ∷ ts) all early is = test (is_unclosed txn u) refl is (by ts all.1 early.1)
        where
          test : (b : Bool) → is_unclosed txn u ≡ b → cond b (Some u) (find (is_unclosed txn) ts) ≡ Some t → (find (is_unclosed txn) ts ≡ Some t → IsOpenAt log number t × (t.begin ≡ txn) × (t.begin < lsn)) → IsOpenAt log number t × (t.begin ≡ txn) × (t.begin < lsn)
          test true at same later = subst (λ x. IsOpenAt log number x × (x.begin ≡ txn) × (x.begin < lsn)) (same_Some _ _ same) (all.0, eqb-true u.begin txn at, early.0)
          test false at same later = later same

  -- where no open transaction has written the number, its value shows
  pub value_shows : ((txn : ℕ) (t : Unclosed) → find (is_unclosed txn) s.unclosed ≡ Some t → last_write t.net number ≡ None) → value_of log versions number ≡ shown log versions number
  value_shows none = by_last (last_on log number) refl
    where
      by_last : (o : Option Entry) → last_on log number ≡ o → value_of log versions number ≡ shown log versions number
      by_last None last = grind arith
      by_last (Some x) last = by_open (find (is_unclosed (txn_of x)) s.unclosed) refl
        where
          by_open : (o : Option Unclosed) → find (is_unclosed (txn_of x)) s.unclosed ≡ o → value_of log versions number ≡ shown log versions number
          by_open None is = value_closed log versions number x last (agrees.closed x last is) ∙ grind arith
          by_open (Some t) is =
              let f = found (txn_of x) t is in
              absurd (not_last log number t x (subst (Wrote log number t) (none (txn_of x) t is) f.0.wrote) last (sym f.1))
