-- What is known of a transaction behind one more record.
use Rattle.std.proofs.Common.{◌≡◌, ℕ, ◌==◌, nat_eq, Bool, true, false, cond, List, [], ◌∷◌, ◌++◌, refl, sym, ap, subst, ◌∙◌}
use Rattle.std.specs.Prelude.{Option, Some, None, Result, Ok, Err, OnOk}
use Rattle.std.proofs.lemmas.Bool.{eqb-true}
use Rattle.indexmap.specs.IndexMap.{get}
use Rattle.log_records.specs.declared.log_record.LogRecord.{LogRecord}
use Rattle.log_records.specs.declared.log_record.LogRecord.TheVariants.{Begin, Update, Clr, Commit, End}
use Rattle.log_records.specs.Log.{Entry, is_of, txn_of, txn_by}
use Rattle.log_archive.specs.Accepted.{Unclosed}
use Rattle.log_replay.specs.declared.transactions.Transactions.{Transactions}
use Rattle.archive_base.specs.Opening.{HasHeard, heard, heard_by, heard_one}

pub heard_push : (t : ℕ) (o : Option Unclosed) (log : List Entry) (e : Entry) → heard t o (log ++ e ∷ []) ≡ heard_one t e (heard t o log)
heard_push t o [] e = refl
heard_push t o (x ∷ log) e = heard_push t (heard_one t x o) log e

-- one that is heard has the Begin that it is named by
abbrev pub Named : ℕ → Option Unclosed → Type 0
Named t None = Unit {0}
Named t (Some u) = u.begin ≡ t

named_by : (t lsn : ℕ) (rec : LogRecord) (o : Option Unclosed) → txn_by lsn rec ≡ t → Named t o → Named t (heard_by lsn rec o)
named_by t lsn Begin o own named = own
named_by t lsn (Update txn prev page slot before after) None own named = tt
named_by t lsn (Update txn prev page slot before after) (Some u) own named = named
named_by t lsn (Clr txn prev undo_next page slot after) None own named = tt
named_by t lsn (Clr txn prev undo_next page slot after) (Some u) own named = named
named_by t lsn (Commit txn number) o own named = tt
named_by t lsn (End txn) o own named = tt

named_one : (t : ℕ) (e : Entry) (o : Option Unclosed) → Named t o → Named t (heard_one t e o)
named_one t e o named = by (is_of t e) refl
  where
    by : (b : Bool) → is_of t e ≡ b → Named t (cond b (heard_by e.lsn e.rec o) o)
    by true own = named_by t e.lsn e.rec o (eqb-true (txn_of e) t own) named
    by false other = named

pub named : (t : ℕ) (o : Option Unclosed) (log : List Entry) → Named t o → Named t (heard t o log)
named t o [] is = is
named t o (e ∷ log) is = named t (heard_one t e o) log (named_one t e o is)

-- a record of a transaction changes what is known of that one alone
pub one_heard : (log : List Entry) (old new : Transactions) (e : Entry) (txn : ℕ) (now : Option Unclosed) → HasHeard log old → txn_of e ≡ txn →
    ((t : ℕ) → get nat_eq new.active t ≡ cond (txn == t) now (get nat_eq old.active t)) → heard_by e.lsn e.rec (heard txn None log) ≡ now → HasHeard (log ++ e ∷ []) new
one_heard log old new e txn now has own is leads = λ t. is t ∙ by t (txn == t) refl ∙ sym (heard_push t None log e)
  where
    turned : (t : ℕ) (b : Bool) → (txn == t) ≡ b → b ≡ (txn_of e == t)
    turned t b at = sym (ap (λ x. x == t) own ∙ at)

    by : (t : ℕ) (b : Bool) → (txn == t) ≡ b → cond b now (get nat_eq old.active t) ≡ cond (txn_of e == t) (heard_by e.lsn e.rec (heard t None log)) (heard t None log)
    by t true at =
        sym leads ∙ ap (λ x. heard_by e.lsn e.rec (heard x None log)) (eqb-true txn t at)
        ∙ ap (λ b. cond b (heard_by e.lsn e.rec (heard t None log)) (heard t None log)) (turned t true at)
    by t false at = has t ∙ ap (λ b. cond b (heard_by e.lsn e.rec (heard t None log)) (heard t None log)) (turned t false at)

over : (b : Bool) (now old : Option Unclosed) → cond b now (cond b None old) ≡ cond b now old
over true now old = refl
over false now old = refl

-- one is taken out and put back with a record more
pub put_heard : (log : List Entry) (old mid new : Transactions) (e : Entry) (txn : ℕ) (u now : Unclosed) → HasHeard log old → txn_of e ≡ txn → Some u ≡ get nat_eq old.active txn →
    ((t : ℕ) → get nat_eq mid.active t ≡ cond (txn == t) None (get nat_eq old.active t)) →
    ((t : ℕ) → get nat_eq new.active t ≡ cond (u.begin == t) (Some now) (get nat_eq mid.active t)) →
    heard_by e.lsn e.rec (Some u) ≡ Some now → HasHeard (log ++ e ∷ []) new
put_heard log old mid new e txn u now has own taken others put leads =
    let there : heard txn None log ≡ Some u = sym (has txn) ∙ sym taken in
    let begins : u.begin ≡ txn = subst (Named txn) there (named txn None log tt) in
    one_heard log old new e txn (Some now) has own
    (λ t. put t ∙ ap (λ x. cond (x == t) (Some now) (get nat_eq mid.active t)) begins ∙ ap (cond (txn == t) (Some now)) (others t) ∙ over (txn == t) (Some now) (get nat_eq old.active t))
    (ap (heard_by e.lsn e.rec) there ∙ leads)

-- one is taken out, of which nothing is known behind the record
pub taken_heard : (log : List Entry) (old new : Transactions) (e : Entry) (txn : ℕ) → HasHeard log old → txn_of e ≡ txn →
    ((t : ℕ) → get nat_eq new.active t ≡ cond (txn == t) None (get nat_eq old.active t)) →
    heard_by e.lsn e.rec (get nat_eq old.active txn) ≡ None → HasHeard (log ++ e ∷ []) new
taken_heard log old new e txn has own others leads = one_heard log old new e txn None has own others (ap (heard_by e.lsn e.rec) (sym (has txn)) ∙ leads)

-- what holds where it is closed
pub on_ok : {A E : Type 0} (r : Result A E) (P Q : Type 0) → (P → Q) → OnOk r P → OnOk r Q
on_ok (Ok x) P Q to is = to is
on_ok (Err e) P Q to is = tt
