-- What a log has written, after one record more.
use Rattle.std.proofs.lemmas.Grind.{common_steps}
use Rattle.image_check.proofs.Names.{arith, ◌≡◌, ℕ, Bool, true, false, cond, List, Option, Some, None, option_map, nat_eq, refl, sym, subst, eqb-true, eq-eqb, none-some, same_Some, option_or, had_value, KeepsLast, AreWritten, before_by, Writings, Written, get, with, updates_there, first_is, first_push, first_same, last_same, last_new, closed_push, own_last, one, Entry, txn_of, is_on, number_of, is_closing, is_closed, after_of, last_on, first_update, Pairwise, HoldsOff, LogRecord, Update}
use Rattle.std.proofs.Common.{is_some}
use Rattle.std.specs.Prelude.{◌==◌}
use Rattle.indexmap.specs.IndexSet.{contains}

-- Where an open transaction has an Update on a number, the last record there is its own.

-- where the last record there is of another transaction, or there is none, it has none
no_first : (log records : List Entry) (t number : ℕ) → Pairwise (HoldsOff log) records → is_closed log t ≡ false → ((x : Entry) → last_on records number ≡ Some x → txn_of x ≡ t → ⊥) → None ≡ option_map had_value (first_update records t number)
no_first log records t number held lives none = grind (arith, common_steps, option_map, own_last, first_is)

-- so what is kept says whether a value stood before its first Update there
before_is : (log records : List Entry) (t number : ℕ) (o : Option Entry) (w : Option Written) → Pairwise (HoldsOff log) records → last_on records number ≡ o → KeepsLast log records number o w → is_closed log t ≡ false →
    before_by w t ≡ option_map had_value (first_update records t number)
before_is log records t number None None held last keeps lives = grind (arith, common_steps, no_first, none-some)
before_is log records t number None (Some w) held last keeps lives = grind (arith, common_steps)
before_is log records t number (Some x) None held last keeps lives = grind (arith, common_steps)
before_is log records t number (Some x) (Some w) held last keeps lives = grind (arith, common_steps, option_map, eqb-true, no_first, same_Some, eq-eqb)

-- One record more.

-- on another number, or none
keeps_same : (log records : List Entry) (e : Entry) (number : ℕ) (o : Option Entry) (w : Option Written) → is_on number e ≡ false → KeepsLast log records number o w → KeepsLast log (with records e) number o w
keeps_same log records e number None None off keeps = grind (arith, common_steps)
keeps_same log records e number None (Some w) off keeps = grind (arith, common_steps)
keeps_same log records e number (Some x) None off keeps = grind (arith, common_steps)
keeps_same log records e number (Some x) (Some w) off keeps = grind (arith, common_steps, option_map, first_same)

pub last_elsewhere : (log records : List Entry) (e : Entry) (number : ℕ) (w : Option Written) → is_on number e ≡ false → KeepsLast log records number (last_on records number) w → KeepsLast log (with records e) number (last_on (with records e) number) w
last_elsewhere log records e number w off keeps =
    subst (λ (o : Option Entry). KeepsLast log (with records e) number o w) (sym (last_same records e number off)) (keeps_same log records e number (last_on records number) w off keeps)

map_or : (a b : Option Entry) → option_map had_value (option_or a b) ≡ option_or (option_map had_value a) (option_map had_value b)
map_or None b = refl
map_or (Some x) b = refl

-- whether a value stood before the record, if it is an Update
abbrev pub had_by : LogRecord → Option Bool
had_by (Update txn prev page slot before after) = Some (is_some before)
had_by _ = None

had_here : (e : Entry) (number : ℕ) → is_on number e ≡ true → option_map had_value (one (updates_there (txn_of e) number) e) ≡ had_by e.rec
had_here e number on = grind (arith, common_steps, eq-eqb, updates_there, option_map, one, is_some)

pub last_here : (log records : List Entry) (e : Entry) (number : ℕ) (w : Option Written) → Pairwise (HoldsOff log) records → is_on number e ≡ true → KeepsLast log records number (last_on records number) w →
    KeepsLast log (with records e) number (last_on (with records e) number) (Some (record { txn = txn_of e; after = is_some (after_of e.rec); before = option_or (before_by w (txn_of e)) (had_by e.rec) }))
last_here log records e number w held on keeps = grind (arith, common_steps, is_some, before_is, had_here, map_or, one, updates_there, option_map, first_push, last_new)

-- What is kept of all.

closes_none : (records : List Entry) (e : Entry) (t : ℕ) → is_closing e.rec ≡ false → is_closed (with records e) t ≡ is_closed records t
closes_none records e t off = grind (arith, common_steps, closed_push)

-- a record on no number that closes none
pub written_begin : (log records : List Entry) (e : Entry) (w : Writings) → number_of e.rec ≡ None → is_closing e.rec ≡ false → AreWritten log records w → AreWritten log (with records e) w
written_begin log records e w none off are = grind (arith, common_steps, last_elsewhere, nat_eq, closes_none)

-- a Commit or an End
pub written_closed : (log records : List Entry) (e : Entry) (old new : Writings) → number_of e.rec ≡ None → is_closing e.rec ≡ true → new.last ≡ old.last →
    ((t : ℕ) → contains nat_eq new.closed t ≡ cond (txn_of e == t) true (contains nat_eq old.closed t)) → AreWritten log records old → AreWritten log (with records e) new
written_closed log records e old new none closing same closed are = grind (arith, common_steps, nat_eq, last_elsewhere, closed_push)

-- an Update or a CLR
pub written_on : (log records : List Entry) (e : Entry) (number : ℕ) (old new : Writings) → Pairwise (HoldsOff log) records → number_of e.rec ≡ Some number → is_closing e.rec ≡ false → new.closed ≡ old.closed →
    ((n : ℕ) → get nat_eq new.last n ≡ cond (number == n) (Some (record { txn = txn_of e; after = is_some (after_of e.rec); before = option_or (before_by (get nat_eq old.last number) (txn_of e)) (had_by e.rec) })) (get nat_eq old.last n)) →
    AreWritten log records old → AreWritten log (with records e) new
written_on log records e number old new held on off same last are = grind (arith, common_steps, nat_eq, closes_none, is_some, eq-eqb, eqb-true, last_here, last_elsewhere)
