-- Active transactions in the records that a checkpoint keeps.
use Rattle.redo_laws.proofs.Citing.{arith, ◌≡◌, ℕ, ◌==◌, ◌||◌, ◌&&◌, not, Bool, true, false, true≢false, List, [], ◌∷◌, map, refl, sym, ap, list_any, Option, Master, Pair, master_of, IsActive, Entry, is_loser, Active, Write}
use Rattle.redo_laws.specs.Checkpointing.{AreUnfinished, KeepUnfinished}
use Rattle.std.specs.Prelude.{Some}

named_any : (pairs : List Pair) (t : ℕ) → list_any (λ (a : Active). a.begin == t) (map (λ pair. record { begin = pair.begin; last = pair.last }) pairs) ≡ list_any (λ pair. pair.begin == t) pairs
named_any [] t = refl
named_any (pair ∷ pairs) t = ap (λ b. (pair.begin == t) || b) (named_any pairs t)

not_closed_of : (some closed : Bool) → (some && not closed) ≡ true → closed ≡ false
not_closed_of true true is = absurd (true≢false (sym is))
not_closed_of true false is = refl
not_closed_of false closed is = absurd (true≢false (sym is))

-- An active transaction stays one in the records that a checkpoint keeps, under the master that names it.
pub active_outlives : (newest : Option Master) (m : Master) (records kept : List Entry) (t last : ℕ) (writes : List Write) → KeepUnfinished records kept → AreUnfinished records m.active → is_loser records t ≡ true → IsActive (master_of newest) records t last writes → IsActive (master_of (Some m)) kept t last writes
active_outlives newest m records kept t last writes keeps are loser active = grind (arith, named_any, not_closed_of)
