-- What the active sessions owe, session by session.
use Rattle.txn_table.proofs.Names.{◌≡◌, ◌≢◌, ℕ, zero, suc, ◌+◌, ◌^◌, ◌==◌, cond, ◌<◌, ◌≤◌, Bool, true, false, List, [], ◌∷◌, sum_by, Option, Some, refl, ap, subst, arith, eqb-true, none-some, same_Some, range_with_len, option_map_or, IsTable, entry_of, ChangesOnly, owed, Active}
use Rattle.txn_table.proofs.BySession.{sum-by_session}

abbrev pub owed_one : Active → ℕ
owed_one entry = entry.writes + 1

abbrev pub owed_at : List Active → ℕ → ℕ
owed_at active n = option_map_or owed_one (entry_of active n) 0

pub owed_is : (active : List Active) → IsTable active → owed active ≡ sum_by (owed_at active) (range_with_len 0 8)
owed_is active table = sum-by_session owed_one active table

-- one number of eight changes
changes_one : (n : ℕ) (f h : ℕ → ℕ) → n < 8 → ((m : ℕ) → m ≢ n → f m ≡ h m) → sum_by f (range_with_len 0 8) + h n ≡ sum_by h (range_with_len 0 8) + f n
changes_one zero f h less same = omega (arith, same 1 (λ e. omega (arith, e)), same 2 (λ e. omega (arith, e)), same 3 (λ e. omega (arith, e)), same 4 (λ e. omega (arith, e)), same 5 (λ e. omega (arith, e)), same 6 (λ e. omega (arith, e)), same 7 (λ e. omega (arith, e)))
changes_one (suc zero) f h less same = omega (arith, same 0 (λ e. omega (arith, e)), same 2 (λ e. omega (arith, e)), same 3 (λ e. omega (arith, e)), same 4 (λ e. omega (arith, e)), same 5 (λ e. omega (arith, e)), same 6 (λ e. omega (arith, e)), same 7 (λ e. omega (arith, e)))
changes_one (suc (suc zero)) f h less same = omega (arith, same 0 (λ e. omega (arith, e)), same 1 (λ e. omega (arith, e)), same 3 (λ e. omega (arith, e)), same 4 (λ e. omega (arith, e)), same 5 (λ e. omega (arith, e)), same 6 (λ e. omega (arith, e)), same 7 (λ e. omega (arith, e)))
changes_one (suc (suc (suc zero))) f h less same = omega (arith, same 0 (λ e. omega (arith, e)), same 1 (λ e. omega (arith, e)), same 2 (λ e. omega (arith, e)), same 4 (λ e. omega (arith, e)), same 5 (λ e. omega (arith, e)), same 6 (λ e. omega (arith, e)), same 7 (λ e. omega (arith, e)))
changes_one (suc (suc (suc (suc zero)))) f h less same = omega (arith, same 0 (λ e. omega (arith, e)), same 1 (λ e. omega (arith, e)), same 2 (λ e. omega (arith, e)), same 3 (λ e. omega (arith, e)), same 5 (λ e. omega (arith, e)), same 6 (λ e. omega (arith, e)), same 7 (λ e. omega (arith, e)))
changes_one (suc (suc (suc (suc (suc zero))))) f h less same = omega (arith, same 0 (λ e. omega (arith, e)), same 1 (λ e. omega (arith, e)), same 2 (λ e. omega (arith, e)), same 3 (λ e. omega (arith, e)), same 4 (λ e. omega (arith, e)), same 6 (λ e. omega (arith, e)), same 7 (λ e. omega (arith, e)))
changes_one (suc (suc (suc (suc (suc (suc zero)))))) f h less same = omega (arith, same 0 (λ e. omega (arith, e)), same 1 (λ e. omega (arith, e)), same 2 (λ e. omega (arith, e)), same 3 (λ e. omega (arith, e)), same 4 (λ e. omega (arith, e)), same 5 (λ e. omega (arith, e)), same 7 (λ e. omega (arith, e)))
changes_one (suc (suc (suc (suc (suc (suc (suc zero))))))) f h less same = omega (arith, same 0 (λ e. omega (arith, e)), same 1 (λ e. omega (arith, e)), same 2 (λ e. omega (arith, e)), same 3 (λ e. omega (arith, e)), same 4 (λ e. omega (arith, e)), same 5 (λ e. omega (arith, e)), same 6 (λ e. omega (arith, e)))
changes_one (suc (suc (suc (suc (suc (suc (suc (suc more)))))))) f h less same = absurd (omega (arith, less))

part_of : (n : ℕ) (f : ℕ → ℕ) → n < 8 → f n ≤ sum_by f (range_with_len 0 8)
part_of zero f less = omega arith
part_of (suc zero) f less = omega arith
part_of (suc (suc zero)) f less = omega arith
part_of (suc (suc (suc zero))) f less = omega arith
part_of (suc (suc (suc (suc zero)))) f less = omega arith
part_of (suc (suc (suc (suc (suc zero))))) f less = omega arith
part_of (suc (suc (suc (suc (suc (suc zero)))))) f less = omega arith
part_of (suc (suc (suc (suc (suc (suc (suc zero))))))) f less = omega arith
part_of (suc (suc (suc (suc (suc (suc (suc (suc more)))))))) f less = absurd (omega (arith, less))

pub owed_changes : (old new : List Active) (n : ℕ) (entry : Option Active) → IsTable old → IsTable new → n < 8 → ChangesOnly old new n entry → owed new + owed_at old n ≡ owed old + option_map_or owed_one entry 0
owed_changes old new n entry before after less changes =
    let all = changes_one n (owed_at new) (owed_at old) less (λ m ne. ap (λ (o : Option Active). option_map_or owed_one o 0) (changes.others m ne)) in
    omega (arith, all, ap (λ (o : Option Active). option_map_or owed_one o 0) changes.own, owed_is old before, owed_is new after)

-- an entry is its session's, below 8, and has so many writes at most, and a mark that isn't above them
pub record IsEntry (n : ℕ) (entry : Active) : Type 0 where
  pub session : entry.session ≡ n
  pub small : n < 8
  pub few : entry.writes ≤ 2 ^ 32
  pub mark : entry.mark ≤ entry.writes

pub entry_is : (active : List Active) (n : ℕ) (own : Active) → IsTable active → entry_of active n ≡ Some own → IsEntry n own
entry_is [] n own table is = absurd (none-some own is)
entry_is (entry ∷ later) n own table is = by (entry.session == n) refl is (entry_is later n own table.3)
  where
    by : (b : Bool) → (entry.session == n) ≡ b → cond b (Some entry) (entry_of later n) ≡ Some own → (entry_of later n ≡ Some own → IsEntry n own) → IsEntry n own
    by true same first rest =
        let own_is : entry ≡ own = same_Some entry own first in
        let session : entry.session ≡ n = eqb-true _ _ same in
        subst (IsEntry n) own_is (record { session = session; small = subst (λ (k : ℕ). k < 8) session table.0; few = table.1.few; mark = table.1.mark })
    by false same later_is rest = rest later_is

-- it owes a part of the whole
pub owes : (active : List Active) (n : ℕ) (own : Active) → IsTable active → entry_of active n ≡ Some own → own.writes + 1 ≤ owed active
owes active n own table is =
    let at : owed_at active n ≡ own.writes + 1 = ap (λ (o : Option Active). option_map_or owed_one o 0) is in
    omega (arith, at, owed_is active table, part_of n (owed_at active) (entry_is active n own table is).small)
