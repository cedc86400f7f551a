-- A table seen session by session.
use Rattle.txn_table.proofs.Names.{◌≡◌, ◌≢◌, ℕ, zero, suc, ◌+◌, ◌<◌, ◌≤◌, ◌==◌, Bool, true, false, cond, List, [], ◌∷◌, sum_by, length, get_or, Contains, Some, arith, rules, refl, sym, ap, ◌∙◌, eqb-true, eq-eqb, ne_eqb, cond-true, cond-false, All-from_recursion, sum_by-cons, none-some, same_Some, range_with_len, option_map_or, IsTable, entry_of, Active}
use Rattle.txn_table.proofs.Places.{entry_of-absent, weaker}

-- a sum over sessions, where one of them counts more
one_more : (session extra : ℕ) (of others : ℕ → ℕ) → session < 8 → others session ≡ 0
    → ((n : ℕ) → of n ≡ cond (session == n) extra (others n))
    → sum_by of (range_with_len 0 8) ≡ extra + sum_by others (range_with_len 0 8)
one_more zero extra of others small none says = omega (arith, none, says 0, says 1, says 2, says 3, says 4, says 5, says 6, says 7)
one_more (suc zero) extra of others small none says = omega (arith, none, says 0, says 1, says 2, says 3, says 4, says 5, says 6, says 7)
one_more (suc (suc zero)) extra of others small none says = omega (arith, none, says 0, says 1, says 2, says 3, says 4, says 5, says 6, says 7)
one_more (suc (suc (suc zero))) extra of others small none says = omega (arith, none, says 0, says 1, says 2, says 3, says 4, says 5, says 6, says 7)
one_more (suc (suc (suc (suc zero)))) extra of others small none says = omega (arith, none, says 0, says 1, says 2, says 3, says 4, says 5, says 6, says 7)
one_more (suc (suc (suc (suc (suc zero))))) extra of others small none says = omega (arith, none, says 0, says 1, says 2, says 3, says 4, says 5, says 6, says 7)
one_more (suc (suc (suc (suc (suc (suc zero)))))) extra of others small none says = omega (arith, none, says 0, says 1, says 2, says 3, says 4, says 5, says 6, says 7)
one_more (suc (suc (suc (suc (suc (suc (suc zero))))))) extra of others small none says = omega (arith, none, says 0, says 1, says 2, says 3, says 4, says 5, says 6, says 7)
one_more (suc (suc (suc (suc (suc (suc (suc (suc more)))))))) extra of others small none says = absurd (omega (arith, small))

-- what a number of the entries sums to, session by session
pub sum-by_session : (number : Active → ℕ) (entries : List Active) → IsTable entries
    → sum_by number entries ≡ sum_by (λ n. option_map_or number (entry_of entries n) 0) (range_with_len 0 8)
sum-by_session number [] table = refl
sum-by_session number (entry ∷ later) table =
    sum_by-cons number entry later
    ∙ ap (λ rest. number entry + rest) (sum-by_session number later table.3)
    ∙ sym (one_more entry.session (number entry) (λ n. option_map_or number (entry_of (entry ∷ later) n) 0) (λ n. option_map_or number (entry_of later n) 0) table.0
    (ap (λ o. option_map_or number o 0) (entry_of-absent later entry.session (weaker (λ other. (entry.session ≢ other.session) × (entry.begin ≤ other.begin)) (λ other. entry.session ≢ other.session) (λ other p. p.0) later table.2)))
    (λ n. each (entry.session == n) n))
  where
    each : (b : Bool) (n : ℕ) → option_map_or number (cond b (Some entry) (entry_of later n)) 0 ≡ cond b (number entry) (option_map_or number (entry_of later n) 0)
    each true n = refl
    each false n = refl

-- each entry of a table is its session's
pub entry_of-at : (entries : List Active) → IsTable entries → (place : ℕ) (otherwise : Active) → place < length entries
    → entry_of entries (get_or entries place otherwise).session ≡ Some (get_or entries place otherwise)
entry_of-at [] table place otherwise less = absurd (omega (arith, less))
entry_of-at (entry ∷ later) table zero otherwise less = cond-true _ _ (entry_of later entry.session) (eq-eqb entry.session entry.session refl)
entry_of-at (entry ∷ later) table (suc place) otherwise less =
    cond-false _ _ _ (ne_eqb entry.session (get_or later place otherwise).session
    (All-from_recursion (λ (other : Active). (entry.session ≢ other.session) × (entry.begin ≤ other.begin)) later table.2 place otherwise (omega (arith, less))).0)
    ∙ entry_of-at later table.3 place otherwise (omega (arith, less))

-- a session's entry stands somewhere in the table
pub entry_of-Contains : (entries : List Active) (session : ℕ) (own : Active) → entry_of entries session ≡ Some own → Contains entries own × (own.session ≡ session)
entry_of-Contains [] session own is = absurd (none-some own is)
entry_of-Contains (entry ∷ later) session own is = by (entry.session == session) refl is (entry_of-Contains later session own)
  where
    by : (b : Bool) → (entry.session == session) ≡ b → cond b (Some entry) (entry_of later session) ≡ Some own
        → (entry_of later session ≡ Some own → Contains later own × (own.session ≡ session)) → Contains (entry ∷ later) own × (own.session ≡ session)
    by true same is rest = let own_is : entry ≡ own = same_Some entry own is in ((0, omega arith, own_is), sym (ap (λ (e : Active). e.session) own_is) ∙ eqb-true _ _ same)
    by false same is rest = let found = rest is in ((found.0.0 + 1, omega (arith, found.0.1), search (rules, found.0.2)), found.1)
