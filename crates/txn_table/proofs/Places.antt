-- How many entries a table has, and where they stand.
use Rattle.txn_table.proofs.Names.{◌≡◌, ◌≢◌, ℕ, zero, suc, ◌+◌, ◌*◌, ◌^◌, ◌<◌, ◌≤◌, ◌==◌, Bool, true, false, cond, List, [], ◌∷◌, length, map, AllPairs, slice_get, option_map, unwrap_or, not, nat_lt, Option, None, Some, arith, refl, sym, ap, subst, take, get_or, ◌∙◌, eqb-false, ltb-false, ne_eqb, cond-false, nat_tests, All-from_recursion, prefix_len-le-length, sum_by-cons, sum_by_more_le, none-some, AllByRecursion, list_any, position_or_len, IsTable, entry_of, IsLeast, owed, Active}
use Rattle.std.specs.List.{IsDistinct}
use Rattle.std.proofs.lemmas.Map.Steps.{length-le_from_distinct_below}

abbrev sessions_of : List Active → List ℕ
sessions_of entries = map (λ entry. entry.session) entries

length-sessions_of : (entries : List Active) → length (sessions_of entries) ≡ length entries
length-sessions_of [] = refl
length-sessions_of (entry ∷ later) = ap suc (length-sessions_of later)

-- sessions that all differ from one
apart : (session : ℕ) (entries : List Active) → AllByRecursion (λ other. session ≢ other.session) entries
    → AllByRecursion (λ other. (session == other) ≡ false) (sessions_of entries)
apart session [] all = tt
apart session (entry ∷ later) all = (ne_eqb _ _ all.0, apart session later all.1)

-- what holds of each entry, weakened
pub weaker : (P Q : Active → Type 0) → ((entry : Active) → P entry → Q entry) → (entries : List Active)
    → AllByRecursion P entries → AllByRecursion Q entries
weaker P Q says [] all = tt
weaker P Q says (entry ∷ later) all = (says entry all.0, weaker P Q says later all.1)

distinct : (entries : List Active) → IsTable entries → IsDistinct (λ a b. a == b) (sessions_of entries)
unfolding IsDistinct
distinct [] table = tt
distinct (entry ∷ later) table =
    (apart entry.session later (weaker (λ other. (entry.session ≢ other.session) × (entry.begin ≤ other.begin)) (λ other. entry.session ≢ other.session) (λ other p. p.0) later table.2), distinct later table.3)

below : (entries : List Active) → IsTable entries → (q : ℕ) → list_any (λ n. q == n) (sessions_of entries) ≡ true → q < 8
below [] table q found = cc
below (entry ∷ later) table q found = grind (arith, nat_tests, table.0, below later table.3 q)

pub few : (entries : List Active) → IsTable entries → length entries ≤ 8
few entries table = omega (arith, length-sessions_of entries, length-le_from_distinct_below (sessions_of entries) 8 (distinct entries table) (below entries table))

-- a session has no entry exactly where it differs from all that have one
pub absent : (entries : List Active) (session : ℕ) → entry_of entries session ≡ None → AllByRecursion (λ other. session ≢ other.session) entries
absent [] session none = tt
absent (entry ∷ later) session none = by (entry.session == session) refl none (absent later session)
  where
    by : (b : Bool) → (entry.session == session) ≡ b → cond b (Some entry) (entry_of later session) ≡ None
        → (entry_of later session ≡ None → AllByRecursion (λ other. session ≢ other.session) later) → AllByRecursion (λ other. session ≢ other.session) (entry ∷ later)
    by true is none rest = absurd (none-some entry (sym none))
    by false is none rest = ((λ same. eqb-false _ _ is (sym same)), rest none)

pub entry_of-absent : (entries : List Active) (session : ℕ) → AllByRecursion (λ other. session ≢ other.session) entries → entry_of entries session ≡ None
entry_of-absent [] session all = refl
entry_of-absent (entry ∷ later) session all = cond-false _ _ _ (ne_eqb _ _ (λ same. all.0 (sym same))) ∙ entry_of-absent later session all.1

-- there is room for one session more
pub room : (entries : List Active) (session : ℕ) → IsTable entries → session < 8 → entry_of entries session ≡ None → length entries < 8
unfolding IsDistinct
room entries session table small none = omega (arith, length-sessions_of entries, length-le_from_distinct_below (session ∷ sessions_of entries) 8 all_distinct all_below)
  where
    all_distinct : IsDistinct (λ a b. a == b) (session ∷ sessions_of entries)
    all_distinct = (apart session entries (absent entries session none), distinct entries table)

    all_below : (q : ℕ) → list_any (λ n. q == n) (session ∷ sessions_of entries) ≡ true → q < 8
    all_below q found = grind (arith, nat_tests, below entries table q)

pub ascending : (entries : List Active) → IsTable entries → AllPairs (λ a b. a.begin ≤ b.begin) entries
ascending [] table i j d before within = absurd (omega (arith, within))
ascending (entry ∷ later) table i zero d before within = absurd (omega (arith, before))
ascending (entry ∷ later) table zero (suc j) d before within =
    (All-from_recursion (λ (other : Active). (entry.session ≢ other.session) × (entry.begin ≤ other.begin)) later table.2 j d (omega (arith, within))).1
ascending (entry ∷ later) table (suc i) (suc j) d before within = ascending later table.3 i j d (omega (arith, before)) (omega (arith, within))

no_earlier : (begin : ℕ) (entries : List Active) → AllByRecursion (λ other. begin ≤ other.begin) entries
    → AllByRecursion (λ number. begin ≤ number) (map (λ entry. entry.begin) entries)
no_earlier begin [] all = tt
no_earlier begin (entry ∷ later) all = (all.0, no_earlier begin later all.1)

-- the first entry began first
pub first_is_least : (entries : List Active) → IsTable entries → IsLeast (map (λ entry. entry.begin) entries) (option_map (λ entry. entry.begin) (slice_get entries 0))
first_is_least [] table = refl
first_is_least (entry ∷ later) table = (
  (0, omega arith, refl),
  All-from_recursion (λ number. entry.begin ≤ number) (map (λ other. other.begin) (entry ∷ later))
      (omega arith, no_earlier entry.begin later (weaker (λ other. (entry.session ≢ other.session) × (entry.begin ≤ other.begin)) (λ other. entry.begin ≤ other.begin) (λ other p. p.1) later table.2)),
)

-- where a search by `position` stops
pub place-position : {X : Type 0} (test : X → Bool) (xs : List X) (found : Option ℕ)
    → found ≡ cond (nat_lt (position_or_len test xs) (length xs)) (Some (position_or_len test xs)) None
    → unwrap_or found (length xs) ≡ position_or_len test xs
place-position test xs found is = ap (λ o. unwrap_or o (length xs)) is ∙ by (nat_lt (position_or_len test xs) (length xs)) refl
  where
    by : (b : Bool) → nat_lt (position_or_len test xs) (length xs) ≡ b
        → unwrap_or (cond b (Some (position_or_len test xs)) None) (length xs) ≡ position_or_len test xs
    by true less = refl
    by false less = omega (arith, ltb-false _ _ less, prefix_len-le-length (λ x. not (test x)) xs)

-- eight sessions owe little
owed-le : (entries : List Active) → IsTable entries → owed entries ≤ length entries * (2 ^ 32 + 1)
owed-le [] table = omega arith
owed-le (entry ∷ later) table = omega (arith, sum_by-cons (λ (e : Active). e.writes + 1) entry later, table.1.few, owed-le later table.3)

pub owed_fits : (entries : List Active) → IsTable entries → owed entries < 2 ^ 64
owed_fits entries table = omega (arith, few entries table, owed-le entries table)

-- the sum so far and one entry more
pub owed_more : (shown held : List Active) (place so_far : ℕ) (otherwise : Active) → shown ≡ held → IsTable held → place < length shown
    → so_far ≡ owed (take place shown) → so_far + ((get_or shown place otherwise).writes + 1) < 2 ^ 64
owed_more shown held place so_far otherwise same table less is =
    omega (arith, is, sum_by_more_le (λ (e : Active). e.writes + 1) shown place otherwise less, owed_fits shown (subst IsTable (sym same) table))

pub first_begins : (entries : List Active) (first : Active) → IsTable entries → slice_get entries 0 ≡ Some first
    → IsLeast (map (λ entry. entry.begin) entries) (Some first.begin)
first_begins entries first table is =
    subst (λ o. IsLeast (map (λ (entry : Active). entry.begin) entries) (option_map (λ (entry : Active). entry.begin) o)) is (first_is_least entries table)
