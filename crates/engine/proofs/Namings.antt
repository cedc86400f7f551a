-- The transactions that a checkpoint names.
use Rattle.engine.proofs.Names.{◌≡◌, ◌≢◌, ℕ, zero, suc, ◌+◌, ◌==◌, ◌<◌, ◌≤◌, Bool, true, false, cond, List, [], ◌∷◌, ◌++◌, length, map, take, get_or, slice_get, Some, refl, sym, ap, ◌∙◌, arith, get_or-map, length-map, map-append, All-from_recursion, Ascend, no_pair, Pair, entry_of-at, IsTable, entry_of, counted_from, Active}
use Rattle.std.proofs.Common.{option_map}
use Rattle.std_lemmas.proofs.Lists.{take_next}

abbrev pub pair_of : Active → Pair
pair_of entry = record { begin = entry.begin; last = entry.last }

abbrev pub pairs_of : List Active → List Pair
pairs_of entries = map pair_of entries

-- one entry more is named
pub one_more : (entries : List Active) (place : ℕ) (entry : Active) → slice_get entries place ≡ Some entry
    → pairs_of (take place entries) ++ pair_of entry ∷ [] ≡ pairs_of (take (place + 1) entries)
one_more entries place entry at = sym (ap pairs_of (take_next entries place entry at) ∙ map-append pair_of (take place entries) (entry ∷ []))

pub length-named : (entries : List Active) (place : ℕ) → place ≤ length entries → length (pairs_of (take place entries)) ≡ place
length-named entries zero less = refl
length-named [] (suc place) less = absurd (omega (arith, less))
length-named (entry ∷ later) (suc place) less = ap suc (length-named later place (omega (arith, less)))

pub all-named : (entries : List Active) → pairs_of (take (length entries) entries) ≡ pairs_of entries
all-named [] = refl
all-named (entry ∷ later) = ap (λ xs. pair_of entry ∷ xs) (all-named later)

-- no two sessions of a table have one place
pub other_session : (entries : List Active) (i j : ℕ) (d : Active) → IsTable entries → i < j → j < length entries
    → ((get_or entries i d).session ≢ (get_or entries j d).session) × ((get_or entries i d).begin ≤ (get_or entries j d).begin)
other_session [] i j d table less there = absurd (omega (arith, there))
other_session (entry ∷ later) i zero d table less there = absurd (omega (arith, less))
other_session (entry ∷ later) zero (suc j) d table less there =
    All-from_recursion (λ (other : Active). (entry.session ≢ other.session) × (entry.begin ≤ other.begin)) later table.2 j d (omega (arith, there))
other_session (entry ∷ later) (suc i) (suc j) d table less there = other_session later i j d table.3 (omega (arith, less)) (omega (arith, there))

-- what stands where there is no entry
pub no_active : Active
no_active = record { session = 0; begin = 0; last = 0; born = 0; writes = 0; mark = 0 }

-- their Begins ascend, where no two sessions have one
pub ascending : (entries : List Active) → IsTable entries
    → ((n m : ℕ) (a b : Active) → entry_of entries n ≡ Some a → entry_of entries m ≡ Some b → a.begin ≡ b.begin → n ≡ m)
    → Ascend (pairs_of entries)
ascending entries table differ i less =
    let long : length (pairs_of entries) ≡ length entries = length-map entries pair_of in
    let here : i < length entries = omega (arith, less, long) in
    let next : i + 1 < length entries = omega (arith, less, long) in
    let a = get_or entries i no_active in
    let b = get_or entries (i + 1) no_active in
    let apart = other_session entries i (i + 1) no_active table (omega arith) next in
    let first : (get_or (pairs_of entries) i no_pair).begin ≡ a.begin = ap (λ (p : Pair). p.begin) (get_or-map pair_of entries i no_active no_pair here) in
    let second : (get_or (pairs_of entries) (i + 1) no_pair).begin ≡ b.begin = ap (λ (p : Pair). p.begin) (get_or-map pair_of entries (i + 1) no_active no_pair next) in
    let not_same : a.begin ≢ b.begin = λ same. apart.0 (differ a.session b.session a b (entry_of-at entries table i no_active here) (entry_of-at entries table (i + 1) no_active next) same) in
    omega (arith, first, second, apart.1, strictly a.begin b.begin apart.1 not_same)
  where
    strictly : (x y : ℕ) → x ≤ y → x ≢ y → x < y
    strictly x y most ne = omega (arith, most, ne)

-- Records are counted from a later one on: each session has its entry.

pub counted_entries : (first : ℕ) (entries : List Active) (n : ℕ) → entry_of (map (counted_from first) entries) n ≡ option_map (counted_from first) (entry_of entries n)
counted_entries first [] n = refl
counted_entries first (entry ∷ later) n = by (entry.session == n) (counted_entries first later n)
  where
    by : (b : Bool) → entry_of (map (counted_from first) later) n ≡ option_map (counted_from first) (entry_of later n)
        → cond b (Some (counted_from first entry)) (entry_of (map (counted_from first) later) n) ≡ option_map (counted_from first) (cond b (Some entry) (entry_of later n))
    by true rest = refl
    by false rest = rest
