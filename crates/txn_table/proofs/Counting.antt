-- Records that are counted from a later one on.
use Rattle.txn_table.proofs.Names.{All, Some, subst, ◌≡◌, ◌≢◌, ℕ, zero, suc, ◌+◌, ◌<◌, ◌≤◌, List, [], ◌∷◌, ◌++◌, map, take, drop, length, set, get_or, length-set, arith, refl, ap, ◌∙◌, AllByRecursion, items-with_items, ArrayVec, with_items, IsTable, IsLeast, counted_from, Active}
use Rattle.std.proofs.lemmas.List.{get_or-map, length-map}
use Rattle.std.proofs.lemmas.List.Edits.{map_over_more}

-- the entries in front of a place are counted from it on
abbrev pub counted_to : ℕ → ℕ → List Active → List Active
counted_to first place entries = map (counted_from first) (take place entries) ++ drop place entries

pub length-counted_to : (first place : ℕ) (entries : List Active) → length (counted_to first place entries) ≡ length entries
length-counted_to first zero entries = refl
length-counted_to first (suc place) [] = refl
length-counted_to first (suc place) (entry ∷ later) = ap suc (length-counted_to first place later)

-- the entry at that place is the one that it was
pub at-counted_to : (first place : ℕ) (entries : List Active) (otherwise : Active) → place < length entries
    → get_or (counted_to first place entries) place otherwise ≡ get_or entries place otherwise
at-counted_to first zero entries otherwise less = refl
at-counted_to first (suc place) [] otherwise less = absurd (omega (arith, less))
at-counted_to first (suc place) (entry ∷ later) otherwise less = at-counted_to first place later otherwise (omega (arith, less))

pub all-counted : (first : ℕ) (entries : List Active) → counted_to first (length entries) entries ≡ map (counted_from first) entries
all-counted first [] = refl
all-counted first (entry ∷ later) = ap (λ xs. counted_from first entry ∷ xs) (all-counted first later)

kept_by_all : (session begin first : ℕ) (entries : List Active)
    → AllByRecursion (λ other. (session ≢ other.session) × (begin ≤ other.begin)) entries
    → AllByRecursion (λ other. (session ≢ other.session) × (begin ≤ other.begin)) (map (counted_from first) entries)
kept_by_all session begin first [] all = tt
kept_by_all session begin first (entry ∷ later) all = (all.0, kept_by_all session begin first later all.1)

pub IsTable-counted : (first : ℕ) (entries : List Active) → IsTable entries → IsTable (map (counted_from first) entries)
IsTable-counted first [] table = tt
IsTable-counted first (entry ∷ later) table = (table.0, record { few = table.1.few; mark = table.1.mark }, kept_by_all entry.session entry.begin first later table.2, IsTable-counted first later table.3)

same_default : (shown : List Active) (place : ℕ) (otherwise : Active) → place < length shown
    → get_or shown place otherwise ≡ get_or shown place (get_or shown place otherwise)
same_default [] place otherwise less = absurd (omega (arith, less))
same_default (entry ∷ later) zero otherwise less = refl
same_default (entry ∷ later) (suc place) otherwise less = same_default later place otherwise (omega (arith, less))

-- one entry more, through a slice of the vector, which keeps its length
pub one_more : (held : ArrayVec Active) (shown entries : List Active) (first place : ℕ) (otherwise : Active)
    → shown ≡ held.items → held.items ≡ counted_to first place entries → place < length entries
    → (with_items held (set shown place (counted_from first (get_or shown place otherwise)))).items ≡ counted_to first (place + 1) entries
one_more held shown entries first place otherwise shown_is is less =
    items-with_items held (set shown place (counted_from first (get_or shown place otherwise)))
    (length-set shown place (counted_from first (get_or shown place otherwise)) ∙ ap length shown_is)
    ∙ map_over_more (counted_from first) entries shown place (get_or shown place otherwise) less (shown_is ∙ is)
    (same_default shown place otherwise (omega (arith, less, length-counted_to first place entries, ap length shown_is, ap length is)))

-- the least count is none that any of them exceeds
pub all_from_least : (entries : List Active) (least : ℕ) → IsLeast (map (λ entry. entry.born) entries) (Some least) → All (λ entry. least ≤ entry.born) entries
all_from_least entries least is place otherwise less =
    subst (λ n. least ≤ n) (get_or-map (λ (entry : Active). entry.born) entries place otherwise 0 less) (is.1 place 0 (omega (arith, less, length-map entries (λ (entry : Active). entry.born))))
