-- What an insertion, a removal and a write leave of a table.
use Rattle.txn_table.proofs.Names.{◌≡◌, ◌≢◌, ℕ, suc, ◌+◌, ◌<◌, ◌≤◌, ◌==◌, nat_lt, Bool, true, false, not, cond, List, [], ◌∷◌, insert, remove, Option, None, Some, option_map, IsSome, IsNone, slice_get, get_or, set, length, length-set, arith, refl, sym, ap, subst, ◌∙◌, eqb-true, eqb-false, eq-eqb, ne_eqb, cond-true, cond-false, nat_tests, get_or_from_slice_get, AllByRecursion, position_or_len, ForSome, items-with_items, ArrayVec, with_items, IsCounted, IsTable, entry_of, ChangesOnly, Active}
use Rattle.txn_table.proofs.Places.{absent, entry_of-absent, weaker}

both : (P Q R : Active → Type 0) → ((entry : Active) → P entry → Q entry → R entry) → (entries : List Active)
    → AllByRecursion P entries → AllByRecursion Q entries → AllByRecursion R entries
both P Q R says [] p q = tt
both P Q R says (entry ∷ later) p q = (says entry p.0 q.0, both P Q R says later p.1 q.1)

-- what every number's entry is afterwards
changes : (old new : List Active) (session : ℕ) (entry : Option Active)
    → ((n : ℕ) → entry_of new n ≡ cond (session == n) entry (entry_of old n)) → ChangesOnly old new session entry
changes old new session entry says = record {
  own = says session ∙ cond-true _ _ (entry_of old session) (eq-eqb session session refl);
  others = λ n differs. says n ∙ cond-false _ _ _ (ne_eqb _ _ (λ same. differs (sym same)));
}

-- ---- one entry more, in front of the first that began later
abbrev pub with_entry : List Active → Active → List Active
with_entry [] new = new ∷ []
with_entry (entry ∷ later) new = cond (nat_lt new.begin entry.begin) (new ∷ entry ∷ later) (entry ∷ with_entry later new)

pub insert-with_entry : (entries : List Active) (new : Active)
    → insert entries (position_or_len (λ other. nat_lt new.begin other.begin) entries) new ≡ with_entry entries new
insert-with_entry [] new = refl
insert-with_entry (entry ∷ later) new = by (nat_lt new.begin entry.begin) (position_or_len (λ other. nat_lt new.begin other.begin) later) (insert-with_entry later new)
  where
    by : (b : Bool) (k : ℕ) → insert later k new ≡ with_entry later new
        → insert (entry ∷ later) (cond (not b) (1 + k) 0) new ≡ cond b (new ∷ entry ∷ later) (entry ∷ with_entry later new)
    by true k rest = refl
    by false k rest = let one : 1 + k ≡ suc k = omega arith in ap (λ n. insert (entry ∷ later) n new) one ∙ ap (λ xs. entry ∷ xs) rest

all-with_entry : (P : Active → Type 0) (entries : List Active) (new : Active) → P new → AllByRecursion P entries → AllByRecursion P (with_entry entries new)
all-with_entry P [] new p all = (p, tt)
all-with_entry P (entry ∷ later) new p all = by (nat_lt new.begin entry.begin) (all-with_entry P later new p all.1)
  where
    by : (b : Bool) → AllByRecursion P (with_entry later new) → AllByRecursion P (cond b (new ∷ entry ∷ later) (entry ∷ with_entry later new))
    by true rest = (p, all)
    by false rest = (all.0, rest)

pub IsTable-with_entry : (entries : List Active) (new : Active) → IsTable entries → new.session < 8 → IsCounted new
    → AllByRecursion (λ other. new.session ≢ other.session) entries → IsTable (with_entry entries new)
IsTable-with_entry [] new table small few all = (small, few, tt, tt)
IsTable-with_entry (entry ∷ later) new table small few all = by (nat_lt new.begin entry.begin) refl (IsTable-with_entry later new table.3 small few all.1)
  where
    by : (b : Bool) → nat_lt new.begin entry.begin ≡ b → IsTable (with_entry later new) → IsTable (cond b (new ∷ entry ∷ later) (entry ∷ with_entry later new))
    by true is rest =
        let first : new.begin ≤ entry.begin = grind (arith, nat_tests) in (
          small,
          few,
          (
            (all.0, first),
            both (λ other. new.session ≢ other.session) (λ other. (entry.session ≢ other.session) × (entry.begin ≤ other.begin))
                (λ other. (new.session ≢ other.session) × (new.begin ≤ other.begin)) (λ other p q. (p, omega (arith, q.1))) later all.1 table.2,
          ),
          table,
        )
    by false is rest =
        let last : entry.begin ≤ new.begin = grind (arith, nat_tests) in
        (table.0, table.1, all-with_entry (λ other. (entry.session ≢ other.session) × (entry.begin ≤ other.begin)) later new ((λ same. all.0 (sym same)), last) table.2, rest)

entry_of-with_entry : (entries : List Active) (new : Active) (n : ℕ) → AllByRecursion (λ other. new.session ≢ other.session) entries
    → entry_of (with_entry entries new) n ≡ cond (new.session == n) (Some new) (entry_of entries n)
entry_of-with_entry [] new n all = refl
entry_of-with_entry (entry ∷ later) new n all = by (nat_lt new.begin entry.begin) (entry_of-with_entry later new n all.1)
  where
    passed : (b c : Bool) → (entry.session == n) ≡ b → (new.session == n) ≡ c
        → entry_of (with_entry later new) n ≡ cond c (Some new) (entry_of later n)
        → cond b (Some entry) (entry_of (with_entry later new) n) ≡ cond c (Some new) (cond b (Some entry) (entry_of later n))
    passed true true here there rest = absurd (all.0 (eqb-true _ _ there ∙ sym (eqb-true _ _ here)))
    passed true false here there rest = refl
    passed false c here there rest = rest

    by : (b : Bool) → entry_of (with_entry later new) n ≡ cond (new.session == n) (Some new) (entry_of later n)
        → entry_of (cond b (new ∷ entry ∷ later) (entry ∷ with_entry later new)) n ≡ cond (new.session == n) (Some new) (entry_of (entry ∷ later) n)
    by true rest = refl
    by false rest = passed (entry.session == n) (new.session == n) refl refl rest

pub adds : (entries : List Active) (new : Active) → entry_of entries new.session ≡ None → ChangesOnly entries (with_entry entries new) new.session (Some new)
adds entries new none = changes entries (with_entry entries new) new.session (Some new) (λ n. entry_of-with_entry entries new n (absent entries new.session none))

-- ---- the entry of a session gone
abbrev pub without : List Active → ℕ → List Active
without [] session = []
without (entry ∷ later) session = cond (entry.session == session) later (entry ∷ without later session)

pub remove-without : (entries : List Active) (session : ℕ) → remove entries (position_or_len (λ entry. entry.session == session) entries) ≡ without entries session
remove-without [] session = refl
remove-without (entry ∷ later) session = by (entry.session == session) (position_or_len (λ entry. entry.session == session) later) (remove-without later session)
  where
    by : (b : Bool) (k : ℕ) → remove later k ≡ without later session
        → remove (entry ∷ later) (cond (not b) (1 + k) 0) ≡ cond b later (entry ∷ without later session)
    by true k rest = refl
    by false k rest = let one : 1 + k ≡ suc k = omega arith in ap (λ n. remove (entry ∷ later) n) one ∙ ap (λ xs. entry ∷ xs) rest

all-without : (P : Active → Type 0) (entries : List Active) (session : ℕ) → AllByRecursion P entries → AllByRecursion P (without entries session)
all-without P [] session all = tt
all-without P (entry ∷ later) session all = by (entry.session == session) (all-without P later session all.1)
  where
    by : (b : Bool) → AllByRecursion P (without later session) → AllByRecursion P (cond b later (entry ∷ without later session))
    by true rest = all.1
    by false rest = (all.0, rest)

pub IsTable-without : (entries : List Active) (session : ℕ) → IsTable entries → IsTable (without entries session)
IsTable-without [] session table = tt
IsTable-without (entry ∷ later) session table = by (entry.session == session) (IsTable-without later session table.3)
  where
    by : (b : Bool) → IsTable (without later session) → IsTable (cond b later (entry ∷ without later session))
    by true rest = table.3
    by false rest = (table.0, table.1, all-without (λ other. (entry.session ≢ other.session) × (entry.begin ≤ other.begin)) later session table.2, rest)

entry_of-without : (entries : List Active) (session n : ℕ) → IsTable entries → entry_of (without entries session) n ≡ cond (session == n) None (entry_of entries n)
entry_of-without [] session n table = grind (arith, nat_tests)
entry_of-without (entry ∷ later) session n table = by (entry.session == session) refl (entry_of-without later session n table.3)
  where
    others : entry_of later entry.session ≡ None
    others = entry_of-absent later entry.session (weaker (λ other. (entry.session ≢ other.session) × (entry.begin ≤ other.begin)) (λ other. entry.session ≢ other.session) (λ other p. p.0) later table.2)

    gone : (b c : Bool) → (entry.session == n) ≡ b → (session == n) ≡ c → entry.session ≡ session
        → entry_of later n ≡ cond c None (cond b (Some entry) (entry_of later n))
    gone true true here there same = ap (entry_of later) (sym (eqb-true _ _ here)) ∙ others
    gone false true here there same = absurd (eqb-false _ _ here (same ∙ eqb-true _ _ there))
    gone true false here there same = absurd (eqb-false _ _ there (sym same ∙ eqb-true _ _ here))
    gone false false here there same = refl

    passed : (b c : Bool) → (entry.session == n) ≡ b → (session == n) ≡ c → (entry.session ≡ session → ⊥)
        → entry_of (without later session) n ≡ cond c None (entry_of later n)
        → cond b (Some entry) (entry_of (without later session) n) ≡ cond c None (cond b (Some entry) (entry_of later n))
    passed true true here there differs rest = absurd (differs (eqb-true _ _ here ∙ sym (eqb-true _ _ there)))
    passed true false here there differs rest = refl
    passed false c here there differs rest = rest

    by : (b : Bool) → (entry.session == session) ≡ b → entry_of (without later session) n ≡ cond (session == n) None (entry_of later n)
        → entry_of (cond b later (entry ∷ without later session)) n ≡ cond (session == n) None (entry_of (entry ∷ later) n)
    by true is rest = gone (entry.session == n) (session == n) refl refl (eqb-true _ _ is)
    by false is rest = passed (entry.session == n) (session == n) refl refl (eqb-false _ _ is) rest

pub removes : (entries : List Active) (session : ℕ) → IsTable entries → ChangesOnly entries (without entries session) session None
removes entries session table = changes entries (without entries session) session None (λ n. entry_of-without entries session n table)

-- the counts of a session's entry
pub counts_of : (entries : List Active) (session : ℕ) (own : Active) → IsTable entries → entry_of entries session ≡ Some own → IsCounted own
counts_of [] session own table found = cc
counts_of (entry ∷ later) session own table found = by (entry.session == session) found (counts_of later session own table.3)
  where
    by : (b : Bool) → cond b (Some entry) (entry_of later session) ≡ Some own → (entry_of later session ≡ Some own → IsCounted own) → IsCounted own
    by true found rest = let same : entry ≡ own = cc in subst IsCounted same table.1
    by false found rest = rest found

-- ---- the entry of a session changed, which leaves its number and its Begin
pub record Leaves (change : Active → Active) : Type 0 where
  pub session : (entry : Active) → (change entry).session ≡ entry.session
  pub begin : (entry : Active) → (change entry).begin ≡ entry.begin

abbrev pub with_own : List Active → ℕ → (Active → Active) → List Active
with_own [] session change = []
with_own (entry ∷ later) session change = cond (entry.session == session) (change entry ∷ later) (entry ∷ with_own later session change)

set-with_own : (entries : List Active) (session : ℕ) (change : Active → Active) (own : Active) → entry_of entries session ≡ Some own
    → set entries (position_or_len (λ entry. entry.session == session) entries) (change own) ≡ with_own entries session change
set-with_own [] session change own found = cc
set-with_own (entry ∷ later) session change own found = by (entry.session == session) (position_or_len (λ entry. entry.session == session) later) found (set-with_own later session change own)
  where
    by : (b : Bool) (k : ℕ) → cond b (Some entry) (entry_of later session) ≡ Some own
        → (entry_of later session ≡ Some own → set later k (change own) ≡ with_own later session change)
        → set (entry ∷ later) (cond (not b) (1 + k) 0) (change own) ≡ cond b (change entry ∷ later) (entry ∷ with_own later session change)
    by true k found rest = let same : entry ≡ own = cc in ap (λ (e : Active). change e ∷ later) (sym same)
    by false k found rest = let one : 1 + k ≡ suc k = omega arith in ap (λ n. set (entry ∷ later) n (change own)) one ∙ ap (λ xs. entry ∷ xs) (rest found)

-- what each entry behind one is, is said of its number and its Begin alone
behind_own : (entry : Active) (entries : List Active) (session : ℕ) (change : Active → Active) → Leaves change
    → AllByRecursion (λ other. (entry.session ≢ other.session) × (entry.begin ≤ other.begin)) entries
    → AllByRecursion (λ other. (entry.session ≢ other.session) × (entry.begin ≤ other.begin)) (with_own entries session change)
behind_own entry [] session change leaves all = tt
behind_own entry (other ∷ later) session change leaves all = by (other.session == session) (behind_own entry later session change leaves all.1)
  where
    by : (b : Bool) → AllByRecursion (λ other. (entry.session ≢ other.session) × (entry.begin ≤ other.begin)) (with_own later session change)
        → AllByRecursion (λ other. (entry.session ≢ other.session) × (entry.begin ≤ other.begin)) (cond b (change other ∷ later) (other ∷ with_own later session change))
    by true rest = (((λ same. all.0.0 (same ∙ leaves.session other)), omega (arith, all.0.1, leaves.begin other)), all.1)
    by false rest = (all.0, rest)

before_own : (entry : Active) (entries : List Active) (change : Active → Active) → Leaves change
    → AllByRecursion (λ other. (entry.session ≢ other.session) × (entry.begin ≤ other.begin)) entries
    → AllByRecursion (λ other. ((change entry).session ≢ other.session) × ((change entry).begin ≤ other.begin)) entries
before_own entry entries change leaves all =
    weaker (λ other. (entry.session ≢ other.session) × (entry.begin ≤ other.begin)) (λ other. ((change entry).session ≢ other.session) × ((change entry).begin ≤ other.begin))
    (λ other p. ((λ same. p.0 (sym (leaves.session entry) ∙ same)), omega (arith, p.1, leaves.begin entry))) entries all

IsTable-with_own : (entries : List Active) (session : ℕ) (change : Active → Active) (own : Active) → Leaves change → IsTable entries → entry_of entries session ≡ Some own
    → IsCounted (change own) → IsTable (with_own entries session change)
IsTable-with_own [] session change own leaves table found counted = tt
IsTable-with_own (entry ∷ later) session change own leaves table found counted = by (entry.session == session) found (λ there. IsTable-with_own later session change own leaves table.3 there counted)
  where
    by : (b : Bool) → cond b (Some entry) (entry_of later session) ≡ Some own → (entry_of later session ≡ Some own → IsTable (with_own later session change))
        → IsTable (cond b (change entry ∷ later) (entry ∷ with_own later session change))
    by true found rest =
        let same : entry ≡ own = cc in
        (omega (arith, table.0, leaves.session entry), subst (λ (e : Active). IsCounted (change e)) (sym same) counted, before_own entry later change leaves table.2, table.3)
    by false found rest = (table.0, table.1, behind_own entry later session change leaves table.2, rest found)

entry_of-with_own : (entries : List Active) (session : ℕ) (change : Active → Active) (n : ℕ) → Leaves change
    → entry_of (with_own entries session change) n ≡ cond (session == n) (option_map change (entry_of entries n)) (entry_of entries n)
entry_of-with_own [] session change n leaves = by (session == n)
  where
    by : (b : Bool) → ◌≡◌ {A = Option Active} None (cond b None None)
    by true = refl
    by false = refl
entry_of-with_own (entry ∷ later) session change n leaves = by (entry.session == session) refl (entry_of-with_own later session change n leaves)
  where
    own : (b c : Bool) → (entry.session == n) ≡ b → (session == n) ≡ c → entry.session ≡ session
        → cond b (Some (change entry)) (entry_of later n) ≡ cond c (option_map change (cond b (Some entry) (entry_of later n))) (cond b (Some entry) (entry_of later n))
    own true true here there same = refl
    own false true here there same = absurd (eqb-false _ _ here (same ∙ eqb-true _ _ there))
    own true false here there same = absurd (eqb-false _ _ there (sym same ∙ eqb-true _ _ here))
    own false false here there same = refl

    passed : (b c : Bool) → (entry.session == n) ≡ b → (session == n) ≡ c → (entry.session ≡ session → ⊥)
        → entry_of (with_own later session change) n ≡ cond c (option_map change (entry_of later n)) (entry_of later n)
        → cond b (Some entry) (entry_of (with_own later session change) n) ≡ cond c (option_map change (cond b (Some entry) (entry_of later n))) (cond b (Some entry) (entry_of later n))
    passed true true here there differs rest = absurd (differs (eqb-true _ _ here ∙ sym (eqb-true _ _ there)))
    passed true false here there differs rest = refl
    passed false c here there differs rest = rest

    by : (b : Bool) → (entry.session == session) ≡ b
        → entry_of (with_own later session change) n ≡ cond (session == n) (option_map change (entry_of later n)) (entry_of later n)
        → entry_of (cond b (change entry ∷ later) (entry ∷ with_own later session change)) n ≡ cond (session == n) (option_map change (entry_of (entry ∷ later) n)) (entry_of (entry ∷ later) n)
    by true is rest =
        ap (λ (k : ℕ). cond (k == n) (Some (change entry)) (entry_of later n)) (leaves.session entry)
        ∙ own (entry.session == n) (session == n) refl refl (eqb-true _ _ is)
    by false is rest = passed (entry.session == n) (session == n) refl refl (eqb-false _ _ is) rest

pub changes_own : (entries : List Active) (session : ℕ) (change : Active → Active) → Leaves change
    → ChangesOnly entries (with_own entries session change) session (option_map change (entry_of entries session))
changes_own entries session change leaves = record {
  own = entry_of-with_own entries session change session leaves ∙ cond-true _ _ (entry_of entries session) (eq-eqb session session refl);
  others = λ n differs. entry_of-with_own entries session change n leaves ∙ cond-false _ _ _ (ne_eqb _ _ (λ same. differs (sym same)));
}

-- the change of an entry at its place
set-own : (entries : List Active) (session : ℕ) (change : Active → Active) (place : ℕ) (otherwise : Active) → IsSome (entry_of entries session)
    → place ≡ position_or_len (λ entry. entry.session == session) entries → slice_get entries place ≡ entry_of entries session
    → set entries place (change (get_or entries place otherwise)) ≡ with_own entries session change
set-own entries session change place otherwise there at found = by (entry_of entries session) refl there
  where
    by : (o : Option Active) → entry_of entries session ≡ o → IsSome o → set entries place (change (get_or entries place otherwise)) ≡ with_own entries session change
    by None is there = cc
    by (Some own) is there =
        ap (λ n. set entries n (change (get_or entries place otherwise))) at
        ∙ ap (λ e. set entries (position_or_len (λ entry. entry.session == session) entries) (change e)) (get_or_from_slice_get entries place own otherwise (found ∙ is))
        ∙ set-with_own entries session change own is

pub IsTable-own : (entries : List Active) (session : ℕ) (change : Active → Active) → Leaves change → IsTable entries → IsSome (entry_of entries session)
    → ForSome (entry_of entries session) (λ entry. IsCounted entry → IsCounted (change entry)) → IsTable (with_own entries session change)
IsTable-own entries session change leaves table there counted = by (entry_of entries session) refl there
  where
    by : (o : Option Active) → entry_of entries session ≡ o → IsSome o → IsTable (with_own entries session change)
    by None is there = cc
    by (Some own) is there = IsTable-with_own entries session change own leaves table is (counted own is (counts_of entries session own table is))

none_is : (o : Option Active) → IsNone o → o ≡ None
none_is None none = refl
none_is (Some entry) none = cc

pub absent_is : (entries : List Active) (session : ℕ) → IsNone (entry_of entries session) → entry_of entries session ≡ None
absent_is entries session none = none_is (entry_of entries session) none

-- the same through a slice of the vector, which keeps its length
pub refill-with_own : (held : ArrayVec Active) (seen shown : List Active) (session : ℕ) (change : Active → Active) (place : ℕ) (otherwise : Active)
    → seen ≡ held.items → shown ≡ held.items → IsSome (entry_of held.items session)
    → place ≡ position_or_len (λ entry. entry.session == session) seen → slice_get seen place ≡ entry_of seen session
    → (with_items held (set shown place (change (get_or shown place otherwise)))).items ≡ with_own held.items session change
refill-with_own held seen shown session change place otherwise seen_is shown_is there at found =
    items-with_items held (set shown place (change (get_or shown place otherwise)))
    (length-set shown place (change (get_or shown place otherwise)) ∙ ap length shown_is)
    ∙ ap (λ xs. set xs place (change (get_or xs place otherwise))) shown_is
    ∙ set-own held.items session change place otherwise there (at ∙ ap (position_or_len (λ entry. entry.session == session)) seen_is)
    (ap (λ xs. slice_get xs place) (sym seen_is) ∙ found ∙ ap (λ xs. entry_of xs session) seen_is)
