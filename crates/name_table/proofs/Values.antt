-- What stands under a name, among buckets that are any function of their places.
use Rattle.name_table.proofs.Names.{◌≡◌, ℕ, zero, suc, ◌<◌, ◌≤◌, Bool, true, false, List, Option, Some, None, inl, inr, refl, ap, sym, ◌∙◌, arith, cases_eq, false_from_ne_true, bytes_eq-Decides, option_or, if◌then◌else◌, bytes_eq, value_under, value_among, AreWellFormed, Bucket, Free, Tombstone, Entry, Strange}

pub same_name : (name other : List ℕ) → bytes_eq other name ≡ true → other ≡ name
same_name name other e = (bytes_eq-Decides other name).0 e

pub is_itself : (name : List ℕ) → bytes_eq name name ≡ true
is_itself name = (bytes_eq-Decides name name).1 refl

pub is_another : (name other : List ℕ) → (other ≡ name → ⊥) → bytes_eq other name ≡ false
is_another name other ne = false_from_ne_true (bytes_eq other name) (λ e. ne (same_name name other e))

pub under_own : (name value : List ℕ) → value_under name (Entry name value) ≡ Some value
under_own name value = ap (λ (b : Bool). if b then Some value else None) (is_itself name)

pub under_other : (name : List ℕ) (b : Bucket) → ((value : List ℕ) → b ≡ Entry name value → ⊥) → value_under name b ≡ None
under_other name Free ne = refl
under_other name Tombstone ne = refl
under_other name Strange ne = refl
under_other name (Entry other value) ne =
    ap (λ (b : Bool). if b then Some value else None) (is_another name other (λ e. ne value (ap (λ (l : List ℕ). Entry l value) e)))

-- no bucket has an entry of the name
abbrev pub IsAbsent : (ℕ → Bucket) → List ℕ → ℕ → Type 0
IsAbsent f name n = (place : ℕ) (value : List ℕ) → place < n → f place ≡ Entry name value → ⊥

pub absent_none : (f : ℕ → Bucket) (name : List ℕ) (n : ℕ) → IsAbsent f name n → value_among f name n ≡ None
absent_none f name zero absent = refl
absent_none f name (suc n) absent =
    let here : value_under name (f n) ≡ None = under_other name (f n) (λ value e. absent n value (omega arith) e) in
    let below : value_among f name n ≡ None = absent_none f name n (λ place value less e. absent place value (omega arith) e) in
    ap (λ (o : Option (List ℕ)). option_or o (value_among f name n)) here ∙ below

-- where one has, its value stands there
pub among_first : (f : ℕ → Bucket) (name : List ℕ) (n : ℕ) → AreWellFormed f n → (place : ℕ) (value : List ℕ) → place < n →
    f place ≡ Entry name value → (m : ℕ) → m ≤ n → place < m → value_among f name m ≡ Some value
among_first f name n formed place value less is zero few low = absurd (omega arith)
among_first f name n formed place value less is (suc m) few low = elim (cases_eq place m) [
  | inl same ↦
      let here : value_under name (f m) ≡ Some value =
      ap (λ (k : ℕ). value_under name (f k)) (sym same) ∙ ap (value_under name) is ∙ under_own name value in
      ap (λ (o : Option (List ℕ)). option_or o (value_among f name m)) here
  | inr apart ↦
      let mine : m < n = omega arith in
      let here : value_under name (f m) ≡ None =
      under_other name (f m) (λ more e. apart (formed.differ place m name value more less mine is e)) in
      let rest : value_among f name m ≡ Some value =
      among_first f name n formed place value less is m (omega arith) (below place m low apart) in
      ap (λ (o : Option (List ℕ)). option_or o (value_among f name m)) here ∙ rest
]
  where
    below : (k m : ℕ) → k < suc m → (k ≡ m → ⊥) → k < m
    below k m h ne = omega arith

pub stands : (f : ℕ → Bucket) (name : List ℕ) (n : ℕ) → AreWellFormed f n → (place : ℕ) (value : List ℕ) → place < n →
    f place ≡ Entry name value → value_among f name n ≡ Some value
stands f name n formed place value less is = among_first f name n formed place value less is n (omega arith) less

-- where the same stands under a name in each bucket, the same stands under it
pub stands_alike : (f g : ℕ → Bucket) (name : List ℕ) (n : ℕ) →
    ((place : ℕ) → place < n → value_under name (g place) ≡ value_under name (f place)) → value_among g name n ≡ value_among f name n
stands_alike f g name zero alike = refl
stands_alike f g name (suc n) alike =
    ap (λ (o : Option (List ℕ)). option_or o (value_among g name n)) (alike n (omega arith))
    ∙ ap (option_or (value_under name (f n))) (stands_alike f g name n (λ place less. alike place (omega arith)))
