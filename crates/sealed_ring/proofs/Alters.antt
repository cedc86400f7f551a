-- What keeps a ring's form and units: contents that differ only in the body of one slot and the gate of one slot.
use Rattle.sealed_ring.proofs.Names.{◌≡◌, ◌≢◌, ◌⊎◌, ℕ, zero, suc, ◌+◌, ◌-◌, ◌%◌, ◌^◌, ◌≤◌, ◌<◌, List, [], ◌∷◌, ◌++◌, length, get_or, take, drop, min, refl, sym, ◌∙◌, ap, arith, cases_lt, cases_eq, same_lists, length-take, length-drop, get_or-take, get_or-drop, get_or_default, length_push, mod_below, from_be_bytes, w64, place, gate, content_at, HasForm, IsStaged, units_from, live, SameOutside, last_of, Keeps, Adds, Shape}
use Rattle.sealed_ring.specs.Ring.{number}
use Rattle.sealed_ring.proofs.Rows.{mod_apart, mod_self}

-- the same octets from a place on
abbrev pub SamePart : ℕ → ℕ → List ℕ → List ℕ → Type 0
SamePart at n old new = (p : ℕ) → at ≤ p → p < at + n → get_or new p 0 ≡ get_or old p 0

-- contents that differ at most in the number and content of the slot `body`, and in the gate of the slot `gated`
pub record Alters (s : Shape) (body gated : ℕ) (old new : List ℕ) : Type 0 where
  pub size : length new ≡ length old
  pub parts : (j : ℕ) → j < s.slots → j ≢ body → SamePart (place s j + 1) (8 + s.room) old new
  pub gates : (j : ℕ) → j < s.slots → j ≢ gated → gate s new j ≡ gate s old j
  pub outside : SameOutside s old new

-- lists that are the same in a part
pub part_same : (at n : ℕ) (old new : List ℕ) → length new ≡ length old → SamePart at n old new → take n (drop at new) ≡ take n (drop at old)
part_same at n old new size same =
    same_lists _ _ (omega (arith, size, length-take n (drop at new), length-take n (drop at old), length-drop at new, length-drop at old))
    (λ k d lt.
    let short : k < min n (length (drop at new)) = omega (arith, lt, length-take n (drop at new)) in
    let k_n : k < n = omega arith in
    let k_new : at + k < length new = omega (arith, length-drop at new) in
    let k_old : at + k < length old = omega (arith, size) in
    get_or-take n (drop at new) k d k_n ∙ get_or-drop at new k d ∙ get_or_default new (at + k) d 0 k_new
    ∙ same (at + k) (omega arith) (omega arith)
    ∙ sym (get_or-take n (drop at old) k d k_n ∙ get_or-drop at old k d ∙ get_or_default old (at + k) d 0 k_old))

pub number_same : (s : Shape) (j : ℕ) (old new : List ℕ) → length new ≡ length old → SamePart (place s j + 1) (8 + s.room) old new → number s new j ≡ number s old j
unfolding number
number_same s j old new size same = ap (from_be_bytes w64) (part_same (place s j + 1) 8 old new size (λ p lo hi. same p lo (omega arith)))

pub content_same : (s : Shape) (j : ℕ) (old new : List ℕ) → length new ≡ length old → SamePart (place s j + 1) (8 + s.room) old new → content_at s new j ≡ content_at s old j
content_same s j old new size same = part_same (place s j + 9) s.room old new size (λ p lo hi. same p (omega arith) (omega arith))

-- the units from a number on are the same where each one's content is
pub units_same : (s : Shape) (old new : List ℕ) (first k : ℕ) → ((n : ℕ) → first ≤ n → n < first + k → content_at s new (n % s.slots) ≡ content_at s old (n % s.slots)) → units_from s new first k ≡ units_from s old first k
units_same s old new first zero same = refl
units_same s old new first (suc k) same = λ i. same first (omega arith) (omega arith) i ∷ units_same s old new (first + 1) k (λ n lo hi. same n (omega arith) (omega arith)) i

module _ (s : Shape) (hi : ℕ) (old new : List ℕ) (slots : 3 ≤ s.slots) (form : HasForm s hi old) where
  slot : (n : ℕ) → n % s.slots < s.slots
  slot n = mod_below n s.slots (omega arith)

  live_same : (body : ℕ) → ((n : ℕ) → n < hi → hi < n + s.slots → n % s.slots ≢ body) → length new ≡ length old → ((j : ℕ) → j < s.slots → j ≢ body → SamePart (place s j + 1) (8 + s.room) old new) → live s hi new ≡ live s hi old
  live_same body apart size parts = grind (arith, units_same, content_same, slot)

  -- the body of the next slot and the gate of the one after it may be anything
  pub next_alters : Alters s (hi % s.slots) ((hi + 1) % s.slots) old new → Keeps s hi old new
  next_alters a = record {
    form = record {
      numbers = λ n lt near. number_same s (n % s.slots) old new a.size (a.parts (n % s.slots) (slot n) (mod_apart n hi s.slots lt near)) ∙ form.numbers n lt near;
      gates = λ n lt near. a.gates (n % s.slots) (slot n) (mod_apart n (hi + 1) s.slots (omega arith) (omega arith)) ∙ form.gates n lt near;
      closed = λ is_open. form.closed (sym (a.gates (hi % s.slots) (slot hi) (mod_apart hi (hi + 1) s.slots (omega arith) (omega arith))) ∙ is_open);
      bounded = form.bounded;
      unused = λ j lt above has. form.unused j lt above (ap (λ (n : ℕ). n % s.slots) (sym (number_same s j old new a.size (a.parts j lt (λ is. let self = mod_self hi s.slots (omega arith) in omega (arith, self))))) ∙ has);
    };
    live = live_same (hi % s.slots) (λ n lt near. mod_apart n hi s.slots lt near) a.size a.parts;
    outside = a.outside;
    size = a.size;
  }

-- one unit more

pub length-units : (s : Shape) (c : List ℕ) (first k : ℕ) → length (units_from s c first k) ≡ k
length-units s c first zero = refl
length-units s c first (suc k) = ap suc (length-units s c (first + 1) k)

pub units_push : (s : Shape) (c : List ℕ) (first k : ℕ) → units_from s c first (suc k) ≡ units_from s c first k ++ content_at s c ((first + k) % s.slots) ∷ []
units_push s c first zero = let e : first ≡ first + 0 = omega arith in ap (λ (n : ℕ). content_at s c (n % s.slots) ∷ []) e
units_push s c first (suc k) =
    let e : first + 1 + k ≡ first + suc k = omega arith in
    ap (λ (l : List (List ℕ)). content_at s c (first % s.slots) ∷ l) (units_push s c (first + 1) k ∙ ap (λ (n : ℕ). units_from s c (first + 1) k ++ content_at s c (n % s.slots) ∷ []) e)

last_all : (m : ℕ) (xs : List (List ℕ)) → length xs ≤ m → last_of m xs ≡ xs
last_all m xs le = let e : length xs - m ≡ 0 = omega arith in ap (λ (n : ℕ). drop n xs) e

last_but_one : (m : ℕ) (x : List ℕ) (xs : List (List ℕ)) → length xs ≡ m → last_of m (x ∷ xs) ≡ xs
last_but_one m x xs is = let e : suc (length xs) - m ≡ 1 = omega arith in ap (λ (n : ℕ). drop n (x ∷ xs)) e

-- the live units with one more, where there are fewer than can live
push_few : (s : Shape) (c : List ℕ) (hi m first k first' k' : ℕ) → hi < m → first ≡ 0 → k ≡ suc hi → first' ≡ 0 → k' ≡ hi → units_from s c first k ≡ last_of m (units_from s c first' k' ++ content_at s c (hi % s.slots) ∷ [])
push_few s c hi m first k first' k' lt f n f' n' = grind (arith, units_push, last_all, length_push, length-units)

-- and where as many live as can
push_full : (s : Shape) (c : List ℕ) (hi m first k first' k' : ℕ) → first ≡ first' + 1 → k ≡ m → k' ≡ m → first' + m ≡ hi → units_from s c first k ≡ last_of m (units_from s c first' k' ++ content_at s c (hi % s.slots) ∷ [])
push_full s c hi m first k first' k' f n n' top = grind (arith, last_but_one, length-units, units_push)

pub live_push : (s : Shape) (hi : ℕ) (c : List ℕ) → live s (hi + 1) c ≡ last_of (s.slots - 1) (live s hi c ++ content_at s c (hi % s.slots) ∷ [])
live_push s hi c = grind (arith, cases_lt, push_few, push_full)

-- the gate of the staged unit may be anything: closed it keeps the units, open it adds this one
module _ (s : Shape) (hi : ℕ) (old new : List ℕ) (slots : 3 ≤ s.slots) (staged : IsStaged s hi old) (a : Alters s s.slots (hi % s.slots) old new) where
  inside : (n : ℕ) → n % s.slots < s.slots
  inside n = mod_below n s.slots (omega arith)

  same_number : (j : ℕ) → j < s.slots → number s new j ≡ number s old j
  same_number j lt = number_same s j old new a.size (a.parts j lt (omega arith))

  same_content : (first k : ℕ) → units_from s new first k ≡ units_from s old first k
  same_content first k = units_same s old new first k (λ n lo below. content_same s (n % s.slots) old new a.size (a.parts (n % s.slots) (inside n) (let lt = inside n in omega arith)))

  same_gate : (n : ℕ) → n < hi → hi < n + s.slots → gate s new (n % s.slots) ≡ gate s old (n % s.slots)
  same_gate n lt near = a.gates (n % s.slots) (inside n) (mod_apart n hi s.slots lt near)

  pub stays_closed : gate s new (hi % s.slots) ≢ 165 → Keeps s hi old new
  stays_closed shut = grind (arith, same_number, inside, same_gate, same_content)

  pub is_opened : gate s new (hi % s.slots) ≡ 165 → hi < 2 ^ 40 → Adds s hi old new
  is_opened is room = grind (arith, same_number, inside, cases_eq, same_gate, mod_apart, same_content, live_push)

  pub either : hi < 2 ^ 40 → Keeps s hi old new ⊎ Adds s hi old new
  either room = grind (arith, cases_eq, is_opened, stays_closed)
