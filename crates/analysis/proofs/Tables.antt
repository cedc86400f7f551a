-- One transaction of a list is changed, taken out or put in.
use Rattle.std.proofs.lemmas.Grind.{common_steps}
use Rattle.analysis.proofs.Names.{◌≡◌, ◌≢◌, ◌⊎◌, inl, inr, ℕ, length, drop, ◌+◌, ◌-◌, ◌<◌, ◌≤◌, ◌==◌, Bool, true, false, cond, List, [], ◌∷◌, ◌++◌, Option, Some, None, refl, sym, ap, subst, ◌∙◌, arith, cond-true, cond-false, eq-eqb, ne_eqb, cases_eq, cases_lt, none-some, same_Some, AllByRecursion, Open, found_in, AscendFrom, Changes, Replaces, TakesOut, owed_one, owed_for, Becomes, Closes}

-- What is said of a transaction.

pub found_here : (x : Open) (table : List Open) (t : ℕ) → x.txn ≡ t → found_in (x ∷ table) t ≡ Some x
found_here x table t is = cond-true (x.txn == t) (Some x) (found_in table t) (eq-eqb x.txn t is)

pub found_later : (x : Open) (table : List Open) (t : ℕ) → x.txn ≢ t → found_in (x ∷ table) t ≡ found_in table t
found_later x table t ne = cond-false (x.txn == t) (Some x) (found_in table t) (ne_eqb x.txn t ne)

-- behind transactions below it
found_behind : (front back : List Open) (t : ℕ) → AllByRecursion (λ x. x.txn < t) front → found_in (front ++ back) t ≡ found_in back t
found_behind [] back t before = refl
found_behind (x ∷ front) back t before = found_later x (front ++ back) t (λ same. omega (arith, before.0, same)) ∙ found_behind front back t before.1

-- another one isn't missed
found_without : (front : List Open) (x : Open) (back : List Open) (s : ℕ) → x.txn ≢ s → found_in (front ++ x ∷ back) s ≡ found_in (front ++ back) s
found_without [] x back s ne = found_later x back s ne
found_without (y ∷ front) x back s ne = ap (λ (o : Option Open). cond (y.txn == s) (Some y) o) (found_without front x back s ne)

-- none is found below those that ascend
pub found_below : (n : ℕ) (table : List Open) (t : ℕ) → AscendFrom n table → t < n → found_in table t ≡ None
found_below n [] t ascend less = refl
found_below n (x ∷ table) t ascend less = found_later x table t (λ same. omega (arith, ascend.0, less, same)) ∙ found_below (x.txn + 1) table t ascend.1 (omega (arith, ascend.0, less))

-- Transactions that ascend.

pub ascend_lower : (m n : ℕ) (table : List Open) → m ≤ n → AscendFrom n table → AscendFrom m table
ascend_lower m n [] less ascend = tt
ascend_lower m n (x ∷ table) less ascend = (omega (arith, less, ascend.0), ascend.1)

ascend_back : (n : ℕ) (front : List Open) (x : Open) (back : List Open) → AscendFrom n (front ++ x ∷ back) → AscendFrom (x.txn + 1) back
ascend_back n [] x back ascend = ascend.1
ascend_back n (y ∷ front) x back ascend = ascend_back (y.txn + 1) front x back ascend.1

ascend_changed : (n : ℕ) (front : List Open) (x y : Open) (back : List Open) → y.txn ≡ x.txn → AscendFrom n (front ++ x ∷ back) → AscendFrom n (front ++ y ∷ back)
ascend_changed n [] x y back same ascend = (omega (arith, ascend.0, same), ascend_lower (y.txn + 1) (x.txn + 1) back (omega (arith, same)) ascend.1)
ascend_changed n (z ∷ front) x y back same ascend = (ascend.0, ascend_changed (z.txn + 1) front x y back same ascend.1)

ascend_without : (n : ℕ) (front : List Open) (x : Open) (back : List Open) → AscendFrom n (front ++ x ∷ back) → AscendFrom n (front ++ back)
ascend_without n [] x back ascend = ascend_lower n (x.txn + 1) back (omega (arith, ascend.0)) ascend.1
ascend_without n (y ∷ front) x back ascend = (ascend.0, ascend_without (y.txn + 1) front x back ascend.1)

-- The changes.

module _ (front : List Open) (x : Open) (back : List Open) (before : AllByRecursion (λ y. y.txn < x.txn) front) where
  pub there : found_in (front ++ x ∷ back) x.txn ≡ Some x
  there = found_behind front (x ∷ back) x.txn before ∙ found_here x back x.txn refl

  pub changed : (y : Open) → y.txn ≡ x.txn → AscendFrom 0 (front ++ x ∷ back) → Changes (front ++ x ∷ back) (front ++ y ∷ back) x.txn (Some y)
  changed y same ascend = grind (arith, found_behind, found_here, found_without, ascend_changed)

  pub taken_out : AscendFrom 0 (front ++ x ∷ back) → Changes (front ++ x ∷ back) (front ++ back) x.txn None
  taken_out ascend = grind (arith, found_behind, found_below, ascend_back, found_without, ascend_without)

-- What is owed after a change, and without one.

pub owed_replaced : (old new : List Open) (t : ℕ) (after : Open → Open) (r : Replaces old new t after) → owed_for new + owed_one r.was ≡ owed_for old + owed_one (after r.was)
owed_replaced old new t after r = grind (arith, common_steps)

pub owed_taken : (old new : List Open) (t : ℕ) (r : TakesOut old new t) → owed_for new + owed_one r.was ≡ owed_for old
owed_taken old new t r = grind (arith, common_steps)

pub length-drop_one : (us : List ℕ) → length (drop 1 us) ≡ length us - 1
length-drop_one [] = refl
length-drop_one (u ∷ us) = omega arith

-- Two lists that ascend and say the same.

pub same_tables : (n : ℕ) (a b : List Open) → AscendFrom n a → AscendFrom n b → ((t : ℕ) → found_in a t ≡ found_in b t) → a ≡ b
same_tables n [] [] p q same = refl
same_tables n [] (y ∷ b) p q same = absurd (none-some y (same y.txn ∙ found_here y b y.txn refl))
same_tables n (x ∷ a) [] p q same = absurd (none-some x (sym (same x.txn) ∙ found_here x a x.txn refl))
same_tables n (x ∷ a) (y ∷ b) p q same = by (cases_eq x.txn y.txn) (same_tables (x.txn + 1) a b p.1)
  where
    below : (u v : Open) (l m : List Open) → u.txn < v.txn → AscendFrom (v.txn + 1) m → found_in (u ∷ l) u.txn ≡ found_in (v ∷ m) u.txn → ⊥
    below u v l m less ascend is =
        none-some u (sym (found_later v m u.txn (λ e. omega (arith, less, e)) ∙ found_below (v.txn + 1) m u.txn ascend (omega (arith, less))) ∙ sym is ∙ found_here u l u.txn refl)

    later : (t : ℕ) → AscendFrom (x.txn + 1) b → x.txn ≡ y.txn → (x.txn ≡ t) ⊎ (x.txn ≢ t) → found_in a t ≡ found_in b t
    later t behind e (inl here) = found_below (x.txn + 1) a t p.1 (omega (arith, here)) ∙ sym (found_below (x.txn + 1) b t behind (omega (arith, here)))
    later t behind e (inr ne) = sym (found_later x a t ne) ∙ same t ∙ found_later y b t (λ h. ne (e ∙ h))

    by : (x.txn ≡ y.txn) ⊎ (x.txn ≢ y.txn) → (AscendFrom (x.txn + 1) b → ((t : ℕ) → found_in a t ≡ found_in b t) → a ≡ b) → x ∷ a ≡ y ∷ b
    by (inl e) rest =
        let first : x ≡ y = same_Some x y (sym (found_here x a x.txn refl) ∙ same x.txn ∙ found_here y b x.txn (sym e)) in
        let behind : AscendFrom (x.txn + 1) b = subst (λ n. AscendFrom (n + 1) b) (sym e) q.1 in
        ap (λ (z : Open). z ∷ a) first ∙ ap (λ (l : List Open). y ∷ l) (rest behind (λ t. later t behind e (cases_eq x.txn t)))
    by (inr ne) rest = elim (cases_lt x.txn y.txn) [
      | inl less ↦ absurd (below x y a b less q.1 (same x.txn))
      | inr le ↦ absurd (below y x b a (omega (arith, le, ne)) p.1 (sym (same y.txn)))
    ]

-- Two lists that say the same but for a transaction, of which both say this.
pub same_changes : (old a b : List Open) (t : ℕ) (now : Option Open) → Changes old a t now → Changes old b t now → a ≡ b
same_changes old a b t now p q = same_tables 0 a b p.ascend q.ascend (λ s. by s (cases_eq s t))
  where
    by : (s : ℕ) → (s ≡ t) ⊎ (s ≢ t) → found_in a s ≡ found_in b s
    by s (inl same) = ap (found_in a) same ∙ p.own ∙ sym q.own ∙ ap (found_in b) (sym same)
    by s (inr other) = p.others s other ∙ sym (q.others s other)

-- What changes is a place of the list.

-- a transaction of which something is said, at its place
record IsSplit (n : ℕ) (table : List Open) (x : Open) : Type 0 where
  front : List Open
  back : List Open
  is : table ≡ front ++ x ∷ back
  before : AllByRecursion (λ y. y.txn < x.txn) front
  low : n ≤ x.txn

split : (n : ℕ) (table : List Open) (t : ℕ) (x : Open) → AscendFrom n table → found_in table t ≡ Some x → IsSplit n table x
split n [] t x ascend found = absurd (none-some x found)
split n (y ∷ table) t x ascend found = by (cases_eq y.txn t) (split (y.txn + 1) table t x ascend.1)
  where
    by : (y.txn ≡ t) ⊎ (y.txn ≢ t) → (found_in table t ≡ Some x → IsSplit (y.txn + 1) table x) → IsSplit n (y ∷ table) x
    by (inl same) rest =
        let first : y ≡ x = same_Some y x (sym (found_here y table t same) ∙ found) in
        record { front = []; back = table; is = ap (λ (o : Open). o ∷ table) first; before = tt; low = subst (λ (o : Open). n ≤ o.txn) first ascend.0 }
    by (inr other) rest =
        let later = rest (sym (found_later y table t other) ∙ found) in
        let low = later.low in
        let here = ascend.0 in
        record { front = y ∷ later.front; back = later.back; is = ap (λ (l : List Open). y ∷ l) later.is; before = (omega (arith, low), later.before); low = omega (arith, low, here) }

pub found_txn : (table : List Open) (t : ℕ) (x : Open) → found_in table t ≡ Some x → x.txn ≡ t
found_txn [] t x found = absurd (none-some x found)
found_txn (y ∷ table) t x found = by (cases_eq y.txn t) (found_txn table t x)
  where
    by : (y.txn ≡ t) ⊎ (y.txn ≢ t) → (found_in table t ≡ Some x → x.txn ≡ t) → x.txn ≡ t
    by (inl same) rest = ap (λ (o : Open). o.txn) (sym (same_Some y x (sym (found_here y table t same) ∙ found))) ∙ same
    by (inr other) rest = rest (sym (found_later y table t other) ∙ found)

module _ (old new : List Open) (t : ℕ) (x : Open) (ascend : AscendFrom 0 old) (found : found_in old t ≡ Some x) where
  abbrev at : IsSplit 0 old x
  at = split 0 old t x ascend found

  own : x.txn ≡ t
  own = found_txn old t x found

  parts : AscendFrom 0 (at.front ++ x ∷ at.back)
  parts = subst (AscendFrom 0) at.is ascend

  pub becomes : (after : Open → Open) → (after x).txn ≡ x.txn → Changes old new t (Some (after x)) → Becomes old new t after
  becomes after keeps changes =
      let y : Open = after x in
      let list : List Open = at.front ++ y ∷ at.back in
      let same : Changes old list t (Some y) =
      subst (λ (l : List Open). Changes l list t (Some y)) (sym at.is) (subst (λ n. Changes (at.front ++ x ∷ at.back) list n (Some y)) own (changed at.front x at.back at.before y keeps parts)) in
      record {
        replaces = record { front = at.front; was = x; back = at.back; of = own; old_is = at.is; new_is = same_changes old new list t (Some y) changes same };
        there = found;
        changes = changes;
      }

  pub closes : Changes old new t None → Closes old new t
  closes changes =
      let list : List Open = at.front ++ at.back in
      let same : Changes old list t None =
      subst (λ (l : List Open). Changes l list t None) (sym at.is) (subst (λ n. Changes (at.front ++ x ∷ at.back) list n None) own (taken_out at.front x at.back at.before parts)) in
      record {
        takes = record { front = at.front; was = x; back = at.back; of = own; old_is = at.is; new_is = same_changes old new list t None changes same };
        there = found;
        changes = changes;
      }

-- what is owed where a transaction is new
pub owed_begun : (old new : List Open) (t : ℕ) (x : Open) → AscendFrom 0 old → found_in old t ≡ None → Changes old new t (Some x) → owed_for new ≡ owed_for old + owed_one x
owed_begun old new t x ascend none changes =
    let back : Changes new old t None = record { own = none; others = λ s other. sym (changes.others s other); ascend = ascend } in
    let gone = closes new old t x changes.ascend changes.own back in
    let same = same_Some gone.takes.was x (sym gone.there ∙ changes.own) in
    sym (owed_taken new old t gone.takes) ∙ ap (λ (o : Open). owed_for old + owed_one o) same

-- what is said stays the same
pub says_same : (old new : List Open) (t : ℕ) (x : Open) → AscendFrom 0 old → found_in old t ≡ Some x → Changes old new t (Some x) → new ≡ old
says_same old new t x ascend found changes = same_changes old new old t (Some x) changes (record { own = found; others = λ s other. refl; ascend = ascend })

-- what is said in front is said of the whole
pub found_front : (front back : List Open) (t : ℕ) (x : Open) → found_in front t ≡ Some x → found_in (front ++ back) t ≡ Some x
found_front [] back t x found = absurd (none-some x found)
found_front (y ∷ front) back t x found = by (y.txn == t) found (found_front front back t x)
  where
    by : (b : Bool) → cond b (Some y) (found_in front t) ≡ Some x → (found_in front t ≡ Some x → found_in (front ++ back) t ≡ Some x) → cond b (Some y) (found_in (front ++ back) t) ≡ Some x
    by true here rest = here
    by false later rest = rest later

pub found_past : (front : List Open) (x : Open) (back : List Open) → found_in front x.txn ≡ None → found_in (front ++ x ∷ back) x.txn ≡ Some x
found_past [] x back none = found_here x back x.txn refl
found_past (y ∷ front) x back none = by (y.txn == x.txn) none (found_past front x back)
  where
    by : (b : Bool) → cond b (Some y) (found_in front x.txn) ≡ None → (found_in front x.txn ≡ None → found_in (front ++ x ∷ back) x.txn ≡ Some x) → cond b (Some y) (found_in (front ++ x ∷ back) x.txn) ≡ Some x
    by true here rest = absurd (none-some y (sym here))
    by false later rest = rest later
