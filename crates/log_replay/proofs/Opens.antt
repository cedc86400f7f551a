-- Which transactions are open behind a record, and who has written what.
use Rattle.log_replay.proofs.Names.{◌≡◌, ◌⊎◌, ℕ, suc, ◌+◌, ◌*◌, ◌<◌, ◌==◌, nat_eq, Bool, true, false, not, ◌&&◌, ◌||◌, cond, List, [], ◌∷◌, refl, sym, ap, subst, ◌∙◌, arith, and_right, eqb-true, eq-eqb, ne_eqb, cases_eq, same_Some, AllByRecursion, list_any, Option, Some, None, find, filter, Standing, Unclosed, is_taken, is_unclosed, put_in, without, EachOnce, HoldsItsOwn, begun, has_written, is_others, number_of, written, Write}
use Rattle.std.proofs.lemmas.Bool.Decides.{nat_tests}
use Rattle.std.proofs.lemmas.Grind.{common_steps}

-- Finding one.

pub find_without : (txn x : ℕ) (ts : List Unclosed) → find (is_unclosed x) (without txn ts) ≡ cond (txn == x) None (find (is_unclosed x) ts)
find_without txn x [] = grind (arith, common_steps)
find_without txn x (t ∷ ts) = grind (arith, common_steps, nat_tests, (find_without txn x ts))

without_absent : (txn : ℕ) (ts : List Unclosed) → find (is_unclosed txn) ts ≡ None → without txn ts ≡ ts
without_absent txn [] none = refl
without_absent txn (t ∷ ts) none = grind (arith, common_steps, (without_absent txn ts))

pub not_begun : (lsn : ℕ) (ts : List Unclosed) → AllByRecursion (λ t. t.begin < lsn) ts → find (is_unclosed lsn) ts ≡ None
not_begun lsn [] early = refl
not_begun lsn (t ∷ ts) early = grind (arith, common_steps, nat_tests, (not_begun lsn ts early.1))

pub all_without : (P : Unclosed → Type 0) (txn : ℕ) (ts : List Unclosed) → AllByRecursion P ts → AllByRecursion P (without txn ts)
all_without P txn [] all = tt
all_without P txn (t ∷ ts) all = by (is_unclosed txn t) (all_without P txn ts all.1)
  where
    by : (b : Bool) → AllByRecursion P (without txn ts) → AllByRecursion P (cond (not b) (t ∷ without txn ts) (without txn ts))
    by true rest = rest
    by false rest = (all.0, rest)

pub all_weaker : (P Q : Unclosed → Type 0) → ((t : Unclosed) → P t → Q t) → (ts : List Unclosed) → AllByRecursion P ts → AllByRecursion Q ts
all_weaker P Q f [] all = tt
all_weaker P Q f (t ∷ ts) all = (f t all.0, all_weaker P Q f ts all.1)

pub once_without : (txn : ℕ) (ts : List Unclosed) → EachOnce ts → EachOnce (without txn ts)
once_without txn [] once = tt
once_without txn (t ∷ ts) once = by (is_unclosed txn t) (once_without txn ts once.1)
  where
    none : (b : Bool) → cond b None (find (is_unclosed t.begin) ts) ≡ None
    none true = refl
    none false = once.0

    by : (b : Bool) → EachOnce (without txn ts) → EachOnce (cond (not b) (t ∷ without txn ts) (without txn ts))
    by true rest = rest
    by false rest = (find_without txn t.begin ts ∙ none (txn == t.begin), rest)

-- what holds of all holds of one that is found, and it has this Begin
pub found : (P : Unclosed → Type 0) (txn : ℕ) (ts : List Unclosed) (t : Unclosed) → AllByRecursion P ts → find (is_unclosed txn) ts ≡ Some t → P t × (t.begin ≡ txn)
found P txn [] t all is = let bad : None ≡ Some t = is in cc
found P txn (u ∷ ts) t all is = by (is_unclosed txn u) refl is (found P txn ts t all.1)
  where
    by : (b : Bool) → is_unclosed txn u ≡ b → cond b (Some u) (find (is_unclosed txn) ts) ≡ Some t
        → (find (is_unclosed txn) ts ≡ Some t → P t × (t.begin ≡ txn)) → P t × (t.begin ≡ txn)
    by true at same later = subst (λ x. P x × (x.begin ≡ txn)) (same_Some _ _ same) (all.0, eqb-true u.begin txn at)
    by false at same later = later same

-- Who has written a record.

pub put_has : (n : ℕ) (write : Write) (net : List Write) → list_any (λ w. w.0 == n) (put_in write net) ≡ ((write.0 == n) || list_any (λ w. w.0 == n) net)
put_has n write [] = refl
put_has n write (w ∷ net) = grind (arith, common_steps, nat_tests, (put_has n write net))

own_same : (txn n : ℕ) (ts : List Unclosed) → is_taken txn n (without txn ts) ≡ is_taken txn n ts
own_same txn n [] = refl
own_same txn n (t ∷ ts) = grind (arith, common_steps, (own_same txn n ts))

none_else : (txn x n : ℕ) (ts : List Unclosed) → is_taken txn n ts ≡ false → is_taken x n (without txn ts) ≡ false
none_else txn x n [] none = refl
none_else txn x n (t ∷ ts) none = grind (arith, common_steps, nat_tests, (none_else txn x n ts))

-- one apart, and all others
taken_apart : (txn x n : ℕ) (ts : List Unclosed) (t : Unclosed) → EachOnce ts → find (is_unclosed txn) ts ≡ Some t →
    ((not (is_unclosed x t) && has_written n t) || is_taken x n (without txn ts)) ≡ is_taken x n ts
taken_apart txn x n [] t once is = let bad : None ≡ Some t = is in cc
taken_apart txn x n (u ∷ ts) t once is = by (is_unclosed txn u) refl is (taken_apart txn x n ts t once.1)
  where
    turned : (a b c : Bool) → (a || (b || c)) ≡ (b || (a || c))
    turned true true c = refl
    turned true false c = refl
    turned false b c = refl

    by : (b : Bool) → is_unclosed txn u ≡ b → cond b (Some u) (find (is_unclosed txn) ts) ≡ Some t →
        (find (is_unclosed txn) ts ≡ Some t → ((not (is_unclosed x t) && has_written n t) || is_taken x n (without txn ts)) ≡ is_taken x n ts) →
        ((not (is_unclosed x t) && has_written n t) || is_taken x n (cond (not b) (u ∷ without txn ts) (without txn ts))) ≡ is_taken x n (u ∷ ts)
    by true at same later =
        let one : u ≡ t = same_Some _ _ same in
        let absent : find (is_unclosed txn) ts ≡ None = subst (λ k. find (is_unclosed k) ts ≡ None) (eqb-true u.begin txn at) once.0 in
        ap (λ l. (not (is_unclosed x t) && has_written n t) || is_taken x n l) (without_absent txn ts absent)
        ∙ ap (λ v. (not (is_unclosed x v) && has_written n v) || is_taken x n ts) (sym one)
    by false at same later =
        turned (not (is_unclosed x t) && has_written n t) (not (is_unclosed x u) && has_written n u) (is_taken x n (without txn ts))
        ∙ ap (λ b. (not (is_unclosed x u) && has_written n u) || b) (later same)

-- who has written it, is another one for each other transaction
taken_by : (txn x n : ℕ) (ts : List Unclosed) (t : Unclosed) → EachOnce ts → find (is_unclosed txn) ts ≡ Some t → t.begin ≡ txn → has_written n t ≡ true → (txn == x) ≡ false → is_taken x n ts ≡ true
taken_by txn x n ts t once is begins has apart =
    sym (taken_apart txn x n ts t once is)
    ∙ (λ i. (not (begins i == x) && has i) || is_taken x n (without txn ts))
    ∙ ap (λ b. (not b && true) || is_taken x n (without txn ts)) apart

module _ (txn n : ℕ) (ts : List Unclosed) (w : Option ℕ) (same : (x : ℕ) → is_taken x n ts ≡ is_others x w) where
  -- a record that the transaction has written no other one has
  pub no_other : (t : Unclosed) → EachOnce ts → find (is_unclosed txn) ts ≡ Some t → t.begin ≡ txn → has_written n t ≡ true → is_taken txn n ts ≡ false
  no_other t once is begins has = by w same
    where
      one_more : (k : ℕ) → (k == suc k) ≡ false
      one_more k = ne_eqb k (suc k) (λ e. omega (arith, e))

      is_own : (o : ℕ) (b : Bool) → (txn == o) ≡ b → ((x : ℕ) → is_taken x n ts ≡ not (o == x)) → is_taken txn n ts ≡ false
      is_own o true at all = all txn ∙ ap (λ k. not (k == txn)) (sym (eqb-true txn o at)) ∙ ap not (eq-eqb txn txn refl)
      is_own o false at all =
          let yes : is_taken o n ts ≡ true = taken_by txn o n ts t once is begins has at in
          let no : is_taken o n ts ≡ false = all o ∙ ap not (eq-eqb o o refl) in
          cc

      by : (v : Option ℕ) → ((x : ℕ) → is_taken x n ts ≡ is_others x v) → is_taken txn n ts ≡ false
      by None all =
          let yes : is_taken (suc txn) n ts ≡ true = taken_by txn (suc txn) n ts t once is begins has (one_more txn) in
          let no : is_taken (suc txn) n ts ≡ false = all (suc txn) in
          cc
      by (Some o) all = is_own o (txn == o) refl all

-- behind a write of a record that no other one has
pub taken_written : (txn x n : ℕ) (ts : List Unclosed) (t : Unclosed) (lsn : ℕ) (write : Write) (standing : List Standing) (w : Option ℕ) →
    EachOnce ts → find (is_unclosed txn) ts ≡ Some t → t.begin ≡ txn → is_taken txn write.0 ts ≡ false → is_taken x n ts ≡ is_others x w →
    is_taken x n (written lsn write standing t ∷ without txn ts) ≡ is_others x (cond (write.0 == n) (Some t.begin) w)
taken_written txn x n ts t lsn write standing w once is begins free same =
    ap (λ b. (not (t.begin == x) && b) || is_taken x n (without txn ts)) (put_has n write t.net) ∙ by (write.0 == n) refl
  where
    own : (b : Bool) → (t.begin == x) ≡ b → write.0 ≡ n → ((not b && true) || is_taken x n (without txn ts)) ≡ not b
    own true at number =
        subst (λ k. is_taken k n (without txn ts) ≡ false) (sym begins ∙ eqb-true t.begin x at) (own_same txn n ts ∙ ap (λ k. is_taken txn k ts) (sym number) ∙ free)
    own false at number = refl

    by : (b : Bool) → (write.0 == n) ≡ b → ((not (t.begin == x) && (b || has_written n t)) || is_taken x n (without txn ts)) ≡ is_others x (cond b (Some t.begin) w)
    by true at = own (t.begin == x) refl (eqb-true write.0 n at)
    by false at = taken_apart txn x n ts t once is ∙ same

-- behind the close of one
pub taken_closed : (txn x n : ℕ) (ts : List Unclosed) (t : Unclosed) (w : Option ℕ) →
    EachOnce ts → find (is_unclosed txn) ts ≡ Some t → t.begin ≡ txn → ((y : ℕ) → is_taken y n ts ≡ is_others y w) →
    is_taken x n (without txn ts) ≡ is_others x (cond (has_written n t) None w)
taken_closed txn x n ts t w once is begins same = by (has_written n t) refl
  where
    by : (b : Bool) → has_written n t ≡ b → is_taken x n (without txn ts) ≡ is_others x (cond b None w)
    by true at = none_else txn x n ts (no_other txn n ts w same t once is begins at)
    by false at =
        ap (λ b. b || is_taken x n (without txn ts)) (sym (and_right (not (is_unclosed x t)) false refl) ∙ ap (λ b. not (is_unclosed x t) && b) (sym at))
        ∙ taken_apart txn x n ts t once is ∙ same x

-- What a transaction holds.

owns_more : (write : Write) (net : List Write) (us : List Standing) → AllByRecursion (λ u. list_any (λ w. w.0 == number_of u) net ≡ true) us →
    AllByRecursion (λ u. list_any (λ w. w.0 == number_of u) (put_in write net) ≡ true) us
owns_more write net [] all = tt
owns_more write net (u ∷ us) all =
    (put_has (number_of u) write net ∙ ap (λ b. (write.0 == number_of u) || b) all.0 ∙ or_true (write.0 == number_of u), owns_more write net us all.1)
  where
    or_true : (b : Bool) → (b || true) ≡ true
    or_true true = refl
    or_true false = refl

pub owns_update : (lsn : ℕ) (write : Write) (u : Standing) (t : Unclosed) → write.0 ≡ number_of u → HoldsItsOwn t → HoldsItsOwn (written lsn write (u ∷ t.standing) t)
owns_update lsn write u t at own =
    (put_has (number_of u) write t.net ∙ ap (λ b. b || has_written (number_of u) t) (eq-eqb write.0 (number_of u) at), owns_more write t.net t.standing own)

pub owns_clr : (lsn : ℕ) (write : Write) (u : Standing) (us : List Standing) (t : Unclosed) → t.standing ≡ u ∷ us → HoldsItsOwn t → HoldsItsOwn (written lsn write us t)
owns_clr lsn write u us t is own = owns_more write t.net us (subst (AllByRecursion (λ v. has_written (number_of v) t ≡ true)) is own).1
