-- The table's entries, and what the list says of them.
use Rattle.analysis.proofs.Names.{Less, ◌≡◌, ℕ, ◌+◌, ◌≤◌, ◌==◌, Bool, true, false, true≢false, cond, List, [], ◌∷◌, ◌++◌, length, map, Option, option_map, Some, None, Result, Ok, Err, OnOk, OnErr, IfErr, IsErrOf, IsSome, is_ok, vec_len, ◌&&◌, ◌||◌, reverse, refl, sym, ap, subst, ◌∙◌, arith, eqb-true, ne_eqb, map-append, length-reverse, sum_by-cons, sorted_head, sorted_tail, none-some, BTreeMap, is_at, Updates, WritesThrough, IsOrdered, unsigned_tied, AllByRecursion, list_any, lookup, keys_of, values_of, nat_cmp, Open, found_in, AscendFrom, Changes, begun, none_remains, owed_one, owed_for, updates_of, Descend, has_at, IsOrder, loser_of, IsTable, open_of, Becomes, Order, Transaction, Entry, Active, IsInOrder, eq_turned, any_reverse}
use Rattle.std.proofs.lemmas.Bool.Decides.{nat_tests}
use Rattle.std.proofs.Common.{filter}
use Rattle.std.proofs.lemmas.Grind.{common_steps}
use Rattle.std.proofs.lemmas.List.{append_assoc, append-nil}
use Rattle.std.specs.List.Sorted.{IsStrictlySortedBy}
use Rattle.site.specs.declared.outside.Stop.{Stop}
use Rattle.site.specs.declared.outside.Stop.TheVariants.{Memory, Foreign}
use Rattle.analysis.specs.declared.analysis.Loser.{Loser}
use Rattle.analysis.proofs.Orders.{order_more, none_before}
use Rattle.analysis.proofs.Pending.{updates_descend, updates_apart}
use Rattle.analysis.proofs.Tables.{found_here, found_front, found_past, becomes, says_same}

is_key : (t k : ℕ) → is_at (nat_cmp t) k ≡ (k == t)
is_key t k = unsigned_tied t k ∙ eq_turned t k

abbrev pub found_key : List (ℕ × Transaction) → ℕ → Option Transaction
found_key es t = lookup (is_at (nat_cmp t)) es

abbrev pub opened : ℕ → Option Transaction → Option Open
opened t o = option_map (λ x. open_of (t, x)) o

-- what the list says of a transaction is what its entry has
pub found_at : (es : List (ℕ × Transaction)) (t : ℕ) → found_in (map open_of es) t ≡ opened t (found_key es t)
found_at [] t = refl
found_at (e ∷ es) t = by (e.0 == t) refl (found_at es t) ∙ ap (λ b. opened t (cond b (Some e.1) (found_key es t))) (sym (is_key t e.0))
  where
    by : (b : Bool) → (e.0 == t) ≡ b → found_in (map open_of es) t ≡ opened t (found_key es t) → found_in (map open_of (e ∷ es)) t ≡ opened t (cond (e.0 == t) (Some e.1) (found_key es t))
    by true is rest = let same = eqb-true e.0 t is in found_here (open_of e) (map open_of es) t same ∙ ap (λ n. Some (open_of (n, e.1))) same ∙ ap (λ b. opened t (cond b (Some e.1) (found_key es t))) (sym is)
    by false is rest = ap (λ b. cond b (Some (open_of e)) (found_in (map open_of es) t)) is ∙ rest ∙ ap (λ b. opened t (cond b (Some e.1) (found_key es t))) (sym is)

less_from : (a b : ℕ) → nat_cmp a b ≡ Less → a + 1 ≤ b
less_from a b is = grind (arith, nat_tests)

all_from : (n : ℕ) (ks : List ℕ) → AllByRecursion (λ k. nat_cmp n k ≡ Less) ks → AllByRecursion (λ k. n + 1 ≤ k) ks
all_from n [] all = tt
all_from n (k ∷ ks) all = (less_from n k all.0, all_from n ks all.1)

pub ascend_sorted : (n : ℕ) (es : List (ℕ × Transaction)) → IsStrictlySortedBy nat_cmp (keys_of es) → AllByRecursion (λ k. n ≤ k) (keys_of es) → AscendFrom n (map open_of es)
ascend_sorted n [] sorted low = tt
ascend_sorted n (e ∷ es) sorted low =
    (low.0, ascend_sorted (e.0 + 1) es (sorted_tail nat_cmp e.0 (keys_of es) sorted) (all_from e.0 (keys_of es) (sorted_head nat_cmp e.0 (keys_of es) sorted)))

all_low : (ks : List ℕ) → AllByRecursion (λ k. 0 ≤ k) ks
all_low [] = tt
all_low (k ∷ ks) = (omega arith, all_low ks)

pub ascends : (es : List (ℕ × Transaction)) → IsStrictlySortedBy nat_cmp (keys_of es) → AscendFrom 0 (map open_of es)
ascends es sorted = ascend_sorted 0 es sorted (all_low (keys_of es))

-- one entry is changed
pub changes : (old new : List (ℕ × Transaction)) (t : ℕ) (w : Option Transaction) → IsStrictlySortedBy nat_cmp (keys_of new) → found_key new t ≡ w → ((q : ℕ) → is_at (nat_cmp t) q ≡ false → found_key new q ≡ found_key old q) →
    Changes (map open_of old) (map open_of new) t (opened t w)
changes old new t w sorted own others = record {
  own = found_at new t ∙ ap (opened t) own;
  others = λ s other. found_at new s ∙ ap (opened s) (others s (is_key t s ∙ ne_eqb s t other)) ∙ sym (found_at old s);
  ascend = ascends new sorted;
}

-- what was lent is written
pub written : (old new : BTreeMap ℕ Transaction) (t : ℕ) (v w : Transaction) → found_key old.entries t ≡ Some v → WritesThrough nat_cmp (nat_cmp t) old w new → Changes (map open_of old.entries) (map open_of new.entries) t (Some (open_of (t, w)))
written old new t v w found writes =
    let updates = writes.3 (subst IsSome (sym found) refl) in
    changes old.entries new.entries t (Some w) writes.4 updates.1 updates.2

pub becomes_written : (old new : BTreeMap ℕ Transaction) (t : ℕ) (v w : Transaction) (after : Open → Open) → AscendFrom 0 (map open_of old.entries) → found_key old.entries t ≡ Some v → WritesThrough nat_cmp (nat_cmp t) old w new → open_of (t, w) ≡ after (open_of (t, v)) →
    Becomes (map open_of old.entries) (map open_of new.entries) t after
becomes_written old new t v w after ascend found writes is =
    becomes (map open_of old.entries) (map open_of new.entries) t (open_of (t, v)) ascend (found_at old.entries t ∙ ap (opened t) found) after (sym (ap (λ (o : Open). o.txn) is))
    (subst (λ (o : Open). Changes (map open_of old.entries) (map open_of new.entries) t (Some o)) is (written old new t v w found writes))

pub same_written : (old new : BTreeMap ℕ Transaction) (t : ℕ) (v w : Transaction) → AscendFrom 0 (map open_of old.entries) → found_key old.entries t ≡ Some v → WritesThrough nat_cmp (nat_cmp t) old w new → open_of (t, w) ≡ open_of (t, v) →
    map open_of new.entries ≡ map open_of old.entries
same_written old new t v w ascend found writes is =
    says_same (map open_of old.entries) (map open_of new.entries) t (open_of (t, v)) ascend (found_at old.entries t ∙ ap (opened t) found)
    (subst (λ (o : Open). Changes (map open_of old.entries) (map open_of new.entries) t (Some o)) is (written old new t v w found writes))

-- a transaction is new
module _ (old same new : BTreeMap ℕ Transaction) (t : ℕ) (first : Transaction) (was : same ≡ old) (last : first.last ≡ t) (empty : first.updates.items ≡ []) (ordered : IsOrdered nat_cmp new) (updates : Updates nat_cmp same new t (Some first)) where
  abbrev fresh : Open
  fresh = record { txn = t; last = t; updates = [] }

  fresh_is : open_of (t, first) ≡ fresh
  fresh_is i = record { txn = t; last = last i; updates = reverse (empty i) }

  pub put_in : Changes (map open_of old.entries) (map open_of new.entries) t (Some fresh)
  put_in =
      subst (λ (m : BTreeMap ℕ Transaction). Changes (map open_of m.entries) (map open_of new.entries) t (Some fresh)) was
      (subst (λ (o : Open). Changes (map open_of same.entries) (map open_of new.entries) t (Some o)) fresh_is
      (changes same.entries new.entries t (Some first) ordered updates.1 updates.2))

  pub begins_new : found_key old.entries t ≡ None → Changes (map open_of old.entries) (map open_of new.entries) t (Some (begun t (found_in (map open_of old.entries) t)))
  begins_new absent = subst (λ o. Changes (map open_of old.entries) (map open_of new.entries) t (Some (begun t o))) (sym (found_at old.entries t ∙ ap (opened t) absent)) put_in

-- Answers.

pub err_maps : {T E : Type 0} (result : Result T E) (P Q : Type 0) → (P → Q) → OnErr result P → OnErr result Q
err_maps (Ok x) P Q f p = tt
err_maps (Err e) P Q f p = f p

pub either_way : {T E : Type 0} (result : Result T E) (P Q R : Type 0) → (P → R) → (Q → R) → OnOk result P → OnErr result Q → R
either_way (Ok x) P Q R f g p q = f p
either_way (Err e) P Q R f g p q = g q

pub not_foreign : {T E : Type 0} {x : T} {e : E} → Ok x ≡ Err e → ⊥
not_foreign {T} {E} is = true≢false (ap (λ (r : Result T E). is_ok r) is)

wants_memory : Stop → Bool
wants_memory Memory = true
wants_memory _ = false

pub memory_alone : {T : Type 0} (result : Result T Stop) → IfErr result (λ stop. stop ≡ Memory) → result ≡ Err Foreign → ⊥
unfolding wants_memory
memory_alone {T} result stops is = true≢false (sym (ap wants_memory (subst (λ (r : Result T Stop). IfErr r (λ stop. stop ≡ Memory)) is stops)))

-- Loops over the entries.

-- what is owed for these transactions
abbrev pub owed_values : List Transaction → ℕ
owed_values [] = 0
owed_values (x ∷ xs) = (length x.updates.items + 1) + owed_values xs

-- an order of those before these
pub record OrderSoFar (entries rest : List (ℕ × Transaction)) (order : Order) : Type 0 where
  pub done : List (ℕ × Transaction)
  pub split : entries ≡ done ++ rest
  pub is : IsOrder order (map open_of done)

-- a transaction as callers see it
pub loser_is : (t : ℕ) (z : Transaction) (n : ℕ) → n ≡ vec_len z.updates → let seen : Loser = record { txn = t; last = z.last; remaining = n } in seen ≡ loser_of (open_of (t, z))
loser_is t z n is = grind (arith, common_steps)

pub owed_is : (es : List (ℕ × Transaction)) → owed_values (values_of es) ≡ owed_for (map open_of es)
owed_is [] = refl
owed_is (e ∷ es) = omega (arith, sum_by-cons owed_one (open_of e) (map open_of es), owed_is es, length-reverse e.1.updates.items)

-- An order, transaction by transaction.

module _ (entries rest : List (ℕ × Transaction)) (order : Order) (so_far : OrderSoFar entries rest order) (ascend : AscendFrom 0 (map open_of entries)) (e : ℕ × Transaction) (later : List (ℕ × Transaction)) (steps : rest ≡ e ∷ later) where
  abbrev done : List Open
  done = map open_of so_far.done

  all_is : map open_of entries ≡ done ++ open_of e ∷ map open_of later
  all_is = ap (map open_of) (so_far.split ∙ ap (λ (l : List (ℕ × Transaction)). so_far.done ++ l) steps) ∙ map-append open_of so_far.done (e ∷ later)

  ascends_so : AscendFrom 0 (done ++ open_of e ∷ map open_of later)
  ascends_so = subst (AscendFrom 0) all_is ascend

  none_yet : found_in done e.0 ≡ None
  none_yet = (none_before 0 done (open_of e) (map open_of later) ascends_so).1

  pub order_one : (new : Order) → ((t n : ℕ) → has_at new t n ≡ (has_at order t n || ((e.0 == t) && list_any (λ u. u == n) e.1.updates.items))) → Descend (reverse e.1.updates.items) → OrderSoFar entries later new
  order_one new added descend = record {
    done = so_far.done ++ e ∷ [];
    split = so_far.split ∙ ap (λ (l : List (ℕ × Transaction)). so_far.done ++ l) steps ∙ sym (append_assoc so_far.done (e ∷ []) later);
    is = subst (IsOrder new) (sym (map-append open_of so_far.done (e ∷ [])))
        (order_more order new done (open_of e) none_yet so_far.is (λ t n. added t n ∙ ap (λ b. has_at order t n || ((e.0 == t) && b)) (sym (any_reverse (λ u. u == n) e.1.updates.items))) descend);
  }

  found_now : found_in (map open_of entries) e.0 ≡ Some (open_of e)
  found_now = ap (λ (l : List Open). found_in l e.0) all_is ∙ found_past done (open_of e) (map open_of later) none_yet

  found_then : (t : ℕ) (x : Open) → found_in done t ≡ Some x → found_in (map open_of entries) t ≡ Some x
  found_then t x found = ap (λ (l : List Open). found_in l t) all_is ∙ found_front done (open_of e ∷ map open_of later) t x found

  -- of records in order it isn't refused
  pub readable_one : (named : List Active) (records : List Entry) (from to : ℕ) → IsTable named records (map open_of entries) → IsInOrder from records to →
      (Descend (reverse e.1.updates.items) → (s : ℕ) × (lsn : ℕ) × (has_at order s lsn ≡ true) × (list_any (λ u. u == lsn) e.1.updates.items ≡ true)) → ⊥
  readable_one named records from to is in_order refused =
      let clash = refused (updates_descend named records (map open_of entries) is from to in_order e.0 (open_of e) found_now) in
      by clash.0 clash.1 clash.2 clash.3 (found_in done clash.0) refl
    where
      by : (s lsn : ℕ) → has_at order s lsn ≡ true → list_any (λ u. u == lsn) e.1.updates.items ≡ true → (o : Option Open) → found_in done s ≡ o → ⊥
      by s lsn taken here None none = true≢false (sym taken ∙ so_far.is.has s lsn ∙ ap (λ o. list_any (λ u. u == lsn) (updates_of o)) none)
      by s lsn taken here (Some x) found =
          let there : list_any (λ u. u == lsn) x.updates ≡ true = sym (ap (λ o. list_any (λ u. u == lsn) (updates_of o)) found) ∙ sym (so_far.is.has s lsn) ∙ taken in
          let same = updates_apart named records (map open_of entries) is from to in_order s e.0 lsn x (open_of e) (found_then s x found) found_now there (any_reverse (λ u. u == lsn) e.1.updates.items ∙ here) in
          none-some x (sym none_yet ∙ ap (found_in done) (sym same) ∙ found)

pub order_all : (entries rest : List (ℕ × Transaction)) (order : Order) → OrderSoFar entries rest order → rest ≡ [] → IsOrder order (map open_of entries)
order_all entries rest order so_far none = subst (λ (l : List (ℕ × Transaction)). IsOrder order (map open_of l)) (sym (so_far.split ∙ ap (λ (l : List (ℕ × Transaction)). so_far.done ++ l) none ∙ append-nil so_far.done)) so_far.is

pub order_none : (entries : List (ℕ × Transaction)) (order : Order) → ((t lsn : ℕ) → has_at order t lsn ≡ false) → OrderSoFar entries entries order
order_none entries order none = record { done = []; split = refl; is = record { has = none; descend = λ t. tt } }

-- The names of those of which no Update remains, transaction by transaction.

abbrev pub undone_of : List Open → List ℕ
undone_of table = map (λ x. x.txn) (filter none_remains table)

pub note_more : (a b all : List ℕ) (x : Open) (rest : List Open) → b ≡ a ++ undone_of (x ∷ []) → a ++ undone_of (x ∷ rest) ≡ all → b ++ undone_of rest ≡ all
note_more a b all x rest noted so_far = ap (λ (l : List ℕ). l ++ undone_of rest) noted ∙ append_assoc a (undone_of (x ∷ [])) (undone_of rest) ∙ ap (λ (l : List ℕ). a ++ l) (by (none_remains x)) ∙ so_far
  where
    by : (b : Bool) → map (λ (y : Open). y.txn) (cond b (x ∷ []) []) ++ undone_of rest ≡ map (λ (y : Open). y.txn) (cond b (x ∷ filter none_remains rest) (filter none_remains rest))
    by true = refl
    by false = refl

-- Answers of other types.

abbrev stop_of : {T : Type 0} → Result T Stop → Stop
stop_of (Ok x) = Foreign
stop_of (Err stop) = stop

pub err_again : {T U : Type 0} (stop : Stop) → IsErrOf {T = T} (Err stop) Foreign → IsErrOf {T = U} (Err stop) Foreign
err_again {T} {U} stop is = ap (λ (s : Stop). let r : Result U Stop = Err s in r) (ap (λ (r : Result T Stop). stop_of r) is)

pub count_is : (x : Transaction) (n : ℕ) → n ≡ vec_len x.updates → n ≡ length x.updates.items
count_is x n is = grind (arith, common_steps)
