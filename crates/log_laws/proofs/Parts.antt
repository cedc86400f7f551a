-- Lists in two parts.
use Rattle.log_laws.proofs.Names.{◌≡◌, ℕ, zero, suc, ◌+◌, ◌-◌, ◌<◌, ◌≤◌, Bool, true, not, ◌&&◌, List, [], ◌∷◌, ◌++◌, length, map, drop, Some, refl, ap, subst, ◌∙◌, append_assoc, arith, false, and_from, and_parts, cases_lt, lt-ltb, le-ltb, le-leb, lt-leb, or_left, or_right, eq-eqb, append-nil, length-append, filter_map-append, AllByRecursion, list_any, range_with_len, IsTrue, filter, fold, sum_by, in_order_from, is_loser, is_closed, Entry, is_of, txn_of, last_where, commit_number, commit_numbers, InTurn, IsInOrder, Pairwise, before_block, from_block, is_begin, losers, all_both, all_filter, all_weaker, all_passed, all_map, filter_all}
use Rattle.log_laws.proofs.Lists.{last_of_both}
use Rattle.log_laws.proofs.Orders.{all_from, filter_none}

-- what holds of what a function makes of those that pass
pub all_made : {X Y : Type 0} (P : Y → Type 0) (f : X → Y) (test : X → Bool) (xs : List X) → AllByRecursion P (map f (filter test xs)) → AllByRecursion (λ x. test x ≡ true → P (f x)) xs
all_made P f test [] h = tt
all_made P f test (x ∷ xs) h = grind (arith, (all_made P f test xs))

pub filter_same : {X : Type 0} (test other : X → Bool) (xs : List X) → AllByRecursion (λ x. test x ≡ other x) xs → filter test xs ≡ filter other xs
filter_same test other [] h = refl
filter_same {X} test other (x ∷ xs) h = grind (arith, (filter_same test other xs h.1))

sums_same : {X : Type 0} (f g : X → ℕ) (xs : List X) (a : ℕ) → AllByRecursion (λ x. f x ≡ g x) xs → fold (λ n x. n + f x) a xs ≡ fold (λ n x. n + g x) a xs
sums_same f g [] a h = refl
sums_same f g (x ∷ xs) a h = ap (λ n. fold (λ n x. n + f x) (a + n) xs) h.0 ∙ sums_same f g xs (a + g x) h.1

pub sum_same : {X : Type 0} (f g : X → ℕ) (xs : List X) → AllByRecursion (λ x. f x ≡ g x) xs → sum_by f xs ≡ sum_by g xs
sum_same f g xs h = sums_same f g xs 0 h

pub pairwise_right : {X : Type 0} (R : X → X → Type 0) (xs ys : List X) → Pairwise R (xs ++ ys) → Pairwise R ys
pairwise_right R [] ys h = h
pairwise_right R (x ∷ xs) ys h = pairwise_right R xs ys h.1

pub pairwise_within : {X : Type 0} (P : X → Type 0) (R S : X → X → Type 0) → ((u x : X) → P u → R u x → S u x) → (xs : List X) → AllByRecursion P xs → Pairwise R xs → Pairwise S xs
pairwise_within P R S w [] p h = tt
pairwise_within P R S w (x ∷ xs) p h = (all_weaker (R x) (S x) (λ y. w x y p.0) xs h.0, pairwise_within P R S w xs p.1 h.1)

pub InTurn-right : {X : Type 0} (P : List X → X → Type 0) (earlier xs ys : List X) → InTurn P earlier (xs ++ ys) → InTurn P (earlier ++ xs) ys
InTurn-right {X} P earlier [] ys h = grind (arith, append-nil)
InTurn-right {X} P earlier (x ∷ xs) ys h = grind (arith, append_assoc, (InTurn-right P (earlier ++ x ∷ []) xs ys h.1))

-- each has a record of its own transaction
pub all_own : (log : List Entry) → AllByRecursion (λ e. list_any (is_of (txn_of e)) log ≡ true) log
all_own [] = tt
all_own (e ∷ log) = grind (arith, or_left, eq-eqb, all_weaker, or_right, (all_own log))

-- a log in order falls into what is before a block and what is from it on
pub parts_at : (block from : ℕ) (log : List Entry) (to : ℕ) → IsInOrder from log to → log ≡ before_block block log ++ from_block block log
parts_at block from [] to h = refl
parts_at block from (e ∷ log) to h = grind (arith, lt-ltb, lt-leb, all_from, filter_none, all_weaker, le-ltb, filter_all, le-leb, cases_lt, (parts_at block (e.lsn + 1) log to h.1))

pub all_below : (from : ℕ) (log : List Entry) (to : ℕ) → IsInOrder from log to → AllByRecursion (λ e. e.lsn < to) log
all_below from [] to h = tt
all_below from (e ∷ log) to h = (let b = ends (e.lsn + 1) log h.1 in omega (arith, b), all_below (e.lsn + 1) log to h.1)
  where
    ends : (from : ℕ) (log : List Entry) → IsInOrder from log to → from ≤ to
    ends from [] h = h
    ends from (e ∷ log) h = let b = ends (e.lsn + 1) log h.1 in let c = h.0 in omega (arith, b, c)

pub in_order_filter : (test : Entry → Bool) (from : ℕ) (log : List Entry) (to : ℕ) → IsInOrder from log to → IsInOrder from (filter test log) to
in_order_filter test from [] to h = h
in_order_filter test from (e ∷ log) to h = grind (arith, in_order_from, (in_order_filter test (e.lsn + 1) log to h.1))

pub in_order_raise : (from from' : ℕ) (log : List Entry) (to : ℕ) → from' ≤ to → AllByRecursion (λ e. from' ≤ e.lsn) log → IsInOrder from log to → IsInOrder from' log to
in_order_raise from from' [] to l a h = l
in_order_raise from from' (e ∷ log) to l a h = (a.0, h.1)

-- the last that passes a test passes both, where it passes the other one too
pub last_of_both' : {X : Type 0} (test other : X → Bool) (xs : List X) (x : X) → last_where test xs ≡ Some x → other x ≡ true → last_where (λ y. test y && other y) xs ≡ Some x
last_of_both' {X} test other xs x e h = ap (λ (t : X → Bool). last_where t xs) (λ i y. and_swap (test y) (other y) i) ∙ last_of_both test other xs x e h
  where
    and_swap : (a b : Bool) → (a && b) ≡ (b && a)
    and_swap true true = refl
    and_swap true false = refl
    and_swap false true = refl
    and_swap false false = refl

pub drop_range : (k a n : ℕ) → drop k (range_with_len a n) ≡ range_with_len (a + k) (n - k)
drop_range zero a n = grind arith
drop_range (suc k) a zero = grind arith
drop_range (suc k) a (suc n) = grind (arith, (drop_range k (a + 1) n))

-- the commits before a block and from it on
pub commits_parts : (block from : ℕ) (log : List Entry) (to : ℕ) → IsInOrder from log to → length (commit_numbers log) ≡ length (commit_numbers (before_block block log)) + length (commit_numbers (from_block block log))
commits_parts block from log to h =
    ap (λ (l : List Entry). length (commit_numbers l)) (parts_at block from log to h)
    ∙ ap length (filter_map-append commit_number (before_block block log) (from_block block log))
    ∙ length-append (commit_numbers (before_block block log)) (commit_numbers (from_block block log))

pub begin_is : (e : Entry) → is_begin e.rec ≡ true → txn_of e ≡ e.lsn
begin_is e h = grind arith

-- those with an open begin are losers
pub are_losers : (log : List Entry) → AllByRecursion (λ t. IsTrue (is_loser log t)) (losers log)
are_losers log =
    all_map (λ t. IsTrue (is_loser log t)) (λ (e : Entry). e.lsn) (filter (λ e. is_begin e.rec && not (is_closed log e.lsn)) log)
    (all_both (λ e. list_any (is_of (txn_of e)) log ≡ true) (λ e. (is_begin e.rec && not (is_closed log e.lsn)) ≡ true) (λ e. IsTrue (is_loser log e.lsn))
    (λ e own both. let b = and_parts (is_begin e.rec) (not (is_closed log e.lsn)) both in
    and_from (list_any (is_of e.lsn) log) (not (is_closed log e.lsn)) (subst (λ t. list_any (is_of t) log ≡ true) (begin_is e b.0) own) b.1)
    (filter (λ e. is_begin e.rec && not (is_closed log e.lsn)) log)
    (all_filter (λ e. list_any (is_of (txn_of e)) log ≡ true) (λ e. is_begin e.rec && not (is_closed log e.lsn)) log (all_own log))
    (all_passed (λ e. is_begin e.rec && not (is_closed log e.lsn)) log))
