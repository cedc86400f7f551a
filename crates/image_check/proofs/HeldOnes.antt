-- What unfinished transactions have written, after one record more.
use Rattle.std.proofs.lemmas.Grind.{common_steps}
use Rattle.image_check.proofs.Names.{arith, ◌≡◌, ℕ, Bool, true, false, true≢false, not, ◌&&◌, ◌||◌, cond, nat_eq, List, [], ◌∷◌, ◌++◌, map, drop, Option, Some, None, option_map, refl, sym, ap, ◌∙◌, and_from, and_parts, or_left, eqb-true, eq-eqb, not-true, not_from_false, append-nil, filter-append, BTreeMap, is_at, AllByRecursion, list_any, lookup, filter, is_some, AreHeld, IsListed, holds, is_others, clashes_by, LosersCanBeUndone, IndexMap, get, AreLeft, entry_of, Left, listed_is_loser, begun_is_listed, one_true, last_where-filter, last_passes, last_same, last_new, unfinished_at, one, all_last, Entry, txn_of, is_of, is_closed, is_update, is_number, is_on, number_of, entries_of, last_where, LogicalImage, Pairwise, HoldsOff, IsLoserChain, is_begin, losers, LogRecord, Begin, Update, Clr, Commit, End, all_push, all_weaker, all_between, eq_turned}
use Rattle.std.specs.Prelude.{◌==◌}
use Rattle.std_lemmas.proofs.Lists.{any_between}
use Rattle.log_laws.proofs.Losers.{any_of_those}
use Rattle.std.specs.Cmp.{unsigned_tied}
use Rattle.std.specs.Ordering.{nat_cmp}

-- Who is on the list.

left_has : (log : List Entry) (t : ℕ) (ns : List ℕ) → is_some (lookup (is_at (nat_cmp t)) (map entry_of (map (unfinished_at log) ns))) ≡ list_any (λ n. n == t) ns
left_has log t [] = refl
left_has log t (n ∷ ns) = by (is_at (nat_cmp t) n) (lookup (is_at (nat_cmp t)) (map entry_of (map (unfinished_at log) ns))) ∙ (λ i. ((unsigned_tied t n ∙ eq_turned t n) i) || left_has log t ns i)
  where
    by : (b : Bool) (o : Option Left) → is_some (cond b (Some (entry_of (unfinished_at log n)).1) o) ≡ (b || is_some o)
    by true o = refl
    by false o = refl

pub has_is : (log : List Entry) (left : BTreeMap ℕ Left) (t : ℕ) → AreLeft log left → is_some (lookup (is_at (nat_cmp t)) left.entries) ≡ list_any (λ n. n == t) (losers log)
has_is log left t is = ap (λ (l : List (ℕ × Left)). is_some (lookup (is_at (nat_cmp t)) l)) is.are ∙ left_has log t (losers log)

-- one with its chain is on it
pub chain_listed : (log : List Entry) (t : ℕ) → is_closed log t ≡ false → IsLoserChain t (entries_of t log) → list_any (λ n. n == t) (losers log) ≡ true
chain_listed log t lives chain =
    begun_is_listed log t lives log (any_of_those (λ x. is_begin x.rec && (x.lsn == t)) (is_of t) log
    (ap (list_any (λ x. is_begin x.rec && (x.lsn == t))) chain.begins ∙ or_left (t == t) (list_any (λ x. is_begin x.rec && (x.lsn == t)) (drop 1 (entries_of t log))) (eq-eqb t t refl)))

-- where each unfinished transaction has its chain, each one with a record is on the list or closed
pub listed : (p : LogicalImage) (front : List Entry) (e : Entry) (back : List Entry) → p.log ≡ front ++ e ∷ back → LosersCanBeUndone p → IsListed p.log (txn_of e)
listed p front e back split fourth = grind (arith, common_steps, not-true, and_parts, listed_is_loser, any_between, eq-eqb, chain_listed, and_from, not_from_false)

-- One record more.

pub held_none : {S : Type 0} (log : List Entry) (held : IndexMap ℕ ℕ S) → held.entries ≡ [] → AreHeld log [] held
held_none log held empty = record { each = λ number. ap (lookup (nat_eq number)) empty }

filtered : (log records : List Entry) (e : Entry) (b : Bool) → holds log e ≡ b → filter (holds log) (records ++ e ∷ []) ≡ filter (holds log) records ++ cond b (e ∷ []) []
filtered log records e b is = filter-append (holds log) records (e ∷ []) ∙ ap (λ (k : Bool). filter (holds log) records ++ cond k (e ∷ []) []) is

-- one that doesn't hold
pub held_same : {S : Type 0} (log records : List Entry) (e : Entry) (held : IndexMap ℕ ℕ S) → holds log e ≡ false → AreHeld log records held → AreHeld log (records ++ e ∷ []) held
held_same log records e held other is = grind (arith, common_steps, filtered, append-nil, option_map)

-- one that holds a number
pub held_more : {S : Type 0} (log records : List Entry) (e : Entry) (m : ℕ) (old new : IndexMap ℕ ℕ S) → holds log e ≡ true → number_of e.rec ≡ Some m →
    ((number : ℕ) → get nat_eq new number ≡ cond (nat_eq m number) (Some (txn_of e)) (get nat_eq old number)) → AreHeld log records old → AreHeld log (records ++ e ∷ []) new
held_more log records e m old new own on updates is = grind (arith, common_steps, option_map, filtered, nat_eq, last_new, last_same)

pub not_update : (rec : LogRecord) → ((txn prev page slot : ℕ) (before after : Option (List ℕ)) → rec ≡ Update txn prev page slot before after → ⊥) → is_update rec ≡ false
not_update Begin other = refl
not_update (Update txn prev page slot before after) other = absurd (other txn prev page slot before after refl)
not_update (Clr txn prev undo_next page slot after) other = refl
not_update (Commit txn number) other = refl
not_update (End txn) other = refl

-- Records on one number.

-- an Update on it that the log leaves open
abbrev holds_there : List Entry → ℕ → Entry → Bool
holds_there log number u = holds log u && is_on number u

-- where the last of these is of a transaction, or there is none, each is: those before the last hold others off from it
all_of : (log : List Entry) (number t : ℕ) (xs : List Entry) → Pairwise (HoldsOff log) xs → is_others (option_map txn_of (last_where (holds_there log number) xs)) t ≡ false →
    AllByRecursion (λ u. holds_there log number u ≡ true → txn_of u ≡ t) xs
all_of log number t [] pairs off = grind (arith, common_steps)
all_of log number t (y ∷ ys) pairs off = grind (arith, common_steps, eqb-true, option_map, one, one_true, and_parts, last_passes, all_last, not-true, (all_of log number t ys pairs.1))

-- and then none holds off a record of that transaction
off_none : (log : List Entry) (e : Entry) (n : ℕ) → number_of e.rec ≡ Some n → (u : Entry) → (holds_there log n u ≡ true → txn_of u ≡ txn_of e) → HoldsOff log u e
off_none log e n on u own number update on_u on_e lives = grind (arith, common_steps, eqb-true, and_from, not_from_false)

none_off : (log : List Entry) (e : Entry) → number_of e.rec ≡ None → (xs : List Entry) → AllByRecursion (λ u. HoldsOff log u e) xs
none_off log e none [] = tt
none_off log e none (u ∷ xs) = ((λ number update on_u on_e lives. absurd (true≢false (sym on_e ∙ ap (is_number number) none))), none_off log e none xs)

-- what is held of a number, by one test
holder_is : {S : Type 0} (log records : List Entry) (held : IndexMap ℕ ℕ S) (n : ℕ) → AreHeld log records held → get nat_eq held n ≡ option_map txn_of (last_where (holds_there log n) records)
holder_is log records held n is = is.each n ∙ ap (option_map txn_of) (last_where-filter (is_on n) (holds log) records)

-- a record is on no number that another one holds exactly where those before it hold no other off
pub apart_none : {S : Type 0} (log records : List Entry) (e : Entry) (held : IndexMap ℕ ℕ S) → AreHeld log records held → AllByRecursion (λ u. HoldsOff log u e) records →
    clashes_by (get nat_eq held) (number_of e.rec) (txn_of e) ≡ false
apart_none log records e held is all = by (number_of e.rec) refl
  where
    free : (n : ℕ) → is_on n e ≡ true → (o : Option Entry) → last_where (holds_there log n) records ≡ o → is_others (option_map txn_of o) (txn_of e) ≡ false
    free n on None last = refl
    free n on (Some x) last =
        let its = and_parts (holds log x) (is_on n x) (last_passes (holds_there log n) records x last) in
        let both = and_parts (is_update x.rec) (not (is_closed log (txn_of x))) its.0 in
        let same = all_last (λ u. HoldsOff log u e) (holds_there log n) records x all last n both.0 its.1 on (not-true (is_closed log (txn_of x)) both.1) in
        ap not (eq-eqb (txn_of x) (txn_of e) same)

    by : (o : Option ℕ) → number_of e.rec ≡ o → clashes_by (get nat_eq held) o (txn_of e) ≡ false
    by None on = refl
    by (Some n) on =
        ap (λ (o : Option ℕ). is_others o (txn_of e)) (holder_is log records held n is) ∙ free n (ap (is_number n) on ∙ eq-eqb n n refl) (last_where (holds_there log n) records) refl

pub none_apart : {S : Type 0} (log records : List Entry) (e : Entry) (held : IndexMap ℕ ℕ S) → AreHeld log records held → Pairwise (HoldsOff log) records →
    clashes_by (get nat_eq held) (number_of e.rec) (txn_of e) ≡ false → AllByRecursion (λ u. HoldsOff log u e) records
none_apart log records e held is pairs none = by (number_of e.rec) refl none
  where
    by : (o : Option ℕ) → number_of e.rec ≡ o → clashes_by (get nat_eq held) o (txn_of e) ≡ false → AllByRecursion (λ u. HoldsOff log u e) records
    by None on off = none_off log e on records
    by (Some n) on off =
        all_weaker (λ u. holds_there log n u ≡ true → txn_of u ≡ txn_of e) (λ u. HoldsOff log u e) (off_none log e n on) records
        (all_of log n (txn_of e) records pairs (ap (λ (o : Option ℕ). is_others o (txn_of e)) (sym (holder_is log records held n is)) ∙ off))

-- Pairs of records.

pub pairwise_push : {X : Type 0} (R : X → X → Type 0) (xs : List X) (x : X) → Pairwise R xs → AllByRecursion (λ u. R u x) xs → Pairwise R (xs ++ x ∷ [])
pairwise_push R [] x pairs all = (tt, tt)
pairwise_push R (y ∷ xs) x pairs all = (all_push (R y) xs x pairs.0 all.0, pairwise_push R xs x pairs.1 all.1)

pub pairwise_at : {X : Type 0} (R : X → X → Type 0) (xs : List X) (x : X) (ys : List X) → Pairwise R (xs ++ x ∷ ys) → AllByRecursion (λ u. R u x) xs
pairwise_at R [] x ys pairs = tt
pairwise_at R (y ∷ xs) x ys pairs = (all_between (R y) xs x ys pairs.0, pairwise_at R xs x ys pairs.1)

-- What was heard: no record so far is on another's number, and these are held.
pub record Apart {S : Type 0} (log : List Entry) (numbers : IndexMap ℕ ℕ S) (records : List Entry) : Type 0 where
  pub held : AreHeld log records numbers
  pub apart : Pairwise (HoldsOff log) records
