-- What undo may take, record by record.
use Rattle.std.proofs.lemmas.Grind.{common_steps}
use Rattle.log_laws.proofs.Names.{◌≡◌, ℕ, ◌+◌, ◌<◌, Bool, true, false, cond, not, ◌&&◌, List, [], ◌∷◌, length, refl, sym, ap, subst, ◌∙◌, arith, and_from, and_left, and_right, eqb-true, eq-eqb, ne_eqb, filter-append, sum_by-cons, sum_by-append, AllByRecursion, sum_by, IsTrue, ◌==◌, IsFresh, Entry, txn_of, is_of, is_update, is_closing, is_closed, entries_of, is_loser, IsLoserChain, Undoes, Continues, left_open, open_by, open_updates, is_begin, is_clr, owed, owed_by, losers, LogRecord, Begin, Update, Clr, Commit, End, sum_both, sum_made, sum_pointwise, sum_within, sum_zero}
use Rattle.std.specs.Prelude.{drop}
use Rattle.log_laws.proofs.Chains.{open_append}
use Rattle.log_laws.proofs.Values.{with, closed_same, closed_by}
use Rattle.log_laws.proofs.Orders.{InTurn-all}
use Rattle.log_laws.proofs.Appends.{fresh_entries, fresh_open}
use Rattle.log_laws.proofs.Parts.{are_losers}

-- An unfinished transaction has one Begin.

abbrev pub begun_by : ℕ → Entry → Bool
begun_by t e = is_begin e.rec && (t == e.lsn)

begun_is_of : (t : ℕ) (e : Entry) → is_of t e ≡ false → begun_by t e ≡ false
begun_is_of t e h = grind (arith, common_steps, ne_eqb, eq-eqb)

pub once : (log : List Entry) (t c : ℕ) → IsLoserChain t (entries_of t log) → sum_by (λ e. cond (begun_by t e) c 0) log ≡ c
once log t c chain =
    sym (sum_within (λ e. cond (begun_by t e) c 0) (is_of t) log (λ e h. ap (λ b. cond b c 0) (begun_is_of t e h)))
    ∙ ap (sum_by (λ e. cond (begun_by t e) c 0)) chain.begins
    ∙ sum_by-cons (λ e. cond (begun_by t e) c 0) (record { lsn = t; rec = Begin }) (drop 1 (entries_of t log))
    ∙ omega (
      arith,
      ap (λ b. cond b c 0) (eq-eqb t t refl),
      sum_zero (λ e. cond (begun_by t e) c 0) (drop 1 (entries_of t log)) (InTurn-all Continues (λ e. cond (begun_by t e) c 0 ≡ 0) (λ earlier e k. begins_none earlier e k) (record { lsn = t; rec = Begin } ∷ []) (drop 1 (entries_of t log)) chain.continues),
    )
  where
    by_rec : (stack : List Entry) (lsn : ℕ) (rec : LogRecord) → Undoes stack rec → cond (is_begin rec && (t == lsn)) c 0 ≡ 0
    by_rec [] lsn Begin u = absurd u
    by_rec (v ∷ stack) lsn Begin u = absurd u
    by_rec stack lsn (Update txn prev page slot before after) u = refl
    by_rec stack lsn (Clr txn prev undo_next page slot after) u = refl
    by_rec stack lsn (Commit txn number) u = refl
    by_rec stack lsn (End txn) u = refl

    begins_none : (earlier : List Entry) (e : Entry) → Continues earlier e → cond (begun_by t e) c 0 ≡ 0
    begins_none earlier e k = by_rec (open_updates [] earlier) e.lsn e.rec k.undoes

-- What is owed, as a sum over the log.

abbrev owes : List Entry → Entry → ℕ
owes log e = cond (is_begin e.rec && not (is_closed log e.lsn)) (owed_by log e.lsn) 0

owed_is : (log : List Entry) → owed log ≡ sum_by (owes log) log
owed_is log = sum_made (owed_by log) (λ (e : Entry). e.lsn) (λ e. is_begin e.rec && not (is_closed log e.lsn)) log

owed_push : (log : List Entry) (e : Entry) → owed (with log e) ≡ sum_by (owes (with log e)) log + owes (with log e) e
owed_push log e = grind (arith, common_steps, owed_is, with, sum_by-append, sum_by-cons)

pub left_push : (log : List Entry) (e : Entry) (t : ℕ) → left_open (with log e) t ≡ cond (is_of t e) (open_by (left_open log t) e e.rec) (left_open log t)
left_push log e t = grind (arith, common_steps, filter-append, open_append)

-- where one transaction owes more
more_at : (g c c' h : Bool) (o o' k : ℕ) → c' ≡ c → (h ≡ true → (c ≡ false) × (o' ≡ o + k)) → (h ≡ false → o' ≡ o) → cond (g && not c') o' 0 ≡ cond (g && not c) o 0 + cond (g && h) k 0
more_at x0 c c' h o o' k same at other = grind arith

-- where one transaction owes nothing any more
less_at : (g c c' h : Bool) (o o' k : ℕ) → (h ≡ true → (c ≡ false) × (c' ≡ true) × (o ≡ k)) → (h ≡ false → (c' ≡ c) × (o' ≡ o)) → cond (g && not c) o 0 ≡ cond (g && not c') o' 0 + cond (g && h) k 0
less_at x0 c c' h o o' k at other = grind arith

owed_by_same : (log : List Entry) (e : Entry) (t : ℕ) → (is_of t e && is_update e.rec) ≡ false → (is_of t e && is_clr e.rec) ≡ false → owed_by (with log e) t ≡ owed_by log t
owed_by_same log e t u c = grind (arith, common_steps, left_push)

-- A Begin.
pub owed_begin : (log : List Entry) (lsn : ℕ) → IsFresh lsn log → owed (with log (record { lsn = lsn; rec = Begin })) ≡ owed log + 1
owed_begin log lsn fresh = grind (arith, common_steps, owed_push, with, sum_pointwise, owed_is, closed_same, and_right, owed_by_same, fresh_open, fresh_entries)

-- An Update owes one more.
pub owed_update : (log : List Entry) (e : Entry) → is_update e.rec ≡ true → is_closed log (txn_of e) ≡ false → IsLoserChain (txn_of e) (entries_of (txn_of e) log) → owed (with log e) ≡ owed log + 1
owed_update log e update lives chain =
    owed_push log e
    ∙ ap (λ n. n + owes (with log e) e)
    (sum_pointwise (owes (with log e)) (λ x. owes log x + cond (begun_by (txn_of e) x) 1 0) more log ∙ sum_both (owes log) (λ x. cond (begun_by (txn_of e) x) 1 0) log)
    ∙ omega (arith, owed_is log, once log (txn_of e) 1 chain, not_begin e.rec (owed_by (with log e) e.lsn) (not (is_closed (with log e) e.lsn)) update)
  where
    not_begin : (rec : LogRecord) (n : ℕ) (b : Bool) → is_update rec ≡ true → cond (is_begin rec && b) n 0 ≡ 0
    not_begin Begin n b h = absurd (grind arith)
    not_begin (Update txn prev page slot before after) n b h = refl
    not_begin (Clr txn prev undo_next page slot after) n b h = refl
    not_begin (Commit txn number) n b h = refl
    not_begin (End txn) n b h = refl

    not_clr : (rec : LogRecord) → is_update rec ≡ true → is_clr rec ≡ false
    not_clr Begin h = refl
    not_clr (Update txn prev page slot before after) h = refl
    not_clr (Clr txn prev undo_next page slot after) h = absurd (grind arith)
    not_clr (Commit txn number) h = refl
    not_clr (End txn) h = refl

    not_closing : (rec : LogRecord) → is_update rec ≡ true → is_closing rec ≡ false
    not_closing Begin h = refl
    not_closing (Update txn prev page slot before after) h = refl
    not_closing (Clr txn prev undo_next page slot after) h = refl
    not_closing (Commit txn number) h = absurd (grind arith)
    not_closing (End txn) h = absurd (grind arith)

    one_more : (us : List Entry) (rec : LogRecord) → is_update rec ≡ true → length (open_by us e rec) ≡ length us + 1
    one_more us Begin h = absurd (grind arith)
    one_more us (Update txn prev page slot before after) h = omega arith
    one_more us (Clr txn prev undo_next page slot after) h = absurd (grind arith)
    one_more us (Commit txn number) h = absurd (grind arith)
    one_more us (End txn) h = absurd (grind arith)

    own : (t : ℕ) → (txn_of e == t) ≡ true → (is_closed log t ≡ false) × (owed_by (with log e) t ≡ owed_by log t + 1)
    own t h =
        let same = eqb-true (txn_of e) t h in
        let a = ap length (left_push log e t) ∙ ap (λ b. length (cond b (open_by (left_open log t) e e.rec) (left_open log t))) h in
        (ap (is_closed log) (sym same) ∙ lives, omega (arith, a, one_more (left_open log t) e.rec update))

    more : (x : Entry) → owes (with log e) x ≡ owes log x + cond (begun_by (txn_of e) x) 1 0
    more x = more_at (is_begin x.rec) (is_closed log x.lsn) (is_closed (with log e) x.lsn) (txn_of e == x.lsn) (owed_by log x.lsn) (owed_by (with log e) x.lsn) 1
        (closed_same log e x.lsn (and_right (is_of x.lsn e) (is_closing e.rec) (not_closing e.rec update)))
        (own x.lsn)
        (λ h. owed_by_same log e x.lsn (and_left (is_of x.lsn e) (is_update e.rec) h) (and_left (is_of x.lsn e) (is_clr e.rec) h))

-- A CLR owes one less.
pub owed_clr : (log : List Entry) (e : Entry) → is_clr e.rec ≡ true → is_closed log (txn_of e) ≡ false → IsLoserChain (txn_of e) (entries_of (txn_of e) log) → 0 < length (left_open log (txn_of e)) → owed log ≡ owed (with log e) + 1
owed_clr log e clr lives chain some =
    owed_is log
    ∙ sum_pointwise (owes log) (λ x. owes (with log e) x + cond (begun_by (txn_of e) x) 1 0) less log
    ∙ sum_both (owes (with log e)) (λ x. cond (begun_by (txn_of e) x) 1 0) log
    ∙ omega (arith, owed_push log e, once log (txn_of e) 1 chain, not_begin e.rec (owed_by (with log e) e.lsn) (not (is_closed (with log e) e.lsn)) clr)
  where
    not_begin : (rec : LogRecord) (n : ℕ) (b : Bool) → is_clr rec ≡ true → cond (is_begin rec && b) n 0 ≡ 0
    not_begin Begin n b h = absurd (grind arith)
    not_begin (Update txn prev page slot before after) n b h = refl
    not_begin (Clr txn prev undo_next page slot after) n b h = refl
    not_begin (Commit txn number) n b h = absurd (grind arith)
    not_begin (End txn) n b h = absurd (grind arith)

    only_clr : (rec : LogRecord) → is_clr rec ≡ true → (is_update rec ≡ false) × (is_closing rec ≡ false)
    only_clr Begin h = absurd (grind arith)
    only_clr (Update txn prev page slot before after) h = absurd (grind arith)
    only_clr (Clr txn prev undo_next page slot after) h = (refl, refl)
    only_clr (Commit txn number) h = absurd (grind arith)
    only_clr (End txn) h = absurd (grind arith)

    still : (t : ℕ) → is_closed (with log e) t ≡ is_closed log t
    still t = closed_same log e t (and_right (is_of t e) (is_closing e.rec) (only_clr e.rec clr).1)

    one_less : (us : List Entry) (rec : LogRecord) → is_clr rec ≡ true → 0 < length us → length us ≡ length (open_by us e rec) + 1
    one_less us Begin h l = absurd (grind arith)
    one_less us (Update txn prev page slot before after) h l = absurd (grind arith)
    one_less [] (Clr txn prev undo_next page slot after) h l = absurd (omega (arith, l))
    one_less (u ∷ us) (Clr txn prev undo_next page slot after) h l = omega arith
    one_less us (Commit txn number) h l = absurd (grind arith)
    one_less us (End txn) h l = absurd (grind arith)

    own : (t : ℕ) → (txn_of e == t) ≡ true → (is_closed (with log e) t ≡ false) × (owed_by log t ≡ owed_by (with log e) t + 1)
    own t h =
        let same = eqb-true (txn_of e) t h in
        let a = ap length (left_push log e t) ∙ ap (λ b. length (cond b (open_by (left_open log t) e e.rec) (left_open log t))) h in
        let c = subst (λ s. 0 < length (left_open log s)) same some in
        (still t ∙ ap (is_closed log) (sym same) ∙ lives, omega (arith, a, c, one_less (left_open log t) e.rec clr c))

    less : (x : Entry) → owes log x ≡ owes (with log e) x + cond (begun_by (txn_of e) x) 1 0
    less x = more_at (is_begin x.rec) (is_closed (with log e) x.lsn) (is_closed log x.lsn) (txn_of e == x.lsn) (owed_by (with log e) x.lsn) (owed_by log x.lsn) 1
        (sym (still x.lsn))
        (own x.lsn)
        (λ h. sym (owed_by_same log e x.lsn (and_left (is_of x.lsn e) (is_update e.rec) h) (and_left (is_of x.lsn e) (is_clr e.rec) h)))

-- A Commit or an End takes away all that its transaction owed.
pub owed_closing : (log : List Entry) (e : Entry) → is_closing e.rec ≡ true → is_closed log (txn_of e) ≡ false → IsLoserChain (txn_of e) (entries_of (txn_of e) log) → owed log ≡ owed (with log e) + owed_by log (txn_of e)
owed_closing log e closing lives chain =
    owed_is log
    ∙ sum_pointwise (owes log) (λ x. owes (with log e) x + cond (begun_by (txn_of e) x) (owed_by log (txn_of e)) 0) less log
    ∙ sum_both (owes (with log e)) (λ x. cond (begun_by (txn_of e) x) (owed_by log (txn_of e)) 0) log
    ∙ omega (arith, owed_push log e, once log (txn_of e) (owed_by log (txn_of e)) chain, not_begin e.rec (owed_by (with log e) e.lsn) (not (is_closed (with log e) e.lsn)) closing)
  where
    not_begin : (rec : LogRecord) (n : ℕ) (b : Bool) → is_closing rec ≡ true → cond (is_begin rec && b) n 0 ≡ 0
    not_begin Begin n b h = absurd (grind arith)
    not_begin (Update txn prev page slot before after) n b h = absurd (grind arith)
    not_begin (Clr txn prev undo_next page slot after) n b h = absurd (grind arith)
    not_begin (Commit txn number) n b h = refl
    not_begin (End txn) n b h = refl

    not_update : (rec : LogRecord) → is_closing rec ≡ true → (is_update rec ≡ false) × (is_clr rec ≡ false)
    not_update Begin h = absurd (grind arith)
    not_update (Update txn prev page slot before after) h = absurd (grind arith)
    not_update (Clr txn prev undo_next page slot after) h = absurd (grind arith)
    not_update (Commit txn number) h = (refl, refl)
    not_update (End txn) h = (refl, refl)

    less : (x : Entry) → owes log x ≡ owes (with log e) x + cond (begun_by (txn_of e) x) (owed_by log (txn_of e)) 0
    less x = less_at (is_begin x.rec) (is_closed log x.lsn) (is_closed (with log e) x.lsn) (txn_of e == x.lsn) (owed_by log x.lsn) (owed_by (with log e) x.lsn) (owed_by log (txn_of e))
        (λ h. let same = eqb-true (txn_of e) x.lsn h in
        (ap (is_closed log) (sym same) ∙ lives, closed_by log e x.lsn (and_from (is_of x.lsn e) (is_closing e.rec) h closing), ap (owed_by log) (sym same)))
        (λ h. (
          closed_same log e x.lsn (and_left (is_of x.lsn e) (is_closing e.rec) h),
          owed_by_same log e x.lsn (and_right (is_of x.lsn e) (is_update e.rec) (not_update e.rec closing).0) (and_right (is_of x.lsn e) (is_clr e.rec) (not_update e.rec closing).1),
        ))

-- Without unfinished transactions nothing is owed.

no_losers : (log : List Entry) (ts : List ℕ) → ((t : ℕ) → is_loser log t ≡ false) → AllByRecursion (λ t. IsTrue (is_loser log t)) ts → ts ≡ []
no_losers log [] h a = refl
no_losers log (t ∷ ts) h a = absurd (let never = sym (h t) ∙ a.0 in grind arith)

pub owed_none : (log : List Entry) → ((t : ℕ) → is_loser log t ≡ false) → owed log ≡ 0
owed_none log h = ap (sum_by (owed_by log)) (no_losers log (losers log) h (are_losers log))

-- No block is empty.
