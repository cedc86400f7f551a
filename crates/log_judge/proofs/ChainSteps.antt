-- All unfinished transactions after one record more.
use Rattle.log_judge.proofs.Names.{◌≡◌, ℕ, Bool, true, false, true≢false, ◌&&◌, ◌||◌, cond, nat_eq, List, [], ◌∷◌, ◌++◌, length, drop, Option, Some, None, refl, sym, ap, subst, ◌∙◌, arith, eqb-true, eq-eqb, and_right, list_any-append, none-some, list_any, reverse, IndexSet, contains, index_set_len, AreChains, Kept, Knows, IsKept, begin_at, kept_of, Links, IsLinked, LosersAreLinked, is_unfinished, fresh_open, fresh_entries, InTurn-right, closed_push, closed_same, IsFresh, Entry, txn_of, is_of, is_closing, is_closed, entries_of, InTurn, is_known, is_begin, LogRecord, Begin, Update, Clr, Commit, End, or_without_last}
use Rattle.std.proofs.Common.{not}
use Rattle.std.specs.Prelude.{◌==◌}
use Rattle.log_laws.proofs.Losers.{entries_other, entries_own}
use Rattle.log_judge.specs.declared.chains.Chains.{Chains}

abbrev with : List Entry → Entry → List Entry
with records e = records ++ e ∷ []

-- Which transactions are unfinished.

abbrev begins_at : ℕ → Entry → Bool
begins_at t x = is_begin x.rec && (x.lsn == t)

known_push : (records : List Entry) (e : Entry) (t : ℕ) → is_known [] (with records e) t ≡ (is_known [] records t || (begins_at t e || false))
known_push records e t = list_any-append (begins_at t) records (e ∷ [])

begins_of : (t lsn : ℕ) (rec : LogRecord) → is_of t (record { lsn = lsn; rec = rec }) ≡ false → begins_at t (record { lsn = lsn; rec = rec }) ≡ false
begins_of t lsn Begin other = other
begins_of t lsn (Update txn prev page slot before after) other = refl
begins_of t lsn (Clr txn prev undo_next page slot after) other = refl
begins_of t lsn (Commit txn number) other = refl
begins_of t lsn (End txn) other = refl

unfinished_other : (records : List Entry) (e : Entry) (t : ℕ) → is_of t e ≡ false → is_unfinished (with records e) t ≡ is_unfinished records t
unfinished_other records e t other =
    let known = known_push records e t ∙ or_without_last (is_known [] records t) (begins_at t e) (begins_of t e.lsn e.rec other) in
    let closed = closed_same records e t (ap (λ (b : Bool). b && is_closing e.rec) other) in
    (λ i. known i && not (closed i))

unfinished_own : (records : List Entry) (e : Entry) → is_begin e.rec ≡ false → is_closing e.rec ≡ false → is_unfinished (with records e) (txn_of e) ≡ is_unfinished records (txn_of e)
unfinished_own records e old goes_on =
    let t : ℕ = txn_of e in
    let known = known_push records e t ∙ or_without_last (is_known [] records t) (begins_at t e) (ap (λ (b : Bool). b && (e.lsn == t)) old) in
    let closed = closed_same records e t (ap (λ (b : Bool). is_of t e && b) goes_on ∙ and_right (is_of t e) false refl) in
    (λ i. known i && not (closed i))

own_is : (e : Entry) → is_of (txn_of e) e ≡ true
own_is e = eq-eqb (txn_of e) (txn_of e) refl

unfinished_closed : (records : List Entry) (e : Entry) → is_closing e.rec ≡ true → is_unfinished (with records e) (txn_of e) ≡ false
unfinished_closed records e closing =
    let t : ℕ = txn_of e in
    ap (λ (b : Bool). is_known [] (with records e) t && not b) (closed_push records e t ∙ (λ i. is_closed records t || ((own_is e i && closing i) || false)) ∙ any (is_closed records t))
    ∙ and_right (is_known [] (with records e) t) false refl
  where
    any : (b : Bool) → (b || true) ≡ true
    any true = refl
    any false = refl

unfinished_begun : (records : List Entry) (lsn : ℕ) → IsFresh lsn records → is_unfinished (with records (begin_at lsn)) lsn ≡ true
unfinished_begun records lsn fresh =
    let known = known_push records (begin_at lsn) lsn ∙ ap (λ (b : Bool). is_known [] records lsn || (b || false)) (eq-eqb lsn lsn refl) ∙ any (is_known [] records lsn) in
    let closed = closed_same records (begin_at lsn) lsn (and_right (is_of lsn (begin_at lsn)) false refl) ∙ fresh_open lsn records fresh in
    (λ i. known i && not (closed i))
  where
    any : (b : Bool) → (b || true) ≡ true
    any true = refl
    any false = refl

fresh_unknown : (lsn : ℕ) (records : List Entry) → IsFresh lsn records → list_any (begins_at lsn) records ≡ false
fresh_unknown lsn [] fresh = refl
fresh_unknown lsn (x ∷ records) fresh = (λ i. begins_of lsn x.lsn x.rec fresh.0 i || fresh_unknown lsn records fresh.1 i)

unfinished_fresh : (records : List Entry) (lsn : ℕ) → IsFresh lsn records → is_unfinished records lsn ≡ false
unfinished_fresh records lsn fresh = ap (λ (b : Bool). b && not (is_closed records lsn)) (fresh_unknown lsn records fresh)

-- What is known of each.

pub chains_step : (records : List Entry) (e : Entry) (old new : Chains) →
    ((t : ℕ) → is_of t e ≡ false → (kept_of new t ≡ kept_of old t) × (contains nat_eq new.broken t ≡ contains nat_eq old.broken t)) →
    (is_unfinished (with records e) (txn_of e) ≡ true → Knows (txn_of e) (kept_of new (txn_of e)) (contains nat_eq new.broken (txn_of e)) (entries_of (txn_of e) (with records e))) →
    (is_unfinished (with records e) (txn_of e) ≡ false → (kept_of new (txn_of e) ≡ None) × (contains nat_eq new.broken (txn_of e) ≡ false)) →
    AreChains records old → AreChains (with records e) new
chains_step records e old new same own none is = record {
  known = λ t lives. known t (is_of t e) refl lives;
  others = λ t gone. others t (is_of t e) refl gone;
}
  where
    known : (t : ℕ) (b : Bool) → is_of t e ≡ b → is_unfinished (with records e) t ≡ true → Knows t (kept_of new t) (contains nat_eq new.broken t) (entries_of t (with records e))
    known t true here lives =
        let at : txn_of e ≡ t = eqb-true (txn_of e) t here in
        subst (λ (s : ℕ). Knows s (kept_of new s) (contains nat_eq new.broken s) (entries_of s (with records e))) at
        (own (ap (is_unfinished (with records e)) at ∙ lives))
    known t false other lives =
        let before = is.known t (sym (unfinished_other records e t other) ∙ lives) in
        let keeps = same t other in
        let one : Knows t (kept_of new t) (contains nat_eq old.broken t) (entries_of t records) = subst (λ (o : Option Kept). Knows t o (contains nat_eq old.broken t) (entries_of t records)) (sym keeps.0) before in
        let two : Knows t (kept_of new t) (contains nat_eq new.broken t) (entries_of t records) = subst (λ (b : Bool). Knows t (kept_of new t) b (entries_of t records)) (sym keeps.1) one in
        subst (Knows t (kept_of new t) (contains nat_eq new.broken t)) (sym (entries_other records e t other)) two

    others : (t : ℕ) (b : Bool) → is_of t e ≡ b → is_unfinished (with records e) t ≡ false → (kept_of new t ≡ None) × (contains nat_eq new.broken t ≡ false)
    others t true here gone =
        let at : txn_of e ≡ t = eqb-true (txn_of e) t here in
        subst (λ (s : ℕ). (kept_of new s ≡ None) × (contains nat_eq new.broken s ≡ false)) at (none (ap (is_unfinished (with records e)) at ∙ gone))
    others t false other gone =
        let before = is.others t (sym (unfinished_other records e t other) ∙ gone) in
        let keeps = same t other in
        (keeps.0 ∙ before.0, keeps.1 ∙ before.1)

-- A transaction begins.
pub chains_begin : (records : List Entry) (lsn : ℕ) (c : Kept) (old new : Chains) → IsFresh lsn records → c.last ≡ lsn → c.updates ≡ [] →
    ((t : ℕ) → kept_of new t ≡ cond (lsn == t) (Some c) (kept_of old t)) → new.broken ≡ old.broken → AreChains records old → AreChains (with records (begin_at lsn)) new
chains_begin records lsn c old new fresh last none puts same is =
    let e : Entry = begin_at lsn in
    let before = is.others lsn (unfinished_fresh records lsn fresh) in
    let there : kept_of new lsn ≡ Some c = puts lsn ∙ ap (λ (b : Bool). cond b (Some c) (kept_of old lsn)) (eq-eqb lsn lsn refl) in
    let whole : contains nat_eq new.broken lsn ≡ false = ap (λ s. contains nat_eq s lsn) same ∙ before.1 in
    let entries : entries_of lsn (with records e) ≡ begin_at lsn ∷ [] = entries_own records e lsn (own_is e) ∙ ap (λ (l : List Entry). l ++ e ∷ []) (fresh_entries lsn records fresh) in
    chains_step records e old new (λ t other. (puts t ∙ ap (λ (b : Bool). cond b (Some c) (kept_of old t)) other, ap (λ s. contains nat_eq s t) same))
    (λ lives. knows there whole entries)
    (λ gone. absurd (true≢false (sym (unfinished_begun records lsn fresh) ∙ gone))) is
  where
    first : IsKept lsn c []
    first = record { links = tt; last = last; left = ap (λ (l : List _). reverse l) none }

    knows : {o : Option Kept} {b : Bool} {entries : List Entry} → o ≡ Some c → b ≡ false → entries ≡ begin_at lsn ∷ [] → Knows lsn o b entries
    knows {o = o} {b = b} {entries = entries} at whole are =
        subst (λ (x : Option Kept). Knows lsn x b entries) (sym at)
        (subst (λ (l : List Entry). (b ≡ false) × (l ≡ begin_at lsn ∷ drop 1 l) × IsKept lsn c (drop 1 l)) (sym are) (whole, refl, first))

-- A transaction is closed.
pub chains_closed : (records : List Entry) (e : Entry) (old new : Chains) → is_closing e.rec ≡ true →
    ((t : ℕ) → kept_of new t ≡ cond (txn_of e == t) None (kept_of old t)) → ((t : ℕ) → contains nat_eq new.broken t ≡ cond (txn_of e == t) false (contains nat_eq old.broken t)) →
    AreChains records old → AreChains (with records e) new
chains_closed records e old new closing takes heals is =
    chains_step records e old new
    (λ t other. (takes t ∙ ap (λ (b : Bool). cond b None (kept_of old t)) other, heals t ∙ ap (λ (b : Bool). cond b false (contains nat_eq old.broken t)) other))
    (λ lives. absurd (true≢false (sym lives ∙ unfinished_closed records e closing)))
    (λ gone. (
      takes (txn_of e) ∙ ap (λ (b : Bool). cond b None (kept_of old (txn_of e))) (own_is e),
      heals (txn_of e) ∙ ap (λ (b : Bool). cond b false (contains nat_eq old.broken (txn_of e))) (own_is e),
    )) is

-- Linked records stay linked without the last one, and the last one is.

in_turn_left : (earlier xs : List Entry) (e : Entry) → InTurn Links earlier (xs ++ e ∷ []) → InTurn Links earlier xs
in_turn_left earlier [] e all = tt
in_turn_left earlier (x ∷ xs) e all = (all.0, in_turn_left (earlier ++ x ∷ []) xs e all.1)

linked_less : (t : ℕ) (entries : List Entry) (e : Entry) → is_begin e.rec ≡ false → IsLinked t (entries ++ e ∷ []) → IsLinked t entries
linked_less t [] e old linked = absurd (true≢false (ap (λ (l : List Entry). first l) (sym linked.begins) ∙ old))
  where
    first : List Entry → Bool
    first [] = false
    first (x ∷ xs) = is_begin x.rec
linked_less t (x ∷ xs) e old linked = record {
  begins = ap (λ (l : List Entry). front l ++ xs) linked.begins;
  links = in_turn_left (begin_at t ∷ []) xs e linked.links;
}
  where
    front : List Entry → List Entry
    front [] = []
    front (y ∷ ys) = y ∷ []

linked_last : (t : ℕ) (rest : List Entry) (e : Entry) → IsLinked t (begin_at t ∷ (rest ++ e ∷ [])) → Links (begin_at t ∷ rest) e
linked_last t rest e linked = (InTurn-right Links (begin_at t ∷ []) rest (e ∷ []) linked.links).0

-- A record of a transaction that goes on.
module _ (records : List Entry) (e : Entry) (old new : Chains) (no_begin : is_begin e.rec ≡ false) (goes_on : is_closing e.rec ≡ false) (is : AreChains records old) where
  abbrev t : ℕ
  t = txn_of e

  lives_still : is_unfinished (with records e) t ≡ is_unfinished records t
  lives_still = unfinished_own records e no_begin goes_on

  entries_now : entries_of t (with records e) ≡ entries_of t records ++ e ∷ []
  entries_now = entries_own records e t (own_is e)

  -- nothing is kept of it
  pub chains_unknown : kept_of old t ≡ None → ((s : ℕ) → kept_of new s ≡ cond (t == s) None (kept_of old s)) → new.broken ≡ old.broken → AreChains (with records e) new
  chains_unknown absent takes same =
      let gone : kept_of new t ≡ None = takes t ∙ ap (λ (b : Bool). cond b None (kept_of old t)) (own_is e) in
      let whole : contains nat_eq new.broken t ≡ contains nat_eq old.broken t = ap (λ s. contains nat_eq s t) same in
      chains_step records e old new (λ s other. (takes s ∙ ap (λ (b : Bool). cond b None (kept_of old s)) other, ap (λ x. contains nat_eq x s) same))
      (λ lives.
      let before : Knows t None (contains nat_eq old.broken t) (entries_of t records) = subst (λ (o : Option Kept). Knows t o (contains nat_eq old.broken t) (entries_of t records)) absent (is.known t (sym lives_still ∙ lives)) in
      subst (λ (o : Option Kept). Knows t o (contains nat_eq new.broken t) (entries_of t (with records e))) (sym gone)
      (whole ∙ before.0, λ linked. before.1 (linked_less t (entries_of t records) e no_begin (subst (IsLinked t) entries_now linked))))
      (λ dead. let before = is.others t (sym lives_still ∙ dead) in (gone, whole ∙ before.1)) is

  module _ (c : Kept) (there : kept_of old t ≡ Some c) where
    lives_now : (b : Bool) → is_unfinished records t ≡ b → is_unfinished records t ≡ true
    lives_now true lives = lives
    lives_now false dead = absurd (none-some c (sym (is.others t dead).0 ∙ there))

    pub kept_there : (contains nat_eq old.broken t ≡ false) × (entries_of t records ≡ begin_at t ∷ drop 1 (entries_of t records)) × IsKept t c (drop 1 (entries_of t records))
    kept_there = subst (λ (o : Option Kept). Knows t o (contains nat_eq old.broken t) (entries_of t records)) there (is.known t (lives_now (is_unfinished records t) refl))

    longer : entries_of t (with records e) ≡ begin_at t ∷ (drop 1 (entries_of t records) ++ e ∷ [])
    longer = entries_now ∙ ap (λ (l : List Entry). l ++ e ∷ []) kept_there.1

    -- it isn't linked
    pub chains_break : (Links (begin_at t ∷ drop 1 (entries_of t records)) e → ⊥) → ((s : ℕ) → kept_of new s ≡ cond (t == s) None (kept_of old s)) →
        ((s : ℕ) → contains nat_eq new.broken s ≡ cond (t == s) true (contains nat_eq old.broken s)) → AreChains (with records e) new
    chains_break off takes breaks =
        let gone : kept_of new t ≡ None = takes t ∙ ap (λ (b : Bool). cond b None (kept_of old t)) (own_is e) in
        let marked : contains nat_eq new.broken t ≡ true = breaks t ∙ ap (λ (b : Bool). cond b true (contains nat_eq old.broken t)) (own_is e) in
        chains_step records e old new
        (λ s other. (takes s ∙ ap (λ (b : Bool). cond b None (kept_of old s)) other, breaks s ∙ ap (λ (b : Bool). cond b true (contains nat_eq old.broken s)) other))
        (λ lives. subst (λ (o : Option Kept). Knows t o (contains nat_eq new.broken t) (entries_of t (with records e))) (sym gone)
        (marked, λ linked. off (linked_last t (drop 1 (entries_of t records)) e (subst (IsLinked t) longer linked))))
        (λ dead. absurd (true≢false (sym (lives_now (is_unfinished records t) refl) ∙ sym lives_still ∙ dead))) is

    -- it is
    pub chains_go_on : (d : Kept) → IsKept t d (drop 1 (entries_of t records) ++ e ∷ []) → ((s : ℕ) → kept_of new s ≡ cond (t == s) (Some d) (kept_of old s)) → new.broken ≡ old.broken → AreChains (with records e) new
    chains_go_on d kept puts same =
        let at : kept_of new t ≡ Some d = puts t ∙ ap (λ (b : Bool). cond b (Some d) (kept_of old t)) (own_is e) in
        let whole : contains nat_eq new.broken t ≡ false = ap (λ s. contains nat_eq s t) same ∙ kept_there.0 in
        chains_step records e old new (λ s other. (puts s ∙ ap (λ (b : Bool). cond b (Some d) (kept_of old s)) other, ap (λ x. contains nat_eq x s) same))
        (λ lives. subst (λ (o : Option Kept). Knows t o (contains nat_eq new.broken t) (entries_of t (with records e))) (sym at)
        (whole, longer ∙ ap (λ (l : List Entry). begin_at t ∷ drop 1 l) (sym longer), subst (λ (l : List Entry). IsKept t d (drop 1 l)) (sym longer) kept))
        (λ dead. absurd (true≢false (sym (lives_now (is_unfinished records t) refl) ∙ sym lives_still ∙ dead))) is

-- At the end.

pub none_broken : (records : List Entry) (chains : Chains) → ((t : ℕ) → contains nat_eq chains.broken t ≡ false) → AreChains records chains → LosersAreLinked records
none_broken records chains none is t lives = by (kept_of chains t) (is.known t lives)
  where
    by : (o : Option Kept) → Knows t o (contains nat_eq chains.broken t) (entries_of t records) → IsLinked t (entries_of t records)
    by (Some c) knows = record { begins = knows.1; links = knows.2.links }
    by None knows = absurd (true≢false (sym knows.0 ∙ none t))

pub one_broken : (records : List Entry) (chains : Chains) (t : ℕ) → contains nat_eq chains.broken t ≡ true → AreChains records chains → LosersAreLinked records → ⊥
one_broken records chains t marked is linked = at (is_unfinished records t) refl
  where
    by : (o : Option Kept) → Knows t o (contains nat_eq chains.broken t) (entries_of t records) → IsLinked t (entries_of t records) → ⊥
    by (Some c) knows one = true≢false (sym marked ∙ knows.0)
    by None knows one = knows.1 one

    at : (b : Bool) → is_unfinished records t ≡ b → ⊥
    at true lives = by (kept_of chains t) (is.known t lives) (linked t lives)
    at false dead = true≢false (sym marked ∙ (is.others t dead).1)

-- no transaction is in a set without keys, and one in another
pub in_none : {S : Type 0} (set : IndexSet ℕ S) → index_set_len set ≡ 0 → (t : ℕ) → contains nat_eq set t ≡ false
in_none set none t = by (set.keys) none
  where
    by : (keys : List ℕ) → length keys ≡ 0 → list_any (nat_eq t) keys ≡ false
    by [] none = refl
    by (k ∷ keys) none = absurd (omega (arith, none))

pub one_in : {S : Type 0} (set : IndexSet ℕ S) → (index_set_len set ≡ 0 → ⊥) → (t : ℕ) × (contains nat_eq set t ≡ true)
one_in set some = by (set.keys) some
  where
    by : (keys : List ℕ) → (length keys ≡ 0 → ⊥) → (t : ℕ) × (list_any (nat_eq t) keys ≡ true)
    by [] some = absurd (some refl)
    by (k ∷ keys) some = (k, ap (λ (b : Bool). b || list_any (nat_eq k) keys) (eq-eqb k k refl))
