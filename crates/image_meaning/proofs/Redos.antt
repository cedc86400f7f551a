-- Versions of a page that know of the log up to an LSN.
use Rattle.image_meaning.proofs.Names.{◌≡◌, ℕ, ◌+◌, ◌*◌, ◌/◌, ◌%◌, ◌<◌, ◌≤◌, ◌==◌, ◌||◌, Bool, true, false, List, [], ◌∷◌, ◌++◌, Some, None, refl, sym, ap, subst, ◌∙◌, arith, inl, inr, max-le, le-max_left, cases_Bool, le-leb, lt-leb, and_right, nat_tests, div-mul-add, mod-mul-add, none-some, AllByRecursion, option_or, max, nat_lt, nat_le, IsTrue, if◌then◌else◌, IsCurrent, AreKnown, IsRedone, Redoes, or_is_none, all_from, none_passes, is_number-Some, Replaces, last_where-append, Entry, Version, version_at, slot_at, number_of, is_on, last_where, last_on, shown_by, LogicalImage, IsSound, IsInOrder, ShowsLast, last_known, before_block, redone, Content, content_at, all_filter, all_weaker}
use Rattle.std.proofs.Common.{◌&&◌}
use Rattle.std.specs.Prelude.{Option, length}

-- Numbers.

pub page_of_number : (page slot : ℕ) → slot < 32 → (32 * page + slot) / 32 ≡ page
page_of_number page slot less = ap (λ (n : ℕ). n / 32) (omega arith) ∙ div-mul-add page 32 slot less

slot_of_number : (page slot : ℕ) → slot < 32 → (32 * page + slot) % 32 ≡ slot
slot_of_number page slot less = ap (λ (n : ℕ). n % 32) (omega arith) ∙ mod-mul-add page 32 slot less

pub slot_of_page : (pages : List Version) (page slot : ℕ) → slot < 32 → slot_at pages (32 * page + slot) ≡ content_at (version_at pages page).slots slot
slot_of_page pages page slot less = λ i. content_at (version_at pages (page_of_number page slot less i)).slots (slot_of_number page slot less i)

-- The last of a list, by another test.

one_is : {X : Type 0} (b : Bool) (x : X) → (if b then Some x else None) ≡ None → b ≡ false
one_is true x none = absurd (none-some x (sym none))
one_is false x none = refl

last_weaker : {X : Type 0} (test other : X → Bool) → ((x : X) → test x ≡ false → other x ≡ false) → (xs : List X) → last_where test xs ≡ None → last_where other xs ≡ None
last_weaker test other weaker [] none = refl
last_weaker test other weaker (x ∷ xs) none =
    let parts = or_is_none (last_where test xs) (if test x then Some x else None) none in
    λ i. option_or (last_weaker test other weaker xs parts.0 i) (if weaker x (one_is (test x) x parts.1) i then Some x else None)

last_same : {X : Type 0} (test other : X → Bool) (xs : List X) → AllByRecursion (λ x. test x ≡ other x) xs → last_where test xs ≡ last_where other xs
last_same test other [] same = refl
last_same test other (x ∷ xs) same = λ i. option_or (last_same test other xs same.1 i) (if same.0 i then Some x else None)

-- Records on a number.

-- of known records a test of the LSN says nothing
known_by_number : (number lsn : ℕ) (e : Entry) → ((n : ℕ) → number_of e.rec ≡ Some n → n / 32 ≡ number / 32 → e.lsn ≤ lsn) → (is_on number e && nat_le e.lsn lsn) ≡ is_on number e
known_by_number number lsn e known =
    elim (cases_Bool (is_on number e)) [
      | inl here ↦
          let le = le-leb e.lsn lsn (known number (is_number-Some number (number_of e.rec) here) refl) in
          (λ i. here i && le i) ∙ sym here
      | inr elsewhere ↦ (λ i. elsewhere i && nat_le e.lsn lsn) ∙ sym elsewhere
    ]

-- so the last of them is the last that is known
last_of_known : (log : List Entry) (number lsn : ℕ) → AreKnown log (number / 32) lsn → last_known log lsn number ≡ last_on log number
last_of_known log number lsn known = grind (arith, last_same, all_weaker, known_by_number)

pub none_known : (log : List Entry) (number lsn : ℕ) → last_on log number ≡ None → last_known log lsn number ≡ None
none_known log number lsn none = last_weaker (λ e. is_on number e) (λ e. is_on number e && nat_le e.lsn lsn) (λ e off. ap (λ (b : Bool). b && nat_le e.lsn lsn) off) log none

-- what isn't known up to an LSN isn't known up to an earlier one
none_earlier : (log : List Entry) (number early lsn : ℕ) → early ≤ lsn → last_known log lsn number ≡ None → last_known log early number ≡ None
none_earlier log number early lsn before none = grind (arith, last_weaker, nat_tests)

known_on_page : (log : List Entry) (page slot lsn : ℕ) → slot < 32 → AreKnown log page lsn → AreKnown log ((32 * page + slot) / 32) lsn
known_on_page log page slot lsn less known = subst (λ (q : ℕ). AreKnown log q lsn) (sym (page_of_number page slot less)) known

-- what is shown by the last record is what that one has written
shows_last : (slot content : Content) (o : Option Entry) → content ≡ shown_by slot o → ShowsLast content o
shows_last slot content None is = tt
shows_last slot content (Some e) is = is

shown_last : (slot content : Content) (o : Option Entry) → ShowsLast content o → (o ≡ None → content ≡ slot) → content ≡ shown_by slot o
shown_last slot content None shows none = none refl
shown_last slot content (Some e) shows none = shows

-- what is shown over what was shown by an earlier record
shown_twice : (slot : Content) (o earlier : Option Entry) → (o ≡ None → earlier ≡ None) → shown_by (shown_by slot earlier) o ≡ shown_by slot o
shown_twice slot None earlier none = ap (shown_by slot) (none refl)
shown_twice slot (Some e) earlier none = refl

greater_is : (a b : ℕ) → b ≤ a → max a b ≡ a
greater_is a b less = let high = max-le {a = a} {b = b} {k = a} (omega arith) less in let low = le-max_left a b in omega (arith, high, low)

-- Versions.

-- Either may replace the page's version.
pub redone_replaces : (p : LogicalImage) (page : ℕ) (v : Version) → IsSound p → page < length p.pages → IsRedone p page v → Replaces p page v
redone_replaces p page v sound within r = record {
  fits = record {
    logged = r.logged;
    shows = λ slot less. shows_last (slot_at p.pages (32 * page + slot)) (content_at v.slots slot) (last_known p.log v.lsn (32 * page + slot)) (r.slots slot less);
    knows = all_weaker (λ e. (n : ℕ) → number_of e.rec ≡ Some n → n / 32 ≡ page → e.lsn ≤ (version_at p.pages page).lsn) (λ e. (n : ℕ) → number_of e.rec ≡ Some n → n / 32 ≡ page → e.lsn ≤ v.lsn)
        (λ e known n on here. let low = known n on here in let later = r.later in omega (arith, low, later)) (before_block p.master.redo p.log) (sound.versions_fit page within).knows;
  };
  as_before = λ lsn slot later less.
      let number = 32 * page + slot in
      let before = r.later in
      ap (λ (c : Content). shown_by c (last_known p.log lsn number)) (r.slots slot less)
      ∙ shown_twice (slot_at p.pages number) (last_known p.log lsn number) (last_known p.log v.lsn number) (none_earlier p.log number v.lsn lsn later)
      ∙ ap (λ (n : ℕ). redone p n number) (sym (greater_is lsn (version_at p.pages page).lsn (omega (arith, later, before))));
}

-- A version with the records up to an LSN redone, or with all of them, may replace the page's version.
pub current_replaces : (p : LogicalImage) (page : ℕ) (v : Version) → IsCurrent p page v → Replaces p page v
current_replaces p page v c = grind (arith, shows_last, last_of_known, known_on_page, all_filter, shown_twice, le-max_left, all_weaker)

-- The page's own version is redone up to its LSN.
pub version_is_redone : (p : LogicalImage) (page : ℕ) → IsSound p → page < length p.pages → IsRedone p page (version_at p.pages page)
version_is_redone p page sound within =
    let fits = sound.versions_fit page within in
    let v = version_at p.pages page in
    record {
      logged = fits.logged;
      later = omega arith;
      slots = λ slot less.
          shown_last (slot_at p.pages (32 * page + slot)) (content_at v.slots slot) (last_known p.log v.lsn (32 * page + slot)) (fits.shows slot less)
          (λ none. sym (slot_of_page p.pages page slot less));
    }

-- Where all records of the page are known, all are redone.
pub redone_is_current : (p : LogicalImage) (page : ℕ) (v : Version) → IsRedone p page v → AreKnown p.log page v.lsn → IsCurrent p page v
redone_is_current p page v r known = record {
  logged = r.logged;
  all = record {
    known = known;
    slots = λ slot less. r.slots slot less ∙ ap (shown_by (slot_at p.pages (32 * page + slot))) (last_of_known p.log (32 * page + slot) v.lsn (known_on_page p.log page slot v.lsn less known));
  };
}

-- The next record.

order_behind : (from : ℕ) (front : List Entry) (e : Entry) (rest : List Entry) (to : ℕ) → IsInOrder from (front ++ e ∷ rest) to → IsInOrder (e.lsn + 1) rest to
order_behind from [] e rest to order = order.1
order_behind from (d ∷ front) e rest to order = order_behind (d.lsn + 1) front e rest to order.1

order_bound : (from : ℕ) (log : List Entry) (to : ℕ) → IsInOrder from log to → from ≤ to
order_bound from [] to order = order
order_bound from (e ∷ log) to order = let low = order.0 in let high = order_bound (e.lsn + 1) log to order.1 in omega (arith, low, high)

logged_below : (lsn hi : ℕ) → lsn < 512 * hi → IsTrue ((lsn == 0) || nat_lt lsn (512 * hi))
logged_below lsn hi less = grind (arith, nat_tests)

module _ (p : LogicalImage) (page : ℕ) (v w : Version) (front rest : List Entry) (e : Entry) (number : ℕ) (sound : IsSound p) (split : p.log ≡ front ++ e ∷ rest)
    (on : number_of e.rec ≡ Some number) (here : number / 32 ≡ page) (next : v.lsn < e.lsn) (known : AreKnown front page v.lsn) (r : IsRedone p page v) (redoes : Redoes page e number v w) where
  behind : IsInOrder (e.lsn + 1) rest (512 * p.hi)
  behind = order_behind (512 * p.master.kept) front e rest (512 * p.hi) (subst (λ (log : List Entry). IsInOrder (512 * p.master.kept) log (512 * p.hi)) split sound.in_order)

  -- up to an LSN not above the record's, none of the records behind it is known
  none_behind : (n lsn : ℕ) → lsn ≤ e.lsn → last_known rest lsn n ≡ None
  none_behind n lsn le = grind (arith, none_passes, all_weaker, and_right, lt-leb, all_from, behind)

  parts : (n lsn : ℕ) → lsn ≤ e.lsn → last_known p.log lsn n ≡ option_or (if is_on n e && nat_le e.lsn lsn then Some e else None) (last_known front lsn n)
  parts n lsn le = grind (arith, last_where-append, none_behind)

  -- before it
  before : (n : ℕ) → last_known p.log v.lsn n ≡ last_known front v.lsn n
  before n = grind (arith, parts, and_right, lt-leb)

  -- of those in front of it the same ones are known
  front_same : (slot : ℕ) → slot < 32 → last_known front e.lsn (32 * page + slot) ≡ last_known front v.lsn (32 * page + slot)
  front_same slot less = grind (arith, last_of_known, known_on_page, all_weaker)

  after : (slot : ℕ) → slot < 32 → last_known p.log e.lsn (32 * page + slot) ≡ option_or (if 32 * page + slot == number then Some e else None) (last_known p.log v.lsn (32 * page + slot))
  after slot less = grind (arith, parts, front_same, before, le-leb, nat_tests)

  slots : (slot : ℕ) → slot < 32 → content_at w.slots slot ≡ redone p e.lsn (32 * page + slot)
  slots slot less = grind (arith, after)

  pub next_redone : IsRedone p page w
  next_redone = grind (arith, order_bound, behind, logged_below, slots)

-- The next record on the page is redone.
pub next_is_redone : (p : LogicalImage) (page : ℕ) (v w : Version) (front rest : List Entry) (e : Entry) (number : ℕ) → IsSound p → p.log ≡ front ++ e ∷ rest → number_of e.rec ≡ Some number → number / 32 ≡ page → v.lsn < e.lsn → AreKnown front page v.lsn → IsRedone p page v → Redoes page e number v w → IsRedone p page w
next_is_redone p page v w front rest e number sound split on here next known r redoes = next_redone p page v w front rest e number sound split on here next known r redoes
