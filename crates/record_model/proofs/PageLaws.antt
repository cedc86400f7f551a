-- What the records of a page may come to need, step by step.
use Rattle.std.proofs.lemmas.Grind.{common_steps}
use Rattle.record_model.proofs.Citing.{◌≡◌, ℕ, zero, suc, ◌+◌, ◌*◌, ◌<◌, ◌≤◌, Bool, true, false, List, [], ◌∷◌, ◌++◌, length, Option, Some, None, inl, inr, refl, ap, sym, ◌∙◌, subst, arith, cases_Bool, eqb-true, eqb-false, nat_tests, take-append-drop, range_with_len, ◌==◌, ◌&&◌, ◌⊎◌, nat_lt, max, sum_by, filter_map, flat_map, slice_index_or, slice_set, take, drop, map, filter, option_map, unwrap_or, if◌then◌else◌, PagesFit, PagesStayFit, TableFits, SeenFits, Content, Session, State, content_at, table_with, last_write, session_at, writes_of, seen, page_room, page_of, records_of, length_of, greatest, longest_write, standing_writes, footprint, footprint_with, need, outcome, carried_through, full, refusal, refuse_if, ready, lacks_room, fills_page, effect, having_read, having_written, having_marked, going_back, left_standing, CacheLine, Command, Begin, Read, Write, Erase, Scan, Commit, Abort, Set, Mark, Back, Reply}
use Rattle.std.proofs.lemmas.List.Sums.{sum_by-cons}
use Rattle.std.specs.Option.{option_or}
use Rattle.std.proofs.Math.Nat.{le-max_left, le-max_right, zero-max, le_trans}
use Rattle.record_model.proofs.SerialLists.{same_is}
use Rattle.record_model.specs.declared.words.Reply.TheVariants as reply
use Rattle.record_model.specs.State as state

-- Writes. None on a record is longer than the longest.

max_least : (a b m : ℕ) → a ≤ m → b ≤ m → max a b ≤ m
max_least a b m h k = grind (arith, common_steps)

own_length : ℕ → state.Write → ℕ
own_length r write = if write.0 == r then length_of write.1 else 0

longest_cons : (write : state.Write) (writes : List state.Write) (r : ℕ) → longest_write (write ∷ writes) r ≡ max (own_length r write) (longest_write writes r)
unfolding own_length
longest_cons write writes r = by (write.0 == r)
  where
    by : (b : Bool) →
        greatest (map (λ (w : state.Write). length_of w.1) (if b then write ∷ filter (λ w. w.0 == r) writes else filter (λ w. w.0 == r) writes))
        ≡ max (if b then length_of write.1 else 0) (longest_write writes r)
    by true = refl
    by false = sym (zero-max (longest_write writes r))

longest_append : (xs ys : List state.Write) (r m : ℕ) → longest_write xs r ≤ m → longest_write ys r ≤ m → longest_write (xs ++ ys) r ≤ m
longest_append [] ys r m h k = k
longest_append (x ∷ xs) ys r m h k =
    let front = longest_cons x xs r in
    let whole = longest_cons x (xs ++ ys) r in
    let own = le-max_left (own_length r x) (longest_write xs r) in
    let rest = le-max_right (own_length r x) (longest_write xs r) in
    subst (λ (n : ℕ). n ≤ m) (sym whole) (max_least _ _ m (omega (arith, own, front, h)) (longest_append xs ys r m (omega (arith, rest, front, h)) k))

longest_left : (xs ys : List state.Write) (r : ℕ) → longest_write xs r ≤ longest_write (xs ++ ys) r
longest_left [] ys r = omega arith
longest_left (x ∷ xs) ys r =
    let whole = longest_cons x (xs ++ ys) r in
    let own = le-max_left (own_length r x) (longest_write (xs ++ ys) r) in
    let rest = le-max_right (own_length r x) (longest_write (xs ++ ys) r) in
    let more = longest_left xs ys r in
    subst (λ (n : ℕ). n ≤ longest_write (x ∷ (xs ++ ys)) r) (sym (longest_cons x xs r)) (max_least _ _ _ (omega (arith, own, whole)) (omega (arith, rest, whole, more)))

longest_right : (xs ys : List state.Write) (r : ℕ) → longest_write ys r ≤ longest_write (xs ++ ys) r
longest_right [] ys r = omega arith
longest_right (x ∷ xs) ys r =
    let whole = longest_cons x (xs ++ ys) r in
    let rest = le-max_right (own_length r x) (longest_write (xs ++ ys) r) in
    let more = longest_right xs ys r in
    omega (arith, whole, rest, more)

longest_front : (k : ℕ) (xs : List state.Write) (r : ℕ) → longest_write (take k xs) r ≤ longest_write xs r
longest_front k xs r = subst (λ (whole : List state.Write). longest_write (take k xs) r ≤ longest_write whole r) (take-append-drop k xs) (longest_left (take k xs) (drop k xs) r)

-- what one of them wrote there is no longer
own_is : (write : state.Write) (r : ℕ) → write.0 ≡ r → own_length r write ≡ length_of write.1
unfolding own_length
own_is write r e = ap (λ (b : Bool). if b then length_of write.1 else 0) (subst (λ (q : ℕ). (write.0 == q) ≡ true) e (same_is write.0))

nothing_long : (number r m : ℕ) → own_length r (number, None) ≤ m
unfolding own_length
nothing_long number r m = by (number == r)
  where
    by : (b : Bool) → (if b then 0 else 0) ≤ m
    by true = omega arith
    by false = omega arith

-- What the last of them leaves, and all of them together.

or_unwrap : (later own : Option Content) (content : Content) → unwrap_or (option_or later own) content ≡ unwrap_or later (unwrap_or own content)
or_unwrap None own content = refl
or_unwrap (Some written) own content = refl

last_within : (writes : List state.Write) (r m : ℕ) (content : Content) → length_of content ≤ m → longest_write writes r ≤ m → length_of (unwrap_or (last_write writes r) content) ≤ m
unfolding own_length
last_within [] r m content h k = h
last_within (write ∷ writes) r m content h k =
    let whole = longest_cons write writes r in
    let own = le-max_left (own_length r write) (longest_write writes r) in
    let rest = le-max_right (own_length r write) (longest_write writes r) in
    let first : (if write.0 == r then length_of write.1 else 0) ≤ m = omega (arith, whole, own, k) in
    subst (λ (c : Content). length_of c ≤ m) (sym (or_unwrap (last_write writes r) _ content))
    (last_within writes r m _ (by (write.0 == r) first) (omega (arith, whole, rest, k)))
  where
    by : (b : Bool) → (if b then length_of write.1 else 0) ≤ m → length_of (unwrap_or (if b then Some write.1 else None) content) ≤ m
    by true e = e
    by false e = h

pub set_or : {A : Type 0} (xs : List A) (n : ℕ) (v d : A) (k : ℕ) → ((slice_index_or (slice_set xs n v) k d ≡ v) × (n ≡ k)) ⊎ (slice_index_or (slice_set xs n v) k d ≡ slice_index_or xs k d)
set_or [] n v d k = inr refl
set_or (x ∷ xs) zero v d zero = inl (refl, refl)
set_or (x ∷ xs) zero v d (suc k) = inr refl
set_or (x ∷ xs) (suc n) v d zero = inr refl
set_or (x ∷ xs) (suc n) v d (suc k) = elim (set_or xs n v d k) [ inl h ↦ inl (h.0, ap suc h.1) | inr h ↦ inr h ]

table_within : (table : List Content) (writes : List state.Write) (r m : ℕ) → length_of (content_at table r) ≤ m → longest_write writes r ≤ m → length_of (content_at (table_with table writes) r) ≤ m
table_within table [] r m h k = h
table_within table (write ∷ writes) r m h k =
    let whole = longest_cons write writes r in
    let own = le-max_left (own_length r write) (longest_write writes r) in
    let rest = le-max_right (own_length r write) (longest_write writes r) in
    table_within (slice_set table write.0 write.1) writes r m
    (elim (set_or table write.0 write.1 None r) [
      | inl put ↦ let is = own_is write r put.1 in subst (λ (c : Content). length_of c ≤ m) (sym put.0) (omega (arith, is, own, whole, k))
      | inr old ↦ subst (λ (c : Content). length_of c ≤ m) (sym old) h
    ])
    (omega (arith, whole, rest, k))

-- Sessions.

abbrev standing_of : List (Option Session) → List state.Write
standing_of sessions = flat_map (λ (session : Session). session.writes) (filter_map (λ (o : Option Session). o) sessions)

standing_cons : (o : Option Session) (sessions : List (Option Session)) → standing_of (o ∷ sessions) ≡ writes_of o ++ standing_of sessions
standing_cons None sessions = refl
standing_cons (Some session) sessions = refl

own_within : (sessions : List (Option Session)) (n r : ℕ) → longest_write (writes_of (slice_index_or sessions n None)) r ≤ longest_write (standing_of sessions) r
own_within [] n r = omega arith
own_within (o ∷ sessions) zero r = subst (λ (l : List state.Write). longest_write (writes_of o) r ≤ longest_write l r) (sym (standing_cons o sessions)) (longest_left (writes_of o) (standing_of sessions) r)
own_within (o ∷ sessions) (suc n) r =
    let rest = own_within sessions n r in
    let more = longest_right (writes_of o) (standing_of sessions) r in
    let whole = ap (λ (l : List state.Write). longest_write l r) (standing_cons o sessions) in
    omega (arith, rest, more, whole)

set_within : (sessions : List (Option Session)) (n : ℕ) (v : Option Session) (r m : ℕ) → longest_write (writes_of v) r ≤ m → longest_write (standing_of sessions) r ≤ m → longest_write (standing_of (slice_set sessions n v)) r ≤ m
set_within [] n v r m h k = k
set_within (o ∷ sessions) zero v r m h k =
    let whole = ap (λ (l : List state.Write). longest_write l r) (standing_cons o sessions) in
    let rest = longest_right (writes_of o) (standing_of sessions) r in
    subst (λ (l : List state.Write). longest_write l r ≤ m) (sym (standing_cons v sessions)) (longest_append (writes_of v) (standing_of sessions) r m h (omega (arith, whole, rest, k)))
set_within (o ∷ sessions) (suc n) v r m h k =
    let whole = ap (λ (l : List state.Write). longest_write l r) (standing_cons o sessions) in
    let own = longest_left (writes_of o) (standing_of sessions) r in
    let rest = longest_right (writes_of o) (standing_of sessions) r in
    subst (λ (l : List state.Write). longest_write l r ≤ m) (sym (standing_cons o (slice_set sessions n v)))
    (longest_append (writes_of o) (standing_of (slice_set sessions n v)) r m (omega (arith, whole, own, k)) (set_within sessions n v r m h (omega (arith, whole, rest, k))))

-- Footprints. They are what the table and the sessions make them.

within : (s : State) (r m : ℕ) → length_of (content_at s.table r) ≤ m → longest_write (standing_of s.sessions) r ≤ m → footprint s r ≤ m
within s r m h k = max_least _ _ m h k

table_part : (s : State) (r : ℕ) → length_of (content_at s.table r) ≤ footprint s r
table_part s r = le-max_left _ _

writes_part : (s : State) (r : ℕ) → longest_write (standing_of s.sessions) r ≤ footprint s r
writes_part s r = le-max_right _ _

-- A command adds to that of one record at most.
adds : Command → ℕ → ℕ
adds (Write n number value) r = own_length r (number, Some value)
adds (Set number value) r = own_length r (number, Some value)
adds _ r = 0

of_renewed : (o : Option Session) (f : Session → Session) (r m : ℕ) → ((session : Session) → longest_write session.writes r ≤ m → longest_write (f session).writes r ≤ m) →
    longest_write (writes_of o) r ≤ m → longest_write (writes_of (option_map f o)) r ≤ m
of_renewed None f r m keeps h = h
of_renewed (Some session) f r m keeps h = keeps session h

module _ (s : State) (r m : ℕ) (old : footprint s r ≤ m) where
  old_table : length_of (content_at s.table r) ≤ m
  old_table = le_trans (table_part s r) old

  old_writes : longest_write (standing_of s.sessions) r ≤ m
  old_writes = le_trans (writes_part s r) old

  old_own : (n : ℕ) → longest_write (writes_of (session_at s n)) r ≤ m
  old_own n = le_trans (own_within s.sessions n r) old_writes

  renewed : (n : ℕ) (f : Session → Session) → ((session : Session) → longest_write session.writes r ≤ m → longest_write (f session).writes r ≤ m) →
      longest_write (standing_of (slice_set s.sessions n (option_map f (session_at s n)))) r ≤ m
  renewed n f keeps = set_within s.sessions n _ r m (of_renewed (session_at s n) f r m keeps (old_own n)) old_writes

  one_more : (write : state.Write) → own_length r write ≤ m → (session : Session) → longest_write session.writes r ≤ m → longest_write (having_written write session).writes r ≤ m
  one_more write own session h = longest_append session.writes (write ∷ []) r m h (subst (λ (n : ℕ). n ≤ m) (sym (longest_cons write [] r)) (max_least _ _ m own (omega arith)))

  effect_within : (command : Command) → adds command r ≤ m → footprint (effect (ready s command) command) r ≤ m
  unfolding adds
  effect_within (Begin n) new = within (effect (ready s (Begin n)) (Begin n)) r m old_table (set_within s.sessions n _ r m (omega arith) old_writes)
  effect_within (Read n number) new = within (effect (ready s (Read n number)) (Read n number)) r m old_table (renewed n (having_read (number ∷ [])) (λ session h. h))
  effect_within (Write n number value) new = within (effect (ready s (Write n number value)) (Write n number value)) r m old_table (renewed n (having_written (number, Some value)) (one_more (number, Some value) new))
  effect_within (Erase n number) new = within (effect (ready s (Erase n number)) (Erase n number)) r m old_table (renewed n (having_written (number, None)) (one_more (number, None) (nothing_long number r m)))
  effect_within (Scan n number count) new = within (effect (ready s (Scan n number count)) (Scan n number count)) r m old_table (renewed n (having_read (range_with_len number count)) (λ session h. h))
  effect_within (Commit n) new = within (effect (ready s (Commit n)) (Commit n)) r m (table_within s.table (writes_of (session_at s n)) r m old_table (old_own n)) (set_within s.sessions n None r m (omega arith) old_writes)
  effect_within (Abort n) new = within (effect (ready s (Abort n)) (Abort n)) r m old_table (set_within s.sessions n None r m (omega arith) old_writes)
  effect_within (Mark n) new = within (effect (ready s (Mark n)) (Mark n)) r m old_table (renewed n having_marked (λ session h. h))
  effect_within (Back n standing) new = within (effect (ready s (Back n standing)) (Back n standing)) r m old_table
      (renewed n (going_back standing) (λ session h. le_trans (longest_front (left_standing standing session) session.writes r) h))
  effect_within (Set number value) new = within (effect (ready s (Set number value)) (Set number value)) r m
      (table_within s.table ((number, Some value) ∷ []) r m old_table (subst (λ (n : ℕ). n ≤ m) (sym (longest_cons (number, Some value) [] r)) (max_least _ _ m new (omega arith)))) old_writes
  effect_within _ new = old

-- Sums.

sum_most : (f g : ℕ → ℕ) (a n : ℕ) → ((r : ℕ) → a ≤ r → r < a + n → f r ≤ g r) → sum_by f (range_with_len a n) ≤ sum_by g (range_with_len a n)
sum_most f g a zero h = omega arith
sum_most f g a (suc n) h =
    let first = h a (omega arith) (omega arith) in
    let rest = sum_most f g (a + 1) n (λ r above below. h r (omega (arith, above)) (omega (arith, below))) in
    omega (arith, sum_by-cons f a (range_with_len (a + 1) n), sum_by-cons g a (range_with_len (a + 1) n), first, rest)

-- Where a command is carried out, the page has room for what it adds.
record HasRoom (s : State) (command : Command) (page : ℕ) : Type 0 where
  most : ℕ → ℕ
  room : sum_by most (records_of page) ≤ page_room
  holds : (r : ℕ) → 32 * page ≤ r → r < 32 * page + 32 → footprint s r ≤ most r
  added : (r : ℕ) → 32 * page ≤ r → r < 32 * page + 32 → adds command r ≤ most r

as_it_was : (s : State) (command : Command) (page : ℕ) → PagesFit s → ((r : ℕ) → 32 * page ≤ r → r < 32 * page + 32 → adds command r ≡ 0) → HasRoom s command page
as_it_was s command page fits none = record {
  most = footprint s;
  room = fits page;
  holds = λ r above below. omega arith;
  added = λ r above below. let no = none r above below in omega (arith, no);
}

-- the test that is passed
passed : (fills : Bool) (needed page : ℕ) → fills ≡ true → refuse_if (fills && nat_lt page_room needed) (reply.PageFull page needed) ≡ None → needed ≤ page_room
passed true needed page e h = grind (arith, nat_tests)
passed false needed page e h = absurd cc

writes_room : (s : State) (command : Command) (number : ℕ) (value : List ℕ) (page : ℕ) → PagesFit s → need s number value ≤ page_room →
    ((r : ℕ) → adds command r ≡ own_length r (number, Some value)) → HasRoom s command page
unfolding own_length
writes_room s command number value page fits room adds_is = elim (cases_Bool (page == page_of number)) [
  | inl here ↦ record {
    most = footprint_with s number value;
    room = subst (λ (p : ℕ). sum_by (footprint_with s number value) (records_of p) ≤ page_room) (sym (eqb-true page (page_of number) here)) room;
    holds = λ r above below. old (number == r) r;
    added = λ r above below. subst (λ (n : ℕ). n ≤ footprint_with s number value r) (sym (adds_is r)) (new (number == r) r);
  }
  | inr other ↦ as_it_was s command page fits (λ r above below. adds_is r ∙ apart (number == r) r refl above below (eqb-false page (page_of number) other))
]
  where
    old : (b : Bool) (r : ℕ) → footprint s r ≤ (if b then max (footprint s r) (length value) else footprint s r)
    old true r = le-max_left (footprint s r) (length value)
    old false r = omega arith

    new : (b : Bool) (r : ℕ) → (if b then length value else 0) ≤ (if b then max (footprint s r) (length value) else footprint s r)
    new true r = le-max_right (footprint s r) (length value)
    new false r = omega arith

    apart : (b : Bool) (r : ℕ) → (number == r) ≡ b → 32 * page ≤ r → r < 32 * page + 32 → (page ≡ page_of number → ⊥) → (if b then length value else 0) ≡ 0
    apart true r e above below d = absurd (d (let same = eqb-true number r e in omega (arith, same, above, below)))
    apart false r e above below d = refl

has_room : (s : State) (command : Command) (page : ℕ) → s.pages_fill ≡ true → PagesFit s → fills_page s command ≡ None → HasRoom s command page
unfolding adds
has_room s (Write n number value) page fills fits h = writes_room s (Write n number value) number value page fits (passed s.pages_fill _ _ fills h) (λ r. refl)
has_room s (Set number value) page fills fits h = writes_room s (Set number value) number value page fits (passed s.pages_fill _ _ fills h) (λ r. refl)
has_room s command page fills fits h = as_it_was s command page fits (λ r above below. refl)

effect_fits : (s : State) (command : Command) → s.pages_fill ≡ true → PagesFit s → fills_page s command ≡ None → PagesFit (effect (ready s command) command)
effect_fits s command fills fits h page =
    let has = has_room s command page fills fits h in
    le_trans (sum_most (footprint (effect (ready s command) command)) has.most (32 * page) 32 (λ r above below. effect_within s r (has.most r) (has.holds r above below) command (has.added r above below))) has.room

carried_fits : (s : State) (command : Command) (listing : List CacheLine) (lacks : Bool) (room : Option Reply) → s.pages_fill ≡ true → PagesFit s → fills_page (ready s command) command ≡ room →
    PagesFit (if lacks then record { after = ready s command; reply = full (ready s command) } else carried_through (ready s command) command listing room).after
carried_fits s command listing true room fills fits e = fits
carried_fits s command listing false (Some refused) fills fits e = fits
carried_fits s command listing false None fills fits e = effect_fits s command fills fits (same_test s command e)
  where
    same_test : (s : State) (command : Command) → fills_page (ready s command) command ≡ None → fills_page s command ≡ None
    same_test s (Write n number value) e = e
    same_test s (Set number value) e = e
    same_test s _ e = refl

outcome_fits : (s : State) (command : Command) (listing : List CacheLine) (r : Option Reply) → s.pages_fill ≡ true → PagesFit s → PagesFit (outcome s command listing r).after
outcome_fits s command listing (Some refused) fills fits = fits
outcome_fits s command listing None fills fits = carried_fits s command listing (lacks_room (ready s command) command) (fills_page (ready s command) command) fills fits refl

pub pages_stay_fit : PagesStayFit
pages_stay_fit s None listing fills fits = fits
pages_stay_fit s (Some command) listing fills fits = outcome_fits s command listing (refusal s command) fills fits

pub table_fits : TableFits
table_fits s page fits = le_trans (sum_most _ (footprint s) (32 * page) 32 (λ r above below. table_part s r)) (fits page)

pub seen_fits : SeenFits
seen_fits s n page fits = le_trans
    (sum_most _ (footprint s) (32 * page) 32 (λ r above below. last_within (writes_of (session_at s n)) r (footprint s r) (content_at s.table r) (table_part s r) (le_trans (own_within s.sessions n r) (writes_part s r))))
    (fits page)
