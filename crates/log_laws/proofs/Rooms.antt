-- Room in pages, as records are put behind a log.
use Rattle.std.proofs.lemmas.Grind.{common_steps}
use Rattle.log_laws.proofs.Names.{◌≡◌, inl, inr, ℕ, suc, zero, ◌+◌, ◌-◌, ◌*◌, ◌/◌, ◌<◌, ◌≤◌, Bool, true, false, cond, ◌&&◌, List, [], ◌∷◌, ◌++◌, map, refl, sym, ap, subst, ◌∙◌, append_assoc, arith, cases_Bool, cases_lt, and_from, and_parts, and_right, eqb-true, eq-eqb, le-leb, lt-leb, not_from_false, or_left, or_right, list_any-append, sum_by-cons, AllByRecursion, range_with_len, list_any, Option, IsTrue, filter, flat_map, sum_by, ◌==◌, Follows, IsUndoable, in_order_left, last_where-append, Entry, Version, txn_of, is_of, is_on, is_update, is_closing, is_closed, is_loser, entries_of, before_of, after_of, shown, version_at, slot_at, shown_by, last_on, longest, open_length, put_back, HasOpenRoom, Master, LogicalImage, InTurn, IsInOrder, IsLoserChain, Continues, ShowsLast, Undoes, HasRoomInPage, last_known, is_begin, losers, left_open, open_by, LogRecord, Clr, Content, length_of, page_room, all_append, all_drop, all_filter, all_left, all_map, all_push, all_right, all_weaker}
use Rattle.std.proofs.Common.{append-nil}
use Rattle.std.proofs.Math.Nat.{max-le, le-max_left, le-max_right}
use Rattle.log_records.specs.Room.{total_on}
use Rattle.log_laws.proofs.Parts.{InTurn-right, all_below, all_made, are_losers}
use Rattle.log_laws.proofs.Appends.{begins, entries_push}
use Rattle.log_laws.proofs.Follow.{undoable_behind}
use Rattle.log_laws.proofs.Owing.{left_push}
use Rattle.log_laws.proofs.Shown.{shown_push}
use Rattle.log_laws.proofs.Values.{with, closed_same, open_before}

-- Totals.

sum_in : (f g : ℕ → ℕ) (a n : ℕ) → ((i : ℕ) → a ≤ i → i < a + n → f i ≤ g i) → sum_by f (range_with_len a n) ≤ sum_by g (range_with_len a n)
sum_in f g a zero each = grind arith
sum_in f g a (suc n) each = grind (arith, sum_by-cons, (sum_in f g (a + 1) n (λ i low high. each i (omega (arith, low)) (omega (arith, high)))))

sum_few : (f : ℕ → ℕ) (k a n : ℕ) → ((i : ℕ) → a ≤ i → i < a + n → f i ≤ k) → sum_by f (range_with_len a n) ≤ n * k
sum_few f k a zero each = grind arith
sum_few f k a (suc n) each = grind (arith, sum_by-cons, (sum_few f k (a + 1) n (λ i low high. each i (omega (arith, low)) (omega (arith, high)))))

-- a total rises with each of its parts
pub total_within : (page : ℕ) (f g : ℕ → ℕ) → ((slot : ℕ) → slot < 32 → f (32 * page + slot) ≤ g (32 * page + slot)) → total_on page f ≤ total_on page g
unfolding total_on
total_within page f g each = sum_in f g (32 * page) 32 (λ n low high. subst (λ k. f k ≤ g k) (omega (arith, low)) (each (n - 32 * page) (omega (arith, low, high))))

pub total_few : (page k : ℕ) (f : ℕ → ℕ) → ((slot : ℕ) → slot < 32 → f (32 * page + slot) ≤ k) → total_on page f ≤ 32 * k
unfolding total_on
total_few page k f each = sum_few f k (32 * page) 32 (λ n low high. subst (λ i. f i ≤ k) (omega (arith, low)) (each (n - 32 * page) (omega (arith, low, high))))

-- The greatest length.

longest_within : (k : ℕ) (contents : List Content) → AllByRecursion (λ c. length_of c ≤ k) contents → longest contents ≤ k
longest_within k [] all = omega arith
longest_within k (c ∷ contents) all = max-le all.0 (longest_within k contents all.1)

longest_holds : (k : ℕ) (contents : List Content) → longest contents ≤ k → AllByRecursion (λ c. length_of c ≤ k) contents
longest_holds k [] h = tt
longest_holds k (c ∷ contents) h = grind (arith, common_steps, le-max_left, le-max_right, (longest_holds k contents))

all_flat : {X Y : Type 0} (P : Y → Type 0) (f : X → List Y) (xs : List X) → AllByRecursion (λ x. AllByRecursion P (f x)) xs → AllByRecursion P (flat_map f xs)
all_flat P f [] all = tt
all_flat P f (x ∷ xs) all = all_append P (f x) (flat_map f xs) all.0 (all_flat P f xs all.1)

all_of_flat : {X Y : Type 0} (P : Y → Type 0) (f : X → List Y) (xs : List X) → AllByRecursion P (flat_map f xs) → AllByRecursion (λ x. AllByRecursion P (f x)) xs
all_of_flat P f [] all = tt
all_of_flat P f (x ∷ xs) all = (all_left P (f x) (flat_map f xs) all, all_of_flat P f xs (all_right P (f x) (flat_map f xs) all))

all_mapped : {X Y : Type 0} (P : Y → Type 0) (f : X → Y) (xs : List X) → AllByRecursion P (map f xs) → AllByRecursion (λ x. P (f x)) xs
all_mapped P f [] all = tt
all_mapped P f (x ∷ xs) all = (all.0, all_mapped P f xs all.1)

all_kept : {X : Type 0} (P : X → Type 0) (test : X → Bool) (xs : List X) → AllByRecursion (λ x. test x ≡ true → P x) xs → AllByRecursion P (filter test xs)
all_kept P test [] all = grind arith
all_kept P test (x ∷ xs) all = grind (arith, (all_kept P test xs all.1))

all_unkept : {X : Type 0} (P : X → Type 0) (test : X → Bool) (xs : List X) → AllByRecursion P (filter test xs) → AllByRecursion (λ x. test x ≡ true → P x) xs
all_unkept P test [] all = grind arith
all_unkept {X} P test (x ∷ xs) all = grind (arith, (all_unkept P test xs))

pub flat_same : {X Y : Type 0} (f g : X → List Y) (xs : List X) → AllByRecursion (λ x. f x ≡ g x) xs → flat_map f xs ≡ flat_map g xs
flat_same f g [] same = refl
flat_same f g (x ∷ xs) same = λ i. same.0 i ++ flat_same f g xs same.1 i

-- What fits in the room of a record.

-- what undo may put back on it there
abbrev pub IsNoLonger : ℕ → ℕ → Entry → Type 0
IsNoLonger number k u = is_on number u ≡ true → length_of (before_of u.rec) ≤ k

-- a record's values, shown or put back, have at most so many octets
pub record IsWithin (log : List Entry) (pages : List Version) (number k : ℕ) : Type 0 where
  pub shows : length_of (shown log pages number) ≤ k
  pub left : (t : ℕ) → is_closed log t ≡ false → AllByRecursion (IsNoLonger number k) (left_open log t)

lives : (log : List Entry) (t : ℕ) → IsTrue (is_loser log t) → is_closed log t ≡ false
lives log t loser = grind (arith, and_parts)

pub within_is_room : (log : List Entry) (pages : List Version) (number k : ℕ) → IsWithin log pages number k → open_length log pages number ≤ k
within_is_room log pages number k within =
    longest_within k (shown log pages number ∷ put_back log number) (
      within.shows,
      all_map (λ c. length_of c ≤ k) (λ (u : Entry). before_of u.rec) (filter (is_on number) (flat_map (left_open log) (losers log)))
          (all_kept (λ u. length_of (before_of u.rec) ≤ k) (is_on number) (flat_map (left_open log) (losers log))
          (all_flat (IsNoLonger number k) (left_open log) (losers log)
          (all_weaker (λ t. IsTrue (is_loser log t)) (λ t. AllByRecursion (IsNoLonger number k) (left_open log t)) (λ t loser. within.left t (lives log t loser)) (losers log) (are_losers log)))),
    )

none_of : (log : List Entry) (t : ℕ) → list_any (is_of t) log ≡ false → entries_of t log ≡ []
none_of [] t none = refl
none_of (e ∷ log) t none = grind (arith, (none_of log t))

-- the Updates of an open transaction that are left are those of a loser with its Begin in the log, or none
module _ (log : List Entry) (undoable : IsUndoable log) (P : Entry → Type 0) (all : AllByRecursion (λ t. AllByRecursion P (left_open log t)) (losers log)) where
  of_loser : (t : ℕ) → is_closed log t ≡ false → is_loser log t ≡ true → AllByRecursion P (left_open log t)
  of_loser t lives loser = grind (arith, all_filter, all_made, lives)

  pub all_left_of : (t : ℕ) → is_closed log t ≡ false → AllByRecursion P (left_open log t)
  all_left_of t lives = grind (arith, cases_Bool, of_loser, lives, and_from, none_of)

pub room_is_within : (log : List Entry) (pages : List Version) (number k : ℕ) → IsUndoable log → open_length log pages number ≤ k → IsWithin log pages number k
room_is_within log pages number k undoable room =
    let holds = longest_holds k (shown log pages number ∷ put_back log number) room in
    record {
      shows = holds.0;
      left = all_left_of log undoable (IsNoLonger number k)
          (all_of_flat (IsNoLonger number k) (left_open log) (losers log)
          (all_unkept (λ u. length_of (before_of u.rec) ≤ k) (is_on number) (flat_map (left_open log) (losers log))
          (all_mapped (λ c. length_of c ≤ k) (λ (u : Entry). before_of u.rec) (filter (is_on number) (flat_map (left_open log) (losers log))) holds.1)));
    }

-- One record more.

-- the last of a chain continues it
continues_last : (t : ℕ) (entries : List Entry) (e : Entry) → is_begin e.rec ≡ false → IsLoserChain t (entries ++ e ∷ []) → Continues entries e
continues_last t [] e other chain = absurd (let never = sym other ∙ ap begun chain.begins in grind arith) where
  begun : List Entry → Bool
  begun [] = true
  begun (x ∷ xs) = is_begin x.rec
continues_last t (x ∷ xs) e other chain =
    subst (λ (y : Entry). Continues (y ∷ xs) e) (sym (ap (first x) chain.begins)) (InTurn-right Continues (begins t ∷ []) xs (e ∷ []) chain.continues).0 where
      first : Entry → List Entry → Entry
      first d [] = d
      first d (y ∷ ys) = y

-- what a CLR writes was before its Update
restored_within : (us : List Entry) (lsn t prev undo_next page slot : ℕ) (after : Content) (number k : ℕ) → Undoes us (Clr t prev undo_next page slot after) →
    (32 * page + slot == number) ≡ true → AllByRecursion (IsNoLonger number k) us → length_of after ≤ k
restored_within x0 lsn t prev undo_next page slot after number k undoes on all = grind arith

all_open_by : (P : Entry → Type 0) (us : List Entry) (e : Entry) (rec : LogRecord) → AllByRecursion P us → (is_update rec ≡ true → P e) → AllByRecursion P (open_by us e rec)
all_open_by x0 us e x3 all new = grind (arith, all_drop)

-- numbers of different pages differ
off_page : (a b page : ℕ) → b / 32 ≡ page → (a / 32 == page) ≡ false → (a == b) ≡ false
off_page a b page is elsewhere = grind (arith, cases_Bool, eq-eqb, eqb-true)

module _ (m : Master) (pages : List Version) (log : List Entry) (undoable : IsUndoable log) where
  loses_nothing : (e : Entry) → is_closing e.rec ≡ false → is_closed log (txn_of e) ≡ false → is_loser (with log e) (txn_of e) ≡ true
  loses_nothing e c lives = grind (arith, and_from, list_any-append, or_right, or_left, eq-eqb, not_from_false, closed_same, and_right)

  -- a CLR shows what it puts back
  shows_within : (e : Entry) (number k : ℕ) → Follows m pages log e → (is_update e.rec && is_on number e) ≡ false → is_on number e ≡ true → IsWithin log pages number k → length_of (after_of e.rec) ≤ k
  shows_within e number k f off on within = grind (arith, lives, entries_push, loses_nothing, restored_within, continues_last)

  pub within_stays : (e : Entry) (number k : ℕ) → Follows m pages log e → (is_update e.rec && is_on number e) ≡ false → IsWithin log pages number k → IsWithin (with log e) pages number k
  within_stays e number k f off within = record {
    shows = shown_by_test (is_on number e) refl;
    left = λ t lives. left_by_test t (open_before log e t lives) (is_of t e) refl;
  }
    where
      shown_by_test : (b : Bool) → is_on number e ≡ b → length_of (shown (with log e) pages number) ≤ k
      shown_by_test true on = subst (λ (c : Content). length_of c ≤ k) (sym (shown_push log e pages number ∙ ap (λ b. cond b (after_of e.rec) (shown log pages number)) on)) (shows_within e number k f off on within)
      shown_by_test false on = subst (λ (c : Content). length_of c ≤ k) (sym (shown_push log e pages number ∙ ap (λ b. cond b (after_of e.rec) (shown log pages number)) on)) within.shows

      no_longer : is_update e.rec ≡ true → IsNoLonger number k e
      no_longer update on = absurd (let never = sym off ∙ and_from (is_update e.rec) (is_on number e) update on in grind arith)

      left_by_test : (t : ℕ) → is_closed log t ≡ false → (b : Bool) → is_of t e ≡ b → AllByRecursion (IsNoLonger number k) (left_open (with log e) t)
      left_by_test t lives true own = subst (AllByRecursion (IsNoLonger number k)) (sym (left_push log e t ∙ ap (λ b. cond b (open_by (left_open log t) e e.rec) (left_open log t)) own))
          (all_open_by (IsNoLonger number k) (left_open log t) e e.rec (within.left t lives) no_longer)
      left_by_test t lives false own = subst (AllByRecursion (IsNoLonger number k)) (sym (left_push log e t ∙ ap (λ b. cond b (open_by (left_open log t) e e.rec) (left_open log t)) own)) (within.left t lives)

  -- where it isn't an Update on the page, no record needs more
  room_stays : (e : Entry) (page : ℕ) → Follows m pages log e → ((slot : ℕ) → slot < 32 → (is_update e.rec && is_on (32 * page + slot) e) ≡ false) → HasOpenRoom log pages page → HasOpenRoom (with log e) pages page
  room_stays e page f off room =
      let fewer = total_within page (open_length (with log e) pages) (open_length log pages)
      (λ slot less. within_is_room (with log e) pages (32 * page + slot) (open_length log pages (32 * page + slot))
      (within_stays e (32 * page + slot) (open_length log pages (32 * page + slot)) f (off slot less) (room_is_within log pages (32 * page + slot) (open_length log pages (32 * page + slot)) undoable (omega arith)))) in
      omega (arith, fewer, room)

  pub room_behind : (e : Entry) (page : ℕ) → Follows m pages log e → HasOpenRoom log pages page → HasOpenRoom (with log e) pages page
  room_behind e page f room = grind (arith, with, cases_Bool, eqb-true, room_stays, off_page)

-- What is redone.

-- the lengths on a page with all records up to an LSN redone
abbrev pub redone_length : List Entry → List Version → ℕ → ℕ → ℕ
redone_length log pages lsn number = length_of (shown_by (slot_at pages number) (last_known log lsn number))

-- where all records on a number are known, all are redone there
pub known_on : (log : List Entry) (lsn number : ℕ) → AllByRecursion (λ x. is_on number x ≡ true → x.lsn ≤ lsn) log → last_known log lsn number ≡ last_on log number
known_on [] lsn number all = refl
known_on (e ∷ log) lsn number all = grind (arith, common_steps, le-leb, (known_on log lsn number all.1))

-- a slot that shows its last record shows that
pub shows_itself : (slot : Content) (o : Option Entry) → ShowsLast slot o → shown_by slot o ≡ slot
shows_itself slot x1 shows = grind (arith, common_steps)

known_before : (log : List Entry) (e : Entry) (lsn number : ℕ) → lsn < e.lsn → last_known (with log e) lsn number ≡ last_known log lsn number
known_before log e lsn number below = grind (arith, common_steps, last_where-append, lt-leb, and_right)

-- what stands last takes no more than the room for what undo may put back
shown_fits : (log : List Entry) (pages : List Version) (page : ℕ) → HasOpenRoom log pages page → total_on page (λ number. length_of (shown log pages number)) ≤ page_room
shown_fits log pages page room = grind (arith, total_within, le-max_left)

pub redone_behind : (pages : List Version) (log : List Entry) (e : Entry) (page : ℕ) → AllByRecursion (λ x. x.lsn < e.lsn) log → HasOpenRoom (with log e) pages page →
    ((lsn : ℕ) → (version_at pages page).lsn ≤ lsn → total_on page (redone_length log pages lsn) ≤ page_room) →
    (lsn : ℕ) → (version_at pages page).lsn ≤ lsn → total_on page (redone_length (with log e) pages lsn) ≤ page_room
redone_behind pages log e page below room fits lsn later = elim (cases_lt lsn e.lsn) [
  | inl before ↦ subst (λ (f : ℕ → ℕ). total_on page f ≤ page_room) (λ i number. length_of (shown_by (slot_at pages number) (sym (known_before log e lsn number before) i))) (fits lsn later)
  | inr behind ↦
      subst (λ (f : ℕ → ℕ). total_on page f ≤ page_room)
      (λ i number. length_of (shown_by (slot_at pages number) (sym (known_on (with log e) lsn number
      (all_push (λ x. is_on number x ≡ true → x.lsn ≤ lsn) log e (all_weaker (λ x. x.lsn < e.lsn) (λ x. is_on number x ≡ true → x.lsn ≤ lsn) (λ x less on. omega (arith, less, behind)) log below) (λ on. behind))) i)))
      (shown_fits (with log e) pages page room)
]

-- a page has room behind all records that follow
pub rooms_behind_all : (p : LogicalImage) (log entries : List Entry) (from to page : ℕ) → IsUndoable log → IsInOrder from (log ++ entries) to → InTurn (Follows p.master p.pages) log entries →
    HasRoomInPage (record p { log = log }) page → HasRoomInPage (record p { log = log ++ entries }) page
rooms_behind_all p log [] from to page undoable order follow room = subst (λ (l : List Entry). HasRoomInPage (record p { log = l }) page) (sym (append-nil log)) room
rooms_behind_all p log (e ∷ entries) from to page undoable order follow room =
    let open' = room_behind p.master p.pages log undoable e page follow.0 room.open_fits in
    subst (λ (l : List Entry). HasRoomInPage (record p { log = l }) page) (append_assoc log (e ∷ []) entries)
    (rooms_behind_all p (with log e) entries from to page (undoable_behind p.master p.pages log undoable e follow.0)
    (subst (λ (l : List Entry). IsInOrder from l to) (sym (append_assoc log (e ∷ []) entries)) order) follow.1
    (record {
      redone_fits = redone_behind p.pages log e page (all_below from log e.lsn (in_order_left from log e entries to order)) open' room.redone_fits;
      open_fits = open';
    }))
