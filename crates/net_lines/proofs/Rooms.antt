-- The room in pages, as lists of lengths.
use Rattle.std.proofs.Common.{◌≡◌, ◌≢◌, ⊎_elim, ℕ, zero, suc, ◌+◌, ◌*◌, ◌/◌, ◌<◌, ◌≤◌, ◌==◌, Bool, true, false, cond, max, List, [], ◌∷◌, ◌++◌, length, map, filter, slice_set, Option, Some, None, refl, sym, ap, subst, ◌∙◌, arith, sum_by, append-nil, get_or-set_other, append_assoc}
use Rattle.std.proofs.lemmas.Grind.{common_steps}
use Rattle.std.specs.Prelude.{IsTrue, nat_le, unwrap_or, slice_index_or, take}
use Rattle.std.specs.Option.{option_or}
use Rattle.std.specs.List.{range_with_len}
use Rattle.std.proofs.lemmas.Bool.{leb-true, le-leb, cases_eq, eq-eqb, ne_eqb}
use Rattle.std.proofs.lemmas.List.Sums.{sum_by-cons, sum_by_push}
use Rattle.std_lemmas.proofs.Lists.{range_push}
use Rattle.log_laws.proofs.Tables.{content_with, length_table_with}
use Rattle.byte_fields.specs.declared.TheConstants.{VALUE_MAX}
use Rattle.record_model.specs.State.{Content, State, Write, content_at, footprint, footprint_with, greatest, last_write, length_of, longest_write, need, page_of, page_room, records_of, standing_writes, table_with}
use Rattle.net_lines.specs.Nets.{AreLengths, AreWritable, HasRoomFor, HasRoomAfter, HaveRoomAfter, IsWritable, needed_in, while_writing}

-- Sums over the records of a page.

pub needed_more : (lengths : List ℕ) (number octets first slot : ℕ) → sum_by (needed_in lengths number octets) (range_with_len first (slot + 1)) ≡ sum_by (needed_in lengths number octets) (range_with_len first slot) + needed_in lengths number octets (first + slot)
needed_more lengths number octets first slot =
    ap (sum_by (needed_in lengths number octets)) (sym (range_push first slot)) ∙ sum_by_push (needed_in lengths number octets) (range_with_len first slot) (first + slot)

sum_same : (f g : ℕ → ℕ) (from n : ℕ) → ((k : ℕ) → k < n → f (from + k) ≡ g (from + k)) → sum_by f (range_with_len from n) ≡ sum_by g (range_with_len from n)
sum_same f g from zero same = refl
sum_same f g from (suc n) same =
    let here : f from ≡ g from = subst (λ k. f k ≡ g k) (omega arith) (same 0 (omega arith)) in
    let rest = sum_same f g (from + 1) n (λ k less. subst (λ i. f i ≡ g i) (omega arith) (same (suc k) (omega (arith, less)))) in
    sum_by-cons f from (range_with_len (from + 1) n) ∙ (λ i. here i + rest i) ∙ sym (sum_by-cons g from (range_with_len (from + 1) n))

-- what is needed by the lengths is what the model needs
pub need_is : (table : List Content) (before : List Write) (lengths : List ℕ) (pages number : ℕ) (value : List ℕ) → AreLengths (while_writing table before) lengths → length lengths ≡ 32 * pages → number < length lengths
    → sum_by (needed_in lengths number (length value)) (range_with_len (32 * (number / 32)) 32) ≡ need (while_writing table before) number value
need_is table before lengths pages number value are size inside =
    sum_same (needed_in lengths number (length value)) (footprint_with (while_writing table before) number value) (32 * (number / 32)) 32 same
  where
    same : (k : ℕ) → k < 32 → needed_in lengths number (length value) (32 * (number / 32) + k) ≡ footprint_with (while_writing table before) number value (32 * (number / 32) + k)
    same k less =
        let size_is = are.size in
        let here = are.each (32 * (number / 32) + k) (omega (arith, less, size, inside, size_is)) in
        (λ i. cond (number == 32 * (number / 32) + k) (max (here i) (length value)) (here i))

-- so it is decided
pub room_decided : (table : List Content) (before : List Write) (lengths : List ℕ) (pages number : ℕ) (value : List ℕ) (content : Content) (needed : ℕ) → AreLengths (while_writing table before) lengths → length lengths ≡ 32 * pages → number < length lengths
    → content ≡ Some value → needed ≡ sum_by (needed_in lengths number (length value)) (range_with_len (32 * (number / 32)) 32) → (IsTrue (nat_le needed 3952) → HasRoomFor table before number content) × (HasRoomFor table before number content → IsTrue (nat_le needed 3952))
room_decided table before lengths pages number value content needed are size inside is needs =
    let same = needs ∙ need_is table before lengths pages number value are size inside in (
      λ few. subst (HasRoomFor table before number) (sym is) (subst (λ n. n ≤ page_room) same (leb-true needed 3952 few)),
      λ room. le-leb needed 3952 (subst (λ n. n ≤ page_room) (sym same) (subst (HasRoomFor table before number) is room)),
    )

-- Footprints.

standing_is : (table : List Content) (writes : List Write) → standing_writes (while_writing table writes) ≡ writes
standing_is table writes = append-nil writes

longest-one : (w : Write) (ws : List Write) (r : ℕ) → longest_write (w ∷ ws) r ≡ cond (w.0 == r) (max (length_of w.1) (longest_write ws r)) (longest_write ws r)
longest-one w ws r = by (w.0 == r)
  where
    by : (b : Bool) → greatest (map (λ (x : Write). length_of x.1) (cond b (w ∷ filter (λ (x : Write). x.0 == r) ws) (filter (λ (x : Write). x.0 == r) ws))) ≡ cond b (max (length_of w.1) (longest_write ws r)) (longest_write ws r)
    by true = refl
    by false = refl

longest_more : (ws : List Write) (w : Write) (r : ℕ) → longest_write (ws ++ w ∷ []) r ≡ cond (w.0 == r) (max (longest_write ws r) (length_of w.1)) (longest_write ws r)
longest_more [] w r = longest-one w [] r ∙ by (w.0 == r)
  where
    by : (b : Bool) → cond b (max (length_of w.1) 0) 0 ≡ cond b (max 0 (length_of w.1)) 0
    by true = omega arith
    by false = refl
longest_more (x ∷ ws) w r = longest-one x (ws ++ w ∷ []) r ∙ by (x.0 == r) (w.0 == r) (longest_more ws w r) ∙ ap (λ n. cond (w.0 == r) (max n (length_of w.1)) n) (sym (longest-one x ws r))
  where
    by : (b c : Bool) → longest_write (ws ++ w ∷ []) r ≡ cond c (max (longest_write ws r) (length_of w.1)) (longest_write ws r)
        → cond b (max (length_of x.1) (longest_write (ws ++ w ∷ []) r)) (longest_write (ws ++ w ∷ []) r)
        ≡ cond c (max (cond b (max (length_of x.1) (longest_write ws r)) (longest_write ws r)) (length_of w.1)) (cond b (max (length_of x.1) (longest_write ws r)) (longest_write ws r))
    by true true rest = omega (arith, rest)
    by true false rest = omega (arith, rest)
    by false true rest = rest
    by false false rest = rest

footprint_is : (table : List Content) (writes : List Write) (r : ℕ) → footprint (while_writing table writes) r ≡ max (length_of (content_at table r)) (longest_write writes r)
footprint_is table writes r = ap (λ l. max (length_of (content_at table r)) (longest_write l r)) (standing_is table writes)

-- one write more
pub grown : (table : List Content) (before : List Write) (lengths : List ℕ) (number : ℕ) (content : Content) → AreLengths (while_writing table before) lengths → number < length lengths
    → AreLengths (while_writing table (before ++ (number, content) ∷ [])) (slice_set lengths number (max (slice_index_or lengths number 0) (length_of content)))
grown table before lengths number content are inside = record {
  size = grind (arith, common_steps) ∙ are.size;
  each = λ r less. ⊎_elim (λ same. here r less same) (λ away. there r less away) (cases_eq number r);
}
  where
    w : Write
    w = (number, content)

    after : List ℕ
    after = slice_set lengths number (max (slice_index_or lengths number 0) (length_of content))

    more : (r : ℕ) → footprint (while_writing table (before ++ w ∷ [])) r ≡ max (length_of (content_at table r)) (cond (number == r) (max (longest_write before r) (length_of content)) (longest_write before r))
    more r = footprint_is table (before ++ w ∷ []) r ∙ ap (max (length_of (content_at table r))) (longest_more before w r)

    here : (r : ℕ) → r < length table → number ≡ r → slice_index_or after r 0 ≡ footprint (while_writing table (before ++ w ∷ [])) r
    here r less same =
        let set : slice_index_or after number 0 ≡ max (slice_index_or lengths number 0) (length_of content) = grind (arith, common_steps) in
        let was = are.each r less ∙ footprint_is table before r in
        let is = more r ∙ ap (λ b. max (length_of (content_at table r)) (cond b (max (longest_write before r) (length_of content)) (longest_write before r))) (eq-eqb number r same) in
        let at = ap (λ k. slice_index_or after k 0) (sym same) ∙ set ∙ ap (λ k. max (slice_index_or lengths k 0) (length_of content)) same in
        omega (arith, was, is, at)

    there : (r : ℕ) → r < length table → (number ≡ r → ⊥) → slice_index_or after r 0 ≡ footprint (while_writing table (before ++ w ∷ [])) r
    there r less away =
        get_or-set_other lengths number r (max (slice_index_or lengths number 0) (length_of content)) 0 (λ same. away (sym same))
        ∙ are.each r less ∙ footprint_is table before r
        ∙ sym (more r ∙ ap (λ b. max (length_of (content_at table r)) (cond b (max (longest_write before r) (length_of content)) (longest_write before r))) (ne_eqb number r away))

-- The writes of a net, one after the other.

pub take_more : (net : List Write) (i : ℕ) → i < length net → take (i + 1) net ≡ take i net ++ slice_index_or net i (0, None) ∷ []
take_more [] i less = absurd (omega (arith, less))
take_more (w ∷ net) zero less = refl
take_more (w ∷ net) (suc i) less =
    let more : suc i + 1 ≡ suc (i + 1) = omega arith in
    ap (λ n. take n (w ∷ net)) more ∙ ap (λ (l : List Write). w ∷ l) (take_more net i (omega (arith, less)))

pub writable_at : (records : ℕ) (net : List Write) (i : ℕ) → AreWritable records net → i < length net → IsWritable records (slice_index_or net i (0, None))
writable_at records [] i all less = absurd (omega (arith, less))
writable_at records (w ∷ net) zero all less = all.0
writable_at records (w ∷ net) (suc i) all less = writable_at records net i all.1 (omega (arith, less))

-- the write at a place, as it is read
pub writable_there : (records size : ℕ) (net : List Write) (i number : ℕ) (content : Content) → AreWritable records net → i < length net → size ≡ records → number ≡ (slice_index_or net i (0, None)).0 → content ≡ (slice_index_or net i (0, None)).1
    → IsWritable size (number, content)
writable_there records size net i number content all less same number_is content_is =
    let w = writable_at records net i all less in
    record { inside = subst (λ n. n < size) (sym number_is) (subst (λ n. (slice_index_or net i (0, None)).0 < n) (sym same) w.inside); short = subst (λ (x : Content). length_of x ≤ VALUE_MAX) (sym content_is) w.short }

pub room_push : (table : List Content) (before ws : List Write) (w : Write) → HaveRoomAfter table before ws → HasRoomAfter table (before ++ ws) w → HaveRoomAfter table before (ws ++ w ∷ [])
room_push table before [] w all here = (subst (λ l. HasRoomAfter table l w) (append-nil before) here, tt)
room_push table before (x ∷ ws) w all here = (all.0, room_push table (before ++ x ∷ []) ws w all.1 (subst (λ l. HasRoomAfter table l w) (sym (append_assoc before (x ∷ []) ws)) here))

room_at : (table : List Content) (before net : List Write) (i : ℕ) → HaveRoomAfter table before net → i < length net → HasRoomAfter table (before ++ take i net) (slice_index_or net i (0, None))
room_at table before [] i all less = absurd (omega (arith, less))
room_at table before (w ∷ net) zero all less = subst (λ l. HasRoomAfter table l w) (sym (append-nil before)) all.0
room_at table before (w ∷ net) (suc i) all less = subst (λ l. HasRoomAfter table l (slice_index_or net i (0, None))) (append_assoc before (w ∷ []) (take i net)) (room_at table (before ++ w ∷ []) net i all.1 (omega (arith, less)))

pub room_of : (table : List Content) (net : List Write) (i : ℕ) → HaveRoomAfter table [] net → i < length net → HasRoomAfter table (take i net) (slice_index_or net i (0, None))
room_of table net i all less = room_at table [] net i all less

-- A session is closed.

last_more : (ws : List Write) (w : Write) (r : ℕ) → last_write (ws ++ w ∷ []) r ≡ cond (w.0 == r) (Some w.1) (last_write ws r)
last_more [] w r = by (w.0 == r)
  where
    by : (b : Bool) → option_or None (cond b (Some w.1) None) ≡ cond b (Some w.1) None
    by true = refl
    by false = refl
last_more (x ∷ ws) w r = ap (λ o. option_or o (cond (x.0 == r) (Some x.1) None)) (last_more ws w r) ∙ by (w.0 == r)
  where
    by : (b : Bool) → option_or (cond b (Some w.1) (last_write ws r)) (cond (x.0 == r) (Some x.1) None) ≡ cond b (Some w.1) (option_or (last_write ws r) (cond (x.0 == r) (Some x.1) None))
    by true = refl
    by false = refl

abbrev length_or : Option Content → ℕ → ℕ
length_or None length = length
length_or (Some content) length = length_of content

-- what stands there once so many writes are closed
abbrev pub closed_at : List ℕ → List Write → ℕ → ℕ
closed_at lengths writes number = length_or (last_write writes number) (slice_index_or lengths number 0)

pub closed_more : (lengths now : List ℕ) (writes : List Write) (w : Write) (octets r : ℕ) → w.0 < length now → octets ≡ length_of w.1 → slice_index_or now r 0 ≡ closed_at lengths writes r → slice_index_or (slice_set now w.0 octets) r 0 ≡ closed_at lengths (writes ++ w ∷ []) r
closed_more lengths now writes w octets r inside is so_far = ⊎_elim here there (cases_eq w.0 r)
  where
    more : (b : Bool) → (w.0 == r) ≡ b → closed_at lengths (writes ++ w ∷ []) r ≡ length_or (cond b (Some w.1) (last_write writes r)) (slice_index_or lengths r 0)
    more b at = ap (λ o. length_or o (slice_index_or lengths r 0)) (last_more writes w r ∙ ap (λ c. cond c (Some w.1) (last_write writes r)) at)

    here : w.0 ≡ r → slice_index_or (slice_set now w.0 octets) r 0 ≡ closed_at lengths (writes ++ w ∷ []) r
    here same =
        let set : slice_index_or (slice_set now w.0 octets) w.0 0 ≡ octets = grind (arith, common_steps) in
        ap (λ k. slice_index_or (slice_set now w.0 octets) k 0) (sym same) ∙ set ∙ is ∙ sym (more true (eq-eqb w.0 r same))

    there : (w.0 ≡ r → ⊥) → slice_index_or (slice_set now w.0 octets) r 0 ≡ closed_at lengths (writes ++ w ∷ []) r
    there away = get_or-set_other now w.0 r octets 0 (λ same. away (sym same)) ∙ so_far ∙ sym (more false (ne_eqb w.0 r away))

none_longest : (ws : List Write) (r : ℕ) → last_write ws r ≡ None → longest_write ws r ≡ 0
none_longest [] r none = refl
none_longest (w ∷ ws) r none = longest-one w ws r ∙ by (w.0 == r) (last_write ws r) refl (none_longest ws r) none
  where
    by : (b : Bool) (o : Option Content) → last_write ws r ≡ o → (last_write ws r ≡ None → longest_write ws r ≡ 0) → option_or o (cond b (Some w.1) None) ≡ None → cond b (max (length_of w.1) (longest_write ws r)) (longest_write ws r) ≡ 0
    by true None is rest none = let bad : Some w.1 ≡ None = none in cc
    by true (Some x) is rest none = let bad : Some x ≡ None = none in cc
    by false None is rest none = rest is
    by false (Some x) is rest none = let bad : Some x ≡ None = none in cc

pub all_closed : (table : List Content) (net : List Write) (lengths now : List ℕ) → AreLengths (while_writing table net) lengths → length now ≡ length lengths → ((r : ℕ) → r < length lengths → slice_index_or now r 0 ≡ closed_at lengths net r)
    → AreLengths (while_writing (table_with table net) []) now
all_closed table net lengths now are size each = record {
  size = size ∙ are.size ∙ sym (length_table_with table net);
  each = λ r less.
      let inside : r < length table = subst (λ n. r < n) (length_table_with table net) less in
      each r (subst (λ n. r < n) (sym are.size) inside) ∙ by r inside (last_write net r) refl
      ∙ sym (footprint_is (table_with table net) [] r ∙ zero_more (length_of (content_at (table_with table net) r)) ∙ ap length_of (content_with table net r inside));
}
  where
    zero_more : (n : ℕ) → max n 0 ≡ n
    zero_more n = omega arith

    by : (r : ℕ) → r < length table → (o : Option Content) → last_write net r ≡ o → length_or (last_write net r) (slice_index_or lengths r 0) ≡ length_of (unwrap_or (last_write net r) (content_at table r))
    by r inside None is =
        ap (λ o. length_or o (slice_index_or lengths r 0)) is ∙ are.each r inside ∙ footprint_is table net r
        ∙ ap (max (length_of (content_at table r))) (none_longest net r is) ∙ zero_more (length_of (content_at table r)) ∙ sym (ap (λ o. length_of (unwrap_or o (content_at table r))) is)
    by r inside (Some content) is = ap (λ o. length_or o (slice_index_or lengths r 0)) is ∙ sym (ap (λ o. length_of (unwrap_or o (content_at table r))) is)

-- The same of a write as it is read.

module _ (table : List Content) (before : List Write) (number : ℕ) (content : Content) (w : Write) (number_is : number ≡ w.0) (content_is : content ≡ w.1) where
  pub room_there : HasRoomFor table before number content → HasRoomAfter table before w
  room_there room = subst (λ n. HasRoomFor table before n w.1) number_is (subst (HasRoomFor table before number) content_is room)

  pub room_back : HasRoomAfter table before w → HasRoomFor table before number content
  room_back room = subst (HasRoomFor table before number) (sym content_is) (subst (λ n. HasRoomFor table before n w.1) (sym number_is) room)

  pub grown_there : (lengths now : List ℕ) (octets : ℕ) → AreLengths (while_writing table before) lengths → number < length lengths → octets ≡ length_of content → now ≡ slice_set lengths number (max (slice_index_or lengths number 0) octets)
      → AreLengths (while_writing table (before ++ w ∷ [])) now
  grown_there lengths now octets are inside long is =
      subst (AreLengths (while_writing table (before ++ w ∷ []))) (sym (is ∙ ap (λ k. slice_set lengths number (max (slice_index_or lengths number 0) k)) long))
      (subst (λ (x : Write). AreLengths (while_writing table (before ++ x ∷ [])) (slice_set lengths number (max (slice_index_or lengths number 0) (length_of content)))) (λ i. (number_is i, content_is i)) (grown table before lengths number content are inside))

pub closed_there : (lengths now new : List ℕ) (writes : List Write) (w : Write) (number octets r : ℕ) (content : Content) → number < length now → number ≡ w.0 → content ≡ w.1 → octets ≡ length_of content → new ≡ slice_set now number octets
    → slice_index_or now r 0 ≡ closed_at lengths writes r → slice_index_or new r 0 ≡ closed_at lengths (writes ++ w ∷ []) r
closed_there lengths now new writes w number octets r content inside number_is content_is long is so_far =
    ap (λ l. slice_index_or l r 0) (is ∙ ap (λ n. slice_set now n octets) number_is)
    ∙ closed_more lengths now writes w octets r (subst (λ n. n < length now) number_is inside) (long ∙ ap length_of content_is) so_far
