-- What a record's page needs, as the engine counts it and as the model does, and where it has room.
use Rattle.engine.proofs.Names.{◌≡◌, ℕ, zero, suc, ◌+◌, ◌*◌, ◌/◌, ◌%◌, ◌<◌, ◌≤◌, ◌==◌, ◌&&◌, Bool, true, false, cond, max, List, [], ◌∷◌, ◌++◌, length, Option, Some, None, ⊎_elim, refl, sym, ap, subst, ◌∙◌, arith, get_or-set_same, get_or-set_other, true≢false, div-add-mod, le-max_left, cases_eq, cases_lt, eq-eqb, eqb-true, ne_eqb, le-ltb, lt-ltb, sum_by-cons, none-some, range_with_len, reduce, is_none, slice_index_or, slice_set, front_of, Master, sizes_of, full_for, Matches, Engine, lengths, lengths_on, of_session, need_in, Footprint, versions_on, total_within, with, IsUndoable, Entry, Version, shown, HasOpenRoom, open_length, put_back, longest, Begin, Update, IsStore, Content, State, content_at, footprint, footprint_with, length_of, need, page_of, page_room, session_at, writes_of, refuse_if, FitsFront, IsInFront, Represents, shown_in, TransactionStore, Site, content_length, slots_of, total_length, IsTable}
use Rattle.std.proofs.Common.{unwrap_or}
use Rattle.std.specs.Prelude.{sum_by}
use Rattle.std.proofs.lemmas.List.{length-set}
use Rattle.log_records.specs.Room.{total_on}
use Rattle.slotted_page.proofs.Slots.{length-slots_of}
use Rattle.redo_laws.proofs.Changed.{front_shows}
use Rattle.redo_laws.specs.Running.{settled}
use Rattle.engine.proofs.Footprints.{never_written, same_footprint}
use Rattle.engine.proofs.Meanings.{undoable}
use Rattle.engine.proofs.OpenRooms.{begun_needs, needs_within, open_room, room_for, shown_as}
use Rattle.record_model.specs.declared.words.Reply.TheVariants as reply
use Rattle.footprints.specs.Longest as footprints

-- Sums.

sum_within : (f g : ℕ → ℕ) (a b n : ℕ) → ((k : ℕ) → k < n → f (a + k) ≤ g (b + k)) → sum_by f (range_with_len a n) ≤ sum_by g (range_with_len b n)
sum_within f g a b zero each = omega arith
sum_within f g a b (suc n) each =
    let one : f a ≤ g b = at (omega arith) (omega arith) (each 0 (omega arith)) in
    let rest = sum_within f g (a + 1) (b + 1) n (λ k less. at (omega arith) (omega arith) (each (suc k) (omega (arith, less)))) in
    omega (arith, one, rest, sum_by-cons f a (range_with_len (a + 1) n), sum_by-cons g b (range_with_len (b + 1) n))
  where
    at : {x y z w : ℕ} → x ≡ z → y ≡ w → f x ≤ g y → f z ≤ g w
    at {x} {y} {z} {w} one two less = subst (λ k. f k ≤ g w) one (subst (λ k. f x ≤ g k) two less)

sum_same : (f g : ℕ → ℕ) (a b n : ℕ) → ((k : ℕ) → k < n → f (a + k) ≡ g (b + k)) → sum_by f (range_with_len a n) ≡ sum_by g (range_with_len b n)
sum_same f g a b n each =
    let less = sum_within f g a b n (λ k small. let same = each k small in omega (arith, same)) in
    let more = sum_within g f b a n (λ k small. let same = each k small in omega (arith, same)) in
    omega (arith, less, more)

-- what slots have at least
sum_of_slots : (f : ℕ → ℕ) (slots : List Content) (from : ℕ) → ((k : ℕ) → k < length slots → f (from + k) ≤ content_length (slice_index_or slots k None)) → sum_by f (range_with_len from (length slots)) ≤ total_length slots
sum_of_slots f [] from each = omega arith
sum_of_slots f (c ∷ slots) from each =
    let first : f from ≤ content_length c = subst (λ n. f n ≤ content_length c) (omega arith) (each 0 (omega arith)) in
    let rest = sum_of_slots f slots (from + 1) (λ k less. subst (λ n. f n ≤ content_length (slice_index_or slots k None)) (omega arith) (each (suc k) (omega (arith, less)))) in
    let slots_are : total_length (c ∷ slots) ≡ content_length c + total_length slots = sum_by-cons content_length c slots in
    let lengths_are : sum_by f (range_with_len from (length (c ∷ slots))) ≡ f from + sum_by f (range_with_len (from + 1) (length slots)) = sum_by-cons f from (range_with_len (from + 1) (length slots)) in
    omega (arith, first, rest, slots_are, lengths_are)

room_in : (f : ℕ → ℕ) (page : ℕ) → total_on page f ≤ page_room → sum_by f (range_with_len (32 * page) 32) ≤ page_room
unfolding total_on
room_in f page room = room

on_page : (f : ℕ → ℕ) (page : ℕ) → sum_by f (range_with_len (32 * page) 32) ≤ page_room → total_on page f ≤ page_room
unfolding total_on
on_page f page room = room

total_of_slots : (f : ℕ → ℕ) (slots : List Content) (from : ℕ) → ((k : ℕ) → k < length slots → content_length (slice_index_or slots k None) ≤ f (from + k)) → total_length slots ≤ sum_by f (range_with_len from (length slots))
total_of_slots f [] from each = omega arith
total_of_slots f (c ∷ slots) from each =
    let first : content_length c ≤ f from = subst (λ n. content_length c ≤ f n) (omega arith) (each 0 (omega arith)) in
    let rest = total_of_slots f slots (from + 1) (λ k less. subst (λ n. content_length (slice_index_or slots k None) ≤ f n) (omega arith) (each (suc k) (omega (arith, less)))) in
    let slots_are : total_length (c ∷ slots) ≡ content_length c + total_length slots = sum_by-cons content_length c slots in
    let lengths_are : sum_by f (range_with_len from (length (c ∷ slots))) ≡ f from + sum_by f (range_with_len (from + 1) (length slots)) = sum_by-cons f from (range_with_len (from + 1) (length slots)) in
    omega (arith, first, rest, slots_are, lengths_are)

slot_length : (content : Content) → content_length content ≡ length_of content
slot_length None = refl
slot_length (Some value) = refl

-- Without footprints of all sessions there are none of one.

no_parts : (a b : List ℕ) → a ++ b ≡ [] → (a ≡ []) × (b ≡ [])
no_parts [] b none = (refl, none)
no_parts (x ∷ a) b none = absurd cc

none_of_each : (standing : List (List Footprint)) (r : ℕ) → lengths standing r ≡ [] → (n : ℕ) → lengths_on r (of_session standing n) ≡ []
none_of_each [] r none n = refl
none_of_each (own ∷ standing) r none zero = (no_parts (lengths_on r own) (lengths standing r) none).0
none_of_each (own ∷ standing) r none (suc n) = none_of_each standing r (no_parts (lengths_on r own) (lengths standing r) none).1 n

none_longest : (l : List ℕ) → reduce max l ≡ None → l ≡ []
none_longest [] none = refl
none_longest (x ∷ l) none = absurd (none-some _ (sym none))

same_place : (number i : ℕ) → i < 32 → (i == number % 32) ≡ (number == 32 * (number / 32) + i)
same_place number i less = ⊎_elim
    (λ (same : i ≡ number % 32). eq-eqb i (number % 32) same ∙ sym (eq-eqb number (32 * (number / 32) + i) (omega (arith, same, div-add-mod number 32))))
    (λ differ. ne_eqb i (number % 32) differ ∙ sym (ne_eqb number (32 * (number / 32) + i) (λ same. differ (omega (arith, same, less)))))
    (cases_eq i (number % 32))

abbrev pub record_of : ℕ → ℕ → ℕ → Footprint
record_of number stood written = record { number = number; stood = stood; written = written }

-- A run.

module _ (engine : Engine) (site : Site) (s : State) (fits : Matches engine site s) (table : IsTable engine.active) (eight : length engine.footprints ≡ 8) (number : ℕ) (less : number < 32 * (sizes_of engine.store).pages) where
  abbrev versions : List Version
  versions = versions_on (sizes_of engine.store) site.image

  abbrev page : ℕ
  page = number / 32

  exists : (i : ℕ) → i < 32 → 32 * page + i < 32 * (sizes_of engine.store).pages
  exists i small = omega (arith, less, small)

  -- a record without footprints has what the table has
  stands_there : (r : ℕ) → r < 32 * (sizes_of engine.store).pages → lengths engine.footprints r ≡ [] → length_of (shown fits.records versions r) ≡ length_of (content_at s.table r)
  stands_there r there none =
      shown_as engine site s fits table r there (λ c. length_of c ≡ length_of (content_at s.table r))
      (λ n. ap (λ (o : Option Content). length_of (unwrap_or o (content_at s.table r)))
      (never_written s.table [] (writes_of (session_at s n)) r (sym (ap (lengths_on r) (fits.footprints_are n)) ∙ none_of_each engine.footprints r none n)))
      refl

  module _ (own : IsStore engine.store.pages) (front : IsInFront engine.store number) where
    abbrev slots : List Content
    slots = slots_of (front_of engine.store.pages.pool.frames).content

    in_slot : (i : ℕ) → i < 32 → slice_index_or slots i None ≡ shown fits.records versions (32 * page + i)
    in_slot i small =
        front_shows engine.store.log engine.store.pages site fits.newest fits.records (settled s.table s.commits) i own front.there small fits.holds.both
        ∙ ap (λ (k : ℕ). shown fits.records versions (32 * k + i)) front.page

    module _ (now : List ℕ) (now_is : (i : ℕ) → i < 32 → slice_index_or now i 0 ≡ content_length (slice_index_or slots i None)) where
      length_there : (i : ℕ) → i < 32 → slice_index_or now i 0 ≡ length_of (shown fits.records versions (32 * page + i))
      length_there i small = now_is i small ∙ slot_length (slice_index_or slots i None) ∙ ap length_of (in_slot i small)

      -- what the page needs
      pub need_is : (value : List ℕ) → footprints.need engine.footprints page now (number % 32) (length value) ≡ need s number value
      need_is value = sum_same (need_in engine.footprints page now (number % 32) (length value)) (footprint_with s number value) 0 (32 * page) 32 each
        where
          each : (i : ℕ) → i < 32 → need_in engine.footprints page now (number % 32) (length value) (0 + i) ≡ footprint_with s number value (32 * page + i)
          each i small = (λ j. need_in engine.footprints page now (number % 32) (length value) (start j)) ∙ (λ j. cond (same_place number i small j) (max (here j) (length value)) (here j))
            where
              start : 0 + i ≡ i
              start = omega arith

              here : footprints.footprint engine.footprints (32 * page + i) (slice_index_or now i 0) ≡ footprint s (32 * page + i)
              here = same_footprint engine.footprints s (32 * page + i) (slice_index_or now i 0) (omega (arith, eight, fits.sessions.count)) fits.footprints_are
                  (λ none. length_there i small ∙ stands_there (32 * page + i) (exists i small) none)

    -- The test.

    pub is_full : (value : List ℕ) → page_room < need s number value → full_for s number (Some value) ≡ Some (reply.PageFull page (need s number value))
    is_full value more = λ i. refuse_if (fits.counts.fills i && lt-ltb page_room (need s number value) more i) (reply.PageFull (page_of number) (need s number value))

    pub has_room : (value : List ℕ) → need s number value ≤ page_room → full_for s number (Some value) ≡ None
    has_room value few = λ i. refuse_if (fits.counts.fills i && le-ltb page_room (need s number value) few i) (reply.PageFull (page_of number) (need s number value))

    -- where nothing may be taken back it has room where the value fits
    pub has_room_empty : ((r : ℕ) → footprints.longest engine.footprints r ≡ None) → (value : List ℕ) → FitsFront engine.store.pages (number % 32) (Some value) → full_for s number (Some value) ≡ None
    has_room_empty none value beside = has_room value few
      where
        lengths_none : (r : ℕ) → lengths engine.footprints r ≡ []
        lengths_none r = none_longest (lengths engine.footprints r) (none r)

        place : ℕ
        place = number % 32

        stands : (i : ℕ) → i < 32 → footprint s (32 * page + i) ≡ length_of (shown fits.records versions (32 * page + i))
        stands i small =
            sym (same_footprint engine.footprints s (32 * page + i) (length_of (shown fits.records versions (32 * page + i))) (omega (arith, eight, fits.sessions.count)) fits.footprints_are (λ no. stands_there (32 * page + i) (exists i small) no))
            ∙ ap (λ o. unwrap_or o (length_of (shown fits.records versions (32 * page + i)))) (none (32 * page + i))

        -- the value that stands there is longer
        no_longer : length value < footprint s number → (r : ℕ) → footprint_with s number value r ≤ footprint s r
        no_longer short r = by (number == r) refl
          where
            by : (b : Bool) → (number == r) ≡ b → cond b (max (footprint s r) (length value)) (footprint s r) ≤ footprint s r
            by true on = let same = ap (footprint s) (eqb-true number r on) in omega (arith, short, same)
            by false off = omega arith

        shorter : length value < footprint s number → need s number value ≤ page_room
        shorter short =
            let most = sum_within (footprint_with s number value) (open_length fits.records versions) (32 * page) (32 * page) 32
            (λ i small.
            let with_it = no_longer short (32 * page + i) in
            let is = stands i small in
            let shows = le-max_left (length_of (shown fits.records versions (32 * page + i))) (longest (put_back fits.records (32 * page + i))) in
            omega (arith, with_it, is, shows)) in
            let room = room_in (open_length fits.records versions) page (open_room engine site s fits table page (omega (arith, less))) in
            omega (arith, most, room)

        -- or the one that is to be written
        beside_it : footprint s number ≤ length value → (i : ℕ) → i < 32 → footprint_with s number value (32 * page + i) ≤ content_length (slice_index_or (slice_set slots place (Some value)) i None)
        beside_it long i small = ⊎_elim
            (λ (same : i ≡ place).
            let there : content_length (slice_index_or (slice_set slots place (Some value)) i None) ≡ length value =
            ap (λ (k : ℕ). content_length (slice_index_or (slice_set slots place (Some value)) k None)) same ∙ ap content_length (get_or-set_same slots place (Some value) None (omega (arith, length-slots_of (front_of engine.store.pages.pool.frames).content))) in
            let is : 32 * page + i ≡ number = omega (arith, same, div-add-mod number 32) in
            let needs : footprint_with s number value (32 * page + i) ≡ max (footprint s (32 * page + i)) (length value) = ap (λ b. cond b (max (footprint s (32 * page + i)) (length value)) (footprint s (32 * page + i))) (eq-eqb number (32 * page + i) (sym is)) in
            let own_is = ap (footprint s) is in
            omega (arith, there, needs, own_is, long))
            (λ differ.
            let there : content_length (slice_index_or (slice_set slots place (Some value)) i None) ≡ length_of (shown fits.records versions (32 * page + i)) =
            ap content_length (get_or-set_other slots place i (Some value) None differ) ∙ slot_length (slice_index_or slots i None) ∙ ap length_of (in_slot i small) in
            let needs : footprint_with s number value (32 * page + i) ≡ footprint s (32 * page + i) = ap (λ b. cond b (max (footprint s (32 * page + i)) (length value)) (footprint s (32 * page + i))) (sym (same_place number i small) ∙ ne_eqb i place differ) in
            let is = stands i small in
            omega (arith, there, needs, is))
            (cases_eq i place)

        longer : footprint s number ≤ length value → need s number value ≤ page_room
        longer long =
            let count : length (slice_set slots place (Some value)) ≡ 32 = length-set slots place (Some value) ∙ length-slots_of (front_of engine.store.pages.pool.frames).content in
            let over = sum_of_slots (λ i. footprint_with s number value (32 * page + i)) (slice_set slots place (Some value)) 0
            (λ i small. let start : i ≡ 0 + i = omega arith in subst (λ k. footprint_with s number value (32 * page + k) ≤ content_length (slice_index_or (slice_set slots place (Some value)) i None)) start (beside_it long i (omega (arith, small, count)))) in
            let all : sum_by (λ i. footprint_with s number value (32 * page + i)) (range_with_len 0 32) ≤ total_length (slice_set slots place (Some value)) =
            subst (λ k. sum_by (λ i. footprint_with s number value (32 * page + i)) (range_with_len 0 k) ≤ total_length (slice_set slots place (Some value))) count over in
            let moved = sum_within (footprint_with s number value) (λ i. footprint_with s number value (32 * page + i)) (32 * page) 0 32 (λ i small. let start : i ≡ 0 + i = omega arith in let same = ap (λ k. footprint_with s number value (32 * page + k)) start in omega (arith, same)) in
            omega (arith, moved, all, beside)

        few : need s number value ≤ page_room
        few = ⊎_elim shorter longer (cases_lt (length value) (footprint s number))

    -- whatever is to be written
    pub passes_empty : ((r : ℕ) → footprints.longest engine.footprints r ≡ None) → (after : Content) → FitsFront engine.store.pages (number % 32) after → full_for s number after ≡ None
    passes_empty none None beside = refl
    passes_empty none (Some value) beside = has_room_empty none value beside

    module _ (now : List ℕ) (now_is : (i : ℕ) → i < 32 → slice_index_or now i 0 ≡ content_length (slice_index_or slots i None)) (needs : ℕ) where
      pub passes : (after : Content) → needs ≡ footprints.need engine.footprints page now (number % 32) (length_of after) → needs ≤ page_room → full_for s number after ≡ None
      passes None is few = refl
      passes (Some value) is few = let same = is ∙ need_is now now_is value in has_room value (omega (arith, same, few))

      pub refuses : (after : Content) → is_none after ≡ false → needs ≡ footprints.need engine.footprints page now (number % 32) (length_of after) → page_room < needs → full_for s number after ≡ Some (reply.PageFull page needs)
      refuses None some is more = absurd (true≢false some)
      refuses (Some value) some is more =
          let same = is ∙ need_is now now_is value in
          is_full value (omega (arith, same, more)) ∙ ap (λ (k : ℕ). Some (reply.PageFull page k)) (sym same)

    -- Room behind the write.

    -- bounds of what each record may need, for which there is room with what is written
    abbrev Bounds : Content → Type 0
    Bounds after = (g : ℕ → ℕ) × ((i : ℕ) → i < 32 → open_length fits.records versions (32 * page + i) ≤ g (32 * page + i))
        × (total_on page (λ r. cond (32 * page + number % 32 == r) (max (g r) (length_of after)) (g r)) ≤ page_room)

    at_place : 32 * page + number % 32 ≡ number
    at_place = div-add-mod number 32

    bounds : (after : Content) → full_for s number after ≡ None → Bounds after
    bounds None has =
        let most = total_within page (λ r. cond (32 * page + number % 32 == r) (max (open_length fits.records versions r) 0) (open_length fits.records versions r)) (open_length fits.records versions)
        (λ i small. by (32 * page + number % 32 == 32 * page + i) (open_length fits.records versions (32 * page + i))) in
        (open_length fits.records versions, (λ i small. omega arith), omega (arith, most, open_room engine site s fits table page (omega (arith, less))))
      where
        by : (b : Bool) (k : ℕ) → cond b (max k 0) k ≤ k
        by true k = omega arith
        by false k = omega arith
    bounds (Some value) has =
        let few : need s number value ≤ page_room = ⊎_elim (λ more. absurd (none-some _ (sym has ∙ is_full value more))) (λ few. few) (cases_lt page_room (need s number value)) in (
          footprint s,
          (λ i small. needs_within engine site s fits table (32 * page + i) (exists i small)),
          subst (λ k. total_on page (λ r. cond (k == r) (max (footprint s r) (length value)) (footprint s r)) ≤ page_room) (sym at_place) (on_page (footprint_with s number value) page few),
        )

    undo : IsUndoable fits.records
    undo = undoable engine.store site fits.newest fits.records s.table s.commits fits.holds

    -- behind the Update that writes it
    pub room_written : (after : Content) → full_for s number after ≡ None → (lsn t prev : ℕ) → HasOpenRoom (with fits.records (record { lsn = lsn; rec = Update t prev page (number % 32) (shown fits.records versions number) after })) versions page
    room_written after has lsn t prev =
        let b = bounds after has in
        room_for fits.records versions undo lsn t prev page (number % 32) (shown fits.records versions number) after (ap (shown fits.records versions) (sym at_place)) b.0 b.1 b.2

    -- and behind a Begin too, over versions that show the same
    pub room_begun : (after : Content) → full_for s number after ≡ None → (pages : List Version) (txn lsn t prev : ℕ) → IsUndoable (with fits.records (record { lsn = txn; rec = Begin })) →
        ((i : ℕ) → i < 32 → shown (with fits.records (record { lsn = txn; rec = Begin })) pages (32 * page + i) ≡ shown fits.records versions (32 * page + i)) →
        HasOpenRoom (with (with fits.records (record { lsn = txn; rec = Begin })) (record { lsn = lsn; rec = Update t prev page (number % 32) (shown (with fits.records (record { lsn = txn; rec = Begin })) pages number) after })) pages page
    room_begun after has pages txn lsn t prev undoable_there same =
        let b = bounds after has in
        room_for (with fits.records (record { lsn = txn; rec = Begin })) pages undoable_there lsn t prev page (number % 32) (shown (with fits.records (record { lsn = txn; rec = Begin })) pages number) after
        (ap (shown (with fits.records (record { lsn = txn; rec = Begin })) pages) (sym at_place)) b.0
        (λ i small. begun_needs fits.records versions pages undo txn (32 * page + i) (b.0 (32 * page + i)) (same i small) (b.1 i small)) b.2

    -- so the page in front has room for it
    module _ (after : Content) (b : Bounds after) where
      abbrev needs : ℕ → ℕ
      needs r = cond (32 * page + number % 32 == r) (max (b.0 r) (length_of after)) (b.0 r)

      written_slots : (k : ℕ) → k < 32 → content_length (slice_index_or (slice_set slots (number % 32) after) k None) ≤ needs (32 * page + k)
      written_slots k small = ⊎_elim
          (λ (same : k ≡ number % 32).
          let there : content_length (slice_index_or (slice_set slots (number % 32) after) k None) ≡ length_of after =
          ap (λ (i : ℕ). content_length (slice_index_or (slice_set slots (number % 32) after) i None)) same
          ∙ ap content_length (get_or-set_same slots (number % 32) after None (omega (arith, length-slots_of (front_of engine.store.pages.pool.frames).content))) ∙ slot_length after in
          let is : needs (32 * page + k) ≡ max (b.0 (32 * page + k)) (length_of after) = ap (λ t. cond t (max (b.0 (32 * page + k)) (length_of after)) (b.0 (32 * page + k))) (eq-eqb (32 * page + number % 32) (32 * page + k) (omega (arith, same))) in
          omega (arith, there, is))
          (λ differ.
          let there : content_length (slice_index_or (slice_set slots (number % 32) after) k None) ≡ length_of (shown fits.records versions (32 * page + k)) =
          ap content_length (get_or-set_other slots (number % 32) k after None differ) ∙ slot_length (slice_index_or slots k None) ∙ ap length_of (in_slot k small) in
          let is : needs (32 * page + k) ≡ b.0 (32 * page + k) = ap (λ t. cond t (max (b.0 (32 * page + k)) (length_of after)) (b.0 (32 * page + k))) (ne_eqb (32 * page + number % 32) (32 * page + k) (λ same. differ (omega (arith, same)))) in
          let shows = le-max_left (length_of (shown fits.records versions (32 * page + k))) (longest (put_back fits.records (32 * page + k))) in
          omega (arith, there, is, shows, b.1 k small))
          (cases_eq k (number % 32))

      slots_fit : FitsFront engine.store.pages (number % 32) after
      slots_fit =
          let count : length (slice_set slots (number % 32) after) ≡ 32 = length-set slots (number % 32) after ∙ length-slots_of (front_of engine.store.pages.pool.frames).content in
          let over = total_of_slots needs (slice_set slots (number % 32) after) (32 * page) (λ k small. written_slots k (omega (arith, small, count))) in
          let all : total_length (slice_set slots (number % 32) after) ≤ sum_by needs (range_with_len (32 * page) 32) = subst (λ k. total_length (slice_set slots (number % 32) after) ≤ sum_by needs (range_with_len (32 * page) k)) count over in
          let room = room_in needs page b.2 in
          omega (arith, all, room)

    pub fits_front : (after : Content) → full_for s number after ≡ None → FitsFront engine.store.pages (number % 32) after
    fits_front after has = slots_fit after (bounds after has)

-- What a write remembers: the lengths of what stands there and of what it writes.
module _ (engine : Engine) (site : Site) (s : State) (fits : Matches engine site s) (number : ℕ) (own : IsStore engine.store.pages) (front : IsInFront engine.store number) where
  pub written_there : (after : Content) {stood written : ℕ} → stood ≡ content_length (slice_index_or (slots_of (front_of engine.store.pages.pool.frames).content) (number % 32) None) → written ≡ length_of after →
      record_of number stood written ≡ record_of number (length_of (shown_in engine.store site fits.records number)) (length_of after)
  written_there after stands writes = λ i. record_of number ((stands ∙ slot_length (slice_index_or (slots_of (front_of engine.store.pages.pool.frames).content) (number % 32) None) ∙ ap length_of there) i) (writes i)
    where
      there : slice_index_or (slots_of (front_of engine.store.pages.pool.frames).content) (number % 32) None ≡ shown_in engine.store site fits.records number
      there =
          front_shows engine.store.log engine.store.pages site fits.newest fits.records (settled s.table s.commits) (number % 32) own front.there (omega arith) fits.holds.both
          ∙ ap (λ (k : ℕ). shown fits.records (versions_on (sizes_of engine.store) site.image) (32 * k + number % 32)) front.page
          ∙ ap (shown fits.records (versions_on (sizes_of engine.store) site.image)) (div-add-mod number 32)

-- Where one store has the pages of another, their records show the same on the page in front.
pub shows_same : (store store' : TransactionStore) (site site' : Site) (newest : Option Master) (records log : List Entry) (table : List Content) (commits number : ℕ) → store'.pages ≡ store.pages → IsStore store.pages → IsInFront store number →
    Represents store site newest records table commits → Represents store' site' newest log table commits → (i : ℕ) → i < 32 →
    shown log (versions_on (sizes_of store') site'.image) (32 * (number / 32) + i) ≡ shown records (versions_on (sizes_of store) site.image) (32 * (number / 32) + i)
shows_same store store' site site' newest records log table commits number same own front holds holds' i small =
    sym (front_shows store'.log store'.pages site' newest log (settled table commits) i (subst IsStore (sym same) own) (subst (λ p. 0 < length p.pool.frames) (sym same) front.there) small holds'.both
    ∙ ap (λ (k : ℕ). shown log (versions_on (sizes_of store') site'.image) (32 * k + i)) (ap (λ p. (front_of p.pool.frames).page) same ∙ front.page))
    ∙ ap (λ p. slice_index_or (slots_of (front_of p.pool.frames).content) i None) same
    ∙ front_shows store.log store.pages site newest records (settled table commits) i own front.there small holds.both
    ∙ ap (λ (k : ℕ). shown records (versions_on (sizes_of store) site.image) (32 * k + i)) front.page
