-- What pages take up, record by record, and the twelfth rule of it.
use Rattle.std.proofs.lemmas.Grind.{common_steps}
use Rattle.image_check.proofs.Names.{◌≡◌, ◌↔◌, inl, inr, ℕ, suc, ◌+◌, ◌*◌, ◌/◌, ◌%◌, ◌≤◌, ◌<◌, ◌==◌, ◌&&◌, Bool, true, false, true≢false, cond, nat_lt, nat_le, List, [], ◌∷◌, ◌++◌, length, map, take, reverse, get_or, Option, Some, None, refl, sym, ap, ◌∙◌, subst, arith, append_assoc, or_left, or_right, cases_lt, cases_eq, eq-eqb, ne_eqb, le-leb, leb-true, lt-leb, lt-ltb, le-ltb, map-append, reverse-append, get_or-set_same, get_or-set_other, filter-append, BTreeMap, AllByRecursion, list_any, range_with_len, option_or, Result, Ok, IfOk, is_none, filter, flat_map, max, sum_by, version_on, AreChains, is_behind, is_news, filled, opened, AreOn, AreKept, AreKeptOn, FitsAt, Fills, HaveRoom, HearsLog, KeepsOpen, Opens, RedoneFits, put_back_by, Chains, Filling, PageLengths, AreVersions, PagesHaveRoom, VersionsFit, LosersCanBeUndone, page_of_number, slot_of_page, length-versions, version_is, version_in, versions_on, IndexMap, get, AreLeft, entry_of, Left, last_where-filter, all_from, none_passes, filter_all, filter_none, all_below, is_number-Some, unfinished_at, in_order_left, Entry, Version, version_at, slot_at, number_of, is_number, is_on, before_of, after_of, last_where, last_on, shown, shown_by, LogicalImage, IsInOrder, ShowsLast, last_known, redone, left_open, losers, LogRecord, Content, content_at, greatest, length_of, page_room, Image, Geometry, Stop, lsn_of, slots_of, all_push, all_weaker, option_or_assoc, option_or_none}
use Rattle.std.proofs.Common.{append-nil}
use Rattle.std.specs.Prelude.{Err, IsTrue, nat_eq, slice_index_or, slice_set}
use Rattle.std.proofs.Math.Nat.{max-le, le-max_left, le-max_right}
use Rattle.log_records.specs.Room.{longest, open_length, total_on}
use Rattle.log_laws.proofs.Rooms.{total_within, known_on, shows_itself}
use Rattle.log_laws.proofs.Shown.{shown_push}
use Rattle.image_check.proofs.PageRooms.{slot_length, sum_last, values_fit}
use Rattle.image_check.proofs.StrayOnes.{chains_of}

-- Totals of lengths that are the same on a page.

pub total_as : (page k : ℕ) (f g : ℕ → ℕ) → ((number : ℕ) → number / 32 ≡ page → g number ≤ f number) → total_on page f ≤ k → total_on page g ≤ k
total_as page k f g less fits = grind (arith, common_steps, total_within, page_of_number)

-- one of two that are equal is no more than the other
same_less : (a b : ℕ) → a ≡ b → b ≤ a
same_less a b is = omega (arith, is)

pub room_as : (pages : List Version) (f g : ℕ → ℕ) → ((number : ℕ) → number / 32 < length pages → f number ≡ g number) → HaveRoom pages f → HaveRoom pages g
room_as pages f g same room page less =
    total_as page page_room f g (λ number here. same_less (f number) (g number) (same number (omega (arith, here, less)))) (room page less)

-- only the page of a number has other lengths
pub room_more : (pages : List Version) (old new : ℕ → ℕ) (o : Option ℕ) → ((m : ℕ) → is_number m o ≡ false → new m ≡ old m) → HaveRoom pages old → FitsAt pages new o → HaveRoom pages new
room_more pages old new None same room fits page less = total_as page page_room old new (λ m here. same_less (old m) (new m) (sym (same m refl))) (room page less)
room_more pages old new (Some number) same room fits page less = elim (cases_eq (number / 32) page) [
  | inl own ↦ subst (λ (q : ℕ). q < length pages → total_on q new ≤ page_room) own fits less
  | inr other ↦ total_as page page_room old new (λ m here. same_less (old m) (new m) (sym (same m (ne_eqb number m (λ is. other (ap (λ (k : ℕ). k / 32) is ∙ here)))))) (room page less)
]

-- One record more.

pub filled_more : (pages : List Version) (records : List Entry) (e : Entry) (number : ℕ) →
    filled pages (records ++ e ∷ []) number ≡ cond (is_news pages e && is_on number e) (length_of (after_of e.rec)) (filled pages records number)
filled_more pages records e number = grind (arith, common_steps, filter-append, shown_push, append-nil)

-- a record that isn't on a number changes nothing of it
pub filled_off : (pages : List Version) (records : List Entry) (e : Entry) (m : ℕ) → is_on m e ≡ false → filled pages (records ++ e ∷ []) m ≡ filled pages records m
filled_off pages records e m off = grind (arith, common_steps, filled_more)

greatest_more : (ns : List ℕ) (n : ℕ) → greatest (ns ++ n ∷ []) ≡ max (greatest ns) n
greatest_more [] n = grind arith
greatest_more (m ∷ ns) n = let rest = greatest_more ns n in grind (arith, rest)

greatest_front : (ns more : List ℕ) → greatest ns ≤ greatest (ns ++ more)
greatest_front [] more = grind (arith, common_steps)
greatest_front (n ∷ ns) more = grind (arith, common_steps, le-max_left, le-max_right, max-le, (greatest_front ns more))

module _ (log : List Entry) (pages : List Version) (number : ℕ) where
  on : LogRecord → Bool
  on u = is_number number (number_of u)

  -- what these Updates put back there
  lengths : List LogRecord → List ℕ
  lengths updates = map length_of (shown log pages number ∷ map before_of (filter on updates))

  lengths_both : (updates more : List LogRecord) → lengths (updates ++ more) ≡ lengths updates ++ map length_of (map before_of (filter on more))
  unfolding on lengths
  lengths_both updates more = grind (arith, common_steps, filter-append, on, map-append)

  pub opened_more : (updates : List LogRecord) (u : LogRecord) → opened log pages (updates ++ u ∷ []) number ≡ cond (is_number number (number_of u)) (max (opened log pages updates number) (length_of (before_of u))) (opened log pages updates number)
  unfolding on lengths
  opened_more updates u = grind (arith, common_steps, lengths_both, on, lengths, greatest_more, append-nil)

  pub opened_within : (updates more : List LogRecord) → opened log pages updates number ≤ opened log pages (updates ++ more) number
  unfolding on lengths
  opened_within updates more = subst (λ (n : ℕ). greatest (lengths updates) ≤ n) (sym (ap greatest (lengths_both updates more))) (greatest_front (lengths updates) (map length_of (map before_of (filter on more))))

-- where there is room for more there is room for these
pub room_before : (log : List Entry) (pages : List Version) (updates more : List LogRecord) → HaveRoom pages (opened log pages (updates ++ more)) → HaveRoom pages (opened log pages updates)
room_before log pages updates more room page less =
    total_as page page_room (opened log pages (updates ++ more)) (opened log pages updates) (λ number here. opened_within log pages number updates more) (room page less)

-- What is redone up to an LSN.

abbrev pub up_to : ℕ → List Entry → List Entry
up_to lsn records = filter (λ e. nat_le e.lsn lsn) records

last_parts : (test : Entry → Bool) (low lsn from to : ℕ) (log : List Entry) → low ≤ lsn → IsInOrder from log to →
    last_where (λ e. test e && nat_le e.lsn lsn) log ≡ option_or (last_where (λ e. test e && (nat_lt low e.lsn && nat_le e.lsn lsn)) log) (last_where (λ e. test e && nat_le e.lsn low) log)
last_parts test low lsn from to [] less order = refl
last_parts test low lsn from to (e ∷ log) less order = elim (cases_lt low e.lsn) [
  | inl late ↦
      let none : last_where (λ x. test x && nat_le x.lsn low) log ≡ None =
      none_passes (λ x. test x && nat_le x.lsn low) log (all_weaker (λ x. e.lsn + 1 ≤ x.lsn) (λ x. (test x && nat_le x.lsn low) ≡ false) (λ x above. off (test x) (nat_le x.lsn low) (lt-leb x.lsn low (omega (arith, above, late)))) log (all_from (e.lsn + 1) log to order.1)) in
      behind (test e) (nat_le e.lsn low) (nat_lt low e.lsn) (nat_le e.lsn lsn) e _ _ _ (lt-leb e.lsn low late) (lt-ltb low e.lsn late) none (last_parts test low lsn (e.lsn + 1) to log less order.1)
  | inr early ↦
      before (test e) (nat_le e.lsn low) (nat_lt low e.lsn) (nat_le e.lsn lsn) e _ _ _ (le-leb e.lsn low early) (le-ltb low e.lsn early) (le-leb e.lsn lsn (omega (arith, early, less))) (last_parts test low lsn (e.lsn + 1) to log less order.1)
]
  where
    off : (a b : Bool) → b ≡ false → (a && b) ≡ false
    off true b is = is
    off false b is = refl

    behind : (t known news most : Bool) (x : Entry) (all new old : Option Entry) → known ≡ false → news ≡ true → old ≡ None → all ≡ option_or new old →
        option_or all (cond (t && most) (Some x) None) ≡ option_or (option_or new (cond (t && (news && most)) (Some x) None)) (option_or old (cond (t && known) (Some x) None))
    behind t known news most x all new old a b c d = grind (arith, common_steps, option_or_none, option_or_assoc)

    before : (t known news most : Bool) (x : Entry) (all new old : Option Entry) → known ≡ true → news ≡ false → most ≡ true → all ≡ option_or new old →
        option_or all (cond (t && most) (Some x) None) ≡ option_or (option_or new (cond (t && (news && most)) (Some x) None)) (option_or old (cond (t && known) (Some x) None))
    before t known news most x all new old a b c d = grind (arith, common_steps, option_or_none, option_or_assoc)

-- where the last part shows the slot, the first one says what is shown
shown_parts : (slot : Content) (new old : Option Entry) → ShowsLast slot old → shown_by slot (option_or new old) ≡ shown_by slot new
shown_parts slot None old shows = shows_itself slot old shows
shown_parts slot (Some e) old shows = refl

-- what a version doesn't know of, up to an LSN
news_on : (pages : List Version) (number lsn : ℕ) (e : Entry) → (nat_le e.lsn lsn && (is_news pages e && is_on number e)) ≡ (is_on number e && (nat_lt (version_at pages (number / 32)).lsn e.lsn && nat_le e.lsn lsn))
news_on pages number lsn e = grind (arith, common_steps, nat_le, nat_lt, on, is_number-Some)

last_news : (pages : List Version) (log : List Entry) (number lsn : ℕ) →
    last_on (filter (is_news pages) (up_to lsn log)) number ≡ last_where (λ e. is_on number e && (nat_lt (version_at pages (number / 32)).lsn e.lsn && nat_le e.lsn lsn)) log
last_news pages log number lsn = grind (arith, common_steps, last_where-filter, nat_le, news_on)

module _ (p : LogicalImage) (from to : ℕ) (order : IsInOrder from p.log to) (fit : VersionsFit p) where
  shows_known : (number : ℕ) → number / 32 < length p.pages → ShowsLast (slot_at p.pages number) (last_known p.log (version_at p.pages (number / 32)).lsn number)
  shows_known number less = grind (arith, common_steps)

  pub redone_is : (lsn number : ℕ) → number / 32 < length p.pages → (version_at p.pages (number / 32)).lsn ≤ lsn → length_of (redone p lsn number) ≡ filled p.pages (up_to lsn p.log) number
  redone_is lsn number less later =
      let low : ℕ = (version_at p.pages (number / 32)).lsn in
      ap (λ (o : Option Entry). length_of (shown_by (slot_at p.pages number) o)) (last_parts (is_on number) low lsn from to p.log later order)
      ∙ ap length_of (shown_parts (slot_at p.pages number) (last_where (λ e. is_on number e && (nat_lt low e.lsn && nat_le e.lsn lsn)) p.log) (last_known p.log low number) (shows_known number less))
      ∙ ap (λ (o : Option Entry). length_of (shown_by (slot_at p.pages number) o)) (sym (last_news p.pages p.log number lsn))

  -- with all of them redone
  pub filled_is : (number : ℕ) → number / 32 < length p.pages → filled p.pages p.log number ≡ opened p.log p.pages [] number
  filled_is number less =
      let low : ℕ = (version_at p.pages (number / 32)).lsn in
      let all : up_to (low + to) p.log ≡ p.log = filter_all (λ e. nat_le e.lsn (low + to)) p.log (all_weaker (λ e. e.lsn < to) (λ e. nat_le e.lsn (low + to) ≡ true) (λ e below. le-leb e.lsn (low + to) (omega (arith, below))) p.log (all_below from p.log to order)) in
      let known : last_known p.log (low + to) number ≡ last_on p.log number = known_on p.log (low + to) number (all_weaker (λ e. e.lsn < to) (λ e. is_on number e ≡ true → e.lsn ≤ low + to) (λ e below on. omega (arith, below)) p.log (all_below from p.log to order)) in
      ap (λ (l : List Entry). filled p.pages l number) (sym all)
      ∙ sym (redone_is (low + to) number less (omega arith))
      ∙ ap (λ (o : Option Entry). length_of (shown_by (slot_at p.pages number) o)) known
      ∙ only (length_of (shown p.log p.pages number))
    where
      only : (n : ℕ) → n ≡ max n 0
      only n = grind arith

-- where that fits there is room for what is shown
pub shown_room : (p : LogicalImage) (from to : ℕ) → IsInOrder from p.log to → RedoneFits p → HaveRoom p.pages (opened p.log p.pages [])
shown_room p from to order rule page less =
    let lsn : ℕ = (version_at p.pages page).lsn + to in
    total_as page page_room (λ number. length_of (redone p lsn number)) (opened p.log p.pages []) (λ number here. same_less (length_of (redone p lsn number)) (opened p.log p.pages [] number) (same lsn number (omega arith))) (rule page lsn less (omega arith))
  where
    only : (n : ℕ) → n ≡ max n 0
    only n = grind arith

    same : (lsn number : ℕ) → to ≤ lsn → length_of (redone p lsn number) ≡ opened p.log p.pages [] number
    same lsn number late =
        ap (λ (o : Option Entry). length_of (shown_by (slot_at p.pages number) o)) (known_on p.log lsn number (all_weaker (λ e. e.lsn < to) (λ e. is_on number e ≡ true → e.lsn ≤ lsn) (λ e below on. omega (arith, below, late)) p.log (all_below from p.log to order)))
        ∙ only (length_of (shown p.log p.pages number))

-- The first half of the rule, record by record.

-- the pages have had room for what was redone
abbrev pub RoomsSoFar : List Version → List Entry → Type 0
RoomsSoFar pages records = (lsn : ℕ) → HaveRoom pages (filled pages (up_to lsn records))

-- behind these records
pub room_now : (pages : List Version) (front : List Entry) (lsn : ℕ) → AllByRecursion (λ e. e.lsn < lsn) front → RoomsSoFar pages front → HaveRoom pages (filled pages front)
room_now pages front lsn below rooms = subst (λ (l : List Entry). HaveRoom pages (filled pages l)) (filter_all (λ e. nat_le e.lsn lsn) front (all_weaker (λ e. e.lsn < lsn) (λ e. nat_le e.lsn lsn ≡ true) (λ e less. le-leb e.lsn lsn (omega (arith, less))) front below)) (rooms lsn)

module _ (pages : List Version) (front : List Entry) (e : Entry) (below : AllByRecursion (λ x. x.lsn < e.lsn) front) (rooms : RoomsSoFar pages front) where
  room_with : FitsAt pages (filled pages (front ++ e ∷ [])) (number_of e.rec) → HaveRoom pages (filled pages (front ++ e ∷ []))
  room_with fits = room_more pages (filled pages front) (filled pages (front ++ e ∷ [])) (number_of e.rec) (λ m off. filled_off pages front e m off) (room_now pages front e.lsn below rooms) fits

  pub rooms_more : FitsAt pages (filled pages (front ++ e ∷ [])) (number_of e.rec) → RoomsSoFar pages (front ++ e ∷ [])
  rooms_more fits lsn = elim (cases_lt lsn e.lsn) [
    | inl early ↦ subst (λ (l : List Entry). HaveRoom pages (filled pages l)) (sym (filter-append (λ x. nat_le x.lsn lsn) front (e ∷ []) ∙ ap (λ (b : Bool). up_to lsn front ++ cond b (e ∷ []) []) (lt-leb e.lsn lsn early) ∙ append-nil (up_to lsn front))) (rooms lsn)
    | inr late ↦ subst (λ (l : List Entry). HaveRoom pages (filled pages l)) (sym (filter_all (λ x. nat_le x.lsn lsn) (front ++ e ∷ [])
        (all_push (λ x. nat_le x.lsn lsn ≡ true) front e (all_weaker (λ x. x.lsn < e.lsn) (λ x. nat_le x.lsn lsn ≡ true) (λ x less. le-leb x.lsn lsn (omega (arith, less, late))) front below) (le-leb e.lsn lsn late)))) (room_with fits)
  ]

in_order_right : (from : ℕ) (front : List Entry) (e : Entry) (back : List Entry) (to : ℕ) → IsInOrder from (front ++ e ∷ back) to → IsInOrder (e.lsn + 1) back to
in_order_right from [] e back to order = order.1
in_order_right from (x ∷ front) e back to order = in_order_right (x.lsn + 1) front e back to order.1

-- where there is no room behind one, the rule fails
module _ (p : LogicalImage) (from to : ℕ) (order : IsInOrder from p.log to) (fit : VersionsFit p) (front : List Entry) (e : Entry) (back : List Entry) (split : p.log ≡ front ++ e ∷ back) (rooms : RoomsSoFar p.pages front) where
  ordered : IsInOrder from (front ++ e ∷ back) to
  ordered = subst (λ (l : List Entry). IsInOrder from l to) split order

  below : AllByRecursion (λ x. x.lsn < e.lsn) front
  below = all_below from front e.lsn (in_order_left from front e back to ordered)

  first_part : up_to e.lsn p.log ≡ front ++ e ∷ []
  first_part = grind (arith, common_steps, filter-append, nat_le, filter_all, all_weaker, le-leb, below, filter_none, lt-leb, all_from, in_order_right, ordered)

  pub fits_there : RedoneFits p → FitsAt p.pages (filled p.pages (front ++ e ∷ [])) (number_of e.rec)
  fits_there rule = by (number_of e.rec) refl where
    by : (o : Option ℕ) → number_of e.rec ≡ o → FitsAt p.pages (filled p.pages (front ++ e ∷ [])) o
    by None none = tt
    by (Some m) on = λ less. elim (cases_lt (version_at p.pages (m / 32)).lsn e.lsn) [
      | inl news ↦ total_as (m / 32) page_room (λ number. length_of (redone p e.lsn number)) (filled p.pages (front ++ e ∷ []))
          (λ number here. same_less (length_of (redone p e.lsn number)) (filled p.pages (front ++ e ∷ []) number)
          (redone_is p from to order fit e.lsn number (omega (arith, here, less)) (subst (λ (n : ℕ). (version_at p.pages n).lsn ≤ e.lsn) (sym here) (omega (arith, news))) ∙ ap (λ (l : List Entry). filled p.pages l number) first_part))
          (rule (m / 32) e.lsn less (omega (arith, news)))
      | inr known ↦ total_as (m / 32) page_room (filled p.pages front) (filled p.pages (front ++ e ∷ []))
          (λ number here. same_less (filled p.pages front number) (filled p.pages (front ++ e ∷ []) number)
          (sym (filled_more p.pages front e number ∙ ap (λ (b : Bool). cond (b && is_on number e) (length_of (after_of e.rec)) (filled p.pages front number)) (ap (is_behind p.pages e.lsn) on ∙ le-ltb (version_at p.pages (m / 32)).lsn e.lsn known))))
          (room_now p.pages front e.lsn below rooms (m / 32) less)
    ]

-- and where there was room behind each, it holds
pub rule_redone : (p : LogicalImage) (from to : ℕ) → IsInOrder from p.log to → VersionsFit p → RoomsSoFar p.pages p.log → RedoneFits p
rule_redone p from to order fit rooms page lsn less later =
    total_as page page_room (filled p.pages (up_to lsn p.log)) (λ number. length_of (redone p lsn number))
    (λ number here. let same = redone_is p from to order fit lsn number (omega (arith, here, less)) (subst (λ (n : ℕ). (version_at p.pages n).lsn ≤ lsn) (sym here) later) in omega (arith, same)) (rooms lsn page less)

-- what was heard of a log, whose pages have had room so far
pub record FilledSoFar (log : List Entry) (pages : List Version) (records : List Entry) (filling : Filling) : Type 0 where
  pub heard : HearsLog log pages records filling
  pub rooms : RoomsSoFar pages records

-- The other half.

recs_on : (number : ℕ) (us : List Entry) → map (λ (u : Entry). before_of u.rec) (filter (is_on number) us) ≡ map before_of (filter (λ u. is_number number (number_of u)) (map (λ (u : Entry). u.rec) us))
recs_on number [] = grind (arith, common_steps)
recs_on number (u ∷ us) = grind (arith, common_steps, (recs_on number us))

open_is : (log : List Entry) (pages : List Version) (number : ℕ) → open_length log pages number ≡ opened log pages (put_back_by log (losers log)) number
open_is log pages number = ap (λ (l : List Content). longest (shown log pages number ∷ l)) (recs_on number (flat_map (left_open log) (losers log)))

-- both
pub rule_of_both : (p : LogicalImage) → RedoneFits p → HaveRoom p.pages (opened p.log p.pages (put_back_by p.log (losers p.log))) → PagesHaveRoom p
rule_of_both p redone undone page less = grind (arith, room_as, below, open_is)

pub both_of_rule : (p : LogicalImage) → PagesHaveRoom p → RedoneFits p × HaveRoom p.pages (opened p.log p.pages (put_back_by p.log (losers p.log)))
both_of_rule p rule = grind (arith, room_as, below, open_is)

-- the Updates of one more transaction
pub put_back_more : (log : List Entry) (t : ℕ) (txns : List ℕ) → put_back_by log (t ∷ txns) ≡ map (λ (u : Entry). u.rec) (left_open log t) ++ put_back_by log txns
put_back_more log t txns = map-append (λ (u : Entry). u.rec) (left_open log t) (flat_map (left_open log) txns)

-- those of chains
pub keeps_open : (p : LogicalImage) (chains : Chains) → LosersCanBeUndone p → AreChains p.log p.log chains → KeepsOpen p.log chains
keeps_open p chains rule is t listed = grind (arith, common_steps, chains_of)

-- The lengths of one page.

pub kept_as : {S : Type 0} (pages : List Version) (f g : ℕ → ℕ) (kept : IndexMap ℕ PageLengths S) → ((number : ℕ) → number / 32 < length pages → g number ≡ f number) → AreKept pages f kept → AreKept pages g kept
kept_as pages f g kept same are = grind (arith, common_steps, on)

-- another length in a slot
set_on : (pages : List Version) (f g : ℕ → ℕ) (page number n : ℕ) (on : PageLengths) → AreOn pages f page on → number / 32 ≡ page → length on.lengths ≡ 32 → g number ≡ n → ((m : ℕ) → m / 32 ≡ page → (m ≡ number → ⊥) → g m ≡ f m) →
    AreOn pages g page (record { lsn = on.lsn; lengths = slice_set on.lengths (number % 32) n })
set_on pages f g page number n on are at size own others = grind (arith, common_steps, on, get_or-set_same, get_or-set_other)

pub off_number : (o : Option ℕ) (m number : ℕ) → o ≡ Some number → (m ≡ number → ⊥) → is_number m o ≡ false
off_number o m number on other = ap (is_number m) on ∙ ne_eqb number m (λ same. other (sym same))

on_number : (o : Option ℕ) (number : ℕ) → o ≡ Some number → is_number number o ≡ true
on_number o number on = ap (is_number number) on ∙ eq-eqb number number refl

pub opened_off : (log : List Entry) (pages : List Version) (updates : List LogRecord) (u : LogRecord) (m : ℕ) → is_number m (number_of u) ≡ false → opened log pages (updates ++ u ∷ []) m ≡ opened log pages updates m
opened_off log pages updates u m off = opened_more log pages m updates u ∙ ap (λ (b : Bool). cond b (max (opened log pages updates m) (length_of (before_of u))) (opened log pages updates m)) off

pub after_on : (pages : List Version) (records : List Entry) (e : Entry) (page number : ℕ) (on : PageLengths) → number_of e.rec ≡ Some number → number / 32 ≡ page → length on.lengths ≡ 32 → AreOn pages (filled pages records) page on →
    AreOn pages (filled pages (records ++ e ∷ [])) page (cond (nat_lt on.lsn e.lsn) (record { lsn = on.lsn; lengths = slice_set on.lengths (number % 32) (length_of (after_of e.rec)) }) on)
after_on pages records e page number on is at size are = grind (arith, common_steps, nat_lt, on, filled_more, lengths, set_on, on_number, filled_off, off_number)

pub raised_on : (log : List Entry) (pages : List Version) (updates : List LogRecord) (u : LogRecord) (page number : ℕ) (on : PageLengths) → number_of u ≡ Some number → number / 32 ≡ page → length on.lengths ≡ 32 → AreOn pages (opened log pages updates) page on →
    AreOn pages (opened log pages (updates ++ u ∷ [])) page (record { lsn = on.lsn; lengths = slice_set on.lengths (number % 32) (max (slice_index_or on.lengths (number % 32) 0) (length_of (before_of u))) })
raised_on log pages updates u page number on is at size are = grind (arith, common_steps, set_on, on, opened_more, on_number, opened_off, off_number)

-- The lengths of all pages.

-- one number more is added
pub sum_step : (lengths : List ℕ) (page slot total : ℕ) → slot < 32 → total ≡ sum_by (λ number. slice_index_or lengths (number % 32) 0) (range_with_len (32 * page) slot) →
    total + slice_index_or lengths slot 0 ≡ sum_by (λ number. slice_index_or lengths (number % 32) 0) (range_with_len (32 * page) (slot + 1))
sum_step lengths page slot total less is =
    let at : (32 * page + slot) % 32 ≡ slot = omega (arith, less) in
    let more = ap (λ (n : ℕ). sum_by (λ number. slice_index_or lengths (number % 32) 0) (range_with_len (32 * page) n)) (let one : slot + 1 ≡ suc slot = omega arith in one) ∙ sum_last (λ number. slice_index_or lengths (number % 32) 0) (32 * page) slot in
    let last = ap (λ (k : ℕ). slice_index_or lengths k 0) at in
    omega (arith, is, more, last)

pub fits_by : (f : ℕ → ℕ) (page n total : ℕ) → n ≡ 32 → total ≡ sum_by f (range_with_len (32 * page) n) → IsTrue (nat_le total 3952) ↔ (total_on page f ≤ page_room)
unfolding total_on
fits_by f page n total end is =
    let all : total ≡ sum_by f (range_with_len (32 * page) 32) = is ∙ ap (λ (k : ℕ). sum_by f (range_with_len (32 * page) k)) end in
    (λ yes. let few = leb-true total 3952 yes in omega (arith, all, few), λ fits. le-leb total 3952 (omega (arith, all, fits)))

pub of_version : (pages : List Version) (page : ℕ) (octets : List ℕ) (lengths : ℕ → ℕ) (on : PageLengths) → version_at pages page ≡ version_in octets → on.lsn ≡ lsn_of octets →
    ((slot : ℕ) → slot < 32 → slice_index_or on.lengths slot 0 ≡ length_of (content_at (slots_of octets) slot)) → AreKeptOn pages lengths page None → AreOn pages lengths page on
of_version pages page octets lengths on version lsn each kept = grind (arith, common_steps)

pub put_kept : {S : Type 0} (pages : List Version) (old new : ℕ → ℕ) (before after : IndexMap ℕ PageLengths S) (page : ℕ) (on : PageLengths) → AreKept pages old before → AreOn pages new page on → ((number : ℕ) → (number / 32 ≡ page → ⊥) → new number ≡ old number) →
    ((n : ℕ) → get nat_eq after n ≡ cond (nat_eq page n) (Some on) (get nat_eq before n)) → AreKept pages new after
put_kept pages old new before after page on kept are others updates = grind (arith, common_steps, on, eq-eqb, ne_eqb)

pub fit_of : (pages : List Version) (new : ℕ → ℕ) (page : ℕ) (on : PageLengths) (fits : Bool) → AreOn pages new page on → (IsTrue fits ↔ (total_on page (λ number. slice_index_or on.lengths (number % 32) 0) ≤ page_room)) → IsTrue fits ↔ (total_on page new ≤ page_room)
fit_of pages new page on fits are says = (
  λ yes. total_as page page_room (λ number. slice_index_or on.lengths (number % 32) 0) new (λ number here. same_less (slice_index_or on.lengths (number % 32) 0) (new number) (are.each number here)) (says.0 yes),
  λ room. says.1 (total_as page page_room new (λ number. slice_index_or on.lengths (number % 32) 0) (λ number here. same_less (new number) (slice_index_or on.lengths (number % 32) 0) (sym (are.each number here))) room),
)

-- what is kept behind a record on no number, on one of no page, and on one of a page
module _ {S : Type 0} (pages : List Version) (old new : ℕ → ℕ) (o : Option ℕ) where
  pub fills_none : (kept : IndexMap ℕ PageLengths S) → o ≡ None → ((m : ℕ) → is_number m o ≡ false → new m ≡ old m) → AreKept pages old kept → Fills pages new o kept true
  fills_none kept none same are = grind (arith, common_steps, kept_as)

  pub fills_past : (number : ℕ) (kept : IndexMap ℕ PageLengths S) → o ≡ Some number → length pages ≤ number / 32 → ((m : ℕ) → is_number m o ≡ false → new m ≡ old m) → AreKept pages old kept → Fills pages new o kept true
  fills_past number kept on past same are = grind (arith, common_steps, kept_as, off_number, on)

pub fills_on : {S : Type 0} (pages : List Version) (new : ℕ → ℕ) (o : Option ℕ) (number : ℕ) (kept : IndexMap ℕ PageLengths S) (fits : Bool) → o ≡ Some number → number / 32 < length pages → AreKept pages new kept × (IsTrue fits ↔ (total_on (number / 32) new ≤ page_room)) → Fills pages new o kept fits
fills_on pages new o number kept fits on less says = grind (arith, common_steps, on, below)

-- All that undo puts back.

-- of all these Updates some are left, and the pages have room for the others
pub record Leaving {S : Type 0} (log : List Entry) (pages : List Version) (whole rest : List LogRecord) (kept : IndexMap ℕ PageLengths S) : Type 0 where
  pub done : List LogRecord
  pub split : whole ≡ done ++ rest
  pub kept_so : AreKept pages (opened log pages done) kept
  pub room : HaveRoom pages (opened log pages done)

module _ {S : Type 0} (log : List Entry) (pages : List Version) (whole : List LogRecord) where
  pub leaving_first : (done rest : List LogRecord) (kept : IndexMap ℕ PageLengths S) → whole ≡ done ++ rest → AreKept pages (opened log pages done) kept → HaveRoom pages (opened log pages done) → Leaving log pages whole rest kept
  leaving_first done rest kept split are room = record { done = done; split = split; kept_so = are; room = room }

  module _ (u : LogRecord) (rest : List LogRecord) (old new : IndexMap ℕ PageLengths S) (leaving : Leaving log pages whole (u ∷ rest) old) where
    longer : whole ≡ (leaving.done ++ u ∷ []) ++ rest
    longer = leaving.split ∙ sym (append_assoc leaving.done (u ∷ []) rest)

    pub leaving_more : (fits : Bool) → fits ≡ true → Fills pages (opened log pages (leaving.done ++ u ∷ [])) (number_of u) new fits → Leaving log pages whole rest new
    leaving_more fits good fills = record {
      done = leaving.done ++ u ∷ [];
      split = longer;
      kept_so = fills.kept_so;
      room = room_more pages (opened log pages leaving.done) (opened log pages (leaving.done ++ u ∷ [])) (number_of u) (λ m off. opened_off log pages leaving.done u m off) leaving.room (fills.fits_so.0 good);
    }

    pub leaving_fails : (fits : Bool) → fits ≡ false → Fills pages (opened log pages (leaving.done ++ u ∷ [])) (number_of u) new fits → HaveRoom pages (opened log pages whole) → ⊥
    leaving_fails fits bad fills all = true≢false (sym (fills.fits_so.1 (fits_in (number_of u) (room_before log pages (leaving.done ++ u ∷ []) rest (subst (λ (l : List LogRecord). HaveRoom pages (opened log pages l)) longer all)))) ∙ bad)
      where
        fits_in : (o : Option ℕ) → HaveRoom pages (opened log pages (leaving.done ++ u ∷ [])) → FitsAt pages (opened log pages (leaving.done ++ u ∷ [])) o
        fits_in None room = tt
        fits_in (Some number) room = λ less. room (number / 32) less

  module _ (kept : IndexMap ℕ PageLengths S) (leaving : Leaving log pages whole [] kept) where
    none_left : whole ≡ leaving.done
    none_left = leaving.split ∙ append-nil leaving.done

    pub left_kept : AreKept pages (opened log pages whole) kept
    left_kept = subst (λ (l : List LogRecord). AreKept pages (opened log pages l) kept) (sym none_left) leaving.kept_so

    pub left_room : HaveRoom pages (opened log pages whole)
    left_room = subst (λ (l : List LogRecord). HaveRoom pages (opened log pages l)) (sym none_left) leaving.room

-- the last of some records comes first where they run back
pub last_first : (xs : List LogRecord) (k : ℕ) (x : LogRecord) → k < length xs → x ≡ get_or xs k x → reverse (take (suc k) xs) ≡ x ∷ reverse (take k xs)
last_first xs k x inside at = grind (arith, common_steps, reverse-append, get_or)

-- a version has room for what its slots have
pub first_room : (g : Geometry) (image : Image) → AreVersions g image → HaveRoom (versions_on g image) (filled (versions_on g image) [])
first_room g image sound page less =
    let within : page < g.pages = let count = length-versions g image in omega (arith, less, count) in
    values_fit (version_on g image page) (filled (versions_on g image) []) page (sound page within) (λ slot low.
    ap length_of (slot_of_page (versions_on g image) page slot low ∙ ap (λ (v : Version). content_at v.slots slot) (version_is g image page within)) ∙ slot_length (version_on g image page) slot (sound page within) low)

-- those of a log before one of it
pub below_it : (log front : List Entry) (e : Entry) (back : List Entry) (from to : ℕ) → log ≡ front ++ e ∷ back → IsInOrder from log to → AllByRecursion (λ x. x.lsn < e.lsn) front
below_it log front e back from to split order = all_below from front e.lsn (in_order_left from front e back to (subst (λ (l : List Entry). IsInOrder from l to) split order))

-- each of a list of losers is on it
pub all_listed : (ns : List ℕ) → AllByRecursion (λ n. list_any (λ m. m == n) ns ≡ true) ns
all_listed [] = grind (arith, common_steps)
all_listed (n ∷ ns) = grind (arith, common_steps, or_left, eq-eqb, all_weaker, or_right, (all_listed ns))

-- the transactions of entries
txns_of : (log : List Entry) (ns : List ℕ) → map (λ (e : ℕ × Left). e.0) (map entry_of (map (unfinished_at log) ns)) ≡ ns
txns_of log [] = refl
txns_of log (n ∷ ns) = ap (λ (l : List ℕ). n ∷ l) (txns_of log ns)

pub left_txns : (log : List Entry) (left : BTreeMap ℕ Left) → AreLeft log left → map (λ (e : ℕ × Left). e.0) left.entries ≡ losers log
left_txns log left is = ap (map (λ (e : ℕ × Left). e.0)) is.are ∙ txns_of log (losers log)

-- those of one more transaction
module _ {S : Type 0} (log : List Entry) (pages : List Version) (whole : List LogRecord) (t : ℕ) (txns : List ℕ) (own : List LogRecord) (old new : IndexMap ℕ PageLengths S) (leaving : Leaving log pages whole (put_back_by log (t ∷ txns)) old) (is : own ≡ map (λ (u : Entry). u.rec) (left_open log t)) where
  with_chain : whole ≡ (leaving.done ++ own) ++ put_back_by log txns
  with_chain = leaving.split ∙ ap (λ (l : List LogRecord). leaving.done ++ l) (put_back_more log t txns ∙ ap (λ (l : List LogRecord). l ++ put_back_by log txns) (sym is)) ∙ sym (append_assoc leaving.done own (put_back_by log txns))

  pub leaving_chain : {P : Type 0} (failing : Option P) → is_none failing ≡ true → Opens log pages (leaving.done ++ own) new failing → Leaving log pages whole (put_back_by log txns) new
  leaving_chain failing none opens = record { done = leaving.done ++ own; split = with_chain; kept_so = opens.kept_so none; room = opens.fit.0 none }

  pub chain_fails : {P : Type 0} (failing : Option P) → is_none failing ≡ false → Opens log pages (leaving.done ++ own) new failing → HaveRoom pages (opened log pages whole) → ⊥
  chain_fails failing some opens all = true≢false (sym (opens.fit.1 (room_before log pages (leaving.done ++ own) (put_back_by log txns) (subst (λ (l : List LogRecord). HaveRoom pages (opened log pages l)) with_chain all))) ∙ some)

-- what is said under premises
pub under : {T A : Type 0} (r : Result T Stop) (P : A → T → Type 0) → ((a : A) → IfOk r (P a)) → IfOk r (λ x. (a : A) → P a x)
under (Ok x) P says = says
under (Err stop) P says = tt
