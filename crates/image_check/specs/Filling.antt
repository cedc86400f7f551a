-- How many octets pages take up, record by record.
use Rattle.std.specs.Prelude.{◌≡◌, ◌↔◌, ℕ, ◌/◌, ◌%◌, ◌≤◌, ◌<◌, ◌==◌, nat_eq, nat_lt, Bool, true, false, List, [], ◌∷◌}
use Rattle.std.specs.Prelude.{length, map, filter, flat_map, reverse, slice_index_or, Option, Some, None, is_none}
use Rattle.std.specs.Prelude.{IsTrue, ⊤}
use Rattle.std.specs.List.{list_any}
use Rattle.indexmap.specs.IndexMap.{IndexMap, get}
use Rattle.record_model.specs.State.{length_of, page_room}
use Rattle.log_records.specs.declared.log_record.LogRecord.{LogRecord}
use Rattle.log_records.specs.Log.{Entry, Version, version_at, slot_at, number_of, is_number, before_of, shown}
use Rattle.log_records.specs.Unfinished.{left_open, losers}
use Rattle.log_records.specs.Room.{total_on, longest}
use Rattle.log_records.specs.Sound.{LogicalImage, redone}
use Rattle.image_check.specs.declared.chain.Chain.{Chain}
use Rattle.image_check.specs.declared.chains.Chains.{Chains}
use Rattle.image_check.specs.declared.filling.Filling.{Filling}
use Rattle.image_check.specs.declared.lengths.PageLengths.{PageLengths}
use Rattle.image_check.specs.Chaining.{AreChains}

-- whether the version of its page doesn't know of a record
abbrev pub is_behind : List Version → ℕ → Option ℕ → Bool
is_behind pages lsn None = false
is_behind pages lsn (Some number) = nat_lt (version_at pages (number / 32)).lsn lsn

abbrev pub is_news : List Version → Entry → Bool
is_news pages e = is_behind pages e.lsn (number_of e.rec)

-- how many octets a number takes up, once those of these records are redone that versions don't know of
abbrev pub filled : List Version → List Entry → ℕ → ℕ
filled pages records number = length_of (shown (filter (is_news pages) records) pages number)

-- how many it has to have room for: for what it shows once a log is redone, and for what undo of these Updates puts
-- back
abbrev pub opened : List Entry → List Version → List LogRecord → ℕ → ℕ
opened log pages updates number = longest (shown log pages number
    ∷ map before_of (filter (λ u. is_number number (number_of u)) updates))

-- these are the lengths of a page's numbers, with the LSN of its version
pub record AreOn (pages : List Version) (lengths : ℕ → ℕ) (page : ℕ) (on : PageLengths) : Type 0 where
  pub lsn : on.lsn ≡ (version_at pages page).lsn
  pub each : (number : ℕ) → number / 32 ≡ page → slice_index_or on.lengths (number % 32) 0 ≡ lengths number

-- they are kept, or they are those of its version
abbrev pub AreKeptOn : List Version → (ℕ → ℕ) → ℕ → Option PageLengths → Type 0
AreKeptOn pages lengths page None =
    (number : ℕ) → number / 32 ≡ page → length_of (slot_at pages number) ≡ lengths number
AreKeptOn pages lengths page (Some on) = AreOn pages lengths page on

-- so it is with each page
pub record AreKept {S : Type 0} (pages : List Version) (lengths : ℕ → ℕ) (kept : IndexMap ℕ PageLengths S) :
    Type 0 where
  pub each : (page : ℕ) → page < length pages → AreKeptOn pages lengths page (get nat_eq kept page)

-- these are a page's lengths, or there is no such page
abbrev pub KnownOn : List Version → (ℕ → ℕ) → ℕ → Option PageLengths → Type 0
KnownOn pages lengths page None = length pages ≤ page
KnownOn pages lengths page (Some on) = (page < length pages) × AreOn pages lengths page on

-- the page that a record is on has room for these lengths, if there is one
abbrev pub FitsAt : List Version → (ℕ → ℕ) → Option ℕ → Type 0
FitsAt pages lengths None = ⊤
FitsAt pages lengths (Some number) = number / 32 < length pages → total_on (number / 32) lengths ≤ page_room

-- these lengths are kept behind a record on a number, and it is told whether its page has room for them
pub record Fills {S : Type 0} (pages : List Version) (lengths : ℕ → ℕ) (on : Option ℕ)
    (kept : IndexMap ℕ PageLengths S) (fits : Bool) : Type 0 where
  pub kept_so : AreKept pages lengths kept
  pub fits_so : IsTrue fits ↔ FitsAt pages lengths on

-- The two halves of the twelfth rule.

-- all pages have room for these lengths
abbrev pub HaveRoom : List Version → (ℕ → ℕ) → Type 0
HaveRoom pages lengths = (page : ℕ) → page < length pages → total_on page lengths ≤ page_room

-- each page has room for what is redone on it up to each LSN that its version doesn't go beyond
abbrev pub RedoneFits : LogicalImage → Type 0
RedoneFits p = (page lsn : ℕ) → page < length p.pages → (version_at p.pages page).lsn ≤ lsn
    → total_on page (λ number. length_of (redone p lsn number)) ≤ page_room

-- What was heard of a log: how many octets pages take up behind these records, and what is kept of its unfinished
-- transactions.
pub record HearsLog (log : List Entry) (pages : List Version) (records : List Entry) (filling : Filling) : Type 0 where
  pub lengths : AreKept pages (filled pages records) filling.lengths.pages
  pub chains : AreChains log records filling.chains

-- the Updates that these transactions have left open, those of each the last one first
abbrev pub put_back_by : List Entry → List ℕ → List LogRecord
put_back_by log txns = map (λ u. u.rec) (flat_map (left_open log) txns)

-- those that are kept of one
abbrev pub left_in : Option Chain → List LogRecord
left_in None = []
left_in (Some c) = reverse c.updates.items

-- of each unfinished transaction they are kept
abbrev pub KeepsOpen : List Entry → Chains → Type 0
KeepsOpen log chains = (t : ℕ) → list_any (λ n. n == t) (losers log) ≡ true
    → left_in (get nat_eq chains.chains t) ≡ map (λ u. u.rec) (left_open log t)

-- all pages have room for these Updates too, exactly where none is found that hasn't; then that is what is kept
pub record Opens {S : Type 0} {P : Type 0} (log : List Entry) (pages : List Version) (updates : List LogRecord)
    (kept : IndexMap ℕ PageLengths S) (failing : Option P) : Type 0 where
  pub fit : IsTrue (is_none failing) ↔ HaveRoom pages (opened log pages updates)
  pub kept_so : IsTrue (is_none failing) → AreKept pages (opened log pages updates) kept
