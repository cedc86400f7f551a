-- When the records of a log, the newest versions of the pages and the newest master belong together, and what they
-- stand for.
use Rattle.std.specs.Prelude.{◌≡◌, ℕ, ◌+◌, ◌-◌, ◌*◌, ◌/◌, ◌≤◌, ◌<◌, ◌==◌, Bool, false, ◌&&◌, ◌||◌, nat_lt, nat_le, List}
use Rattle.std.specs.Prelude.{[], ◌∷◌, ◌++◌, drop, length, map, filter, filter_map, Option, Some, None, IsTrue, ⊤}
use Rattle.std.specs.List.{list_any, range_with_len, AllByRecursion}
use Rattle.record_model.specs.State.{Content, content_at, length_of, page_room}
use Rattle.log_records.specs.declared.log_record.LogRecord.{LogRecord}
use Rattle.log_records.specs.declared.log_record.LogRecord.TheVariants.{Begin, Update, Clr, Commit}
use Rattle.log_records.specs.Log.{Entry, Version, version_at, table_of, txn_of, entries_of, last_where, is_closed}
use Rattle.log_records.specs.Log.{is_loser, number_of, is_on, is_update, before_of, after_of, last_on, slot_at}
use Rattle.log_records.specs.Log.{shown_by}
use Rattle.log_records.specs.Unfinished.{is_begin, prev_of, open_updates, losers, owed}
use Rattle.log_records.specs.Room.{total_on, HasOpenRoom}

-- a transaction that was active at a checkpoint: the LSNs of its Begin and of its last record
pub record Active : Type 0 where
  pub begin : ℕ
  pub last : ℕ

-- the newest master: the block that redo begins with, the oldest kept block, the commits and the active transactions
pub record Master : Type 0 where
  pub redo : ℕ
  pub kept : ℕ
  pub commits : ℕ
  pub active : List Active

-- What three devices say, but for their octets.
pub record LogicalImage : Type 0 where
  pub master : Master
  -- the records of the kept blocks
  pub log : List Entry
  -- one past the last sealed block, and how many blocks the log has room for
  pub hi : ℕ
  pub blocks : ℕ
  -- the newest version of each page
  pub pages : List Version

-- P of each item and those before it
abbrev pub InTurn : {X : Type 0} → (List X → X → Type 0) → List X → List X → Type 0
InTurn P earlier [] = ⊤
InTurn P earlier (x ∷ xs) = P earlier x × InTurn P (earlier ++ x ∷ []) xs

-- R of each two items, the first of them before the other
abbrev pub Pairwise : {X : Type 0} → (X → X → Type 0) → List X → Type 0
Pairwise R [] = ⊤
Pairwise R (x ∷ xs) = AllByRecursion (R x) xs × Pairwise R xs

-- the records before a block, and those from it on
abbrev pub before_block : ℕ → List Entry → List Entry
before_block number log = filter (λ e. nat_lt e.lsn (512 * number)) log

abbrev pub from_block : ℕ → List Entry → List Entry
from_block number log = filter (λ e. nat_le (512 * number) e.lsn) log

-- the LSNs ascend, from one on and below another
abbrev pub IsInOrder : ℕ → List Entry → ℕ → Type 0
IsInOrder from [] to = from ≤ to
IsInOrder from (e ∷ log) to = (from ≤ e.lsn) × IsInOrder (e.lsn + 1) log to

-- an Update or a CLR is on a record of the table
abbrev pub IsInTable : List Version → Entry → Type 0
IsInTable pages e = (number : ℕ) → number_of e.rec ≡ Some number → number < 32 * length pages

-- Open transactions.

-- whether a transaction is known: the master names it, or its Begin is among these records
abbrev pub is_known : List Active → List Entry → ℕ → Bool
is_known active records t = list_any (λ a. a.begin == t) active
    || list_any (λ e. is_begin e.rec && (e.lsn == t)) records

-- a transaction is known from the redo block on, and isn't closed
pub record IsOpen (m : Master) (earlier : List Entry) (t : ℕ) : Type 0 where
  pub known : IsTrue (is_known m.active (from_block m.redo earlier) t)
  pub not_closed : is_closed earlier t ≡ false

-- from the redo block on each record but a Begin is of an open transaction
abbrev pub IsOfOpenTransaction : Master → List Entry → Entry → Type 0
IsOfOpenTransaction m earlier e = 512 * m.redo ≤ e.lsn → is_begin e.rec ≡ false → IsOpen m earlier (txn_of e)

-- no record stands before the Begin that its transaction is named by
abbrev pub HaveBegunBefore : List Entry → Type 0
HaveBegunBefore log = AllByRecursion (λ e. txn_of e ≤ e.lsn) log

-- Unfinished transactions.

-- a CLR writes back what stood before the Update, and leads on to what stands before it in its transaction
abbrev pub Compensates : LogRecord → LogRecord → Type 0
Compensates (Clr t prev undo_next page slot after) (Update t' prev' page' slot' before after') =
    (page ≡ page') × (slot ≡ slot') × (after ≡ before) × (undo_next ≡ prev')
Compensates _ _ = ⊥

-- an Update, or a CLR of the last Update that is left
abbrev pub Undoes : List Entry → LogRecord → Type 0
Undoes updates (Update txn prev page slot before after) = ⊤
Undoes (u ∷ updates) (Clr txn prev undo_next page slot after) =
    Compensates (Clr txn prev undo_next page slot after) u.rec
Undoes _ _ = ⊥

abbrev pub last_number : ℕ → List ℕ → ℕ
last_number n [] = n
last_number n (m ∷ numbers) = last_number m numbers

-- the LSN of the last of these records
abbrev pub last_lsn : List Entry → ℕ
last_lsn entries = last_number 0 (map (λ e. e.lsn) entries)

-- a slot has what a record has written, where there is one
abbrev pub ShowsLast : Content → Option Entry → Type 0
ShowsLast slot None = ⊤
ShowsLast slot (Some e) = slot ≡ after_of e.rec

-- A record of an unfinished transaction names the one before it, and an Update begins with what the transaction has
-- written there last.
pub record Continues (earlier : List Entry) (e : Entry) : Type 0 where
  pub linked : prev_of e.rec ≡ last_lsn earlier
  pub undoes : Undoes (open_updates [] earlier) e.rec
  pub begins_there : (number : ℕ) → IsTrue (is_update e.rec) → number_of e.rec ≡ Some number
      → ShowsLast (before_of e.rec) (last_on earlier number)

-- what the log has of an unfinished transaction: its Begin, then Updates and CLRs, each CLR of the last Update that is
-- left
pub record IsLoserChain (begin : ℕ) (entries : List Entry) : Type 0 where
  pub begins : entries ≡ record { lsn = begin; rec = Begin } ∷ drop 1 entries
  pub continues : InTurn Continues (record { lsn = begin; rec = Begin } ∷ []) (drop 1 entries)

-- where an unfinished transaction has an Update on a number, a record there behind it is its own
abbrev pub HoldsOff : List Entry → Entry → Entry → Type 0
HoldsOff log u e =
    (number : ℕ) → IsTrue (is_update u.rec) → IsTrue (is_on number u) → IsTrue (is_on number e)
    → is_closed log (txn_of u) ≡ false → txn_of u ≡ txn_of e

-- the unfinished transactions of these records, each with the LSN of its last one
abbrev pub active_in : List Entry → List Active
active_in log = map (λ t. record { begin = t; last = last_lsn (entries_of t log) }) (losers log)

-- Versions of pages.

-- the last record on a number that a version can know of
abbrev pub last_known : List Entry → ℕ → ℕ → Option Entry
last_known log lsn number = last_where (λ e. is_on number e && nat_le e.lsn lsn) log

-- what the last record up to an LSN has written to a number, or what the number's slot has where there is none
abbrev pub redone : LogicalImage → ℕ → ℕ → Content
redone p lsn number = shown_by (slot_at p.pages number) (last_known p.log lsn number)

-- A version of a page doesn't know of a record that isn't in a sealed block. It has what the last record on each slot
-- that it knows of has written, and it knows of each record of the page before the redo block.
pub record FitsLog (p : LogicalImage) (page : ℕ) (v : Version) : Type 0 where
  pub logged : IsTrue ((v.lsn == 0) || nat_lt v.lsn (512 * p.hi))
  pub shows : (slot : ℕ) → slot < 32 → ShowsLast (content_at v.slots slot) (last_known p.log v.lsn (32 * page + slot))
  pub knows : AllByRecursion (λ e. (number : ℕ) → number_of e.rec ≡ Some number → number / 32 ≡ page
      → e.lsn ≤ v.lsn) (before_block p.master.redo p.log)

-- Commits.

abbrev pub commit_number_by : LogRecord → Option ℕ
commit_number_by (Commit txn number) = Some number
commit_number_by _ = None

abbrev pub commit_number : Entry → Option ℕ
commit_number e = commit_number_by e.rec

-- the numbers of the commits, in order
abbrev pub commit_numbers : List Entry → List ℕ
commit_numbers log = filter_map commit_number log

-- the commits that the logical image stands for
abbrev pub commit_count : LogicalImage → ℕ
commit_count p = p.master.commits + length (commit_numbers (from_block p.master.redo p.log))

-- The commits are numbered on by one, up to the master's count before the redo block and from there on. They are no
-- more than the octets of the sealed blocks.
pub record AreNumbered (p : LogicalImage) : Type 0 where
  pub before_redo : length (commit_numbers (before_block p.master.redo p.log)) ≤ p.master.commits + 1
  pub run_on : let before = length (commit_numbers (before_block p.master.redo p.log)) in
      commit_numbers p.log ≡ range_with_len (p.master.commits + 1 - before) (length (commit_numbers p.log))
  pub fit : commit_count p ≤ 512 * p.hi

-- Room.

-- there are blocks for all that undo will write
abbrev pub HasRoom : LogicalImage → Type 0
HasRoom p = p.hi - p.master.kept + owed p.log ≤ p.blocks - 1

-- A page has room for the values of its records: for what is redone up to each LSN that its version doesn't go beyond,
-- and for all that undo may put back.
pub record HasRoomInPage (p : LogicalImage) (page : ℕ) : Type 0 where
  pub redone_fits : (lsn : ℕ) → (version_at p.pages page).lsn ≤ lsn
      → total_on page (λ number. length_of (redone p lsn number)) ≤ page_room
  pub open_fits : HasOpenRoom p.log p.pages page

-- The records, versions and master of a logical image belong together: the part of soundness that speaks of lists.
pub record IsSound (p : LogicalImage) : Type 0 where
  -- the kept blocks are there, and redo begins among them
  pub kept_before_redo : p.master.kept ≤ p.master.redo
  pub redo_before_end : p.master.redo ≤ p.hi
  pub kept_is_live : p.hi ≤ p.master.kept + (p.blocks - 1)
  -- the records have the LSNs of these blocks, and are on records of the table
  pub in_order : IsInOrder (512 * p.master.kept) p.log (512 * p.hi)
  pub in_table : AllByRecursion (IsInTable p.pages) p.log
  pub open_transactions : InTurn (IsOfOpenTransaction p.master) [] p.log
  pub begun : HaveBegunBefore p.log
  -- an unfinished transaction can be undone by the records of the log
  pub losers_can_be_undone : (t : ℕ) → IsTrue (is_loser p.log t) → IsLoserChain t (entries_of t p.log)
  -- what an unfinished transaction has written no other one writes
  pub losers_hold_others_off : Pairwise (HoldsOff p.log) p.log
  pub versions_fit : (page : ℕ) → page < length p.pages → FitsLog p page (version_at p.pages page)
  pub room_for_undo : HasRoom p
  -- the master names the transactions that were active at the redo block
  pub master_names_the_active : p.master.active ≡ active_in (before_block p.master.redo p.log)
  pub commits : AreNumbered p
  -- redo and undo never overfill a page
  pub room_in_pages : (page : ℕ) → page < length p.pages → HasRoomInPage p page

-- The table that a logical image stands for, and how many commits made it.
pub record Means (p : LogicalImage) (table : List Content) (count : ℕ) : Type 0 where
  pub table_is : table ≡ table_of p.log p.pages
  pub count_is : count ≡ commit_count p

-- One fact more, which each log has that runs leave: a record is of a transaction that has begun and isn't closed.
pub record IsOrderly (earlier : List Entry) (e : Entry) : Type 0 where
  pub begun : txn_of e ≤ e.lsn
  pub not_closed : is_closed earlier (txn_of e) ≡ false

abbrev pub AreOrderly : List Entry → Type 0
AreOrderly log = InTurn IsOrderly [] log
