-- What the records of a log say of transactions and of the table.
use Rattle.std.specs.Prelude.{ℕ, ◌+◌, ◌*◌, ◌/◌, ◌%◌, ◌==◌, Bool, true, false, not, ◌&&◌, List, [], ◌∷◌, ◌++◌, length}
use Rattle.std.specs.Prelude.{map, filter, find, replicate, slice_index_or, Option, Some, None, if◌then◌else◌}
use Rattle.std.specs.List.{list_any, range_with_len}
use Rattle.std.specs.Option.{option_or}
use Rattle.record_model.specs.State.{Content, content_at}
use Rattle.log_records.specs.declared.log_record.LogRecord.{LogRecord}
use Rattle.log_records.specs.declared.log_record.LogRecord.TheVariants.{Begin, Update, Clr, Commit, End}
use Rattle.log_records.specs.Spelling.{spelling}

-- a record with its log sequence number
pub record Entry : Type 0 where
  pub lsn : ℕ
  pub rec : LogRecord

-- records one after the other from an LSN on
abbrev pub entries_from : ℕ → List LogRecord → List Entry
entries_from lsn [] = []
entries_from lsn (rec ∷ records) = record { lsn = lsn; rec = rec } ∷ entries_from (lsn + length (spelling rec)) records

-- the log of the blocks from a number on: a record at an offset of a block has the LSN 512 * block + offset
abbrev pub log_from : ℕ → List (List LogRecord) → List Entry
log_from number [] = []
log_from number (records ∷ blocks) = entries_from (512 * number + 2) records ++ log_from (number + 1) blocks

-- Transactions.

-- the transaction of a record, named by the LSN of its Begin
abbrev pub txn_by : ℕ → LogRecord → ℕ
txn_by lsn Begin = lsn
txn_by lsn (Update txn prev page slot before after) = txn
txn_by lsn (Clr txn prev undo_next page slot after) = txn
txn_by lsn (Commit txn number) = txn
txn_by lsn (End txn) = txn

abbrev pub txn_of : Entry → ℕ
txn_of e = txn_by e.lsn e.rec

abbrev pub is_of : ℕ → Entry → Bool
is_of t e = txn_of e == t

abbrev pub entries_of : ℕ → List Entry → List Entry
entries_of t log = filter (is_of t) log

-- a Commit or an End
abbrev pub is_closing : LogRecord → Bool
is_closing (Commit txn number) = true
is_closing (End txn) = true
is_closing _ = false

abbrev pub is_closed : List Entry → ℕ → Bool
is_closed log t = list_any (λ e. is_of t e && is_closing e.rec) log

-- a transaction that a crash left unfinished: the log has a record of it, and neither a Commit nor an End
abbrev pub is_loser : List Entry → ℕ → Bool
is_loser log t = list_any (is_of t) log && not (is_closed log t)

-- Records of the table.

-- the number of the record that an Update or a CLR is on
abbrev pub number_of : LogRecord → Option ℕ
number_of (Update txn prev page slot before after) = Some (32 * page + slot)
number_of (Clr txn prev undo_next page slot after) = Some (32 * page + slot)
number_of _ = None

abbrev pub is_number : ℕ → Option ℕ → Bool
is_number n None = false
is_number n (Some m) = m == n

abbrev pub is_on : ℕ → Entry → Bool
is_on number e = is_number number (number_of e.rec)

abbrev pub is_update : LogRecord → Bool
is_update (Update txn prev page slot before after) = true
is_update _ = false

-- what stood before an Update, and what stands after an Update or a CLR
abbrev pub before_of : LogRecord → Content
before_of (Update txn prev page slot before after) = before
before_of _ = None

abbrev pub after_of : LogRecord → Content
after_of (Update txn prev page slot before after) = after
after_of (Clr txn prev undo_next page slot after) = after
after_of _ = None

abbrev pub updates_in : List Entry → List Entry
updates_in entries = filter (λ e. is_update e.rec) entries

-- the last item that passes a test
abbrev pub last_where : {X : Type 0} → (X → Bool) → List X → Option X
last_where test [] = None
last_where test (x ∷ xs) = option_or (last_where test xs) (if test x then Some x else None)

-- the last Update or CLR on a number, and the first Update of a transaction there
abbrev pub last_on : List Entry → ℕ → Option Entry
last_on log number = last_where (is_on number) log

abbrev pub first_update : List Entry → ℕ → ℕ → Option Entry
first_update log t number = find (is_on number) (updates_in (entries_of t log))

abbrev pub before_first : Option Entry → Content
before_first None = None
before_first (Some update) = before_of update.rec

-- Values.

-- the newest version of a page: the LSN of the last record that it knows of, and its 32 slots
pub record Version : Type 0 where
  pub lsn : ℕ
  pub slots : List Content

-- the version of a page that was never written
abbrev pub blank_version : Version
blank_version = record { lsn = 0; slots = [] }

abbrev pub blank_versions : ℕ → List Version
blank_versions pages = replicate pages blank_version

abbrev pub version_at : List Version → ℕ → Version
version_at versions page = slice_index_or versions page blank_version

-- the slot of a record
abbrev pub slot_at : List Version → ℕ → Content
slot_at versions number = content_at (version_at versions (number / 32)).slots (number % 32)

-- what a slot shows once all records are redone
abbrev pub shown_by : Content → Option Entry → Content
shown_by slot None = slot
shown_by slot (Some x) = after_of x.rec

abbrev pub shown : List Entry → List Version → ℕ → Content
shown log pages number = shown_by (slot_at pages number) (last_on log number)

-- What a record of the table has, by its slot and by the last Update or CLR on it. A loser counts as undone:
-- what stood before its first Update there is back. (Its transaction has a record in the log, so it is a loser unless
-- it is closed.)
abbrev pub value_after : List Entry → ℕ → Content → Option Entry → Content
value_after log number slot None = slot
value_after log number slot (Some x) =
    if is_closed log (txn_of x) then after_of x.rec else before_first (first_update log (txn_of x) number)

abbrev pub value_of : List Entry → List Version → ℕ → Content
value_of log versions number = value_after log number (slot_at versions number) (last_on log number)

-- the table that a log stands for, over the newest versions of all pages
abbrev pub table_of : List Entry → List Version → List Content
table_of log versions = map (value_of log versions) (range_with_len 0 (32 * length versions))
