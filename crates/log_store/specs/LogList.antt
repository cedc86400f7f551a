-- The log as a list of records.
use Rattle.std.specs.Prelude.{ℕ, ◌+◌, ◌-◌, ◌*◌, ◌==◌, max, slice_index_or, Option, Some, None, if◌then◌else◌, Bool}
use Rattle.std.specs.Prelude.{true, false, List, [], ◌∷◌, ◌++◌, length, drop}
use Rattle.log_records.specs.declared.log_record.LogRecord.{LogRecord}
use Rattle.log_records.specs.Log.{Entry, entries_from, log_from}
use Rattle.image_changes.specs.Changes.{Change, SealsBlock}

-- the records of the sealed blocks from a number on, block by block, and behind them those of the tail
pub record LogList : Type 0 where
  pub first : ℕ
  pub blocks : List (List LogRecord)
  pub tail : List LogRecord

-- the number of the block that the tail goes into
abbrev pub next_block : LogList → ℕ
next_block log = log.first + length log.blocks

-- the sealed records, and all records, each with its LSN
abbrev pub sealed : LogList → List Entry
sealed log = log_from log.first log.blocks

abbrev pub entries : LogList → List Entry
entries log = sealed log ++ entries_from (512 * next_block log + 2) log.tail

-- the record with an LSN
abbrev pub at_lsn : ℕ → List Entry → Option LogRecord
at_lsn lsn [] = None
at_lsn lsn (entry ∷ entries) = if entry.lsn == lsn then Some entry.rec else at_lsn lsn entries

-- the records of a sealed block
abbrev pub sealed_block : LogList → ℕ → List LogRecord
sealed_block log block = slice_index_or log.blocks (block - log.first) []

-- the log with its tail sealed, where that is wanted, and the change that this makes
abbrev pub sealed_if : Bool → LogList → LogList
sealed_if true log = record { first = log.first; blocks = log.blocks ++ log.tail ∷ []; tail = [] }
sealed_if false log = log

abbrev pub changes_if : Bool → LogList → List Change
changes_if true log = SealsBlock log.tail ∷ []
changes_if false log = []

-- the log with one more record in its tail
abbrev pub with_record : LogRecord → LogList → LogList
with_record rec log = record log { tail = log.tail ++ rec ∷ [] }

-- the log from a block on
abbrev pub from_block : ℕ → LogList → LogList
from_block block log = record {
  first = max log.first block;
  blocks = drop (block - log.first) log.blocks;
  tail = log.tail;
}
