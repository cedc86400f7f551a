-- A log whose last records aren't sealed yet.
use Rattle.std.specs.Prelude.{◌≡◌, ℕ, ◌+◌, ◌*◌, List, ◌++◌}
use Rattle.std.specs.List.{range_with_len}
use Rattle.log_records.specs.declared.log_record.LogRecord.{LogRecord}
use Rattle.log_records.specs.Spelling.{used_by}
use Rattle.log_records.specs.Log.{Entry}
use Rattle.log_records.specs.Sound.{LogicalImage, InTurn, IsSound, commit_count, commit_numbers}
use Rattle.log_laws.specs.Follow.{Follows, next_entries}

-- the sealed records and those of the tail, which goes into the next block
abbrev pub whole : LogicalImage → List LogRecord → List Entry
whole p tail = p.log ++ next_entries p tail

-- the LSN that the next record of the tail gets
abbrev pub next_lsn : LogicalImage → List LogRecord → ℕ
next_lsn p tail = 512 * p.hi + used_by tail

-- a sound logical image with a tail whose records follow in turn
pub record Carries (p : LogicalImage) (tail : List LogRecord) : Type 0 where
  pub sound : IsSound p
  pub follow : InTurn (Follows p.master p.pages) p.log (next_entries p tail)

-- the tail has so many Commits, numbered on by one behind those of the logical image
abbrev pub CommitsRunOn : LogicalImage → List LogRecord → ℕ → Type 0
CommitsRunOn p tail more = commit_numbers (next_entries p tail) ≡ range_with_len (commit_count p + 1) more
