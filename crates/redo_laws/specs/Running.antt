-- A log that runs on behind its sealed blocks.
use Rattle.std.specs.Prelude.{◌≡◌, ℕ, ◌-◌, ◌≤◌, List}
use Rattle.record_model.specs.State.{Content}
use Rattle.log_records.specs.declared.log_record.LogRecord.{LogRecord}
use Rattle.log_records.specs.Log.{Entry}
use Rattle.log_records.specs.Sound.{LogicalImage, Means}
use Rattle.log_laws.specs.Follow.{next_entries, table_after_all}
use Rattle.log_laws.specs.Tail.{Carries, CommitsRunOn, whole}

-- The table after each number of commits; how many of them are sealed at least, and how many there are.
pub record History : Type 0 where
  pub tables : ℕ → List Content
  pub floor : ℕ
  pub commits : ℕ

-- no commit waits for its seal
abbrev pub settled : List Content → ℕ → History
settled table commits = record { tables = λ count. table; floor = commits; commits = commits }

-- What is sealed stands for the table after so many commits, from the floor on. The records of the tail follow, with
-- the other commits, and these are all records: they stand for the table after all commits.
pub record RunsOn (p : LogicalImage) (tail : List LogRecord) (records : List Entry) (history : History) : Type 0 where
  pub carries : Carries p tail
  pub count : ℕ
  pub from_floor : history.floor ≤ count
  pub within : count ≤ history.commits
  pub means : Means p (history.tables count) count
  pub run_on : CommitsRunOn p tail (history.commits - count)
  pub table_is : history.tables history.commits ≡ table_after_all (history.tables count) p.log (next_entries p tail)
  pub records_are : whole p tail ≡ records
