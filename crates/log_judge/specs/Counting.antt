-- The numbers of the commits, counted record by record.
use Rattle.std.specs.Prelude.{◌≡◌, ◌⊎◌, ℕ, ◌+◌, ◌*◌, ◌≤◌, ◌<◌, Bool, if◌then◌else◌}
use Rattle.std.specs.Prelude.{Option, Some, None, List, ◌++◌, length}
use Rattle.std.specs.List.{range_with_len}
use Rattle.log_records.specs.Log.{Entry}
use Rattle.log_records.specs.Sound.{commit_numbers, before_block, from_block}
use Rattle.log_judge.specs.declared.commits.Numbers.{Numbers}

-- what was heard: the numbers run on from the first one, and so many stand before the redo block and from it on
pub record Heard (redo : ℕ) (numbers : Numbers) (records : List Entry) : Type 0 where
  pub early : numbers.early ≡ length (commit_numbers (before_block redo records))
  pub late : numbers.late ≡ length (commit_numbers (from_block redo records))
  pub run_on : commit_numbers records ≡ range_with_len numbers.first (numbers.early + numbers.late)

-- these are the numbers that were heard; or they don't run on, whatever records come behind
abbrev pub NumbersAre : ℕ → List Entry → Option Numbers → Type 0
NumbersAre redo records (Some numbers) = Heard redo numbers records
NumbersAre redo records None = (rest : List Entry) (a n : ℕ) → commit_numbers (records ++ rest) ≡ range_with_len a n → ⊥

-- one Commit more, before the redo block or from it on
pub record Counts (old : Numbers) (number : ℕ) (early : Bool) (new : Numbers) : Type 0 where
  pub early_more : new.early ≡ old.early + (if early then 1 else 0)
  pub late_more : new.late ≡ old.late + (if early then 0 else 1)
  pub first : old.early + old.late ≡ 0 → new.first ≡ number
  pub kept : 0 < old.early + old.late → new.first ≡ old.first

-- the last Commit before the redo block has the master's count, and there are no more than octets of sealed blocks
pub record Fit (first early late commits hi : ℕ) : Type 0 where
  pub run_on : (early + late ≡ 0) ⊎ (first + early ≡ commits + 1)
  pub room : commits + late ≤ 512 * hi
