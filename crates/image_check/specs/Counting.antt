-- What is counted of a log: its commits, and the records that undoing makes.
use Rattle.std.specs.Prelude.{◌≡◌, ℕ, ◌+◌, Option, Some, None, List, sum_by}
use Rattle.log_records.specs.Sound.{LogicalImage, AreNumbered, commit_count}
use Rattle.log_judge.specs.declared.unfinished.Left.{Left}

-- the commits are numbered on by one, and so many were made; or they aren't numbered so
abbrev pub CommitsAre : Option ℕ → LogicalImage → Type 0
CommitsAre (Some count) p = AreNumbered p × (count ≡ commit_count p)
CommitsAre None p = AreNumbered p → ⊥

-- the records that undoing all unfinished transactions makes
abbrev pub owed_for : List Left → ℕ
owed_for left = sum_by (λ x. x.remaining + 1) left
