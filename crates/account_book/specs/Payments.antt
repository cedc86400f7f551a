-- What a payment does to the database.
use Rattle.std.specs.Prelude.{ℕ, ◌≤◌, List}
use Rattle.site.specs.declared.geometry.Geometry.{Geometry}
use Rattle.site.specs.Moments.{LeavesOnly}
use Rattle.record_model.specs.State.{State}
use Rattle.database.specs.Held.{Held, StandsFor}
use Rattle.database.specs.Course.{Call, Follow, LeavesCommits, may_commit_in, run_of}

-- calls of a database, one after the other, of which so many at most may make a commit
pub record MakesCalls (commits : ℕ) (before now : Held) : Type 0 where
  pub calls : List Call
  pub follow : Follow before calls now
  pub few : may_commit_in calls ≤ commits

-- Of one that stands for a state: a crash at any moment leaves the table of before, or the one of the one commit.
pub record MakesOneCommit (before now : Held) : Type 0 where
  pub made : MakesCalls 1 before now
  pub any_moment : (g : Geometry) (s : State) → StandsFor g s before →
      LeavesOnly before.site now.site (LeavesCommits g s (run_of s made.calls) 0 1 before.site.told)
