-- What a run or a load leaves opens again.
use Rattle.std.specs.Prelude.{◌≡◌, ℕ, ◌+◌, List, ◌++◌, IsTrue}
use Rattle.site.specs.State.{State as Site, Image, Snapshot, no_loose, snapshot_of}
use Rattle.site.specs.Moments.{LeavesOnly}
use Rattle.site.specs.declared.geometry.Geometry.{Geometry}
use Rattle.record_model.specs.State.{State}
use Rattle.record_model.specs.Run.{IsInRange, after_commits, commit_marks}
use Rattle.face.specs.Headline.{Durability, IsGood, ran}
use Rattle.face.specs.RunMeaning.{texts}
use Rattle.face.specs.Run.{Run, turns_of}
use Rattle.command_line.specs.declared.request.Load.{Load}
use Rattle.face.specs.Loads.{Allows, LoadDurability}
use Rattle.face.specs.Workload.{load_run, summary_text}

-- On each honest and quiet site with these contents a run opens, with the table after so many commits of this run, and
-- with their count.
pub record OpensAfter (run : Run) (k : ℕ) (image : Image) : Type 0 where
  pub next : State
  pub good : (site : Site) → IsTrue site.honest → site.loose ≡ no_loose → site.image ≡ image →
      IsGood run.geometry next site
  pub table : next.table ≡ after_commits run.opening.table (turns_of run) k
  pub commits : next.commits ≡ run.opening.commits + k

-- what is left opens after some number of commits in the range of what was told
pub record OpensAgain (run : Run) (so_far : List ℕ) (left : Snapshot) : Type 0 where
  pub told : List ℕ
  pub told_is : left.told ≡ so_far ++ told
  pub k : ℕ
  pub in_range : IsInRange told (texts run) (commit_marks (turns_of run)) k
  pub opens : OpensAfter run k left.image

-- what a crash at any moment leaves, and what stands there when the run is over: that site itself, where it is quiet,
-- or else once its devices are synced
pub record LivesOn (run : Run) (old new : Site) : Type 0 where
  pub any_moment : LeavesOnly old new (OpensAgain run old.told)
  pub now : OpensAgain run old.told (snapshot_of new)

abbrev pub LawOfLives : Type 0
LawOfLives =
    (g : Geometry) (opening : State) (old new : Site) (status : ℕ) → (d : Durability g opening old new status) →
    LivesOn (ran d) old new

-- The same of a load: after a number of commits that what was told of it allows.
pub record LoadOpensAgain (run : Run) (summary fault so_far : List ℕ) (left : Snapshot) : Type 0 where
  pub told : List ℕ
  pub told_is : left.told ≡ so_far ++ told
  pub k : ℕ
  pub allowed : Allows run summary fault told k
  pub opens : OpensAfter run k left.image

pub record LoadLivesOn (run : Run) (summary fault : List ℕ) (old new : Site) : Type 0 where
  pub any_moment : LeavesOnly old new (LoadOpensAgain run summary fault old.told)
  pub now : LoadOpensAgain run summary fault old.told (snapshot_of new)

abbrev pub LawOfLoads : Type 0
LawOfLoads =
    (load : Load) (g : Geometry) (opening : State) (old new : Site) (status : ℕ) →
    (d : LoadDurability load g opening old new status) →
    LoadLivesOn (load_run g opening load) (summary_text (load_run g opening load) load) d.fault old new
