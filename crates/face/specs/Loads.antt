-- What a load does, and what a crash at any moment leaves of it.
use Rattle.std.specs.Prelude.{◌≡◌, ◌≢◌, ◌⊎◌, ℕ, ◌-◌, ◌≤◌, List, [], ◌∷◌, ◌++◌, length}
use Rattle.std.specs.Prelude.{Result, IfErr, OnOk}
use Rattle.site.specs.State.{State as Site, Moment, Snapshot, MayLeave, now_of, no_loose}
use Rattle.site.specs.Moments.{EachMoment, Leaves, LeavesOnly}
use Rattle.site.specs.declared.geometry.Geometry.{Geometry}
use Rattle.record_model.specs.State.{State}
use Rattle.record_model.specs.Run.{commit_marks, commits_among}
use Rattle.engine.specs.declared.engine.Engine.{Engine}
use Rattle.front_end.specs.declared.halt.Halt.{Halt}
use Rattle.front_end.specs.declared.halt.Halt.TheVariants.{Output}
use Rattle.command_line.specs.declared.request.Load.{Load}
use Rattle.face.specs.Done.{TellsFaultLine, TellsWhenDone}
use Rattle.face.specs.RunInProgress.{HasServed}
use Rattle.face.specs.Headline.{IsFaultOf, Resources}
use Rattle.front_end.specs.Tells.{EndsBehind}
use Rattle.face.specs.RunMeaning.{WritesAsBegun, all_commits, StandsAfter}
use Rattle.face.specs.Run.{Run, IsFront, answered, first_lines, turns_of}
use Rattle.front_end.specs.Texts.{IsLineOf, status_of}
use Rattle.face.specs.Working.{Demands}
use Rattle.face.specs.Worn.{WearsNoneBefore}
use Rattle.face.specs.Workload.{committed_in, checkpoints_in, found_in, load_run, load_texts, opening_text}
use Rattle.face.specs.Workload.{summary_text}

-- What was told of a load, and how many of its commits the devices then have: none while the opening is told, or a
-- fault line in its place; some of them once the opening is told, also while a fault line is told behind it; all of
-- them while the summary is told.
abbrev pub Allows : Run → List ℕ → List ℕ → List ℕ → ℕ → Type 0
Allows run summary fault told k =
    ((IsFront told (opening_text run) ⊎ IsFront told fault) × (k ≡ 0))
    ⊎ (((rest : List ℕ) × (told ≡ opening_text run ++ rest) × IsFront rest fault × (k ≤ all_commits run))
    ⊎ ((rest : List ℕ) × (told ≡ opening_text run ++ rest) × IsFront rest summary × (k ≡ all_commits run)))

-- what a crash may leave of a load, where `so_far` was told before it
pub record IsLeftOf (run : Run) (summary fault so_far : List ℕ) (snapshot : Snapshot) : Type 0 where
  pub told : List ℕ
  pub told_is : snapshot.told ≡ so_far ++ told
  pub k : ℕ
  pub allowed : Allows run summary fault told k
  pub stands : StandsAfter run k snapshot.image

-- both lines are told, and the devices stand for the table after all commits
pub record IsLoaded (run : Run) (summary : List ℕ) (old new : Site) : Type 0 where
  pub told : new.told ≡ old.told ++ (opening_text run ++ summary)
  pub stands : StandsAfter run (all_commits run) new.image

-- so many lines of a load were begun where its opening is told, and the commits of all but the last of them stand there
pub record HasMadeBefore (run : Run) (so_far : List ℕ) (begun : ℕ) (snapshot : Snapshot) : Type 0 where
  pub opened : 1 ≤ begun → (rest : List ℕ) × (snapshot.told ≡ so_far ++ (opening_text run ++ rest))
  pub k : ℕ
  pub made : commits_among (begun - 1) (commit_marks (turns_of run)) ≤ k
  pub stands : StandsAfter run k snapshot.image

-- whatever a crash now leaves, so many were begun
pub record HasBegunLoad (run : Run) (begun : ℕ) (old now : Site) : Type 0 where
  pub few : begun ≤ length (turns_of run)
  pub by : Leaves (HasMadeBefore run old.told begun) (now_of now)

-- within a tell the opening is being told, and restart is done
abbrev pub TellsOpening : ℕ → Run → Site → Moment → Type 0
TellsOpening pool run old moment = (moment.telling ≡ [])
    ⊎ TellsWhenDone pool (first_lines run 0) (opening_text run ∷ []) old.told old moment

-- or the summary, and all lines are done; or the fault line
abbrev pub LoadTellsDone : ℕ → Run → List ℕ → List ℕ → Site → Moment → Type 0
LoadTellsDone pool run summary fault old moment =
    TellsOpening pool run old moment
    ⊎ (TellsWhenDone pool run (summary ∷ []) (old.told ++ opening_text run) old moment
    ⊎ TellsFaultLine (opening_text run ∷ summary ∷ []) fault old moment)

-- What a load leaves that opens with this state, and what a crash at any moment of it leaves.
pub record LoadDurability (load : Load) (g : Geometry) (opening : State) (old new : Site) (status : ℕ) : Type 0 where
  -- the fault line of the status
  pub fault : List ℕ
  pub of_status : IsLineOf status fault
  -- with any status but 6, the fault line comes behind whole texts
  pub ends : status ≢ 6 → EndsBehind (load_texts (load_run g opening load) load) fault old new
  pub any_moment : LeavesOnly old new
      (IsLeftOf (load_run g opening load) (summary_text (load_run g opening load) load) fault old.told)
  -- with any status but 3 no range is loose
  pub quiet : status ≢ 3 → new.loose ≡ no_loose
  -- with status 0 all is told and done
  pub done : status ≡ 0 →
      IsLoaded (load_run g opening load) (summary_text (load_run g opening load) load) old new
  -- no input is taken
  pub left : new.input ≡ old.input

-- what it asks of the devices
pub record LoadResources (pool : ℕ) (run : Run) (fault : List ℕ) (old new : Site) (status : ℕ) : Type 0 where
  -- how many lines were begun, the one under way with them
  pub begun : ℕ
  pub has_begun : HasBegunLoad run begun old new
  pub asked : Resources pool run begun fault old new status
  -- and no snapshot is written by lines that weren't begun by what it has
  pub written : WritesAsBegun pool run (HasMadeBefore run old.told) begun old new

-- What comes of a load that opens with this state.
pub record LoadHeadline (load : Load) (g : Geometry) (opening : State) (old new : Site) (status : ℕ) : Type 0 where
  pub durability : LoadDurability load g opening old new status
  pub caused : IsFaultOf status durability.fault old new
  pub resources : LoadResources load.pool (load_run g opening load) durability.fault old new status
  -- nothing is told but what is done, nor less at a time than is left of a line
  pub tells : EachMoment old new
      (LoadTellsDone load.pool (load_run g opening load) (summary_text (load_run g opening load) load)
      durability.fault old)

-- What comes of a load before its fault line. The summary is the empty text as long as it isn't to be told.

-- nothing is told, and a crash now leaves no commit
pub record IsUntold (run : Run) (old now : Site) : Type 0 where
  pub told : now.told ≡ old.told
  pub stands : (s : Snapshot) → MayLeave (now_of now) s → StandsAfter run 0 s.image

-- the opening is told, and a crash now leaves some of the commits
pub record IsOpened (run : Run) (old now : Site) : Type 0 where
  pub told : now.told ≡ old.told ++ opening_text run
  pub stands : (s : Snapshot) → MayLeave (now_of now) s → (k : ℕ) × (k ≤ all_commits run) × StandsAfter run k s.image

pub record LoadStops (run : Run) (summary : List ℕ) (old new : Site) (halt : Halt) : Type 0 where
  pub any_moment : LeavesOnly old new (IsLeftOf run summary [] old.told)
  pub between : halt ≢ Output → IsUntold run old new ⊎ IsOpened run old new
  pub quiet : status_of halt ≢ 3 → new.loose ≡ no_loose

pub record LoadDone (run : Run) (summary : List ℕ) (old new : Site) : Type 0 where
  pub any_moment : LeavesOnly old new (IsLeftOf run summary [] old.told)
  pub whole : IsLoaded run summary old new
  pub quiet : new.loose ≡ no_loose

pub record LoadWorks {T : Type 0} (pool : ℕ) (run : Run) (summary : List ℕ) (old new : Site) (result : Result T Halt)
    : Type 0 where
  pub stops : IfErr result (LoadStops run summary old new)
  pub done : OnOk result (LoadDone run summary old new)
  pub begun : ℕ
  pub has_begun : HasBegunLoad run begun old new
  pub written : WritesAsBegun pool run (HasMadeBefore run old.told) begun old new
  -- where it is Ok all lines were begun
  pub all : OnOk result (length (answered run) ≤ begun)
  pub demands : Demands pool (first_lines run begun) old new result
  pub earlier : WearsNoneBefore pool run begun old.image
  pub left : new.input ≡ old.input

-- what was counted is what the turns of the record model say
pub record HasCounted (run : Run) (committed checkpoints found : ℕ) : Type 0 where
  pub committed_is : committed ≡ committed_in (turns_of run)
  pub checkpoints_are : checkpoints ≡ checkpoints_in (turns_of run)
  pub found_is : found ≡ found_in (turns_of run)

-- So many lines were carried out: nothing was told of them, and a crash leaves the commits of some of them.
pub record LoadInProgress (pool : ℕ) (run : Run) (entry now : Site) (engine : Engine) (lines : ℕ) : Type 0 where
  pub served : HasServed pool run entry now engine lines
  pub open served use *
  pub told : now.told ≡ entry.told ++ opening_text run
  pub moments : LeavesOnly entry now (IsLeftOf run [] [] entry.told)
  pub written : WritesAsBegun pool run (HasMadeBefore run entry.told) lines entry now
  pub tells : EachMoment entry now (TellsOpening pool run entry)
  pub left : now.input ≡ entry.input
