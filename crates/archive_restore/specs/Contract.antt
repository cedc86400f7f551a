-- What `restore` does.
use Rattle.std.specs.Prelude.{◌≡◌, ◌≢◌, ◌⊎◌, ℕ, ◌≤◌, ◌<◌, ◌-◌, List, [], length, Result, Ok, IfErr, OnOk, IsTrue, ⊤}
use Rattle.site.specs.State.{State as Site, MayLeave, Snapshot, now_of, no_loose}
use Rattle.site.specs.Telling.{SameDevices}
use Rattle.site.specs.declared.geometry.Geometry.{Geometry}
use Rattle.site.specs.Moments.{LeavesOnly}
use Rattle.site.specs.Geometry.{HasLimits, HasLengths}
use Rattle.log_archive.specs.Accepted.{Stream}
use Rattle.stream_lines.specs.Lines.{AsksFor}
use Rattle.engine.specs.Leaves.{HasNoSizes}
use Rattle.front_end.specs.New.{ReadsOnce}
use Rattle.front_end.specs.Tells.{EndsWith}
use Rattle.face.specs.Causes.{HasCauses}
use Rattle.face.specs.Headline.{Resources}
use Rattle.face.specs.Run.{answered, first_lines}
use Rattle.face.specs.Working.{Demands}
use Rattle.face.specs.Worn.{WearsNoneBefore}
use Rattle.archive_restore.specs.declared.fault.Fault.{Fault}
use Rattle.archive_restore.specs.Texts.{fault_line, fault_status, restored_line}
use Rattle.archive_restore.specs.Restores.{EndsBy, HasSealed, HaveFit, IsBetween, IsHeard, IsLeft, IsTarget}
use Rattle.archive_restore.specs.Restores.{HasFewCommits, HasTested, StandsAfter, StandsNear}
use Rattle.archive_restore.specs.Progress.{AsksForNets, IsUntouched, halt_in, nets_lines}
use Rattle.archive_restore.specs.Writing.{run_over}

-- all lines of the nets of so many commits were carried out
pub record HasAsked (pool : ℕ) (g : Geometry) (s : Stream) (begun : ℕ) (old new : Site) : Type 0 where
  pub demands : Demands {T = ⊤} pool (first_lines (run_over g (nets_lines g s begun)) (length (nets_lines g s begun)))
      old new (Ok tt)
  pub earlier : WearsNoneBefore pool (run_over g (nets_lines g s begun)) (length (nets_lines g s begun)) old.image
  pub all : length (answered (run_over g (nets_lines g s begun))) ≤ length (nets_lines g s begun)

-- What comes of a restore over a target before its last line.
pub record RestoreOutcome {T : Type 0} (count pool : ℕ) (g : Geometry) (old new : Site) (result : Result T Fault)
    : Type 0 where
  -- the lines that were heard, those that are left, and the stream behind the former
  pub lines : List (List ℕ)
  pub behind : List (List ℕ)
  pub s : Stream
  pub heard : IsHeard g.pages lines behind s old
  -- how many commits were begun, the one under way with them; each of them had room
  pub begun : ℕ
  pub few : begun ≤ length s.nets
  pub most : begun ≤ count
  pub fit : HaveFit g s begun
  pub moments : LeavesOnly old new (IsLeft g s begun [] old.told)
  pub told : new.told ≡ old.told
  -- input is asked for only where the lines that were heard whole are accepted and have fewer commits
  pub asks : AsksFor (HasFewCommits g.pages count) old new
  pub near : (snapshot : Snapshot) → MayLeave (now_of new) snapshot → StandsNear g s begun snapshot.image
  pub stops : IfErr result (λ f. EndsBy f g lines behind s begun old new
      × (IsBetween f → (begun < count) × StandsAfter g s begun new.image)
      × (fault_status f ≢ 3 → new.loose ≡ no_loose))
  pub done : OnOk result ((begun ≡ count) × StandsAfter g s count new.image × (new.loose ≡ no_loose))
  -- what it asks of the devices: where it ends early they were only read, else its lines are carried out
  pub asks_early : IfErr result (λ f. IsUntouched old new f ⊎ (HasTested old (λ tested.
      AsksForNets pool g s begun tested new (halt_in f))))
  pub asks_all : OnOk result (HasTested old (λ tested. HasAsked pool g s begun tested new))

-- what is known of it over devices of these sizes, whatever they have and whatever is loose
pub record IsKnown {T : Type 0} (count : ℕ) (g : Geometry) (old new : Site) (result : Result T Fault) : Type 0 where
  pub lines : List (List ℕ)
  pub behind : List (List ℕ)
  pub s : Stream
  pub heard : IsHeard g.pages lines behind s old
  pub begun : ℕ
  pub few : begun ≤ length s.nets
  pub most : begun ≤ count
  pub fit : HaveFit g s begun
  pub stops : IfErr result (λ f. EndsBy f g lines behind s begun old new × (IsBetween f → begun < count))
  pub done : OnOk result (begun ≡ count)

-- A status, the line that is told with it, and why it comes. Where it comes between two commits, or behind the last
-- one, so many are sealed.
abbrev pub EndsSo : ℕ → List ℕ → ℕ → Geometry → List (List ℕ) → List (List ℕ) → Stream → ℕ → Site → Site → Type 0
    → Type 0
EndsSo status line count g lines behind s begun old new Sealed =
    ((status ≡ 0) ⊎ (status ≡ 6)) × (line ≡ restored_line count) × (begun ≡ count) × Sealed
    ⊎ ((f : Fault) × (status ≡ fault_status f) × (line ≡ fault_line f) × EndsBy f g lines behind s begun old new
    × (IsBetween f → (begun < count) × Sealed))

-- How a restore ends with this line over devices of these sizes: what was heard, and how many commits were begun, the
-- one under way with them. Each of them had room.
pub record RestoreEnds (Sealed : Stream → ℕ → Type 0) (count : ℕ) (g : Geometry) (line : List ℕ) (old new : Site)
    (status : ℕ) : Type 0 where
  pub lines : List (List ℕ)
  pub behind : List (List ℕ)
  pub s : Stream
  pub heard : IsHeard g.pages lines behind s old
  pub begun : ℕ
  pub few : begun ≤ length s.nets
  pub most : begun ≤ count
  pub fit : HaveFit g s begun
  pub so : EndsSo status line count g lines behind s begun old new (Sealed s begun)

-- It ends before the restart: the devices are only read, once.
pub record EndsUntouched (old new : Site) (status : ℕ) : Type 0 where
  pub early : (status ≡ 3) ⊎ ((status ≡ 4) ⊎ (status ≡ 10))
  pub devices : SameDevices old new
  pub read : ReadsOnce old new

-- What the lines ask of the devices that write the nets of so many commits, of which some were begun, all those of the
-- commits before the last.
pub record AsksAsLines (pool : ℕ) (g : Geometry) (s : Stream) (commits : ℕ) (line : List ℕ) (new : Site) (status : ℕ)
    (old : Site) : Type 0 where
  pub begun : ℕ
  pub few : begun ≤ length (nets_lines g s commits)
  pub enough : length (nets_lines g s (commits - 1)) ≤ begun
  pub asked : Resources pool (run_over g (nets_lines g s commits)) begun line old new status

-- What comes of a restore over a target.
pub record RestoreHeadline (count pool : ℕ) (g : Geometry) (old new : Site) (status : ℕ) : Type 0 where
  pub line : List ℕ
  -- why it ends; nothing is told before the commits of which it speaks are sealed
  pub ended : RestoreEnds (λ s k. HasSealed g s k old new) count g line old new status
  pub open ended use *
  -- the line is told, whole where no tell failed
  pub ends : EndsWith old.told line old new
  -- a crash at any moment leaves the table after some of the commits
  pub moments : LeavesOnly old new (IsLeft g s begun line old.told)
  pub quiet : status ≢ 3 → new.loose ≡ no_loose
  -- input is asked for only where the lines that were heard whole are accepted and have fewer commits
  pub asks : AsksFor (HasFewCommits g.pages count) old new
  -- what is asked of the devices, once they are tested
  pub resources : EndsUntouched old new status ⊎ HasTested old (AsksAsLines pool g s begun line new status)

-- of every honest site whose devices have these sizes, whatever they have and whatever is loose: why it ends, and that
-- the line comes last
pub record RestoreTells (count : ℕ) (g : Geometry) (old new : Site) (status : ℕ) : Type 0 where
  pub line : List ℕ
  pub ended : RestoreEnds (λ s k. Unit {0}) count g line old new status
  pub before : List ℕ
  pub ends : EndsWith before line old new

-- of every site: the statuses of a run come as there, 9 over an honest one only where the devices have no sizes
pub record RestoreCauses (old new : Site) (status : ℕ) : Type 0 where
  pub others : HasCauses status old new ⊎ ((status ≡ 10) ⊎ ((status ≡ 13) ⊎ ((status ≡ 14) ⊎ (status ≡ 15))))
  pub foreign : status ≡ 9 → IsTrue old.honest → HasNoSizes old

-- What `restore` does up to this commit.
pub record RestoreContract (count pool : ℕ) (old new : Site) (status : ℕ) : Type 0 where
  pub headline : (g : Geometry) → IsTarget g old → RestoreHeadline count pool g old new status
  pub line : IsTrue old.honest → (g : Geometry) → HasLimits g → HasLengths g old.image
      → RestoreTells count g old new status
  pub causes : RestoreCauses old new status
