-- How many numbers the rings have given, life after life.
use Rattle.std.specs.Prelude.{◌≡◌, ◌⊎◌, ℕ, zero, suc, ◌+◌, ◌*◌, ◌^◌, ◌≤◌, [], true, Contains}
use Rattle.site.specs.State.{State as Site, Image, Moment, Snapshot, MayLeave, now_of}
use Rattle.site.specs.Moments.{since}
use Rattle.site.specs.Geometry.{HasLimits, blank_image}
use Rattle.site.specs.declared.geometry.Geometry.{Geometry}
use Rattle.sealed_ring.specs.Ring.{hi_of}
use Rattle.image_changes.specs.Rings.{group_shape}
use Rattle.record_model.specs.State.{State}
use Rattle.second_chance.specs.Groups.{reads_in}
use Rattle.command_line.specs.declared.request.Load.{Load}
use Rattle.redo_laws.specs.Numbers.{HasNumbers}
use Rattle.face.specs.Causes.{EndsInTime}
use Rattle.front_end.specs.Faults.{NoFaultRose}
use Rattle.face.specs.Headline.{Headline, IsGood, ran}
use Rattle.face.specs.Loads.{LoadHeadline}
use Rattle.face.specs.RunMeaning.{made_by, run_of}
use Rattle.face.specs.Run.{Run, first_lines, turns_of}
use Rattle.face.specs.TopCall.{LoadContract, RunContract}
use Rattle.face.specs.Workload.{checkpoints_in, load_run}
use Rattle.face.specs.Worn.{WearsNone}

-- a crash at some moment from old to new may leave this
pub record MayBeLeft (old new : Site) (snapshot : Snapshot) : Type 0 where
  pub moment : Moment
  pub at : Contains (since old new) moment ⊎ (moment ≡ now_of new)
  pub left : MayLeave moment snapshot

-- Of lines, by the record model: the records that they log, their checkpoints, and the records that they read.
pub record Work : Type 0 where
  pub logged : ℕ
  pub checkpoints : ℕ
  pub read : ℕ

abbrev pub no_work : Work
no_work = record { logged = 0; checkpoints = 0; read = 0 }

abbrev pub work_of : Run → Work
work_of run = record {
  logged = made_by run;
  checkpoints = checkpoints_in (turns_of run);
  read = reads_in (turns_of run);
}

abbrev pub both : Work → Work → Work
both one other = record {
  logged = one.logged + other.logged;
  checkpoints = one.checkpoints + other.checkpoints;
  read = one.read + other.read;
}

-- A run or a load that opens on these devices, from old to new.
pub record RunsOn (g : Geometry) (old new : Site) : Type 0 where
  pub pool : ℕ
  pub opening : State
  pub status : ℕ
  pub good : IsGood g opening old
  pub headline : Headline pool g opening old new status

pub record LoadsOn (g : Geometry) (old new : Site) : Type 0 where
  pub load : Load
  pub opening : State
  pub status : ℕ
  pub good : IsGood g opening old
  pub headline : LoadHeadline load g opening old new status

-- one of the two
pub data Call (g : Geometry) (old new : Site) : Type 0 where
  of_run : RunsOn g old new → Call g old new
  of_load : LoadsOn g old new → Call g old new

-- the lines that were begun
abbrev pub begun_by : {g : Geometry} {old new : Site} → Call g old new → Run
begun_by (of_run r) = first_lines (ran r.headline.durability) r.headline.resources.begun
begun_by {g} (of_load l) = first_lines (load_run g l.opening l.load) l.headline.resources.begun

-- A life: a run or a load on devices with these contents, whose lines that were begun do this work, may leave these.
-- What a crash leaves of it is one, and so is what stands there at its end.
pub record IsLifeOf (g : Geometry) (work : Work) (before after : Image) : Type 0 where
  pub old : Site
  pub new : Site
  pub call : Call g old new
  pub entry : before ≡ old.image
  pub snapshot : Snapshot
  pub left : MayBeLeft old new snapshot
  pub after_is : after ≡ snapshot.image
  pub work_is : work ≡ work_of (begun_by call)

-- devices that were blank may have these contents after so many lives, which did this work
abbrev pub HaveLives : Geometry → ℕ → Work → Image → Type 0
HaveLives g zero work image = (image ≡ blank_image g) × (work ≡ no_work)
HaveLives g (suc lives) work image = (before : Image) × (done : Work) × (more : Work) × HaveLives g lives done before
    × IsLifeOf g more before image × (work ≡ both done more)

-- Then the ring of the log's blocks has given no more numbers than records were logged, and for each life as many as a
-- log has blocks, which is more than undo may owe; and that of the master units one for each checkpoint and each life.
abbrev pub most_blocks : Geometry → ℕ → Work → ℕ
most_blocks g lives work = lives * g.blocks + work.logged

abbrev pub most_masters : ℕ → Work → ℕ
most_masters lives work = lives + work.checkpoints

-- And the ring of groups: a page that is touched pushes a group at most, as one has to leave, and one that is changed
-- another, to be saved. A restart changes at most twenty pages for each block that it redoes, and one for each that
-- undo owes: that is 42 groups for each block of the log.
abbrev pub most_groups : Geometry → ℕ → Work → ℕ
most_groups g lives work = lives * (42 * g.blocks) + work.read + 2 * work.logged

pub record HasGiven (g : Geometry) (lives : ℕ) (work : Work) (image : Image) : Type 0 where
  pub on_log : HasNumbers g (most_blocks g lives work) (most_masters lives work) image
  pub groups : hi_of (group_shape g) image.flash ≤ most_groups g lives work

abbrev pub NumbersOfLives : Type 0
NumbersOfLives = (g : Geometry) → HasLimits g → (lives : ℕ) (work : Work) (image : Image) →
    HaveLives g lives work image → HasGiven g lives work image

-- as many numbers are there
pub record RingsSuffice (g : Geometry) (lives : ℕ) (work : Work) : Type 0 where
  pub blocks : most_blocks g lives work ≤ 2 ^ 40
  pub masters : most_masters lives work ≤ 2 ^ 40
  pub groups : most_groups g lives work ≤ 2 ^ 40

-- So as long as the rings have numbers for one life more and the work of a run's lines too, that run on them appends to
-- none that stands at its end, whatever its pool.
abbrev pub LivesHaveRoom : Type 0
LivesHaveRoom = (g : Geometry) → HasLimits g → (lives : ℕ) (work : Work) (image : Image) →
    HaveLives g lives work image → (run : Run) → run.geometry ≡ g →
    RingsSuffice g (lives + 1) (both work (work_of run)) → (pool : ℕ) → WearsNone pool run image

-- And where nothing fails then, and the input ends in time, the status of the run is 0, or memory was wanted.
abbrev pub RunsAreComplete : Type 0
RunsAreComplete = (g : Geometry) → HasLimits g → (lives : ℕ) (work : Work) (old : Site) →
    HaveLives g lives work old.image → (opening : State) → IsGood g opening old →
    RingsSuffice g (lives + 1) (both work (work_of (run_of g opening true old.input.left []))) →
    (pool : ℕ) (new : Site) (status : ℕ) → RunContract pool old new status →
    NoFaultRose old new → EndsInTime old → (status ≡ 0) ⊎ (status ≡ 4)

-- the same of a load
abbrev pub LoadsAreComplete : Type 0
LoadsAreComplete = (g : Geometry) → HasLimits g → (lives : ℕ) (work : Work) (old : Site) →
    HaveLives g lives work old.image → (opening : State) → IsGood g opening old → (load : Load) →
    RingsSuffice g (lives + 1) (both work (work_of (load_run g opening load))) →
    (new : Site) (status : ℕ) → LoadContract load old new status →
    NoFaultRose old new → (status ≡ 0) ⊎ (status ≡ 4)
