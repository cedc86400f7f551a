-- A run under way.
use Rattle.std.specs.Prelude.{◌≡◌, ℕ, ◌+◌, ◌≤◌, [], ◌++◌, List, length, Option, IsTrue, ⊤, Err}
use Rattle.site.specs.State.{State as Site, Image, no_loose}
use Rattle.site.specs.Calls.{Preserves}
use Rattle.site.specs.Moments.{EachMoment, LeavesOnly}
use Rattle.site.specs.Geometry.{HasLimits, HasLengths}
use Rattle.site.specs.declared.geometry.Geometry.{Geometry}
use Rattle.record_model.specs.State.{State, Content}
use Rattle.record_model.specs.declared.words.CacheLine.{CacheLine}
use Rattle.redo_undo.specs.StoreCalls.{AreNext}
use Rattle.engine.specs.declared.engine.Engine.{Engine}
use Rattle.engine.specs.Representation.{Matches}
use Rattle.engine.specs.Invariant.{Invariant, sizes_of}
use Rattle.engine.specs.Leaves.{HasNoSizes}
use Rattle.engine.specs.Image.{IsSound, Opens, Stands, log_under}
use Rattle.log_records.specs.declared.log_record.LogRecord.{LogRecord}
use Rattle.checkpoint.specs.declared.master.Master.{Master}
use Rattle.second_chance.specs.Machine.{rules_of, after_works}
use Rattle.page_store.specs.Caching.{cache_of, rules}
use Rattle.engine.specs.Paging.{cache_on}
use Rattle.front_end.specs.declared.halt.Halt.{Halt}
use Rattle.front_end.specs.Faults.{SameFaults}
use Rattle.log_records.specs.Log.{Entry}
use Rattle.redo_laws.specs.Holding.{blocks_to}
use Rattle.page_store.specs.Costs.{CallsForUnits}
use Rattle.face.specs.Done.{TellsDone}
use Rattle.face.specs.RunMeaning.{AsksNoMore, GivesNumbers, IsLeft, LeavesStaged, ListsTheMachine, WritesAsTold}
use Rattle.face.specs.RunMeaning.{blocks_by, first_texts}
use Rattle.face.specs.Run.{Run, Begins, answered, first_lines, state_at, listings_left}
use Rattle.face.specs.Working.{AnswersFirst, Demands, Stops, asked_after}
use Rattle.face.specs.Worn.{IsMirrored}

-- On every site: what was opened goes on. Where the image at entry stands for a table the database fits, and where the
-- site is honest it knows the next units of the rings.
pub record GoesOn (entry now : Site) (engine : Engine) : Type 0 where
  pub preserves : Preserves entry now
  pub faults : SameFaults entry now
  pub sized : HasNoSizes entry → ⊥
  pub going : Invariant engine now
  pub fits : IsTrue entry.honest → (g : Geometry) (table : List Content) (commits : ℕ)
      → Stands g entry.image table commits → ((s : State) × Matches engine now s) × (sizes_of engine.store ≡ g)
  pub next : IsTrue entry.honest → (g : Geometry) → HasLimits g → HasLengths g entry.image
      → AreNext engine.store now × (sizes_of engine.store ≡ g)

-- The page cache has done what the run has asked.
pub record IsPaged (pool : ℕ) (run : Run) (newest : Option Master) (image : Image) (blocks : List (List LogRecord))
    (engine : Engine) (lines : ℕ) : Type 0 where
  pub machine : cache_of engine.store.pages
      ≡ after_works (rules_of pool run.geometry.groups) (asked_after run newest image blocks lines)
      (cache_on run.geometry image)
  pub rules_are : rules engine.store.pages ≡ rules_of pool run.geometry.groups

-- The rings on the log's device have had no more numbers than the run has records and checkpoints so far, over an image
-- whose log has these records; and the calls that write and sync are exactly five for each unit, and those that staged
-- frames, with at most one tell an octet.
pub record IsCounted (run : Run) (records : List Entry) (old now : Site) (engine : Engine) (lines : ℕ) : Type 0 where
  pub log : blocks_to engine.store.log ≤ blocks_by (first_lines run lines) records old.image
  pub numbers : LeavesOnly old now (λ s. GivesNumbers (first_lines run lines) records old.image s.image)
  pub calls : CallsForUnits run.geometry old now

-- So many lines of a run were carried out, whatever was told of them: both machines have done their work, and no more
-- was asked of the devices.
pub record HasServed (pool : ℕ) (run : Run) (entry now : Site) (engine : Engine) (lines : ℕ) : Type 0 where
  pub opens : Opens run.geometry entry.image run.opening
  pub fits : Matches engine now (state_at run lines)
  pub quiet : now.loose ≡ no_loose
  pub going : Invariant engine now
  pub geometry : sizes_of engine.store ≡ run.geometry
  pub few : lines ≤ length (answered run)
  pub paged : (newest : Option Master) (blocks : List (List LogRecord)) → IsSound newest run.geometry entry.image blocks
      → IsPaged pool run newest entry.image blocks engine lines
  pub mirrored : (newest : Option Master) (blocks : List (List LogRecord))
      → IsSound newest run.geometry entry.image blocks → IsMirrored pool run newest entry.image blocks engine now lines
  pub counted : (newest : Option Master) (blocks : List (List LogRecord))
      → IsSound newest run.geometry entry.image blocks → IsCounted run (log_under newest blocks) entry now engine lines
  pub reads : AsksNoMore pool (first_lines run lines) entry now
  pub staged : LeavesStaged pool (first_lines run lines) entry now

-- the same where all that they are replied was told
pub record RunInProgress (pool : ℕ) (run : Run) (entry now : Site) (engine : Engine) (lines : ℕ) : Type 0 where
  pub served : HasServed pool run entry now engine lines
  pub open served use *
  pub told : now.told ≡ entry.told ++ first_texts run (lines + 1)
  pub moments : LeavesOnly entry now (IsLeft (first_lines run lines) entry.told [])
  pub tells : EachMoment entry now (TellsDone pool run lines [] entry)

-- it never opened
pub record NeverOpens (pool : ℕ) (run : Run) (entry now : Site) (halt : Halt) : Type 0 where
  pub stops : Stops run 0 entry now halt
  pub tells : EachMoment entry now (TellsDone pool run 0 [] entry)
  pub demands : Demands {T = ⊤} pool (first_lines run 0) entry now (Err halt)

-- The lines were heard and answered, and these listings of the cache are left for those behind them.
pub record HasAnswered (pool : ℕ) (run : Run) (later : List (List CacheLine)) (entry now : Site) (engine : Engine)
    (lines : ℕ) : Type 0 where
  pub progress : RunInProgress pool run entry now engine lines
  pub open progress use *
  pub left : listings_left run lines ≡ later
  pub listed : ListsTheMachine pool (first_lines run lines) entry.image
  pub written : WritesAsTold pool run lines entry now
  pub answers : AnswersFirst run lines entry now

-- The cache has given these listings so far: this holds of each run whose listings begin with them, whatever comes
-- behind.
pub record IsUnderWay (pool : ℕ) (entry now : Site) (engine : Engine) (lines : ℕ) : Type 0 where
  pub listings : List (List CacheLine)
  pub each : (run : Run) (later : List (List CacheLine)) → Begins run entry → run.listings ≡ listings ++ later →
      HasAnswered pool run later entry now engine lines
