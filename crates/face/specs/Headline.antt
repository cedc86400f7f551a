-- The headline: what is durable of a run, what it asks of the devices, and the serial order of its transactions.
use Rattle.std.specs.Prelude.{◌≡◌, ◌≢◌, ◌⊎◌, ℕ, ◌+◌, Bool, true, false, List, [], ◌∷◌, ◌++◌, length, take, IsTrue}
use Rattle.site.specs.State.{State as Site, no_loose}
use Rattle.site.specs.declared.outside.Dev.{Dev}
use Rattle.site.specs.declared.outside.Stop.TheVariants.{Worn}
use Rattle.site.specs.Moments.{EachMoment, LeavesOnly}
use Rattle.site.specs.declared.geometry.Geometry.{Geometry}
use Rattle.record_model.specs.declared.words.CacheLine.{CacheLine}
use Rattle.record_model.specs.State.{State}
use Rattle.front_end.specs.declared.halt.Halt.{Halt}
use Rattle.front_end.specs.declared.halt.Halt.TheVariants.{Stop}
use Rattle.front_end.specs.Texts.{IsLineOf, fault_line, status_of}
use Rattle.page_store.specs.Costs.{CallsForUnits}
use Rattle.engine.specs.Image.{Opens}
use Rattle.face.specs.Causes.{HasCause}
use Rattle.face.specs.Done.{HasDone, TellsDone}
use Rattle.front_end.specs.Tells.{EndsWith, EndsBehind}
use Rattle.std.specs.List.{list_any}
use Rattle.record_model.specs.Run.{Turn, is_quit}
use Rattle.record_model.specs.Serial.{IsSerial}
use Rattle.shell_text.specs.Serial.{IsToldSerial}
use Rattle.front_end.specs.Lines.{HeardAll, limit, commands_of}
use Rattle.face.specs.Run.{Run, IsFront, first_lines, turns_of}
use Rattle.face.specs.RunMeaning.{run_of, texts, run_text, IsLeft, IsWhole}
use Rattle.face.specs.Waiting.{NobodyWaits}
use Rattle.face.specs.RunMeaning.{SkipsNoNumber, AsksNoMore, ListsTheMachine, HasBegun, LeavesStaged, WritesAsTold}
use Rattle.face.specs.Worn.{WearsFirst, WearsNone, WearsNoneBefore}

-- an honest and quiet site, whose image is sound, and over which a run opens with this state
pub record IsGood (g : Geometry) (opening : State) (site : Site) : Type 0 where
  pub honest : IsTrue site.honest
  pub quiet : site.loose ≡ no_loose
  pub opens : Opens g site.image opening

-- a status, the fault line that may be told with it, and its cause
abbrev pub IsFaultOf : ℕ → List ℕ → Site → Site → Type 0
IsFaultOf status fault old new =
    ((status ≡ 0) × (fault ≡ []))
    ⊎ ((halt : Halt) × (status ≡ status_of halt) × (fault ≡ fault_line halt) × HasCause halt old new)

-- over every honest site: whatever was told before, the fault line of the status comes last
abbrev pub TellsFault : ℕ → Site → Site → Type 0
TellsFault status old new =
    (fault : List ℕ) × IsFaultOf status fault old new × (before : List ℕ) × EndsWith before fault old new

-- all of the run is told, and then a front of the fault line
pub record IsToldWhole (run : Run) (fault : List ℕ) (old new : Site) : Type 0 where
  pub rest : List ℕ
  pub told : new.told ≡ old.told ++ (run_text run ++ rest)
  pub front : IsFront rest fault

-- What a run leaves that opens with this state, and what a crash at any moment of it leaves.
pub record Durability (g : Geometry) (opening : State) (old new : Site) (status : ℕ) : Type 0 where
  -- the octets that were taken, and whether a take has answered that the input ended
  pub octets : List ℕ
  pub ended : Bool
  pub taken : old.input.left ≡ octets ++ new.input.left
  pub end : ended ≡ true → new.input.left ≡ []
  -- what the cache lists at each cache command that is answered
  pub listings : List (List CacheLine)
  -- the fault line of the status
  pub fault : List ℕ
  pub of_status : IsLineOf status fault
  -- with any status but 6, the fault line comes behind whole texts
  pub ends : status ≢ 6 → EndsBehind (texts (run_of g opening ended octets listings)) fault old new
  -- each snapshot stands for the table after some number of commits in the range of what it has told
  pub any_moment : LeavesOnly old new (IsLeft (run_of g opening ended octets listings) old.told fault)
  -- with any status but 3 no range is loose
  pub quiet : status ≢ 3 → new.loose ≡ no_loose
  -- with status 0 the input was heard to its end or to a quit, and all is told and done
  pub heard : status ≡ 0 → HeardAll ended octets
  pub done : status ≡ 0 → IsWhole (run_of g opening ended octets listings) old new
  -- wherever input was asked for, all lines that stood whole in what was heard had been answered
  pub answered : NobodyWaits (run_of g opening ended octets listings) old new
  -- with 5 and 7 all lines were answered whose newline is among the first 2 ^ 40 octets
  pub taking : (status ≡ 5) ⊎ (status ≡ 7) →
      IsToldWhole (run_of g opening false (take limit octets) listings) fault old new
  -- and with 7 there was no quit among these, and one octet more was taken
  pub over : status ≡ 7 →
      (length octets ≡ limit + 1) × (list_any is_quit (commands_of false (take limit octets)) ≡ false)

-- the run over the octets that were taken
abbrev pub ran : {g : Geometry} {s : State} {old new : Site} {status : ℕ} → Durability g s old new status → Run
ran {g} {s} d = run_of g s d.ended d.octets d.listings

-- What a run with a pool of so many pages asks of the devices, of which so many lines were begun, and this fault line
-- is told.
pub record Resources (pool : ℕ) (run : Run) (begun : ℕ) (fault : List ℕ) (old new : Site) (status : ℕ) : Type 0 where
  -- with 8 the first ring that they are to append to at its end lies on the device that is told; with 0 there is none
  pub worn : status ≡ 8 → (dev : Dev) × (fault ≡ fault_line (Stop (Worn dev)))
      × WearsFirst pool (first_lines run begun) dev old.image
  pub room : status ≡ 0 → WearsNone pool run old.image
  -- and whatever the status, there is none for those in front of the last of them: no line is begun behind one that
  -- finds such a ring
  pub earlier : WearsNoneBefore pool run begun old.image
  -- with 0 what they ask is done
  pub done : status ≡ 0 → HasDone pool run old.image new.image
  -- and each page that it has staged is on the disk as the frame that was staged last; a page was written once for
  -- each frame that it has staged, and the disk synced once behind those of a group
  pub staged : status ≡ 0 → LeavesStaged pool run old new
  -- and no other calls were made than these and five for each unit, and to tell at most one an octet
  pub calls : status ≡ 0 → CallsForUnits run.geometry old new
  -- whatever the status, with these lines no ring number is skipped on the log's device
  pub numbers : SkipsNoNumber (first_lines run begun) old new
  -- no more is read and written than they ask for
  pub reads : AsksNoMore pool (first_lines run begun) old new

-- the same with the number of these lines, and with what they are told of the cache
pub record RunResources (pool : ℕ) (run : Run) (fault : List ℕ) (old new : Site) (status : ℕ) : Type 0 where
  -- how many lines were begun, the one under way with them
  pub begun : ℕ
  pub has_begun : HasBegun run begun fault old new
  pub asked : Resources pool run begun fault old new status
  -- with 5 and 7 the last of them appends to no ring that stands at its end either
  pub taking : (status ≡ 5) ⊎ (status ≡ 7) → WearsNone pool (first_lines run begun) old.image
  -- what they are told of the cache is what the machine lists
  pub listed : ListsTheMachine pool (first_lines run begun) old.image
  -- and no snapshot is written by lines that weren't begun by what it has told
  pub written : WritesAsTold pool run begun old new
  -- nothing is told but what is done, nor less at a time than is left of a line
  pub tells : EachMoment old new (TellsDone pool run begun fault old)

-- Each of its transactions answers as if it had run alone, on the table of the commits before its own, and leaves that
-- of its commit, and each get answers what the table has; and the lines of each are told what a run of them alone would
-- tell.
pub record AnswersAlone (run : Run) (earlier : List Turn) (t : Turn) (later : List Turn) : Type 0 where
  pub serial : IsSerial run.opening.table run.opening.commits earlier later t
  pub serial_told : IsToldSerial run.opening (texts run) earlier later t

-- What comes of a run with a pool of so many pages that opens with this state.
pub record Headline (pool : ℕ) (g : Geometry) (opening : State) (old new : Site) (status : ℕ) : Type 0 where
  pub durability : Durability g opening old new status
  pub caused : IsFaultOf status durability.fault old new
  pub resources : RunResources pool (ran durability) durability.fault old new status
  pub order : (earlier later : List Turn) (t : Turn) → turns_of (ran durability) ≡ earlier ++ t ∷ later →
      AnswersAlone (ran durability) earlier t later
