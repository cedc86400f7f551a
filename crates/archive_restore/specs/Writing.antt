-- A net is written into a database: what was carried out by then, and what a crash leaves meanwhile.
use Rattle.std.specs.Prelude.{◌≡◌, ◌≢◌, ◌⊎◌, ℕ, ◌+◌, ◌-◌, ◌*◌, ◌≤◌, false, List, [], ◌∷◌, ◌++◌, length, if◌then◌else◌}
use Rattle.std.specs.List.{AllByRecursion}
use Rattle.site.specs.State.{State as Site, Snapshot, no_loose}
use Rattle.site.specs.declared.geometry.Geometry.{Geometry}
use Rattle.site.specs.Moments.{LeavesOnly}
use Rattle.record_model.specs.State.{Content, State, Write, opened, table_with}
use Rattle.record_model.specs.Run.{Line, is_quit}
use Rattle.record_model.specs.declared.words.Command.TheVariants.{Checkpoint}
use Rattle.std.specs.Prelude.{Some, Err, ⊤}
use Rattle.net_lines.specs.Nets.{AreWritable, HasPageRoom, idle, tight}
use Rattle.engine.specs.declared.engine.Engine.{Engine}
use Rattle.engine.specs.Image.{Stands}
use Rattle.front_end.specs.declared.halt.Halt.{Halt}
use Rattle.front_end.specs.Texts.{status_of}
use Rattle.face.specs.Image.{blank_table}
use Rattle.face.specs.Run.{Run, after_lines, first_lines}
use Rattle.face.specs.Working.{Demands}
use Rattle.face.specs.Worn.{WearsNoneBefore}
use Rattle.face.specs.RunInProgress.{HasServed}

-- the database that was never written
abbrev pub blank_state : Geometry → State
blank_state g = opened (blank_table g) 0 0 (g.blocks - 1)

-- its run over these lines
abbrev pub run_over : Geometry → List Line → Run
run_over g lines = record { geometry = g; opening = blank_state g; lines = lines; listings = [] }

-- These lines were carried out, none of which quits, and left this state; whatever lines come behind them.
pub record HasCarried (pool : ℕ) (g : Geometry) (entry now : Site) (engine : Engine) (lines : List Line) (s : State)
    : Type 0 where
  pub served : (more : List Line) → HasServed pool (run_over g (lines ++ more)) entry now engine (length lines)
  pub state : after_lines (blank_state g) lines [] ≡ s
  pub goes : AllByRecursion (λ line. is_quit line ≡ false) lines

-- nothing was told, and the devices stand for the table before a net or behind it
pub record LeavesNet (g : Geometry) (table : List Content) (commits : ℕ) (net : List Write) (so_far : List ℕ)
    (snapshot : Snapshot) : Type 0 where
  pub told : snapshot.told ≡ so_far
  pub stands : Stands g snapshot.image table commits
      ⊎ Stands g snapshot.image (table_with table net) (commits + 1)

-- the log and the pages have room for a net, and its writes are of records that there are
pub record IsFree (table : List Content) (made kept cap : ℕ) (net : List Write) : Type 0 where
  pub writable : AreWritable (length table) net
  pub pages : HasPageRoom table net
  pub log : made - kept + (2 * length net + 2) ≤ cap

-- the log has room, by a checkpoint where it had none
pub record HasFreed (pool : ℕ) (g : Geometry) (entry old now : Site) (engine : Engine) (lines : List Line)
    (table : List Content) (commits made kept cap : ℕ) (net : List Write) : Type 0 where
  pub later : ℕ
  pub carried : HasCarried pool g entry now engine
      (lines ++ (if tight cap (made - kept) net then Some Checkpoint ∷ [] else [])) (idle table commits made later cap)
  pub room : made - later + (2 * length net + 2) ≤ cap
  pub moments : LeavesOnly old now (LeavesNet g table commits net old.told)

-- a net is written, by these lines
pub record HasWrittenNet (pool : ℕ) (g : Geometry) (entry old now : Site) (engine : Engine) (lines : List Line)
    (table : List Content) (commits cap : ℕ) (net : List Write) : Type 0 where
  pub made : ℕ
  pub kept : ℕ
  pub carried : HasCarried pool g entry now engine lines (idle (table_with table net) (commits + 1) made kept cap)
  pub moments : LeavesOnly old now (LeavesNet g table commits net old.told)

-- Of these lines some were begun, so many at least, all but the last carried out; what they ask of the devices.
pub record AsksSome (pool : ℕ) (g : Geometry) (least : ℕ) (lines : List Line) (entry now : Site) (halt : Halt)
    : Type 0 where
  pub begun : ℕ
  pub enough : least ≤ begun
  pub few : begun ≤ length lines
  pub earlier : WearsNoneBefore pool (run_over g lines) begun entry.image
  pub demands : Demands {T = ⊤} pool (first_lines (run_over g lines) begun) entry now (Err halt)

-- or it fails: a crash leaves it whole or nothing of it, and it was one of these lines that failed
pub record FailsToWrite (pool : ℕ) (g : Geometry) (entry : Site) (least : ℕ) (lines : List Line) (table : List Content)
    (commits : ℕ) (net : List Write) (old new : Site) (halt : Halt) : Type 0 where
  pub asks : AsksSome pool g least lines entry new halt
  pub moments : LeavesOnly old new (LeavesNet g table commits net old.told)
  pub quiet : status_of halt ≢ 3 → new.loose ≡ no_loose
