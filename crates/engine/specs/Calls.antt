-- What the calls of a run say, each as one record with the call's result as its index.
use Rattle.std.specs.Prelude.{◌≡◌, List, IsTrue, Result, IfOk, OnOk, IfErr, ℕ}
use Rattle.site.specs.declared.outside.Stop.{Stop}
use Rattle.site.specs.State.{State as Site, Snapshot, IsQuiet}
use Rattle.record_model.specs.State.{State}
use Rattle.record_model.specs.Step.{Outcome}
use Rattle.record_model.specs.Touches.{CacheOp}
use Rattle.record_model.specs.declared.words.Reply.{Reply}
use Rattle.page_store.specs.Stopping.{MayStop}
use Rattle.redo_laws.specs.MachineSteps.{StepsMachine}
use Rattle.redo_undo.specs.StoreCalls.{KeepsNext}
pub use Rattle.site.specs.Work.{Calls}
pub use Rattle.redo_laws.specs.Calls.{Ends}
use Rattle.engine.specs.declared.engine.Engine.{Engine}
use Rattle.engine.specs.Invariant.{Invariant, sizes_of}
use Rattle.engine.specs.Representation.{Matches}
use Rattle.engine.specs.Numbers.{CountsOn}

-- A call of the database, on every site.
pub record KeepsEngine {T : Type 0} (result : Result T Stop) (old new : Engine) (before now : Site) : Type 0 where
  pub calls : Calls result before now
  pub going : OnOk result (Invariant new now)
  pub sizes : sizes_of new.store ≡ sizes_of old.store
  pub stops : IfErr result (λ stop. MayStop stop)
  pub next : IsTrue before.honest → KeepsNext result old.store new.store before now

-- The same of a call that reads no record of the log.
pub record KeepsUnread {T : Type 0} (result : Result T Stop) (old new : Engine) (before now : Site) : Type 0 where
  pub keeps : KeepsEngine result old new before now
  pub open keeps use *
  pub log_reads : now.log_reads ≡ before.log_reads

-- A call of the database on an honest site that it fits in this state: it comes to that state, each crash meanwhile
-- leaves P, and no error comes but for its cause.
pub record CommandEffect {T : Type 0} (result : Result T Stop) (old new : Engine) (before now : Site) (s after : State)
    (P : Snapshot → Type 0) (checkpoints : ℕ) : Type 0 where
  pub after_fits : OnOk result (Matches new now after)
  pub ends : Ends result (sizes_of old.store) before now P
  pub open ends use *
  pub numbers : IsQuiet before → CountsOn result old new before now s after checkpoints

-- A command: it answers what the model answers, and does and asks what the model does and asks.
pub record CommandContract (result : Result Reply Stop) (old new : Engine) (before now : Site) (s : State) (o : Outcome)
    (works : List CacheOp) (P : Snapshot → Type 0) (checkpoints : ℕ) : Type 0 where
  pub reply : IfOk result (λ reply. reply ≡ o.reply)
  pub asks : StepsMachine result works old.store.pages new.store.pages before now
  pub does : CommandEffect result old new before now s o.after P checkpoints
