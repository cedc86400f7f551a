-- What the calls that undo say of log and pages that hold together.
use Rattle.std.specs.Prelude.{ℕ, ◌+◌, ◌-◌, ◌≤◌, List, Result, Ok, Err, Option}
use Rattle.site.specs.declared.outside.Stop.{Stop}
use Rattle.site.specs.State.{State}
use Rattle.record_model.specs.State.{Content}
use Rattle.record_model.specs.Touches.{CacheOp}
use Rattle.ring_machine.specs.Machine.{RingOp}
use Rattle.log_store.specs.declared.store.LogStore.{LogStore}
use Rattle.page_store.specs.declared.store.PageStore.{PageStore}
use Rattle.checkpoint.specs.declared.master.Master.{Master}
use Rattle.redo_laws.specs.Waiting.{LeavesSomeUnder}
use Rattle.redo_laws.specs.Running.{History}
use Rattle.redo_laws.specs.Calls.{Keeps}
use Rattle.redo_laws.specs.MachineSteps.{StepsMachine}
use Rattle.redo_undo.specs.Mirroring.{PerformsOn}

-- A call does this work of the machine of the rings, for which it asks the cache for these touches. Each crash
-- meanwhile leaves the table after some commits, none below the floor, and it logs and reads so many records of the log
-- at most.
pub record UndoesWork {T : Type 0} (result : Result T Stop) (works : List RingOp) (touches : List CacheOp)
    (old new : LogStore) (pages pages' : PageStore) (before now : State) (newest : Option Master) (history : History)
    (records reads : ℕ) : Type 0 where
  pub keeps : Keeps result pages.flash.geometry old new before now
      (LeavesSomeUnder newest pages.flash.geometry history before.told) records 0
  pub asks : StepsMachine result touches pages pages' before now
  pub performs : PerformsOn result works old new pages pages' before now
  pub log_reads : now.log_reads ≤ before.log_reads + reads

-- how many records a call logs at most, by what is owed before and behind it: at Ok no more than it takes from that
abbrev pub taken_by : {T : Type 0} → Result T Stop → ℕ → ℕ → ℕ
taken_by (Ok x) old new = old - new
taken_by (Err stop) old new = old
