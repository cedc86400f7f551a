-- No number is skipped by the rings on the log's device.
use Rattle.std.specs.Prelude.{ℕ, ◌+◌, ◌≤◌, if◌then◌else◌, List, Result, Ok, OnOk, IfOk}
use Rattle.site.specs.declared.outside.Stop.{Stop}
use Rattle.site.specs.declared.geometry.Geometry.{Geometry}
use Rattle.site.specs.State.{State as Site, IsQuiet}
use Rattle.site.specs.Moments.{LeavesOnly}
use Rattle.sealed_ring.specs.Ring.{hi_of}
use Rattle.image_changes.specs.Rings.{log_shape, master_shape}
use Rattle.record_model.specs.State.{State}
use Rattle.record_model.specs.declared.words.Command.{Command}
use Rattle.record_model.specs.declared.words.Reply.{Reply}
use Rattle.record_model.specs.Step.{makes_checkpoint}
use Rattle.log_records.specs.Log.{Entry}
use Rattle.log_records.specs.Unfinished as unfinished
use Rattle.log_store.specs.declared.store.LogStore.{LogStore}
use Rattle.page_store.specs.Costs.{CallsForUnits}
use Rattle.redo_laws.specs.Holding.{blocks_to}
use Rattle.redo_laws.specs.Numbers.{HasNumbers, SkipsNone}
use Rattle.engine.specs.declared.engine.Engine.{Engine}
use Rattle.engine.specs.Invariant.{Invariant, sizes_of}
use Rattle.engine.specs.Representation.{Matches}

-- how many checkpoints a command makes
abbrev pub checkpoints_by : State → Command → ℕ
checkpoints_by s command = if makes_checkpoint s command then 1 else 0

-- A call takes the model from one state to another, with so many checkpoints: it makes no more records than the model
-- counts.
pub record CountsOn {T E : Type 0} (result : Result T E) (old new : Engine) (before now : Site) (s after : State)
    (checkpoints : ℕ) : Type 0 where
  pub records : ℕ
  pub made : s.made + records ≤ after.made
  pub skips : SkipsNone result (sizes_of old.store) old.store.log new.store.log before now records checkpoints
  pub open skips use *

-- A restart on these records. However it ends, and wherever a crash ends it, the ring of the log's blocks has at most
-- one number more for each record that undo owes, and the ring of the master units one for its checkpoint. At Ok the
-- blocks are no more than that with the tail, too, and calls of the site were made for the units that were appended,
-- and of the disk.
pub record RestartsWithin {T : Type 0} (result : Result T Stop) (log_of : T
    → LogStore) (g : Geometry) (records : List Entry) (before now : Site) : Type 0 where
  pub log : IfOk result (λ x. blocks_to (log_of x) ≤ hi_of (log_shape g) before.image.log + unfinished.owed records)
  pub any_moment : LeavesOnly before now (λ s. HasNumbers g (hi_of (log_shape g) before.image.log
      + unfinished.owed records) (hi_of master_shape before.image.log + 1) s.image)
  pub device_calls : OnOk result (CallsForUnits g before now)

-- where nothing is called, nothing is counted
abbrev pub RestCountsNothing : Type 0
RestCountsNothing = (reply : Reply) (engine : Engine) (site : Site) (s : State) → Matches engine site s
    → Invariant engine site → IsQuiet site
    → CountsOn {T = Reply} {E = Stop} (Ok reply) engine engine site site s s 0
