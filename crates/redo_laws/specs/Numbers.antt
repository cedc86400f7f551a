-- No number is skipped by the rings on the log's device.
use Rattle.std.specs.Prelude.{ℕ, ◌+◌, ◌≤◌, Result, OnOk}
use Rattle.site.specs.declared.geometry.Geometry.{Geometry}
use Rattle.site.specs.State.{State, Image}
use Rattle.site.specs.Moments.{LeavesOnly}
use Rattle.sealed_ring.specs.Ring.{hi_of}
use Rattle.image_changes.specs.Rings.{log_shape, master_shape}
use Rattle.log_store.specs.declared.store.LogStore.{LogStore}
use Rattle.page_store.specs.Costs.{CallsForUnits}
use Rattle.redo_laws.specs.Holding.{blocks_to}

-- the ring of the log's blocks and that of the master units have given no more numbers than these
pub record HasNumbers (g : Geometry) (most_blocks most_masters : ℕ) (image : Image) : Type 0 where
  pub blocks : hi_of (log_shape g) image.log ≤ most_blocks
  pub masters : hi_of master_shape image.log ≤ most_masters

-- A call makes at most so many records, and so many checkpoints. However it ends, and wherever a crash ends it, the
-- ring of the log's blocks has at most one number more for each record, beside the one for the tail that the call
-- found, and the ring of the master units at most one for each checkpoint. At Ok the blocks are no more than that with
-- the tail that it leaves, too, and calls of the site were made for the units that were appended, and of the disk.
pub record SkipsNone {T E : Type 0} (result : Result T E) (g : Geometry) (old new : LogStore) (before now : State)
    (records checkpoints : ℕ) : Type 0 where
  pub log : OnOk result (blocks_to new ≤ blocks_to old + records)
  pub any_moment : LeavesOnly before now (λ s. HasNumbers g (blocks_to old + records)
      (hi_of master_shape before.image.log + checkpoints) s.image)
  pub device_calls : OnOk result (CallsForUnits g before now)
