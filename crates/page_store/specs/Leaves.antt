-- What a call on pages leaves.
use Rattle.std.specs.Prelude.{◌≡◌, ◌⊎◌, ℕ, ◌<◌, Bool, true, false, List, length, [], ◌∷◌, Some, slice_index}
use Rattle.std.specs.Prelude.{slice_index_or, Contains, Option}
use Rattle.site.specs.declared.geometry.Geometry.{Geometry}
use Rattle.site.specs.State.{State, Image, Snapshot}
use Rattle.image_changes.specs.Rings.{master_shape, KeepsUnits}
use Rattle.frame_group.specs.Groups.{Frame as Stored}
use Rattle.flash_cache.specs.Representation.{HasGroups, AreSaved, version_on, IsCleanOn}
use Rattle.buffer_pool.specs.declared.frame.Frame.{Frame}
use Rattle.buffer_pool.specs.Frames.{frame_of, front_of}
use Rattle.log_store.specs.declared.store.LogStore.{LogStore}
use Rattle.log_store.specs.LogList.{LogList}
use Rattle.log_store.specs.Representation as log_store
use Rattle.log_store.specs.Representation.{LeavesLog}
use Rattle.checkpoint.specs.declared.master.Master.{Master}
use Rattle.image_meaning.specs.Beside.{AreRingsSoundUnder}
use Rattle.page_store.specs.declared.store.PageStore.{PageStore}
use Rattle.page_store.specs.Representation.{Matches, current}

-- Of an honest site, whatever is loose: the store fits it, the log is the one that stands there, and it has these
-- records.
pub record AreReady (store : PageStore) (log : LogStore) (list : LogList) (site : State) : Type 0 where
  pub pages : Matches store site
  pub blocks : log_store.Finds log site
  pub records : log_store.Represents log site.image list

-- the queue on the flash of an image is of the form, and segments follow it
pub record HasQueue (g : Geometry) (image : Image) : Type 0 where
  pub first : ℕ
  pub groups : List (List Stored)
  pub has : HasGroups g first groups image
  pub saved : AreSaved g groups image

-- Nothing was told. The log has its sealed blocks, or its tail as one more where that is to be sealed, and the ring of
-- masters is as before.
-- The queue is of the form, segments follow it, clean frames are as on the disk, and each page's version is the one
-- from before, or has this content.
pub record LeavesPages (g : Geometry) (contents : ℕ
    → List ℕ) (sealing : Bool) (list : LogList) (old : State) (snapshot : Snapshot) : Type 0 where
  pub log : LeavesLog g sealing list old.told snapshot
  pub masters : KeepsUnits master_shape old.image snapshot.image
  pub queue : HasQueue g snapshot.image
  pub clean : IsCleanOn g snapshot.image
  pub versions : (page : ℕ) → page < g.pages → (version_on g snapshot.image page ≡ version_on g old.image page)
      ⊎ (version_on g snapshot.image page ≡ contents page)

-- the rings are sound under a newest master
abbrev pub LeavesRings : Option Master → Geometry → Snapshot → Type 0
LeavesRings newest g snapshot = AreRingsSoundUnder newest g snapshot.image

-- the pages given have these contents
pub record AreGiven (given : ℕ → List ℕ) (pages : List ℕ) (contents : List (List ℕ)) : Type 0 where
  pub each : (k : ℕ) → k < length pages → slice_index_or contents k [] ≡ given (slice_index pages k)

-- each page given has the content given as its version, and each other page has the version that it had
pub record Gives (g : Geometry) (pages : List ℕ) (contents : List (List ℕ)) (old new : Image) : Type 0 where
  pub given : (k : ℕ) → k < length pages → version_on g new (slice_index pages k) ≡ slice_index_or contents k []
  pub others : (page : ℕ) → (Contains pages page → ⊥) → version_on g new page ≡ version_on g old page

-- the pages given aren't in the pool, or are marked as changed there
pub record AreChanged (store : PageStore) (pages : List ℕ) : Type 0 where
  pub each : (k : ℕ) (frame : Frame) → k < length pages → frame_of store.pool.frames (slice_index pages k) ≡ Some frame
      → frame.changed ≡ true

-- each page has the content that it had
pub record KeepsCurrent (store : PageStore) (old : Image) (store' : PageStore) (new : Image) : Type 0 where
  pub each : (page : ℕ) → page < store.flash.geometry.pages → current store' new page ≡ current store old page

-- an unchanged page more is in front
pub record PutsIn (page : ℕ) (old new : List Frame) : Type 0 where
  pub frames : new ≡ front_of new ∷ old
  pub page_is : (front_of new).page ≡ page
  pub unchanged : (front_of new).changed ≡ false
