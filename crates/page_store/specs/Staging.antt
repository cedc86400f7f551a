-- What calls on pages write: the groups that they append, and the disk pages that they stage.
use Rattle.std.specs.Prelude.{◌≡◌, ◌⊎◌, ℕ, ◌*◌, ◌<◌, ◌≤◌, List, reverse, Contains, Result, OnOk, slice_index}
use Rattle.site.specs.declared.geometry.Geometry.{Geometry}
use Rattle.site.specs.State.{State, Image, IsQuiet}
use Rattle.site.specs.Moments.{LeavesOnly}
use Rattle.site.specs.declared.outside.Stop.{Stop}
use Rattle.sealed_ring.specs.Ring.{hi_of}
use Rattle.image_changes.specs.Rings.{group_shape, segment_shape}
use Rattle.frame_group.specs.Groups.{Frame as Stored}
use Rattle.tail_rebuild.specs.Saving.{IsInNoSlot}
pub use Rattle.flash_cache.specs.OnDisk.{pages_staged}
use Rattle.flash_cache.specs.OnDisk.{HasLastStaged}
use Rattle.flash_cache.specs.Representation as flash_cache
use Rattle.flash_cache.specs.Representation.{disk_on}
use Rattle.second_chance.specs.Machine.{Rules, Cache, Staged, staged_in_eviction}
use Rattle.page_store.specs.declared.store.PageStore.{PageStore}
use Rattle.page_store.specs.Caching.{cache_of, rules, next_group}
use Rattle.page_store.specs.Costs.{CallsForStaged}

-- what the eviction of the coldest page stages
abbrev pub staged_by_eviction : Rules → Cache → List Staged
staged_by_eviction rules cache = staged_in_eviction rules (reverse cache.pool) cache.queue

-- There are as many segments as before, or more, each of four groups that a group below this number stands behind.
abbrev pub SavesBefore : ℕ → ℕ → ℕ → Type 0
SavesBefore next old now = (now ≡ old) ⊎ ((old < now) × (4 * now < next))

-- The ring of groups has no number from this one on, no segment is saved early, and each octet of flash that is in no
-- slot of a group or a segment is as it was, and so is each disk page that isn't staged.
pub record WritesOnly (g : Geometry) (staged : List Staged) (next : ℕ) (old now : Image) : Type 0 where
  pub groups : hi_of (group_shape g) now.flash ≤ next
  pub segments : SavesBefore next (hi_of (segment_shape g) old.flash) (hi_of (segment_shape g) now.flash)
  pub gaps : (p : ℕ) → IsInNoSlot (group_shape g) p → IsInNoSlot (segment_shape g) p
      → slice_index now.flash p ≡ slice_index old.flash p
  pub disk : (page : ℕ) → (Contains (pages_staged staged) page → ⊥) → disk_on now page ≡ disk_on old page

-- Of an honest site, whatever of it is loose: the queue in memory is the one on flash.
pub record HasQueueOn (store : PageStore) (site : State) : Type 0 where
  pub fits : flash_cache.Matches store.flash site
  pub groups : List (List Stored)
  pub holds : flash_cache.Represents store.flash site.image groups
  pub next : next_group (cache_of store) ≡ hi_of (group_shape store.flash.geometry) site.image.flash
  pub room : 1 ≤ (rules store).groups

-- A call beside which at most these frames are staged, and groups appended below this number, whatever the log has: a
-- crash meanwhile leaves no more than that. At Ok the disk has the frames that were staged last, by their calls alone.
pub record Stages {T : Type 0} (result : Result T Stop) (staged : List Staged) (next : ℕ) (old new : PageStore)
    (before now : State) : Type 0 where
  pub holds : HasQueueOn old before → OnOk result (HasQueueOn new now)
  pub quiet : HasQueueOn old before → IsQuiet before → OnOk result (IsQuiet now)
  pub writes : HasQueueOn old before → IsQuiet before
      → LeavesOnly before now (λ s. WritesOnly old.flash.geometry staged next before.image s.image)
  pub last : HasQueueOn old before → IsQuiet before
      → OnOk result (HasLastStaged old.flash.geometry staged before now)
  pub counted : HasQueueOn old before → IsQuiet before
      → OnOk result (CallsForStaged staged old.flash.directory.first new.flash.directory.first before now)
  pub sizes : new.flash.geometry ≡ old.flash.geometry
