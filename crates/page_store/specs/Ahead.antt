-- The log is ahead of the pages: no version of a page has an LSN that isn't sealed.
use Rattle.std.specs.Prelude.{ℕ, ◌*◌, ◌<◌, List, [], map, if◌then◌else◌}
use Rattle.std.specs.List.{AllByRecursion}
use Rattle.site.specs.declared.geometry.Geometry.{Geometry}
use Rattle.site.specs.State.{Image, Snapshot}
use Rattle.sealed_ring.specs.Ring.{hi_of}
use Rattle.image_changes.specs.Rings.{log_shape}
use Rattle.flash_cache.specs.Representation.{version_on}
use Rattle.log_store.specs.declared.store.LogStore.{LogStore}
use Rattle.buffer_pool.specs.declared.frame.Frame.{Frame}
use Rattle.second_chance.specs.Machine.{lacks_room}
use Rattle.write_ahead.specs.Forcing.{IsLogged, end_forced}
use Rattle.page_store.specs.declared.store.PageStore.{PageStore}
use Rattle.page_store.specs.Caching.{cache_of, rules, is_full}
use Rattle.page_store.specs.Pulling.{evicted_frames}

-- where the sealed blocks of an image end
abbrev pub sealed_end : Geometry → Image → ℕ
sealed_end g image = 512 * hi_of (log_shape g) image.log

-- the LSN of each page's version is sealed
pub record AreSealed (g : Geometry) (image : Image) : Type 0 where
  pub each : (page : ℕ) → page < g.pages → IsLogged (sealed_end g image) (version_on g image page)

abbrev pub LeavesSealed : Geometry → Snapshot → Type 0
LeavesSealed g snapshot = AreSealed g snapshot.image

-- the LSN of each of these pages lies below this end
abbrev pub AreLogged : ℕ → List Frame → Type 0
AreLogged end frames = AllByRecursion (λ frame. IsLogged end frame.content) frames

-- the log has the LSN of each page in the pool, and has sealed that of each version
pub record IsAhead (log : LogStore) (store : PageStore) (image : Image) : Type 0 where
  pub pool : AreLogged (end_forced log) store.pool.frames
  pub versions : AreSealed store.flash.geometry image

-- the contents that an eviction pushes
abbrev pub evicted : PageStore → List (List ℕ)
evicted store = map (λ f. f.content) (evicted_frames store)

-- what is pushed where room is made for a page, and by a touch
abbrev pub pushed_for_room : PageStore → List (List ℕ)
pushed_for_room store = if is_full store then evicted store else []

abbrev pub pushed_by_touch : PageStore → ℕ → List (List ℕ)
pushed_by_touch store page = if lacks_room (rules store) page (cache_of store) then evicted store else []
