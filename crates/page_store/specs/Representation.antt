-- What a page store holds, in memory and on a site.
use Rattle.std.specs.Prelude.{◌≡◌, ℕ, ◌≤◌, ◌<◌, false, List, Option, Some, None, IsSome}
use Rattle.std.specs.List.{AllByRecursion}
use Rattle.site.specs.State.{State, Image}
use Rattle.slotted_page.specs.Layout.{IsSound}
use Rattle.frame_group.specs.Groups.{Frame as Stored}
use Rattle.flash_cache.specs.Representation as flash_cache
use Rattle.flash_cache.specs.Representation.{version_on, IsCleanOn}
use Rattle.buffer_pool.specs.declared.frame.Frame.{Frame}
use Rattle.buffer_pool.specs.Frames.{IsPool, frame_of, is_framed}
use Rattle.second_chance.specs.Queue.{has_frame}
use Rattle.page_store.specs.declared.store.PageStore.{PageStore}

-- a page in the pool is sound, and it exists
pub record IsPage (pages : ℕ) (frame : Frame) : Type 0 where
  pub sound : IsSound frame.content
  pub exists : frame.page < pages

-- the pool was told of a page whether it has a frame in the queue, and of each page that is there
abbrev pub IsTold : PageStore → ℕ → Type 0
IsTold store page = is_framed store.pool page ≡ has_frame store.flash.directory page

abbrev pub AreTold : PageStore → Type 0
AreTold store = (page : ℕ) → IsSome (frame_of store.pool.frames page) → IsTold store page

-- at every time: what the pool has
pub record IsStore (store : PageStore) : Type 0 where
  pub least : 1 ≤ store.pool.size
  pub most : store.pool.size ≤ 4096
  pub pool : IsPool store.pool
  pub pages : AllByRecursion (IsPage store.flash.geometry.pages) store.pool.frames
  pub told : AreTold store

-- of every site: the store may go on
pub record Invariant (store : PageStore) (site : State) : Type 0 where
  pub flash : flash_cache.Invariant store.flash site
  pub own : IsStore store

-- The current content of a page: what the pool has of it, else its version on the devices.
abbrev pub content_by : Option Frame → List ℕ → List ℕ
content_by None version = version
content_by (Some frame) version = frame.content

abbrev pub current : PageStore → Image → ℕ → List ℕ
current store image page = content_by (frame_of store.pool.frames page) (version_on store.flash.geometry image page)

-- Of an honest site, whatever is loose: the cache holds the queue on the flash, clean frames are as on the disk, each
-- page's version is sound, and a page of the pool that isn't changed is its version.
pub record Matches (store : PageStore) (site : State) : Type 0 where
  pub flash : flash_cache.Matches store.flash site
  pub groups : List (List Stored)
  pub holds : flash_cache.Represents store.flash site.image groups
  pub clean : IsCleanOn store.flash.geometry site.image
  pub sound : (page : ℕ) → page < store.flash.geometry.pages → IsSound (version_on store.flash.geometry site.image page)
  pub unchanged : (page : ℕ) (frame : Frame) → frame_of store.pool.frames page ≡ Some frame → frame.changed ≡ false
      → frame.content ≡ version_on store.flash.geometry site.image page
