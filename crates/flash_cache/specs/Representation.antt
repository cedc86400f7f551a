-- What the cache knows of the queue on flash, and what an image has of it.
use Rattle.std.specs.Prelude.{◌≡◌, ℕ, ◌+◌, ◌*◌, ◌/◌, ◌^◌, ◌≤◌, ◌<◌, List, [], ◌∷◌, length, map, IsTrue}
use Rattle.std.specs.Prelude.{Result, OnOk, IsErrOf}
use Rattle.std.specs.List.{AllByRecursion}
use Rattle.site.specs.declared.outside.Dev.TheVariants.{Flash}
use Rattle.site.specs.declared.outside.Stop.{Stop}
use Rattle.site.specs.declared.outside.Stop.TheVariants.{Worn}
use Rattle.site.specs.declared.geometry.Geometry.{Geometry}
use Rattle.site.specs.Geometry.{HasLimits, HasLengths}
use Rattle.site.specs.State.{State, Image}
use Rattle.sealed_ring.specs.Ring.{IsRing, hi_of}
use Rattle.disk_pages.specs.Pages.{page_on}
use Rattle.image_changes.specs.Rings.{group_shape, segment_shape, units_on}
use Rattle.byte_fields.specs.declared.frame_head.FrameHead.{FrameHead}
use Rattle.frame_group.specs.Groups.{Frame, frames_in}
use Rattle.frame_group.specs.Versions.{frames_of, version, CleanAsDisk}
use Rattle.second_chance.specs.declared.frame.Frame.{Frame as Known}
use Rattle.second_chance.specs.Queue.{Queue, frame_of as known_of}
use Rattle.tail_rebuild.specs.Rebuilt.{AreRings}
pub use Rattle.tail_rebuild.specs.Standing.{group_on, HasFrames, HasGroups, HasSaved, PagesExist}
use Rattle.flash_cache.specs.declared.cache.FlashCache.{FlashCache}

-- Frames: the frames of the live groups, the oldest group first
abbrev pub frames_on : Geometry → Image → List Frame
frames_on g image = frames_of (units_on (group_shape g) image).live

abbrev pub disk_on : Image → ℕ → List ℕ
disk_on image page = page_on page image.disk

-- Version: the octets of the page's last frame, or its disk page where it has none
abbrev pub version_on : Geometry → Image → ℕ → List ℕ
version_on g image page = version (disk_on image) (frames_on g image) page

-- the live groups, each with its frames
abbrev pub groups_on : Geometry → Image → List (List Frame)
groups_on g image = map frames_in (units_on (group_shape g) image).live

-- a valid frame that isn't dirty equals its disk page
abbrev pub IsCleanOn : Geometry → Image → Type 0
IsCleanOn g image = CleanAsDisk (disk_on image) (frames_on g image)

-- segments stand that follow these groups
pub record AreSaved (g : Geometry) (groups : List (List Frame)) (image : Image) : Type 0 where
  pub segments : List (List FrameHead)
  pub follow : HasSaved g groups segments image

-- the queue of these groups, as the directory knows it where no frame is referenced
abbrev pub queue_of : ℕ → List (List Frame) → Queue
queue_of first groups = record { first = first; groups = map (map (λ frame. known_of frame.page frame.dirty)) groups }

-- of every site: the cache may go on
pub record Invariant (cache : FlashCache) (site : State) : Type 0 where
  pub limits : HasLimits cache.geometry
  pub lengths : HasLengths cache.geometry site.image
  -- the rings of groups and segments, of which at most four groups aren't in segments
  pub rings : AreRings cache.geometry cache.ring cache.segments site
  pub next : cache.directory.first + length cache.directory.groups ≡ cache.ring.hi
  pub few : length cache.directory.groups < cache.geometry.groups
  pub sizes : AllByRecursion (λ frames. (1 ≤ length frames) × (length frames ≤ 8)) cache.directory.groups
  pub exist : AllByRecursion (λ frames. AllByRecursion (λ frame. frame.page < cache.geometry.pages) frames)
      cache.directory.groups

-- of an honest site, whatever of the flash is loose: the rings of groups and segments are of the form and the ones that
-- the cache found
pub record Matches (cache : FlashCache) (site : State) : Type 0 where
  pub honest : IsTrue site.honest
  pub form : IsRing (group_shape cache.geometry) site.image.flash
  pub hi : cache.ring.hi ≡ hi_of (group_shape cache.geometry) site.image.flash
  pub segments_form : IsRing (segment_shape cache.geometry) site.image.flash
  pub segments_hi : cache.segments.hi ≡ hi_of (segment_shape cache.geometry) site.image.flash

-- the most flash reads of a start
abbrev pub start_reads : Geometry → ℕ
start_reads g = 2 * (g.groups / 4 + 3) + 12

-- the ring of groups stands at its end: no group can be appended
abbrev pub IsWorn : Geometry → Image → Type 0
IsWorn g image = hi_of (group_shape g) image.flash ≡ 2 ^ 40

-- over an honest site, whatever stands there: the next segment of the cache is that of the content
abbrev pub IsNext : FlashCache → State → Type 0
IsNext cache site = cache.segments.hi ≡ hi_of (segment_shape cache.geometry) site.image.flash

-- the ring of segments, of four groups each, has numbers for at most one more: so at most four groups more have one
abbrev pub IsSpent : Geometry → Image → Type 0
IsSpent g image = 2 ^ 38 ≤ hi_of (segment_shape g) image.flash + 1

-- A call on an honest site, whatever stands there: the next segment of the cache is that of the content again, and
-- flash is worn only where hardly a segment has a number left.
pub record KeepsNext {T : Type 0} (result : Result T Stop) (old new : FlashCache) (before now : State) : Type 0 where
  pub next : IsNext old before → OnOk result (IsNext new now)
  pub worn : IsNext old before → IsErrOf result (Worn Flash) → IsSpent old.geometry now.image

-- a frame in the directory shows the page and the mark of one on flash
pub record Shows (known : Known) (frame : Frame) : Type 0 where
  pub page : known.page ≡ frame.page
  pub dirty : known.dirty ≡ frame.dirty

-- two lists are of one length, and R holds of each two elements at one place
abbrev pub AllTogether : {A B : Type 0} → (A → B → Type 0) → List A → List B → Type 0
AllTogether R [] [] = Unit {0}
AllTogether R [] (b ∷ bs) = ⊥
AllTogether R (a ∷ as') [] = ⊥
AllTogether R (a ∷ as') (b ∷ bs) = R a b × AllTogether R as' bs

-- the cache holds these groups, and segments follow them
pub record Represents (cache : FlashCache) (image : Image) (groups : List (List Frame)) : Type 0 where
  pub has : HasGroups cache.geometry cache.directory.first groups image
  pub saved : AreSaved cache.geometry groups image
  pub shown : AllTogether (AllTogether Shows) cache.directory.groups groups
