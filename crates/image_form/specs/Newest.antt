-- The newest versions of pages, by where their frames stand.
use Rattle.std.specs.Prelude.{◌≡◌, ℕ, ◌+◌, ◌<◌, length}
use Rattle.site.specs.declared.geometry.Geometry.{Geometry}
use Rattle.site.specs.State.{Image}
use Rattle.sealed_ring.specs.Ring.{IsLive, hi_of}
use Rattle.image_changes.specs.Rings.{group_shape}
use Rattle.second_chance.specs.Queue.{Queue}
use Rattle.flash_cache.specs.Representation.{groups_on, queue_of}
use Rattle.image_form.specs.declared.rings.Rings.{Rings}

-- of every site: the groups of a queue are live
pub record AreLive (rings : Rings) (frames : Queue) : Type 0 where
  pub each : (k : ℕ) → k < length frames.groups → IsLive rings.groups.shape rings.groups.hi (frames.first + k)

-- the queue shows the frames of the live groups
pub record ShowsFrames (g : Geometry) (image : Image) (frames : Queue) : Type 0 where
  pub next : frames.first + length frames.groups ≡ hi_of (group_shape g) image.flash
  pub shown : frames ≡ queue_of frames.first (groups_on g image)
