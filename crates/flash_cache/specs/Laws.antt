-- Laws on pushes and versions.
use Rattle.std.specs.Prelude.{◌≡◌, ℕ, false, List}
use Rattle.site.specs.State.{Image}
use Rattle.frame_group.specs.Groups.{Frame}
use Rattle.second_chance.specs.Queue.{has_frame}
use Rattle.flash_cache.specs.declared.cache.FlashCache.{FlashCache}
use Rattle.flash_cache.specs.Representation.{Represents, version_on, disk_on}

-- a page that has no frame in the queue has its disk page as its version
abbrev pub UnframedIsDisk : Type 0
UnframedIsDisk = (cache : FlashCache) (image : Image) (groups : List (List Frame)) (page : ℕ)
    → Represents cache image groups → has_frame cache.directory page ≡ false
    → version_on cache.geometry image page ≡ disk_on image page
