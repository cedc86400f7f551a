-- What a push keeps of the pages' versions, and what it gives.
use Rattle.std.specs.Prelude.{◌≡◌, ◌⊎◌, ℕ, ◌<◌, Bool, false, List, [], length, slice_index, slice_index_or, Contains}
use Rattle.std.specs.Prelude.{Result, OnOk, IsErrOf}
use Rattle.site.specs.declared.outside.Stop.{Stop}
use Rattle.site.specs.declared.outside.Stop.TheVariants.{Foreign}
use Rattle.site.specs.declared.geometry.Geometry.{Geometry}
use Rattle.site.specs.State.{State, Image, Snapshot, IsQuiet}
use Rattle.site.specs.Moments.{LeavesOnly}
use Rattle.image_changes.specs.Changes.{Reaches}
use Rattle.image_changes.specs.Reached.{LeavesFront}
use Rattle.stage_out.specs.Staged.{HasStaged}
use Rattle.frame_group.specs.Groups.{Frame, group}
use Rattle.second_chance.specs.Queue.{has_frame}
use Rattle.second_chance.specs.Machine.{rules_of, staged_in_push}
use Rattle.tail_rebuild.specs.Saving.{LeavesGaps}
use Rattle.flash_cache.specs.declared.cache.FlashCache.{FlashCache}
use Rattle.flash_cache.specs.Representation.{HasGroups, HasFrames, AreSaved, Represents, version_on, disk_on, IsCleanOn}
use Rattle.flash_cache.specs.Pushed.{staged_pages, staged_contents, frames_pushed, known_pushed, pushed_groups}
use Rattle.flash_cache.specs.Pushed.{pushed_queue, changes_before, changes_of_group, LeavesPushBehind}
use Rattle.flash_cache.specs.OnDisk.{HasLastStaged}

-- an image has these live groups, from a number on, and segments that follow them, and each page has the version that
-- it had
pub record KeepsVersions (g : Geometry) (first : ℕ) (groups : List (List Frame)) (old new : Image) : Type 0 where
  pub has : HasGroups g first groups new
  pub saved : AreSaved g groups new
  pub versions : (page : ℕ) → version_on g new page ≡ version_on g old page

-- An image has these live groups, from a number on, and segments that follow them. The version of each page given is
-- its content, and each other page has the version that it had.
pub record GivesVersions (g : Geometry) (first : ℕ) (groups : List (List Frame)) (pages : List ℕ)
    (contents : List (List ℕ)) (old new : Image) : Type 0 where
  pub has : HasGroups g first groups new
  pub saved : AreSaved g groups new
  pub given : (k : ℕ) → k < length pages → version_on g new (slice_index pages k) ≡ slice_index_or contents k []
  pub others : (page : ℕ) → (Contains pages page → ⊥) → version_on g new page ≡ version_on g old page

-- nothing was told, and the groups and versions are those from before the push, or those behind it
pub record LeavesVersions (cache : FlashCache) (groups : List (List Frame)) (pages : List ℕ) (changed : List Bool)
    (contents : List (List ℕ)) (old : State) (snapshot : Snapshot) : Type 0 where
  pub told : snapshot.told ≡ old.told
  pub either : KeepsVersions cache.geometry cache.directory.first groups old.image snapshot.image
      ⊎ GivesVersions cache.geometry (pushed_queue cache (known_pushed cache pages changed)).first
      (pushed_groups cache groups (frames_pushed cache old.image pages changed contents)) pages contents old.image
      snapshot.image

-- each page given as not changed has no frame in the queue, and its disk page has the content given
abbrev pub AreCleanGiven : FlashCache → List ℕ → List Bool → List (List ℕ) → Image → Type 0
AreCleanGiven cache pages changed contents image = (k : ℕ) → k < length pages → slice_index_or changed k false ≡ false
    → (has_frame cache.directory (slice_index pages k) ≡ false)
    × (slice_index_or contents k [] ≡ disk_on image (slice_index pages k))

-- valid clean frames equal their disk pages
abbrev pub LeavesClean : Geometry → Snapshot → Type 0
LeavesClean g snapshot = IsCleanOn g snapshot.image

-- What a push does on an honest site that the cache fits, and whose groups these are.
pub record PushesGroup {T : Type 0} (result : Result T Stop) (cache new : FlashCache) (groups : List (List Frame))
    (pages : List ℕ) (changed : List Bool) (contents : List (List ℕ)) (before now : State) : Type 0 where
  -- the devices
  pub any_moment : IsQuiet before → LeavesOnly before now (LeavesPushBehind cache.geometry
      (changes_before cache before.image) (staged_pages cache) (staged_contents cache groups)
      (group (frames_pushed cache before.image pages changed contents)) before)
  pub front : IsQuiet before →
      LeavesFront cache.geometry (changes_of_group cache before.image pages changed contents) before now
  pub gaps : IsQuiet before → LeavesGaps cache.geometry before now
  pub reaches : OnOk result
      (Reaches cache.geometry (changes_of_group cache before.image pages changed contents) before.image now.image)
  pub staged : OnOk result
      (HasStaged (staged_pages cache) (staged_contents cache groups) before.image.disk now.image.disk)
  pub last : IsQuiet before → OnOk result
      (HasLastStaged cache.geometry (staged_in_push (rules_of 0 cache.geometry.groups) cache.directory) before now)
  pub frames : HasFrames cache.geometry (frames_pushed cache before.image pages changed contents)
      (group (frames_pushed cache before.image pages changed contents))
  -- what that means for the pages, where valid clean frames equal their disk pages
  pub versions : IsQuiet before → IsCleanOn cache.geometry before.image →
      LeavesOnly before now (LeavesVersions cache groups pages changed contents before)
  pub gives : IsCleanOn cache.geometry before.image → OnOk result (GivesVersions cache.geometry new.directory.first
      (pushed_groups cache groups (frames_pushed cache before.image pages changed contents)) pages contents
      before.image now.image)
  pub clean_moment : IsQuiet before → IsCleanOn cache.geometry before.image →
      AreCleanGiven cache pages changed contents before.image →
      LeavesOnly before now (LeavesClean cache.geometry)
  pub clean : IsCleanOn cache.geometry before.image → AreCleanGiven cache pages changed contents before.image →
      OnOk result (IsCleanOn cache.geometry now.image)
  -- the cache
  pub holds : OnOk result (Represents new now.image
      (pushed_groups cache groups (frames_pushed cache before.image pages changed contents)))
  pub foreign : IsErrOf result Foreign → ⊥
