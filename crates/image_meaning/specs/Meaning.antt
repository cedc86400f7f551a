-- What three contents mean: when they are sound, and which table they stand for.
use Rattle.std.specs.Prelude.{◌≡◌, ℕ, ◌+◌, ◌<◌, List, length, map, Option, Some, None}
use Rattle.std.specs.List.{range_with_len, AllByRecursion}
use Rattle.site.specs.declared.geometry.Geometry.{Geometry}
use Rattle.site.specs.Geometry.{HasLimits, HasLengths}
use Rattle.site.specs.State.{Image}
use Rattle.sealed_ring.specs.Ring.{IsRing}
use Rattle.record_model.specs.State.{Content}
use Rattle.log_records.specs.declared.log_record.LogRecord.{LogRecord}
use Rattle.log_records.specs.Log.{Version, log_from}
use Rattle.log_records.specs.Sound.{LogicalImage, Means}
use Rattle.log_records.specs.Sound as lists
use Rattle.slotted_page.specs.Layout.{lsn_of, slots_of}
use Rattle.slotted_page.specs.Layout as page
use Rattle.frame_group.specs.Groups.{Frame, IsGroup, frames_in}
use Rattle.image_changes.specs.Rings.{RingName, Masters, shape_of, octets_of, master_shape, group_shape, units_on}
use Rattle.checkpoint.specs.declared.master.Master.{Master}
use Rattle.checkpoint.specs.Newest.{blank, HasMaster, seen}
use Rattle.log_store.specs.Representation.{HasBlocks}
use Rattle.flash_cache.specs.Representation.{frames_on, groups_on, version_on, AreSaved, IsCleanOn}

-- Reading.

-- what a page's octets tell: the LSN of the last record that it knows of, and its 32 slots
abbrev pub version_in : List ℕ → Version
version_in octets = record { lsn = lsn_of octets; slots = slots_of octets }

-- the newest versions of all pages
abbrev pub versions_on : Geometry → Image → List Version
versions_on g image = map (λ number. version_in (version_on g image number)) (range_with_len 0 g.pages)

-- the master of the newest unit, and the blank one where no unit stands
abbrev pub saved_by : Option Master → Master
saved_by None = blank
saved_by (Some m) = m

abbrev pub master_of : Option Master → lists.Master
master_of newest = seen (saved_by newest)

-- its oldest kept block
abbrev pub kept_by : Option Master → ℕ
kept_by newest = (master_of newest).kept

-- the number of the next block, behind these ones from the oldest kept one on
abbrev pub next_block_under : Option Master → List (List LogRecord) → ℕ
next_block_under None blocks = length blocks
next_block_under (Some m) blocks = m.kept + length blocks

-- the records of these log blocks, from the oldest kept one on, and the versions of the image's pages
abbrev pub logical_image_under : Option Master → Geometry → Image → List (List LogRecord) → LogicalImage
logical_image_under newest g image blocks = record {
  master = master_of newest;
  log = log_from (kept_by newest) blocks;
  hi = next_block_under newest blocks;
  blocks = g.blocks;
  pages = versions_on g image;
}

-- where no master unit stands: the blocks from block 0 on
abbrev pub logical_image : Geometry → Image → List (List LogRecord) → LogicalImage
logical_image = logical_image_under None

-- Soundness.

-- a ring of the form in which no unit stands
pub record IsUnused (g : Geometry) (ring : RingName) (image : Image) : Type 0 where
  pub form : IsRing (shape_of g ring) (octets_of (shape_of g ring) image)
  pub none : (units_on (shape_of g ring) image).hi ≡ 0

-- a ring of the form in which a unit stands, the newest of which is that of a master
pub record IsNewest (image : Image) (m : Master) : Type 0 where
  pub form : IsRing master_shape image.log
  pub some : 0 < (units_on master_shape image).hi
  pub master : HasMaster image m

-- what stands in the master ring
abbrev pub HasNewest : Option Master → Geometry → Image → Type 0
HasNewest None g image = IsUnused g Masters image
HasNewest (Some m) g image = IsNewest image m

-- the live segments follow the live groups
abbrev pub AreSegments : Geometry → Image → Type 0
AreSegments g image = AreSaved g (groups_on g image) image

-- a frame of a page that exists, with a sound page's octets
pub record IsFrameOf (g : Geometry) (frame : Frame) : Type 0 where
  pub exists : frame.page < g.pages
  pub sound : page.IsSound frame.octets

-- the live groups are of the form, and so are their frames
pub record AreGroups (g : Geometry) (image : Image) : Type 0 where
  pub form : IsRing (group_shape g) image.flash
  pub each : AllByRecursion (λ content. IsGroup content (frames_in content)) (units_on (group_shape g) image).live
  pub frames : AllByRecursion (IsFrameOf g) (frames_on g image)

-- The part of soundness that speaks of octets, but for the log's blocks.
pub record AreOctetsSoundUnder (newest : Option Master) (g : Geometry) (image : Image) : Type 0 where
  pub limits : HasLimits g
  pub lengths : HasLengths g image
  pub masters : HasNewest newest g image
  pub segments : AreSegments g image
  pub groups : AreGroups g image
  -- each version is a sound page
  pub versions : (number : ℕ) → number < g.pages → page.IsSound (version_on g image number)
  -- a valid frame that isn't dirty equals its disk page
  pub clean : IsCleanOn g image

-- An image is sound under its newest master: its octets are, its log has these blocks from the oldest kept one on, and
-- their records, the versions and the master belong together.
pub record IsSoundUnder (newest : Option Master) (g : Geometry) (image : Image)
    (blocks : List (List LogRecord)) : Type 0 where
  pub octets : AreOctetsSoundUnder newest g image
  pub held : HasBlocks g (kept_by newest) blocks image
  pub records : lists.IsSound (logical_image_under newest g image blocks)

-- an image is sound under its newest master, and stands for this table and this number of commits
pub record StandsUnder (newest : Option Master) (g : Geometry) (image : Image) (table : List Content)
    (commits : ℕ) : Type 0 where
  pub blocks : List (List LogRecord)
  pub sound : IsSoundUnder newest g image blocks
  pub means : Means (logical_image_under newest g image blocks) table commits

-- it is so under some newest master
pub record StandsFor (g : Geometry) (image : Image) (table : List Content) (commits : ℕ) : Type 0 where
  pub newest : Option Master
  pub stands : StandsUnder newest g image table commits
