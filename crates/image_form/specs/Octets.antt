-- The first rule: the octets of three devices are of the form.
use Rattle.std.specs.Prelude.{ℕ, ◌≤◌, ◌<◌, List, ⊤}
use Rattle.std.specs.List.{AllByRecursion}
use Rattle.site.specs.declared.geometry.Geometry.{Geometry}
use Rattle.site.specs.Geometry.{HasLimits, HasLengths}
use Rattle.site.specs.State.{Image}
use Rattle.sealed_ring.specs.declared.slots.Shape.{Shape}
use Rattle.sealed_ring.specs.Ring.{IsRing, IsLive, hi_of}
use Rattle.image_changes.specs.Rings.{master_shape, log_shape, group_shape, segment_shape, octets_of}
use Rattle.byte_fields.specs.declared.frame_head.FrameHead.{FrameHead}
use Rattle.log_records.specs.declared.log_record.LogRecord.{LogRecord}
use Rattle.log_records.specs.declared.log_record.LogRecord.TheVariants.{Update, Clr}
use Rattle.log_records.specs.Spelling.{IsBlock}
use Rattle.slotted_page.specs.Layout as page
use Rattle.frame_group.specs.Groups.{Frame, IsGroup}
use Rattle.meta_segments.specs.Segments.{IsSegment}
use Rattle.checkpoint.specs.declared.master.Master.{Master}
use Rattle.checkpoint.specs.Newest.{HasMaster}
use Rattle.log_store.specs.Representation.{block_on}
use Rattle.flash_cache.specs.Representation.{group_on, version_on, PagesExist}
use Rattle.tail_rebuild.specs.Standing.{segment_on}
use Rattle.image_meaning.specs.Meaning.{IsFrameOf}

-- the three contents have the lengths of sizes within the limits
pub record HasSizes (g : Geometry) (image : Image) : Type 0 where
  pub limits : HasLimits g
  pub lengths : HasLengths g image

-- the four rings are of the form
pub record AreRings (g : Geometry) (image : Image) : Type 0 where
  pub masters : IsRing master_shape image.log
  pub blocks : IsRing (log_shape g) image.log
  pub groups : IsRing (group_shape g) image.flash
  pub segments : IsRing (segment_shape g) image.flash

-- P of the number of each live unit of a ring
abbrev pub OfLive : Shape → Image → (ℕ → Type 0) → Type 0
OfLive s image P = (n : ℕ) → IsLive s (hi_of s (octets_of s image)) n → P n

-- a record names no page that the disk hasn't
abbrev pub IsOnPage : ℕ → LogRecord → Type 0
IsOnPage pages (Update txn prev page slot before after) = page < pages
IsOnPage pages (Clr txn prev undo_next page slot after) = page < pages
IsOnPage pages _ = ⊤

-- the content of a block, whose records are on pages of the disk
pub record IsBlockOn (pages : ℕ) (content : List ℕ) (records : List LogRecord) : Type 0 where
  pub block : IsBlock content records
  pub exist : AllByRecursion (IsOnPage pages) records

-- each live block from the oldest kept one on is of the form
abbrev pub AreBlocks : Geometry → ℕ → Image → Type 0
AreBlocks g kept image = OfLive (log_shape g) image (λ n. kept ≤ n
    → (records : List LogRecord) × IsBlockOn g.pages (block_on g image n) records)

-- the content of a group, whose frames are sound pages of the disk
pub record IsGroupOn (g : Geometry) (content : List ℕ) (frames : List Frame) : Type 0 where
  pub group : IsGroup content frames
  pub sound : AllByRecursion (IsFrameOf g) frames

-- each live group is of the form
abbrev pub AreGroups : Geometry → Image → Type 0
AreGroups g image = OfLive (group_shape g) image (λ n. (frames : List Frame) × IsGroupOn g (group_on g image n) frames)

-- the content of a segment, with heads of pages that the disk has
pub record IsSegmentOn (pages : ℕ) (content : List ℕ) (heads : List FrameHead) : Type 0 where
  pub segment : IsSegment content heads
  pub exist : PagesExist pages heads

-- each live segment is of the form
abbrev pub SegmentsAreFormed : Geometry → Image → Type 0
SegmentsAreFormed g image = OfLive (segment_shape g) image (λ n. (heads : List FrameHead)
    × IsSegmentOn g.pages (segment_on g image n) heads)

-- the version of each page is a sound page
abbrev pub AreVersions : Geometry → Image → Type 0
AreVersions g image = (number : ℕ) → number < g.pages → page.IsSound (version_on g image number)

-- The first rule, with the sizes and the newest master: what is live is of the form, each frame and each version is a
-- sound page, and no page is named that the disk hasn't.
pub record IsFormed (g : Geometry) (m : Master) (image : Image) : Type 0 where
  pub sizes : HasSizes g image
  pub rings : AreRings g image
  pub master : HasMaster image m
  pub blocks : AreBlocks g m.kept image
  pub groups : AreGroups g image
  pub segments : SegmentsAreFormed g image
  pub versions : AreVersions g image
