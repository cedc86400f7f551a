-- Which changes an image may see.
use Rattle.std.specs.Prelude.{◌≡◌, ◌⊎◌, ℕ, ◌+◌, ◌-◌, ◌*◌, ◌<◌, true, List, [], ◌∷◌, ◌++◌, length, take, drop, Contains}
use Rattle.std.specs.Prelude.{Option, Some, filter_map, ⊤}
use Rattle.std.specs.List.{AllByRecursion}
use Rattle.site.specs.declared.geometry.Geometry.{Geometry}
use Rattle.site.specs.State.{Image}
use Rattle.sealed_ring.specs.Ring.{hi_of}
use Rattle.byte_fields.specs.FrameHeads.{spelling_of_all}
use Rattle.log_records.specs.declared.log_record.LogRecord.{LogRecord}
use Rattle.log_records.specs.Sound.{AreOrderly, commit_number_by}
use Rattle.log_laws.specs.Follow.{GoesOn}
use Rattle.log_laws.specs.NewImage.{Replaces, with_master, MayCheckpoint}
use Rattle.frame_group.specs.Groups.{Frame, IsGroup}
use Rattle.frame_group.specs.Versions.{frames_of, last_frame}
use Rattle.image_changes.specs.Rings.{group_shape, segment_shape, units_on}
use Rattle.image_changes.specs.Changes.{Change, SealsBlock, RewritesPages, AppendsGroup, AppendsSegment, AppendsMaster}
use Rattle.image_changes.specs.Changes.{Makes}
use Rattle.checkpoint.specs.declared.master.Master.{Master}
use Rattle.checkpoint.specs.Units.{IsUnit, master_in}
use Rattle.checkpoint.specs.Newest.{seen}
use Rattle.tail_rebuild.specs.Saving.{segment_of}
use Rattle.flash_cache.specs.Representation.{frames_on, groups_on, disk_on}
use Rattle.image_meaning.specs.Pushes.{MayPush}
use Rattle.image_meaning.specs.Meaning.{kept_by, next_block_under, logical_image_under, version_in, IsFrameOf}

-- A segment is appended.

-- one is due: four groups aren't in segments
abbrev pub SegmentIsDue : Geometry → Image → Type 0
SegmentIsDue g image = hi_of (group_shape g) image.flash ≡ 4 * hi_of (segment_shape g) image.flash + 4

-- none is: fewer aren't
abbrev pub NoSegmentIsDue : Geometry → Image → Type 0
NoSegmentIsDue g image = hi_of (group_shape g) image.flash < 4 * hi_of (segment_shape g) image.flash + 4

-- A segment with this content may be appended: one is due, and the content spells the heads of the last four groups.
pub record MaySaveSegment (g : Geometry) (image : Image) (content : List ℕ) : Type 0 where
  pub due : SegmentIsDue g image
  pub heads : content ≡ spelling_of_all (segment_of (groups_on g image))

-- A group is appended.

-- how many groups leave: the oldest one, where as many live as can
abbrev pub leaving : Geometry → Image → ℕ
leaving g image = length (units_on (group_shape g) image).live + 1 - (g.groups - 1)

-- the frames that leave, and those that stay
abbrev pub front_on : Geometry → Image → List Frame
front_on g image = frames_of (take (leaving g image) (units_on (group_shape g) image).live)

abbrev pub rest_on : Geometry → Image → List Frame
rest_on g image = frames_of (drop (leaving g image) (units_on (group_shape g) image).live)

-- A group with these frames may be appended: no segment is due, they are of the form, they may be pushed, and each
-- page's last frame replaces the page's version.
pub record MayAppend (newest : Option Master) (g : Geometry) (image : Image) (blocks : List (List LogRecord))
    (frames : List Frame) : Type 0 where
  pub none_due : NoSegmentIsDue g image
  pub are_frames : AllByRecursion (IsFrameOf g) frames
  pub pushed : MayPush (disk_on image) (front_on g image) (rest_on g image) frames
  pub replace : (number : ℕ) (frame : Frame) → last_frame number frames ≡ Some frame
      → Replaces (logical_image_under newest g image blocks) number (version_in frame.octets)

-- Disk pages are rewritten: each has a valid frame that is dirty.
abbrev pub MayStage : Geometry → Image → List ℕ → Type 0
MayStage g image pages = (number : ℕ) → Contains pages number
    → (frame : Frame) × (last_frame number (frames_on g image) ≡ Some frame) × (frame.dirty ≡ true)

-- A master unit is appended.

-- A unit with this content may be appended: it is that of a master under which redo begins with the next block, and the
-- blocks from one of the kept ones on are kept. The log is orderly, or none of its blocks is kept.
pub record MaySave (newest : Option Master) (g : Geometry) (image : Image) (blocks : List (List LogRecord))
    (content : List ℕ) : Type 0 where
  pub unit : IsUnit content (master_in content)
  pub master : seen (master_in content)
      ≡ (with_master (logical_image_under newest g image blocks) (master_in content).kept).master
  pub may : MayCheckpoint (logical_image_under newest g image blocks) (master_in content).kept
  pub orderly : AreOrderly (logical_image_under newest g image blocks).log
      ⊎ ((master_in content).kept ≡ (logical_image_under newest g image blocks).hi)

-- Which changes keep an image sound.
abbrev pub MayMake : Option Master → Geometry → Image → List (List LogRecord) → Change → Type 0
MayMake newest g image blocks (SealsBlock records) = GoesOn (logical_image_under newest g image blocks) records
MayMake newest g image blocks (RewritesPages pages) = MayStage g image pages
MayMake newest g image blocks (AppendsGroup content) = (frames : List Frame) × IsGroup content frames
    × MayAppend newest g image blocks frames
MayMake newest g image blocks (AppendsSegment content) = MaySaveSegment g image content
MayMake newest g image blocks (AppendsMaster content) = MaySave newest g image blocks content

-- the newest master after a change
abbrev pub newest_after : Option Master → Change → Option Master
newest_after newest (AppendsMaster content) = Some (master_in content)
newest_after newest _ = newest

-- the log's blocks after a change, from the oldest kept one on
abbrev pub blocks_after : Option Master → List (List LogRecord) → Change → List (List LogRecord)
blocks_after newest blocks (SealsBlock records) = blocks ++ records ∷ []
blocks_after newest blocks (AppendsMaster content) = drop ((master_in content).kept - kept_by newest) blocks
blocks_after newest blocks _ = blocks

-- each of a list may be made, whatever image the ones before it have led to
abbrev pub MayMakeAll : Option Master → Geometry → Image → List (List LogRecord) → List Change → Type 0
MayMakeAll newest g image blocks [] = ⊤
MayMakeAll newest g image blocks (change ∷ changes) =
    MayMake newest g image blocks change
    × ((mid : Image) → Makes g change image mid
    → MayMakeAll (newest_after newest change) g mid (blocks_after newest blocks change) changes)

abbrev pub newest_after_all : Option Master → List Change → Option Master
newest_after_all newest [] = newest
newest_after_all newest (change ∷ changes) = newest_after_all (newest_after newest change) changes

abbrev pub blocks_after_all : Option Master → List (List LogRecord) → List Change → List (List LogRecord)
blocks_after_all newest blocks [] = blocks
blocks_after_all newest blocks (change ∷ changes) =
    blocks_after_all (newest_after newest change) (blocks_after newest blocks change) changes

-- a block that is sealed has no Commit
abbrev pub SealsNoCommit : Change → Type 0
SealsNoCommit (SealsBlock records) = filter_map commit_number_by records ≡ []
SealsNoCommit _ = ⊤

-- no master unit is appended
abbrev pub SavesNoMaster : Change → Type 0
SavesNoMaster (AppendsMaster content) = ⊥
SavesNoMaster _ = ⊤

-- the LSN of the first record of the next block
abbrev pub next_block_lsn : Option Master → List (List LogRecord) → ℕ
next_block_lsn newest blocks = 512 * next_block_under newest blocks + 2
