-- Laws on pushes: pages are staged, then a group is appended.
use Rattle.std.specs.Prelude.{◌≡◌, ℕ, ◌<◌, true, false, List, [], length, Contains, slice_index, slice_index_or}
use Rattle.std.specs.Prelude.{Option, Some, None}
use Rattle.std.specs.List.{AllByRecursion}
use Rattle.site.specs.declared.geometry.Geometry.{Geometry}
use Rattle.site.specs.State.{Image}
use Rattle.log_records.specs.declared.log_record.LogRecord.{LogRecord}
use Rattle.log_laws.specs.NewImage.{Replaces}
use Rattle.frame_group.specs.Groups.{Frame}
use Rattle.frame_group.specs.Versions.{last_frame, CleanAsDisk}
use Rattle.checkpoint.specs.declared.master.Master.{Master}
use Rattle.flash_cache.specs.Representation.{frames_on, disk_on}
use Rattle.image_meaning.specs.Meaning.{logical_image_under, version_in, IsFrameOf}
use Rattle.image_meaning.specs.Changes.{NoSegmentIsDue, front_on, rest_on}

-- A staged page has a valid dirty frame, whose octets are written.
pub record IsStagedFrom (g : Geometry) (image : Image) (number : ℕ) (octets : List ℕ) : Type 0 where
  pub frame : Frame
  pub last : last_frame number (frames_on g image) ≡ Some frame
  pub dirty : frame.dirty ≡ true
  pub same : octets ≡ frame.octets

-- These pages may be staged, with these octets, and a group with these frames appended behind them: no segment is due.
pub record MayPushGroup (newest : Option Master) (g : Geometry) (image : Image) (blocks : List (List LogRecord))
    (pages : List ℕ) (contents : List (List ℕ)) (frames : List Frame) : Type 0 where
  pub none_due : NoSegmentIsDue g image
  pub are_frames : AllByRecursion (IsFrameOf g) frames
  pub replace : (number : ℕ) (frame : Frame) → last_frame number frames ≡ Some frame
      → Replaces (logical_image_under newest g image blocks) number (version_in frame.octets)
  -- a clean frame of the group equals its disk page, which isn't staged
  pub clean : CleanAsDisk (disk_on image) frames
  pub apart : (number : ℕ) (frame : Frame) → last_frame number frames ≡ Some frame → frame.dirty ≡ false
      → Contains pages number → ⊥
  pub staged : (k : ℕ) → k < length pages → IsStagedFrom g image (slice_index pages k) (slice_index_or contents k [])
  -- a valid dirty frame that leaves is staged, or its page is in the group
  pub left : (number : ℕ) (frame : Frame) → last_frame number frames ≡ None → last_frame number (rest_on g image) ≡ None
      → last_frame number (front_on g image) ≡ Some frame →
      frame.dirty ≡ true → Contains pages number
