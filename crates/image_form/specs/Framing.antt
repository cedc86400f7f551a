-- Frames, by the heads and pages of a group.
use Rattle.std.specs.Prelude.{◌≡◌, ℕ, ◌<◌, false, List, Some, slice_get}
use Rattle.site.specs.State.{Image}
use Rattle.byte_fields.specs.declared.frame_head.FrameHead.{FrameHead}
use Rattle.second_chance.specs.Queue.{Queue}
use Rattle.frame_group.specs.Groups.{Frame}
use Rattle.slotted_page.specs.Layout.{lsn_of, IsSound}
use Rattle.flash_directory.specs.Heads.{newest, place_in}
use Rattle.flash_cache.specs.Representation.{disk_on}

-- a head is that of a page's frame, and the page is sound and one that the disk has
pub record IsFrameBy (pages : ℕ) (head : FrameHead) (page : List ℕ) : Type 0 where
  pub exists : head.page < pages
  pub lsn : head.lsn ≡ lsn_of page
  pub sound : IsSound page

-- where a frame of a group isn't dirty and is the newest one of its page in the queue, it equals its disk page
abbrev pub IsCleanFrame : Image → Queue → ℕ → List Frame → ℕ → Type 0
IsCleanFrame image queue group frames i =
    (frame : Frame) → slice_get frames i ≡ Some frame → frame.dirty ≡ false →
    newest queue frame.page ≡ Some (place_in group i) → frame.octets ≡ disk_on image frame.page
