-- What lists of frames say of the pages of the disk.
use Rattle.std.specs.Prelude.{◌≡◌, ℕ, ◌==◌, false, List, [], ◌∷◌, flat_map, Option, Some, None, if◌then◌else◌}
use Rattle.std.specs.Option.{option_or}
use Rattle.frame_group.specs.Groups.{Frame, frames_in}

-- Frames: the frames of the live groups, the oldest group first
abbrev pub frames_of : List (List ℕ) → List Frame
frames_of contents = flat_map frames_in contents

-- the last frame of a page: the only one that is valid
abbrev pub last_frame : ℕ → List Frame → Option Frame
last_frame page [] = None
last_frame page (frame ∷ frames) = option_or (last_frame page frames) (if frame.page == page then Some frame else None)

-- Version: the octets of the last frame of the page, or of the disk page where it has none
abbrev pub version_by : Option Frame → List ℕ → List ℕ
version_by None on_disk = on_disk
version_by (Some frame) on_disk = frame.octets

abbrev pub version : (ℕ → List ℕ) → List Frame → ℕ → List ℕ
version disk frames page = version_by (last_frame page frames) (disk page)

-- a valid frame that isn't dirty equals its disk page
abbrev pub CleanAsDisk : (ℕ → List ℕ) → List Frame → Type 0
CleanAsDisk disk frames = (page : ℕ) (frame : Frame) → last_frame page frames ≡ Some frame → frame.dirty ≡ false
    → frame.octets ≡ disk page
