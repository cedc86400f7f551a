-- Laws of groups and of lists of frames.
use Rattle.std.specs.Prelude.{◌≡◌, ℕ, true, false, List, [], ◌++◌, length}
use Rattle.std.specs.Prelude.{replicate, Some, None}
use Rattle.frame_group.specs.declared.group.TheConstants.{GROUP_LEN}
use Rattle.frame_group.specs.Groups.{Frame, group}
use Rattle.frame_group.specs.Versions.{last_frame, version, CleanAsDisk}

-- Octets.

-- a content of zeros has no frames yet
abbrev pub ZerosHaveNoFrames : Type 0
ZerosHaveNoFrames = (content : List ℕ) → length content ≡ GROUP_LEN → content ≡ replicate (length content) 0
    → content ≡ group []

-- The last frame of a page.

-- A group is pushed.

-- a page of the group has its version from it
abbrev pub NewVersion : Type 0
NewVersion = (disk : ℕ → List ℕ) (frames new : List Frame) (page : ℕ) (frame : Frame) → last_frame page new ≡ Some frame
    → version disk (frames ++ new) page ≡ frame.octets

-- every other page has the version that it had
abbrev pub OtherVersions : Type 0
OtherVersions = (disk : ℕ → List ℕ) (frames new : List Frame) (page : ℕ) → last_frame page new ≡ None
    → version disk (frames ++ new) page ≡ version disk frames page

-- clean frames equal the disk where those of the group do
abbrev pub PushKeepsClean : Type 0
PushKeepsClean = (disk : ℕ → List ℕ) (frames new : List Frame) → CleanAsDisk disk frames → CleanAsDisk disk new
    → CleanAsDisk disk (frames ++ new)

-- Pages are staged to the disk.

-- a disk that differs in pages with frames alone has the same versions, whatever these pages have
abbrev pub StagingKeepsVersions : Type 0
StagingKeepsVersions = (old new : ℕ → List ℕ) (frames : List Frame)
    → ((page : ℕ) → last_frame page frames ≡ None → new page ≡ old page) →
    (page : ℕ) → version new frames page ≡ version old frames page

-- clean frames equal the disk where no page of theirs is written
abbrev pub StagingKeepsClean : Type 0
StagingKeepsClean = (old new : ℕ → List ℕ) (frames : List Frame)
    → ((page : ℕ) (frame : Frame) → last_frame page frames ≡ Some frame → frame.dirty ≡ false → new page ≡ old page) →
    CleanAsDisk old frames → CleanAsDisk new frames

-- The front group is dropped.

-- if the last frame of a page is in the front group and dirty, the disk has its octets
abbrev pub IsStaged : (ℕ → List ℕ) → List Frame → List Frame → ℕ → Type 0
IsStaged disk front rest page = (frame : Frame) → last_frame page rest ≡ None → last_frame page front ≡ Some frame
    → frame.dirty ≡ true → disk page ≡ frame.octets

-- then the version of that page doesn't change
abbrev pub DropKeepsVersion : Type 0
DropKeepsVersion = (disk : ℕ → List ℕ) (front rest : List Frame) (page : ℕ) → CleanAsDisk disk (front ++ rest)
    → IsStaged disk front rest page →
    version disk rest page ≡ version disk (front ++ rest) page

abbrev pub DropKeepsClean : Type 0
DropKeepsClean = (disk : ℕ → List ℕ) (front rest : List Frame) → CleanAsDisk disk (front ++ rest)
    → CleanAsDisk disk rest
