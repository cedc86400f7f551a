-- The frames of a group, by their places in it.
use Rattle.std.specs.Prelude.{◌≡◌, ℕ, ◌+◌, ◌*◌, false, List, length, map, zip, take, drop, slice_index_or}
use Rattle.site.specs.declared.outside.Dev.TheVariants.{Flash}
use Rattle.site.specs.State.{State}
use Rattle.sealed_ring.specs.declared.ring.Ring.{Ring}
use Rattle.sealed_ring.specs.Ready.{IsUsable}
use Rattle.byte_fields.specs.declared.frame_head.FrameHead.{FrameHead}
use Rattle.byte_fields.specs.declared.frame_head.Mark.{Mark}
use Rattle.frame_group.specs.Groups.{Frame, frame_of, group, heads_of}
use Rattle.flash_cache.specs.declared.leaving.DepartingFrames.{DepartingFrames}
use Rattle.flash_cache.specs.declared.making.NewGroup.{NewGroup}
use Rattle.flash_cache.specs.Pushed.{frames_given}

-- a ring of groups that may be read
pub record IsGroupRing (ring : Ring) (site : State) : Type 0 where
  pub usable : IsUsable ring site
  pub device : ring.shape.dev ≡ Flash
  pub room : ring.shape.room ≡ 32896

abbrev pub no_mark : Mark
no_mark = record { page = 0; valid = false; dirty = false; referenced = false }

-- the mark at a place of the front group, of its marks
abbrev pub mark_at : List Mark → ℕ → Mark
mark_at front place = slice_index_or front place no_mark

-- the page at a place of a group's content
abbrev pub page_at : List ℕ → ℕ → List ℕ
page_at content place = take 4096 (drop (128 + 4096 * place) content)

-- the pages and marks of frames are those at these places of the front group, and each has a content
pub record AreAt (front : List Mark) (places : List ℕ) (frames : DepartingFrames) : Type 0 where
  pub pages : frames.pages.items ≡ map (λ place. (mark_at front place).page) places
  pub dirty : frames.dirty.items ≡ map (λ place. (mark_at front place).dirty) places
  pub count : length frames.contents.items ≡ length places

-- the frames that are put into a group again
abbrev pub again : DepartingFrames → List Frame
again frames = frames_given frames.pages.items frames.dirty.items frames.contents.items

-- the frames that heads and contents make
abbrev pub frames_with : List FrameHead → List (List ℕ) → List Frame
frames_with heads contents = map (λ f. frame_of f.0 f.1) (zip heads contents)

-- a group as it is written, with these frames
pub record IsMadeOf (made : NewGroup) (frames : List Frame) : Type 0 where
  pub content : made.content ≡ group frames
  pub heads : made.heads ≡ heads_of frames
