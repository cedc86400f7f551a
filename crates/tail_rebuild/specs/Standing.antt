-- The groups and the segments that stand on the flash of an image, and how the segments follow the groups.
use Rattle.std.specs.Prelude.{◌≡◌, ℕ, ◌+◌, ◌<◌, IsTrue, List, length, map}
use Rattle.std.specs.List.{All, AllByRecursion}
use Rattle.site.specs.declared.geometry.Geometry.{Geometry}
use Rattle.site.specs.State.{Image}
use Rattle.sealed_ring.specs.Ring.{IsRing, hi_of, unit_at}
use Rattle.image_changes.specs.Rings.{group_shape, segment_shape, units_on}
use Rattle.byte_fields.specs.declared.frame_head.FrameHead.{FrameHead}
use Rattle.byte_fields.specs.FrameHeads.{spelling_of_all}
use Rattle.frame_group.specs.Groups.{Frame, group, heads_of, IsGroup}
use Rattle.meta_segments.specs.Segments.{IsSegment}
use Rattle.meta_segments.specs.Following.{Follow}

-- the content of a live group
abbrev pub group_on : Geometry → Image → ℕ → List ℕ
group_on g image n = unit_at (group_shape g) (units_on (group_shape g) image) n

-- the content of a live segment
abbrev pub segment_on : Geometry → Image → ℕ → List ℕ
segment_on g image n = unit_at (segment_shape g) (units_on (segment_shape g) image) n

-- the content of a group has these frames, all of pages that exist
pub record HasFrames (g : Geometry) (frames : List Frame) (content : List ℕ) : Type 0 where
  pub is_group : IsGroup content frames
  pub exist : AllByRecursion (λ frame. frame.page < g.pages) frames

-- the live groups of an image, from a number on, have these frames
pub record HasGroups (g : Geometry) (first : ℕ) (groups : List (List Frame)) (image : Image) : Type 0 where
  pub form : IsRing (group_shape g) image.flash
  pub next : first + length groups ≡ hi_of (group_shape g) image.flash
  pub are_groups : AllByRecursion (λ frames. HasFrames g frames (group frames)) groups
  pub live : (units_on (group_shape g) image).live ≡ map group groups

-- the pages of the present heads exist
abbrev pub PagesExist : ℕ → List FrameHead → Type 0
PagesExist pages heads = All (λ head. IsTrue head.present → head.page < pages) heads

-- the live segments of an image have these heads, all of pages that exist
pub record HasSegments (g : Geometry) (segments : List (List FrameHead)) (image : Image) : Type 0 where
  pub form : IsRing (segment_shape g) image.flash
  pub are_segments : AllByRecursion (λ heads. IsSegment (spelling_of_all heads) heads) segments
  pub exist : AllByRecursion (PagesExist g.pages) segments
  pub live : (units_on (segment_shape g) image).live ≡ map spelling_of_all segments

-- The segments follow the groups: as many segments are saved as groups were pushed, by fours, at most one less; a live
-- segment has the heads of those of its groups that are live, and each live group of a saved segment has that segment
-- live.
pub record HasSaved (g : Geometry) (groups : List (List Frame)) (segments : List (List FrameHead))
    (image : Image) : Type 0 where
  pub has : HasSegments g segments image
  pub follow : Follow (hi_of (segment_shape g) image.flash) segments (hi_of (group_shape g) image.flash)
      (map heads_of groups)
