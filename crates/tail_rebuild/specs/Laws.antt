-- Laws on groups and segments when one more comes.
use Rattle.std.specs.Prelude.{◌≡◌, ℕ, ◌+◌, ◌-◌, ◌*◌, ◌<◌, List, [], ◌∷◌, ◌++◌, length, drop}
use Rattle.site.specs.declared.geometry.Geometry.{Geometry}
use Rattle.site.specs.Geometry.{HasLimits}
use Rattle.site.specs.State.{Image}
use Rattle.sealed_ring.specs.Ring.{hi_of}
use Rattle.byte_fields.specs.declared.frame_head.FrameHead.{FrameHead}
use Rattle.byte_fields.specs.FrameHeads.{spelling_of_all}
use Rattle.image_changes.specs.Rings.{Groups, Segments, group_shape, segment_shape}
use Rattle.image_changes.specs.Changes.{ReadsAs, Appends}
use Rattle.frame_group.specs.Groups.{Frame, group}
use Rattle.tail_rebuild.specs.Standing.{HasFrames, HasGroups, HasSaved}
use Rattle.tail_rebuild.specs.Saving.{segment_of, with_segment}

-- an image that reads the same has the same groups and segments
abbrev pub StandsAgain : Type 0
StandsAgain = (g : Geometry) (first : ℕ) (groups : List (List Frame)) (segments : List (List FrameHead))
    (old new : Image) → ReadsAs g old new
    → HasGroups g first groups old → HasSaved g groups segments old
    → HasGroups g first groups new × HasSaved g groups segments new

-- a segment that is due is saved, and the groups stand as before
abbrev pub SegmentSaved : Type 0
SegmentSaved = (g : Geometry) (first : ℕ) (groups : List (List Frame)) (segments : List (List FrameHead))
    (old new : Image) → HasLimits g
    → hi_of (group_shape g) old.flash ≡ 4 * hi_of (segment_shape g) old.flash + 4
    → Appends g Segments (spelling_of_all (segment_of groups)) old new
    → HasGroups g first groups old → HasSaved g groups segments old
    → HasGroups g first groups new × HasSaved g groups (with_segment g segments (segment_of groups)) new

-- the live groups with one more, of which as many live as can
abbrev pub with_group : Geometry → List (List Frame) → List Frame → List (List Frame)
with_group g groups frames = drop (length groups + 1 - (g.groups - 1)) (groups ++ frames ∷ [])

-- where no segment is due a group is pushed, and the segments stand as before
abbrev pub GroupPushed : Type 0
GroupPushed = (g : Geometry) (first : ℕ) (groups : List (List Frame)) (segments : List (List FrameHead))
    (frames : List Frame) (old new : Image) → HasLimits g
    → hi_of (group_shape g) old.flash < 4 * hi_of (segment_shape g) old.flash + 4 → HasFrames g frames (group frames)
    → Appends g Groups (group frames) old new
    → HasGroups g first groups old → HasSaved g groups segments old
    → HasGroups g (first + (length groups + 1 - (g.groups - 1))) (with_group g groups frames) new
    × HasSaved g (with_group g groups frames) segments new
