-- A segment that is saved: when it is due, what it has, and what its save does.
use Rattle.std.specs.Prelude.{◌≡◌, ℕ, ◌+◌, ◌-◌, ◌*◌, ◌/◌, ◌<◌, ◌==◌, Bool, IsTrue, List, [], ◌∷◌, ◌++◌, length, drop}
use Rattle.std.specs.Prelude.{flat_map, slice_index}
use Rattle.std.specs.Prelude.{if◌then◌else◌, Result, OnOk}
use Rattle.site.specs.declared.outside.Stop.{Stop}
use Rattle.site.specs.declared.geometry.Geometry.{Geometry}
use Rattle.site.specs.State.{State, IsQuiet}
use Rattle.site.specs.Moments.{LeavesOnly}
use Rattle.sealed_ring.specs.declared.slots.Shape.{Shape}
use Rattle.sealed_ring.specs.declared.ring.Ring.{Ring}
use Rattle.sealed_ring.specs.Ring.{IsBeside, place}
use Rattle.sealed_ring.specs.Ready.{Matches}
use Rattle.byte_fields.specs.declared.frame_head.FrameHead.{FrameHead}
use Rattle.byte_fields.specs.FrameHeads.{spelling_of_all}
use Rattle.image_changes.specs.Rings.{group_shape, segment_shape}
use Rattle.image_changes.specs.Changes.{Change, AppendsSegment, Reaches}
use Rattle.image_changes.specs.Reached.{LeavesFront}
use Rattle.frame_group.specs.Groups.{Frame, heads_of}
use Rattle.tail_rebuild.specs.Standing.{HasGroups, HasSaved}

-- a segment is due: four groups aren't in segments
abbrev pub is_due : ℕ → ℕ → Bool
is_due groups segments = groups == 4 * segments + 4

-- the heads of the last four groups, in order
abbrev pub segment_of : List (List Frame) → List FrameHead
segment_of groups = flat_map heads_of (drop (length groups - 4) groups)

-- the change of a save: where it is due a segment with these heads is appended
abbrev pub changes_of_save : Bool → List (List Frame) → List Change
changes_of_save due groups = if due then AppendsSegment (spelling_of_all (segment_of groups)) ∷ [] else []

-- the live segments with one more, of which as many live as can
abbrev pub with_segment : Geometry → List (List FrameHead) → List FrameHead → List (List FrameHead)
with_segment g segments heads = drop (length segments + 1 - (g.groups / 4 + 2)) (segments ++ heads ∷ [])

-- the live segments behind a save
abbrev pub saved_after : Bool → Geometry → List (List Frame) → List (List FrameHead) → List (List FrameHead)
saved_after due g groups segments = if due then with_segment g segments (segment_of groups) else segments

-- the place is in no slot's gate, number or content
abbrev pub IsInNoSlot : Shape → ℕ → Type 0
IsInNoSlot s p = (j : ℕ) → j < s.slots → IsBeside (place s j) (9 + s.room) p

-- of the flash a crash leaves each octet that is in no slot of a group or a segment as it was
abbrev pub LeavesGaps : Geometry → State → State → Type 0
LeavesGaps g old new = LeavesOnly old new (λ s. (p : ℕ) → IsInNoSlot (group_shape g) p → IsInNoSlot (segment_shape g) p
    → slice_index s.image.flash p ≡ slice_index old.image.flash p)

-- an honest site has these groups and segments, and the two rings are those that stand there
pub record Stands (g : Geometry) (groups segments : Ring) (first : ℕ) (stand : List (List Frame))
    (saved : List (List FrameHead)) (site : State) : Type 0 where
  pub honest : IsTrue site.honest
  pub groups_fit : Matches groups site
  pub segments_fit : Matches segments site
  pub has : HasGroups g first stand site.image
  pub holds : HasSaved g stand saved site.image

-- What a save does where they stand: a crash leaves the images before and behind its change, and the octets between the
-- slots; and where it succeeds its change was made, and the same groups stand there with the segments behind it.
pub record Saves (g : Geometry) (groups segments new_segments : Ring) (first : ℕ) (stand : List (List Frame))
    (saved : List (List FrameHead)) (old new : State) (result : Result (Unit {0}) Stop) : Type 0 where
  pub any_moment : IsQuiet old → LeavesFront g (changes_of_save (is_due groups.hi segments.hi) stand) old new
  pub gaps : IsQuiet old → LeavesGaps g old new
  pub reaches : OnOk result (Reaches g (changes_of_save (is_due groups.hi segments.hi) stand) old.image new.image)
  pub stands : OnOk result (Stands g groups new_segments first stand
      (saved_after (is_due groups.hi segments.hi) g stand saved) new)
