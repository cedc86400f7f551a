-- The part of the octets' soundness that speaks of the rings alone.
use Rattle.std.specs.Prelude.{ℕ, List, [], ◌∷◌, Option, Some, ⊤}
use Rattle.std.specs.List.{AllByRecursion}
use Rattle.site.specs.declared.geometry.Geometry.{Geometry}
use Rattle.site.specs.Geometry.{HasLimits, HasLengths}
use Rattle.site.specs.State.{Image}
use Rattle.frame_group.specs.Groups.{Frame, IsGroup}
use Rattle.checkpoint.specs.declared.master.Master.{Master}
use Rattle.checkpoint.specs.Units.{IsUnit, master_in}
use Rattle.image_changes.specs.Changes.{Change, SealsBlock, RewritesPages, AppendsGroup, AppendsSegment, AppendsMaster}
use Rattle.image_changes.specs.Changes.{Makes, Reaches}
use Rattle.image_meaning.specs.Meaning.{HasNewest, IsFrameOf, AreGroups, AreSegments}
use Rattle.image_meaning.specs.Changes.{NoSegmentIsDue, MaySaveSegment}

-- The newest master unit is of the form, the live groups have sound pages, and the segments follow them.
pub record AreRingsSoundUnder (newest : Option Master) (g : Geometry) (image : Image) : Type 0 where
  pub limits : HasLimits g
  pub lengths : HasLengths g image
  pub masters : HasNewest newest g image
  pub segments : AreSegments g image
  pub groups : AreGroups g image

-- A group is appended where no segment is due, and has frames of pages that exist, with a sound page's octets; a
-- segment where one is due, with the heads of the last four groups. Blocks and disk pages are free here.
abbrev pub KeepsRings : Geometry → Image → Change → Type 0
KeepsRings g image (SealsBlock records) = ⊤
KeepsRings g image (RewritesPages pages) = ⊤
KeepsRings g image (AppendsGroup content) = NoSegmentIsDue g image × (frames : List Frame) × IsGroup content frames
    × AllByRecursion (IsFrameOf g) frames
KeepsRings g image (AppendsSegment content) = MaySaveSegment g image content
KeepsRings g image (AppendsMaster content) = ⊥

-- each of a list does, whatever image the ones before it have led to
abbrev pub KeepsRingsAll : Geometry → Image → List Change → Type 0
KeepsRingsAll g image [] = ⊤
KeepsRingsAll g image (change ∷ changes) = KeepsRings g image change
    × ((mid : Image) → Makes g change image mid → KeepsRingsAll g mid changes)

-- such changes keep the rings sound
abbrev pub RingsKeptUnder : Option Master → Type 0
RingsKeptUnder newest =
    (g : Geometry) (changes : List Change) (old new : Image) → AreRingsSoundUnder newest g old
    → KeepsRingsAll g old changes → Reaches g changes old new → AreRingsSoundUnder newest g new

-- and a master unit makes its master the newest
abbrev pub RingsSaved : Type 0
RingsSaved =
    (newest : Option Master) (g : Geometry) (content : List ℕ) (old new : Image) → AreRingsSoundUnder newest g old
    → IsUnit content (master_in content) → Makes g (AppendsMaster content) old new →
    AreRingsSoundUnder (Some (master_in content)) g new
