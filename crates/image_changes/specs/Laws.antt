-- Laws on lists of changes.
use Rattle.std.specs.Prelude.{◌≡◌, ◌≢◌, ◌⊎◌, ℕ, List, ◌++◌, length, Some}
use Rattle.std.specs.List.{AllByRecursion}
use Rattle.site.specs.declared.geometry.Geometry.{Geometry}
use Rattle.site.specs.Geometry.{HasLimits, HasLengths}
use Rattle.site.specs.State.{State, Image, Snapshot, IsQuiet}
use Rattle.site.specs.Moments.{LeavesOnly, OnlyDevice}
use Rattle.sealed_ring.specs.Ring.{IsRing, SameOutside, appended}
use Rattle.sealed_ring.specs.Ready.{LeavesOldOrNew}
use Rattle.image_changes.specs.Rings.{RingName, shape_of, octets_of, units_on, KeepsUnits}
use Rattle.image_changes.specs.Changes.{Change, ring_of, ReadsAs, Appends, Reaches}
use Rattle.image_changes.specs.Reached.{LeavesFront}

-- one list of changes after the other
abbrev pub ChangesAddUp : Type 0
ChangesAddUp = (g : Geometry) (first second : List Change) (a b c : Image) → Reaches g first a b → Reaches g second b c
    → Reaches g (first ++ second) a c

-- a ring that no change appends to keeps its units
abbrev pub RingKept : Type 0
RingKept = (g : Geometry) (ring : RingName) (changes : List Change) (a b : Image)
    → AllByRecursion (λ change. ring_of change ≢ Some ring) changes → Reaches g changes a b
    → KeepsUnits (shape_of g ring) a b

-- one call after another
abbrev pub FrontsAddUp : Type 0
FrontsAddUp =
    (g : Geometry) (first second : List Change) (a b c : State) →
    LeavesFront g first a b → Reaches g first a.image b.image → b.told ≡ a.told → LeavesFront g second b c →
    LeavesFront g (first ++ second) a c

-- nothing was told, and all reads as before, or the ring has one more unit
pub record KeepsOrAppends (g : Geometry) (ring : RingName) (bytes : List ℕ) (old : State)
    (snapshot : Snapshot) : Type 0 where
  pub told : snapshot.told ≡ old.told
  pub either : ReadsAs g old.image snapshot.image ⊎ Appends g ring bytes old.image snapshot.image

-- what an append to a ring leaves
abbrev pub AppendMakes : Type 0
AppendMakes =
    (g : Geometry) (ring : RingName) (bytes : List ℕ) (old new : State) →
    HasLimits g → HasLengths g old.image → IsQuiet old → length bytes ≡ (shape_of g ring).room →
    LeavesOnly old new (LeavesOldOrNew (shape_of g ring) (octets_of (shape_of g ring) old.image) bytes) →
    OnlyDevice (shape_of g ring).dev old new →
    LeavesOnly old new (KeepsOrAppends g ring bytes old)

-- and what one has done whose unit stands
abbrev pub AppendDone : Type 0
AppendDone =
    (g : Geometry) (ring : RingName) (bytes : List ℕ) (old new : State) →
    HasLimits g → HasLengths g old.image → length bytes ≡ (shape_of g ring).room →
    length (octets_of (shape_of g ring) new.image) ≡ length (octets_of (shape_of g ring) old.image) →
    IsRing (shape_of g ring) (octets_of (shape_of g ring) new.image) →
    SameOutside (shape_of g ring) (octets_of (shape_of g ring) old.image) (octets_of (shape_of g ring) new.image) →
    OnlyDevice (shape_of g ring).dev old new →
    units_on (shape_of g ring) new.image ≡ appended (shape_of g ring) (units_on (shape_of g ring) old.image) bytes →
    Appends g ring bytes old.image new.image
