-- Laws of segments.
use Rattle.std.specs.Prelude.{◌≡◌, ℕ, ◌+◌, ◌*◌, ◌<◌, ◌≤◌, ◌⊎◌, List, [], ◌∷◌, ◌++◌, length, drop}
use Rattle.std.specs.List.{AllByRecursion}
use Rattle.byte_fields.specs.declared.frame_head.FrameHead.{FrameHead}
use Rattle.byte_fields.specs.FrameHeads.{HasForm}
use Rattle.meta_segments.specs.Segments.{heads_of_group, AreSegmentHeads, IsSegment}
use Rattle.meta_segments.specs.Following.{IsLive, heads_with, Follow}

-- the heads of four groups can be written
abbrev pub HaveForm : Type 0
HaveForm = (heads : List FrameHead) → AreSegmentHeads heads → AllByRecursion HasForm heads

-- at most one list of heads is a segment's
abbrev pub OneSegment : Type 0
OneSegment = (content : List ℕ) (a b : List FrameHead) → IsSegment content a → IsSegment content b → a ≡ b

-- without groups and segments nothing is to be saved
abbrev pub NoneFollow : Type 0
NoneFollow = Follow 0 [] 0 []

-- a group more, unless a segment is due; the oldest ones may go
abbrev pub GroupFollows : Type 0
GroupFollows = (k h gone : ℕ) (segments groups : List (List FrameHead)) (heads : List FrameHead)
    → Follow k segments h groups → h < 4 * k + 4 →
    Follow k segments (h + 1) (drop gone (groups ++ heads ∷ []))

-- a segment more, where it is due; the oldest ones may go where the others reach as far back as the groups
abbrev pub SegmentFollows : Type 0
SegmentFollows = (k h gone : ℕ) (segments groups : List (List FrameHead)) (heads : List FrameHead)
    → Follow k segments h groups → h ≡ 4 * k + 4 →
    ((i : ℕ) → i < 4 → IsLive h groups (4 * k + i) → heads_of_group heads i ≡ heads_with h groups (4 * k + i)) →
    (gone ≡ 0) ⊎ (length groups ≤ 4 * length (drop gone (segments ++ heads ∷ []))) →
    Follow (k + 1) (drop gone (segments ++ heads ∷ [])) h groups
