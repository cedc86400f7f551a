-- Segments: the heads of four groups.
use Rattle.std.specs.Prelude.{◌≡◌, ℕ, ◌*◌, ◌<◌, List, length, take, drop}
use Rattle.std.specs.List.{AllByRecursion}
use Rattle.byte_fields.specs.declared.frame_head.FrameHead.{FrameHead}
use Rattle.byte_fields.specs.FrameHeads.{spelling_of_all, FitsFields, AreGroupHeads}

-- the eight heads of a group of a segment
abbrev pub heads_of_group : List FrameHead → ℕ → List FrameHead
heads_of_group heads group = take 8 (drop (8 * group) heads)

-- the heads of four groups, in order
pub record AreSegmentHeads (heads : List FrameHead) : Type 0 where
  pub size : length heads ≡ 32
  pub groups : (group : ℕ) → group < 4 → AreGroupHeads (heads_of_group heads group)

-- the content of a segment, which has these heads
pub record IsSegment (content : List ℕ) (heads : List FrameHead) : Type 0 where
  pub spelled : content ≡ spelling_of_all heads
  pub are_heads : AreSegmentHeads heads
  pub fit_fields : AllByRecursion FitsFields heads
