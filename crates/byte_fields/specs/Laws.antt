-- Laws of heads.
use Rattle.std.specs.Prelude.{ℕ, ◌<◌, List, get_or, IsTrue, ◌↔◌}
use Rattle.std.specs.List.{AllByRecursion}
use Rattle.byte_fields.specs.declared.frame_head.FrameHead.{FrameHead}
use Rattle.byte_fields.specs.FrameHeads.{blank, HasForm, AreGroupHeads, present_in_front}

-- the heads of a group have the form that a head is written in
abbrev pub HaveForm : Type 0
HaveForm = (heads : List FrameHead) → AreGroupHeads heads → AllByRecursion HasForm heads

-- those that are present are the first
abbrev pub PresentAreFirst : Type 0
PresentAreFirst = (heads : List FrameHead) (i : ℕ) → AreGroupHeads heads → i < 8
    → IsTrue (get_or heads i blank).present ↔ (i < present_in_front heads)
