-- Heads of frames: their octets, and the rule on the eight heads of a group.
use Rattle.std.specs.Prelude.{◌≡◌, ℕ, ◌-◌, ◌*◌, ◌^◌, ◌<◌, ◌≤◌, Bool, true, false, IsTrue, ◌⊎◌, List, [], ◌∷◌, ◌++◌}
use Rattle.std.specs.Prelude.{length, take, drop, replicate, flat_map}
use Rattle.std.specs.List.{AllByRecursion, prefix_len}
use Rattle.std.specs.Int.{w32, w64, to_be_bytes}
use Rattle.byte_fields.specs.declared.frame_head.FrameHead.{FrameHead}

abbrev pub flag : Bool → ℕ
flag false = 0
flag true = 1

-- the head of no frame
abbrev pub blank : FrameHead
blank = record { present = false; dirty = false; page = 0; lsn = 0 }

-- the octets of a head: two flags, two zeros, the page, and the LSN of the page
unfoldable pub spelling : FrameHead → List ℕ
spelling head = flag head.present ∷ flag head.dirty ∷ 0 ∷ 0 ∷ [] ++ to_be_bytes w32 head.page
    ++ to_be_bytes w64 head.lsn

-- a head that isn't present is blank
abbrev pub HasForm : FrameHead → Type 0
HasForm head = IsTrue head.present ⊎ (head ≡ blank)

-- the numbers of a head fit their fields
abbrev pub FitsFields : FrameHead → Type 0
FitsFields head = (head.page < 2 ^ 32) × (head.lsn < 2 ^ 64)

-- a head is spelled at a place
pub record IsHeadAt (octets : List ℕ) (at : ℕ) (head : FrameHead) : Type 0 where
  pub text : take 16 (drop at octets) ≡ spelling head
  pub has_form : HasForm head
  pub fits_fields : FitsFields head

abbrev pub spelling_of_all : List FrameHead → List ℕ
spelling_of_all heads = flat_map spelling heads

-- octets begin with heads, one after the other
pub record AreHeads (octets : List ℕ) (heads : List FrameHead) : Type 0 where
  pub text : take (16 * length heads) octets ≡ spelling_of_all heads
  pub have_form : AllByRecursion HasForm heads
  pub fit_fields : AllByRecursion FitsFields heads

-- how many heads from the front on are present
abbrev pub present_in_front : List FrameHead → ℕ
present_in_front heads = prefix_len (λ head. head.present) heads

-- the eight heads of a group: the present ones are the first, there is one at least, and the others are blank
pub record AreGroupHeads (heads : List FrameHead) : Type 0 where
  pub eight : length heads ≡ 8
  pub some : 1 ≤ present_in_front heads
  pub others : drop (present_in_front heads) heads ≡ replicate (8 - present_in_front heads) blank
