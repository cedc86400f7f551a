-- Groups of frames, and the octets that they have on flash.
use Rattle.std.specs.Prelude.{◌≡◌, ℕ, ◌+◌, ◌-◌, ◌*◌, ◌≤◌, ◌==◌, Bool, true, List, [], ◌∷◌, ◌++◌, length, take, drop}
use Rattle.std.specs.Prelude.{map, filter, replicate, flat_map, get_or}
use Rattle.std.specs.List.{AllByRecursion}
use Rattle.std.specs.Int.{w32, w64, from_be_bytes}
use Rattle.byte_fields.specs.declared.frame_head.FrameHead.{FrameHead}
use Rattle.byte_fields.specs.FrameHeads.{blank, spelling_of_all, FitsFields, AreHeads, AreGroupHeads}
use Rattle.frame_group.specs.declared.group.TheConstants.{PAGE_LEN, HEADS_LEN}

-- a page as flash has it, dirty where the disk may lack its changes
pub record Frame : Type 0 where
  pub page : ℕ
  pub dirty : Bool
  pub octets : List ℕ

-- the LSN that a page tells, in its first eight octets
unfoldable pub lsn_of : List ℕ → ℕ
lsn_of octets = from_be_bytes w64 (take 8 octets)

abbrev pub head_of : Frame → FrameHead
head_of frame = record { present = true; dirty = frame.dirty; page = frame.page; lsn = lsn_of frame.octets }

-- the frame that a head and a page make
abbrev pub frame_of : FrameHead → List ℕ → Frame
frame_of head octets = record { page = head.page; dirty = head.dirty; octets = octets }

-- eight heads: those of the frames, and blank ones
abbrev pub heads_of : List Frame → List FrameHead
heads_of frames = map head_of frames ++ replicate (8 - length frames) blank

-- eight pages: those of the frames, and zeros
abbrev pub pages_of : List Frame → List ℕ
pages_of frames = flat_map (λ frame. frame.octets) frames ++ replicate (PAGE_LEN * (8 - length frames)) 0

-- the content of a group with these frames
unfoldable pub group : List Frame → List ℕ
group frames = spelling_of_all (heads_of frames) ++ pages_of frames

-- a page of full length, and numbers that fit the fields of a head
pub record IsFrame (frame : Frame) : Type 0 where
  pub size : length frame.octets ≡ PAGE_LEN
  pub fits : FitsFields (head_of frame)

-- the content of a group, which has these frames
pub record IsGroup (content : List ℕ) (frames : List Frame) : Type 0 where
  pub some : 1 ≤ length frames
  pub room : length frames ≤ 8
  pub are_frames : AllByRecursion IsFrame frames
  pub spelled : content ≡ group frames

-- octets begin with the heads of a group
pub record HasHeads (octets : List ℕ) (heads : List FrameHead) : Type 0 where
  pub at_front : AreHeads octets heads
  pub are_heads : AreGroupHeads heads

-- a content with bytes written at a place
abbrev pub put : List ℕ → ℕ → List ℕ → List ℕ
put content at bytes = take at content ++ (bytes ++ drop (at + length bytes) content)

-- the frame at a place of a content, as its head and its page say
unfoldable pub frame_at : List ℕ → ℕ → Frame
frame_at content i = record {
  page = from_be_bytes w32 (take 4 (drop (16 * i + 4) content));
  dirty = get_or content (16 * i + 1) 0 == 1;
  octets = take PAGE_LEN (drop (HEADS_LEN + PAGE_LEN * i) content);
}

-- the frames of a content: those whose head is present
abbrev pub frames_in : List ℕ → List Frame
frames_in content = map (frame_at content)
    (filter (λ i. get_or content (16 * i) 0 == 1) (0 ∷ 1 ∷ 2 ∷ 3 ∷ 4 ∷ 5 ∷ 6 ∷ 7 ∷ []))
