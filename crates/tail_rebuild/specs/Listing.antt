-- Lists of heads, as they are read one group after the other.
use Rattle.std.specs.Prelude.{◌≡◌, ◌⊎◌, ℕ, ◌+◌, ◌-◌, ◌*◌, ◌≤◌, ◌<◌, max, List, []}
use Rattle.std.specs.Prelude.{length, take, drop, slice_index_or, Result, IfErr}
use Rattle.site.specs.declared.outside.Dev.TheVariants.{Flash}
use Rattle.site.specs.declared.outside.Stop.{Stop}
use Rattle.site.specs.declared.outside.Stop.TheVariants.{Device, Memory, Foreign}
use Rattle.site.specs.State.{State}
use Rattle.sealed_ring.specs.Reading.{ReadsFrom}
use Rattle.byte_fields.specs.declared.frame_head.FrameHead.{FrameHead}
use Rattle.byte_fields.specs.FrameHeads.{AreGroupHeads}
use Rattle.meta_segments.specs.Segments.{heads_of_group, IsSegment}
use Rattle.tail_rebuild.specs.Standing.{PagesExist}

-- the heads of a group, all of pages that exist
pub record AreHeadsIn (pages : ℕ) (heads : List FrameHead) : Type 0 where
  pub are_heads : AreGroupHeads heads
  pub exist : PagesExist pages heads

-- a list is the front of another one
abbrev pub IsFront : List (List FrameHead) → List (List FrameHead) → Type 0
IsFront all list = list ≡ take (length list) all

-- from a place on a list goes on with the heads of a segment's groups, from this one of the four on
pub record GoesOnWith (heads : List FrameHead) (skip : ℕ) (all : List (List FrameHead)) (at : ℕ) : Type 0 where
  pub inside : at + (4 - skip) ≤ length all
  pub same : (i : ℕ) → i < 4 - skip → slice_index_or all (at + i) [] ≡ heads_of_group heads (skip + i)

-- slots one behind the other hold segments with these heads
abbrev pub HoldSegments : List ℕ → ℕ → (ℕ → List FrameHead) → Type 0
HoldSegments slots count each = (i : ℕ) → i < count → IsSegment (take 512 (drop (i * 1024 + 9) slots)) (each i)

-- Where group `first` is the oldest live one, the list of live groups' heads goes on at the place of each of these
-- segments with the heads that it has, from `segment` on.
abbrev pub RowGoesOn : (ℕ → List FrameHead) → ℕ → ℕ → ℕ → List (List FrameHead) → Type 0
RowGoesOn each count first segment all = (i : ℕ) → i < count
    → GoesOnWith (each i) (first - 4 * (segment + i)) all (max first (4 * (segment + i)) - first)

-- What a call that only reads the flash leaves, by at most n reads: an error is that of the flash, want of memory, or
-- content that isn't of the form.
pub record ReadsFlash {T : Type 0} (result : Result T Stop) (n : ℕ) (old new : State) : Type 0 where
  pub from : ReadsFrom result Flash n old new
  pub open from use *
  pub stops : IfErr result (λ stop. (stop ≡ Device Flash) ⊎ ((stop ≡ Memory) ⊎ (stop ≡ Foreign)))
