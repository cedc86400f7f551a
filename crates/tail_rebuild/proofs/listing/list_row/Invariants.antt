use Rattle.tail_rebuild.proofs.Names.{◌≡◌, ℕ, ◌+◌, ◌*◌, max, List, length, All, FrameHead, AreHeadsIn, IsFront, HoldSegments, RowGoesOn}
use Rattle.tail_rebuild.proofs.listing.list_row.Given as goal

abbrev pub invariant-loop-place : goal.invariant-loop-place
invariant-loop-place l = record {
  listed : All (AreHeadsIn l.pages) l.list.items;
  more : l.first + length l.list.items ≡ max l.first (4 * (l.segment + l.place));
  front : (all : List (List FrameHead)) (each : ℕ → List FrameHead) → HoldSegments l.slots l.count each → RowGoesOn each l.count l.first l.segment all → IsFront all l.fn.list.items → IsFront all l.list.items;
}
