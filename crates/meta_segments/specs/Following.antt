-- Segments follow the groups: each has the heads of its four groups.
use Rattle.std.specs.Prelude.{◌≡◌, ℕ, ◌+◌, ◌-◌, ◌*◌, ◌/◌, ◌%◌, ◌<◌, ◌≤◌, List, [], length, slice_index_or}
use Rattle.byte_fields.specs.declared.frame_head.FrameHead.{FrameHead}
use Rattle.meta_segments.specs.Segments.{heads_of_group}

-- a number is one of the last ones below another number, as many as there are in a list
pub record IsLive (next : ℕ) (live : List (List FrameHead)) (n : ℕ) : Type 0 where
  pub not_before : next ≤ n + length live
  pub before : n < next

-- the one with that number
abbrev pub heads_with : ℕ → List (List FrameHead) → ℕ → List FrameHead
heads_with next live n = slice_index_or live (n + length live - next) []

-- The live segments are those before number k, the live groups those before number h, each list with the oldest first.
-- As many segments are saved as groups were pushed, by fours, at most one less. A live segment has the heads of those
-- of its groups that are live, and each live group of a saved segment has that segment live.
pub record Follow (k : ℕ) (segments : List (List FrameHead)) (h : ℕ) (groups : List (List FrameHead)) : Type 0 where
  pub low : 4 * k ≤ h
  pub high : h ≤ 4 * k + 4
  pub same : (n : ℕ) → IsLive h groups n → IsLive k segments (n / 4)
      → heads_of_group (heads_with k segments (n / 4)) (n % 4) ≡ heads_with h groups n
  pub saved : (n : ℕ) → IsLive h groups n → n < 4 * k → IsLive k segments (n / 4)
