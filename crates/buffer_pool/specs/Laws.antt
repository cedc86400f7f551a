-- What follows for those who build on pools: where each page's frame is after a change of the list.
use Rattle.std.specs.Prelude.{◌≡◌, ◌≢◌, ℕ, ◌<◌, ◌==◌, List, [], ◌∷◌, ◌++◌, length, Option, Some, None, option_map}
use Rattle.std.specs.Prelude.{if◌then◌else◌}
use Rattle.buffer_pool.specs.declared.frame.Frame.{Frame}
use Rattle.buffer_pool.specs.Frames.{AreDistinct, frame_of, without, touched, cleared_at, cleared, front_of}
use Rattle.buffer_pool.specs.Frames.{ChangesFront}

-- a touch changes the order only
abbrev pub TouchKeepsFrames : Type 0
TouchKeepsFrames = (frames : List Frame) (page n : ℕ) → frame_of (touched frames page) n ≡ frame_of frames n

-- a page that is taken out is gone, and all others are there as before
abbrev pub WithoutTakesOne : Type 0
WithoutTakesOne = (frames : List Frame) (page n : ℕ)
    → frame_of (without frames page) n ≡ (if page == n then None else frame_of frames n)

-- a cleared mark changes one frame's mark only
abbrev pub ClearedKeepsFrames : Type 0
ClearedKeepsFrames = (frames : List Frame) (page n : ℕ)
    → frame_of (cleared frames page) n ≡ option_map (cleared_at page) (frame_of frames n)

-- the last frame is its page's, and no other's
pub record IsLast (frames : List Frame) (last : Frame) : Type 0 where
  pub own : frame_of (frames ++ last ∷ []) last.page ≡ Some last
  pub gone : frame_of frames last.page ≡ None
  pub others : (n : ℕ) → n ≢ last.page → frame_of frames n ≡ frame_of (frames ++ last ∷ []) n

abbrev pub LastIsItsPages : Type 0
LastIsItsPages = (frames : List Frame) (last : Frame) → AreDistinct (frames ++ last ∷ []) → IsLast frames last

-- the frame in front is its page's, and a change of it leaves all others
pub record ChangesOne (old new : List Frame) : Type 0 where
  pub own : frame_of new (front_of old).page ≡ Some (front_of new)
  pub others : (n : ℕ) → n ≢ (front_of old).page → frame_of new n ≡ frame_of old n

abbrev pub ChangeKeepsOthers : Type 0
ChangeKeepsOthers =
    (old new : List Frame) (slot : ℕ) (content : Option (List ℕ)) (lsn : ℕ) → 0 < length old →
    ChangesFront old new slot content lsn → ChangesOne old new
