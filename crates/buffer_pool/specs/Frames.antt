-- The pool: a list of frames, the one that was touched last in front.
use Rattle.std.specs.Prelude.{◌≡◌, ◌≢◌, ℕ, ◌≤◌, ◌==◌, not, Bool, true, false, List, [], ◌∷◌, length, map, filter, find}
use Rattle.std.specs.Prelude.{◌||◌, take, drop, reverse, slice_index_or, slice_set, Option, Some, None, if◌then◌else◌}
use Rattle.std.specs.List.{AllByRecursion, list_any}
use Rattle.slotted_page.specs.Layout.{IsSound, lsn_of, slots_of}
use Rattle.buffer_pool.specs.declared.frame.Frame.{Frame}

-- Each page stands there once.
abbrev pub AreDistinct : List Frame → Type 0
AreDistinct [] = Unit {0}
AreDistinct (frame ∷ frames) = AllByRecursion (λ other. frame.page ≢ other.page) frames × AreDistinct frames

-- a pool, with how many frames it may have, and those of its pages that have a frame in the queue on flash, as it was
-- told
pub record State : Type 0 where
  pub size : ℕ
  pub frames : List Frame
  pub framed : List ℕ

pub record IsPool (pool : State) : Type 0 where
  pub few : length pool.frames ≤ pool.size
  pub distinct : AreDistinct pool.frames

-- the frame of a page, where it has one
abbrev pub frame_of : List Frame → ℕ → Option Frame
frame_of frames page = find (λ frame. frame.page == page) frames

-- the frames of all other pages
abbrev pub without : List Frame → ℕ → List Frame
without frames page = filter (λ frame. not (frame.page == page)) frames

abbrev pub in_front : Option Frame → List Frame → List Frame
in_front None frames = frames
in_front (Some frame) frames = frame ∷ frames

-- The frame of a page comes to the front, where it has one.
abbrev pub touched : List Frame → ℕ → List Frame
touched frames page = in_front (frame_of frames page) (without frames page)

abbrev pub clear : Frame → Frame
clear frame = record frame { changed = false }

-- The frame of a page is no longer marked as changed.
abbrev pub cleared_at : ℕ → Frame → Frame
cleared_at page frame = if frame.page == page then clear frame else frame

abbrev pub cleared : List Frame → ℕ → List Frame
cleared frames page = map (cleared_at page) frames

-- the frames that were changed, the coldest in front, so many at most
abbrev pub coldest_changed : ℕ → List Frame → List Frame
coldest_changed most frames = take most (filter (λ frame. frame.changed) (reverse frames))

-- whether a page has a frame in the queue, as the pool was told
abbrev pub is_framed : State → ℕ → Bool
is_framed pool page = list_any (λ other. other == page) pool.framed

-- Of each page the same is known as before, or of one page this and of the others the same.
abbrev pub KnowsSame : State → State → Type 0
KnowsSame old new = (n : ℕ) → is_framed new n ≡ is_framed old n

abbrev pub Knows : ℕ → Bool → State → State → Type 0
Knows page framed old new = (n : ℕ) → is_framed new n ≡ (if n == page then framed else is_framed old n)

-- the frames that are changed or have no frame in the queue, the coldest in front, so many at most
abbrev pub is_movable : State → Frame → Bool
is_movable pool frame = frame.changed || not (is_framed pool frame.page)

abbrev pub coldest_movable : ℕ → State → List Frame
coldest_movable most pool = take most (filter (is_movable pool) (reverse pool.frames))

-- what a listing tells of a frame
abbrev pub mark_of : Frame → ℕ × Bool
mark_of frame = (frame.page, frame.changed)

-- the frame in front, of a pool that has one
abbrev pub front_of : List Frame → Frame
front_of frames = slice_index_or frames 0 (record { page = 0; changed = false; content = [] })

-- In the page in front a slot has another content, and the page is marked as changed. All else is as before.
pub record ChangesFront (old new : List Frame) (slot : ℕ) (content : Option (List ℕ)) (lsn : ℕ) : Type 0 where
  pub page : (front_of new).page ≡ (front_of old).page
  pub changed : (front_of new).changed ≡ true
  pub sound : IsSound (front_of new).content
  pub slots : slots_of (front_of new).content ≡ slice_set (slots_of (front_of old).content) slot content
  pub set_lsn : lsn_of (front_of new).content ≡ lsn
  pub count : length new ≡ length old
  pub others : drop 1 new ≡ drop 1 old
