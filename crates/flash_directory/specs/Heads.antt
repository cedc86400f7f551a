-- The queue by the heads of its groups.
use Rattle.std.specs.Prelude.{◌≡◌, ℕ, zero, suc, ◌+◌, ◌-◌, ◌^◌, ◌<◌, ◌≤◌, ◌==◌, true, false, List, [], ◌∷◌, length, map}
use Rattle.std.specs.Prelude.{drop, take_while, slice_get, slice_index_or, Option, Some, None, option_map}
use Rattle.std.specs.Prelude.{if◌then◌else◌}
use Rattle.std.specs.Option.{option_or}
use Rattle.std.specs.List.{AllByRecursion}
use Rattle.byte_fields.specs.declared.frame_head.FrameHead.{FrameHead}
use Rattle.second_chance.specs.declared.frame.Frame.{Frame}
use Rattle.second_chance.specs.Queue.{Queue, in_group, in_groups, frame_of}
use Rattle.flash_directory.specs.declared.place.Place.{Place}

-- the frames of a group, by its heads: those that are present, not referenced yet
abbrev pub frames_in : List FrameHead → List Frame
frames_in heads = map (λ head. frame_of head.page head.dirty) (take_while (λ head. head.present) heads)

-- Where the last frame of a page stands in a group whose first frame has this number, and none where it has none there.
abbrev pub last_in : ℕ → List Frame → ℕ → Option ℕ
last_in index [] page = None
last_in index (frame ∷ behind) page =
    option_or (last_in (index + 1) behind page) (if frame.page == page then Some index else None)

abbrev pub place_in : ℕ → ℕ → Place
place_in group index = record { group = group; index = index }

-- the same in groups, the first of which has this number
abbrev pub last_among : ℕ → List (List Frame) → ℕ → Option Place
last_among number [] page = None
last_among number (group ∷ later) page =
    option_or (last_among (number + 1) later page) (option_map (place_in number) (last_in 0 group page))

-- the place of the last frame of a page in the queue
abbrev pub newest : Queue → ℕ → Option Place
newest queue page = last_among queue.first queue.groups page

-- the frames of the group of a number
abbrev pub group_at : Queue → ℕ → List Frame
group_at queue number = slice_index_or queue.groups (number - queue.first) []

-- A frame of the page stands at the place, and none behind it, neither in its group nor in a later one.
pub record IsNewest (queue : Queue) (page : ℕ) (place : Place) : Type 0 where
  pub group : (queue.first ≤ place.group) × (place.group < queue.first + length queue.groups)
  pub index : place.index < 8
  pub frame : option_map (λ f. f.page) (slice_get (group_at queue place.group) place.index) ≡ Some page
  pub behind : in_group (drop (place.index + 1) (group_at queue place.group)) page ≡ false
  pub later : in_groups (drop (place.group - queue.first + 1) queue.groups) page ≡ false

-- a group once its frame at a place was read
abbrev pub read_at : ℕ → List Frame → List Frame
read_at index [] = []
read_at zero (frame ∷ behind) = record frame { referenced = true } ∷ behind
read_at (suc index) (frame ∷ behind) = frame ∷ read_at index behind

-- The place of the last frame of a page, by the place of its group among these groups and the frame's own in the group.

abbrev pub in_first : ℕ → ℕ × ℕ
in_first index = (0, index)

abbrev pub in_next : ℕ × ℕ → ℕ × ℕ
in_next place = (place.0 + 1, place.1)

abbrev pub last_place : List (List Frame) → ℕ → Option (ℕ × ℕ)
last_place [] page = None
last_place (group ∷ later) page =
    option_or (option_map in_next (last_place later page)) (option_map in_first (last_in 0 group page))

-- each group has one to eight frames, and all group numbers fit
pub record IsQueue (queue : Queue) : Type 0 where
  pub sizes : AllByRecursion (λ group. (1 ≤ length group) × (length group ≤ 8)) queue.groups
  pub numbers : queue.first + length queue.groups < 2 ^ 64
