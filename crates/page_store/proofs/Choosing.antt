-- The coldest changed pages.
use Rattle.std.proofs.lemmas.Grind.{common_steps}
use Rattle.page_store.proofs.Names.{◌≡◌, ℕ, ◌-◌, ◌≤◌, true, cond, List, [], ◌∷◌, length, take, reverse, arith, length-take, AllByRecursion, Frame, changed_frames, room_for_pages, Rules, Queue, all_take, all_passed}

abbrev pub if_changed : Frame → List Frame
if_changed frame = cond frame.changed (frame ∷ []) []

-- the coldest ones, as many as there is room for
abbrev pub first_changed : ℕ → List Frame → List Frame
first_changed room frames = take room (changed_frames frames)

-- a group has room for one page at least beside its second chances
pub room_some : (r : Rules) (queue : Queue) → 1 ≤ room_for_pages r queue
room_some r queue = grind (arith, common_steps, length-take)

-- One frame more.

pub few_chosen : (room : ℕ) (frames : List Frame) → length (first_changed room frames) ≤ room
few_chosen room frames = omega (arith, length-take room (changed_frames frames))

-- All that is chosen is changed.

pub chosen_changed : (room : ℕ) (frames : List Frame) → AllByRecursion (λ (f : Frame). f.changed ≡ true) (first_changed room frames)
chosen_changed room frames = all_take (λ (f : Frame). f.changed ≡ true) room (changed_frames frames) (all_passed (λ (f : Frame). f.changed) (reverse frames))
