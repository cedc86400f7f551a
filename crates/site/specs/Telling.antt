-- What telling leaves.
use Rattle.std.specs.Prelude.{◌≡◌, ◌⊎◌, ℕ, ◌+◌, ◌≤◌, List, [], ◌++◌, length, take, drop}
use Rattle.site.specs.State.{State, Moment}
use Rattle.site.specs.Moments.{works_in}

-- the devices, and the octets left to hear, are as they were
pub record SameDevices (old new : State) : Type 0 where
  pub image : new.image ≡ old.image
  pub loose : new.loose ≡ old.loose
  pub left : new.input ≡ old.input

-- the devices as they were, and whatever is told is what was told and some front of the piece
pub record TellsPart (piece : List ℕ) (old : State) (moment : Moment) : Type 0 where
  pub image : moment.image ≡ old.image
  pub loose : moment.loose ≡ old.loose
  pub told : (j : ℕ) → (k : ℕ) × (moment.told ++ take j moment.telling ≡ old.told ++ take k piece)

-- this line is being told behind these octets: a front of it is told, and all that is left of it is handed on
pub record HandsLine (line so_far : List ℕ) (moment : Moment) : Type 0 where
  pub part : ℕ
  pub told : moment.told ≡ so_far ++ take part line
  pub telling : moment.telling ≡ drop part line

-- within a tell it is
abbrev pub HandsRest : List ℕ → State → Moment → Type 0
HandsRest piece old moment = (moment.telling ≡ []) ⊎ HandsLine piece old.told moment

-- so many octets were told by no more calls, and none of these wrote or synced
pub record TellsOnly (octets : ℕ) (old new : State) : Type 0 where
  pub calls : length new.past ≤ length old.past + octets
  pub works : works_in new.past ≡ works_in old.past
