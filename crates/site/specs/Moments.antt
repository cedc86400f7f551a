-- Statements over the moments of calls.
use Rattle.std.specs.Prelude.{◌≡◌, ◌≢◌, ◌==◌, ℕ, List, [], ◌++◌, length, drop}
use Rattle.std.specs.List.{AllByRecursion, count_by}
use Rattle.site.specs.declared.outside.Dev.{Dev}
use Rattle.site.specs.State.{State, Moment, Snapshot, MayLeave, content_of, loose_of, now_of}

-- each snapshot that this moment may leave has P
abbrev pub Leaves : (Snapshot → Type 0) → Moment → Type 0
Leaves P moment = (snapshot : Snapshot) → MayLeave moment snapshot → P snapshot

-- the moments within calls since then
abbrev pub since : State → State → List Moment
since old new = drop (length old.past) new.past

-- how many of these moments are within writes and syncs: nothing is being told then, and within a tell a piece is
abbrev pub works_in : List Moment → ℕ
works_in moments = count_by (λ m. length m.telling == 0) moments

-- Each moment within the calls from old to new has Q, and so has the one now. What a crash between two of the calls
-- leaves, a crash within a call beside it leaves too, so these are all the moments from old to now.
pub record EachMoment (old new : State) (Q : Moment → Type 0) : Type 0 where
  pub grown : new.past ≡ old.past ++ since old new
  pub each : AllByRecursion Q (since old new)
  pub now : Q (now_of new)

-- a crash at any moment from old to new leaves a snapshot that has P
abbrev pub LeavesOnly : State → State → (Snapshot → Type 0) → Type 0
LeavesOnly old new P = EachMoment old new (Leaves P)

-- what was told, the other contents and their loose ranges are as before
pub record SameBut (dev : Dev) (old : State) (moment : Moment) : Type 0 where
  pub told : moment.told ≡ old.told
  pub telling : moment.telling ≡ []
  pub content : (d : Dev) → d ≢ dev → content_of d moment.image ≡ content_of d old.image
  pub loose : (d : Dev) → d ≢ dev → loose_of d moment.loose ≡ loose_of d old.loose

-- only this device changes from old to new
abbrev pub OnlyDevice : Dev → State → State → Type 0
OnlyDevice dev old new = EachMoment old new (SameBut dev old)

-- nothing was told, no other device changed, and nothing was heard
pub record ChangesOnly (dev : Dev) (old new : State) : Type 0 where
  pub only : OnlyDevice dev old new
  pub left : new.input ≡ old.input

-- the device's content and loose ranges are as before
pub record SameAt (dev : Dev) (old : State) (moment : Moment) : Type 0 where
  pub content : content_of dev moment.image ≡ content_of dev old.image
  pub loose : loose_of dev moment.loose ≡ loose_of dev old.loose

-- this device stays as it is from old to new
abbrev pub Untouched : Dev → State → State → Type 0
Untouched dev old new = EachMoment old new (SameAt dev old)
