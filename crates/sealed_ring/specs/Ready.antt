-- A ring and the site that it stands on.
use Rattle.std.specs.Prelude.{◌≡◌, ◌⊎◌, ℕ, ◌+◌, ◌^◌, ◌<◌, ◌≤◌, List, length, Result, OnOk, OnErr}
use Rattle.site.specs.declared.outside.Dev.{Dev}
use Rattle.site.specs.declared.outside.Failed.{Failed}
use Rattle.site.specs.State.{State, Snapshot, content_of, IsSettled}
use Rattle.site.specs.Calls.{Preserves, SameReads}
use Rattle.site.specs.Faults.{CallFaults}
use Rattle.site.specs.Moments.{LeavesOnly}
use Rattle.sealed_ring.specs.declared.slots.Shape.{Shape}
use Rattle.sealed_ring.specs.declared.ring.Ring.{Ring}
use Rattle.sealed_ring.specs.Ring.{FitsIn, HasForm, IsRing, hi_of, Units, units_of, appended, Keeps, Adds, OldOrNew}
use Rattle.sealed_ring.specs.Ring.{Stages, Seals}
pub use Rattle.site.specs.Calls.{FaultRose}
pub use Rattle.site.specs.Moments.{ChangesOnly}

-- the content of the ring's device
abbrev pub region : Shape → State → List ℕ
region s site = content_of s.dev site.image

abbrev pub region_left : Shape → Snapshot → List ℕ
region_left s snapshot = content_of s.dev snapshot.image

-- the units that stand there
abbrev pub units_in : Shape → State → Units
units_in s site = units_of s (region s site)

-- over every site: the ring's shape lies inside its device
pub record IsUsable (ring : Ring) (site : State) : Type 0 where
  pub fits : FitsIn ring.shape (length (region ring.shape site))
  pub bounded : ring.hi ≤ 2 ^ 40

-- over an honest site: the ring's next unit is that of the content
abbrev pub Matches : Ring → State → Type 0
Matches ring site = ring.hi ≡ hi_of ring.shape (region ring.shape site)

-- over an honest site: the ring fits, nothing of its device is loose, and its content is of the form
pub record IsReady (ring : Ring) (site : State) : Type 0 where
  pub settled : IsSettled ring.shape.dev site
  pub form : IsRing ring.shape (region ring.shape site)
  pub hi : Matches ring site

-- over an honest site, whatever of its device is loose: the content is of the form, and the ring's next unit is its
pub record Finds (ring : Ring) (site : State) : Type 0 where
  pub form : IsRing ring.shape (region ring.shape site)
  pub hi : Matches ring site

-- each snapshot has the old units, or the new one too
abbrev pub LeavesOldOrNew : Shape → List ℕ → List ℕ → Snapshot → Type 0
LeavesOldOrNew s old bytes snapshot = OldOrNew s old bytes (region_left s snapshot)

-- within an append, by the number of its unit

-- a unit of this number and content may be put into its slot
pub record MayAppend (s : Shape) (hi : ℕ) (bytes : List ℕ) (site : State) : Type 0 where
  pub fits : FitsIn s (length (region s site))
  pub bounded : hi < 2 ^ 40
  pub room : length bytes ≡ s.room

-- of every site, what writes and syncs of one device leave, which the first failed one ends
pub record WritesTo {T : Type 0} (result : Result T Failed) (dev : Dev) (old new : State) : Type 0 where
  pub preserves : Preserves old new
  pub faults : CallFaults dev result old new
  pub reads : SameReads old new
  pub cause : OnErr result (FaultRose dev old new)

-- nothing is loose, and the content is a ring whose next unit is hi
pub record IsAtRest (s : Shape) (hi : ℕ) (site : State) : Type 0 where
  pub settled : IsSettled s.dev site
  pub form : HasForm s hi (region s site)

abbrev pub LeavesKept : Shape → ℕ → List ℕ → Snapshot → Type 0
LeavesKept s hi old snapshot = Keeps s hi old (region_left s snapshot)

abbrev pub LeavesEither : Shape → ℕ → List ℕ → Snapshot → Type 0
LeavesEither s hi old snapshot = Keeps s hi old (region_left s snapshot) ⊎ Adds s hi old (region_left s snapshot)

-- the unit was put behind its closed gate; a crash leaves the units below it
pub record HasStaged {T : Type 0} (s : Shape) (hi : ℕ) (bytes : List ℕ) (old new : State)
    (result : Result T Failed) : Type 0 where
  pub any_moment : IsAtRest s hi old → LeavesOnly old new (LeavesKept s hi (region s old))
  pub changes : ChangesOnly s.dev old new
  pub stages : OnOk result (Stages s hi bytes (region s old) (region s new))
  pub settled : OnOk result (IsSettled s.dev new)
  -- two writes and a sync
  pub device_calls : OnOk result (length new.past ≡ length old.past + 3)

-- the unit was staged and its gate opened; a crash leaves the units below it, or this one too
pub record HasSealed {T : Type 0} (s : Shape) (hi : ℕ) (bytes : List ℕ) (old new : State)
    (result : Result T Failed) : Type 0 where
  pub any_moment : IsAtRest s hi old → LeavesOnly old new (LeavesOldOrNew s (region s old) bytes)
  pub changes : ChangesOnly s.dev old new
  pub seals : OnOk result (Seals s hi bytes (region s old) (region s new))
  pub settled : OnOk result (IsSettled s.dev new)
  pub form : HasForm s hi (region s old) → OnOk result (HasForm s (hi + 1) (region s new))
  pub stands : HasForm s hi (region s old)
      → OnOk result (units_of s (region s new) ≡ appended s (units_of s (region s old)) bytes)
  -- three writes and two syncs
  pub device_calls : OnOk result (length new.past ≡ length old.past + 5)
