-- What `check` does: it tells whether the devices are sound, or the first rule that fails, and changes nothing.
use Rattle.std.specs.Prelude.{◌≡◌, ◌⊎◌, ℕ, ◌≤◌, List, ◌++◌, codes, decimal, IsTrue, None}
use Rattle.site.specs.declared.outside.Dev.{Dev}
use Rattle.site.specs.declared.outside.Stop.TheVariants.{Device, Memory}
use Rattle.site.specs.State.{State, Image, faults_of}
use Rattle.site.specs.Calls.{Rose}
use Rattle.site.specs.Moments.{EachMoment}
use Rattle.site.specs.Telling.{TellsPart, SameDevices}
use Rattle.image_check.specs.declared.verdict.Verdict.{Verdict}
use Rattle.image_check.specs.declared.verdict.Verdict.TheVariants.{Sound, Unsound}
use Rattle.image_form.specs.Verdict.{IsSoundWith, FailsFirst}
use Rattle.image_form.specs.Counted.{ReadsBySizes}
use Rattle.image_form.specs.Findings.{SizesAre}
use Rattle.image_check.specs.Deciding.{log_checked, pages_checked}
use Rattle.front_end.specs.declared.halt.Halt.TheVariants as halt
use Rattle.front_end.specs.Faults.{NoFaultRose, SameFaults}
use Rattle.front_end.specs.Tells.{EndsWith}
use Rattle.front_end.specs.Texts.{fault_line}
use Rattle.front_end.specs.Refusals.{OnlyTells, LacksMemory}

-- the line that names a rule that fails
abbrev pub unsound_line : ℕ → List ℕ
unsound_line rule = codes "unsound S" ++ decimal rule ++ codes "\n"

-- the line of a verdict, and its status
abbrev pub verdict_line : Verdict → List ℕ
verdict_line (Sound records commits) =
    codes "sound records " ++ decimal records ++ codes " commits " ++ decimal commits ++ codes "\n"
verdict_line (Unsound rule place) = unsound_line rule

abbrev pub verdict_status : Verdict → ℕ
verdict_status (Sound records commits) = 0
verdict_status (Unsound rule place) = 11

-- The line says that the devices are sound, with so many records after so many commits; of an honest site they are.
pub record SaysSound (line : List ℕ) (site : State) : Type 0 where
  pub records : ℕ
  pub commits : ℕ
  pub line_is : line ≡ verdict_line (Sound records commits)
  pub sound : IsTrue site.honest → IsSoundWith site.image records commits

-- The line says which is the first rule that fails; of an honest site it is this one, and one of the twelve.
pub record SaysUnsound (line : List ℕ) (site : State) : Type 0 where
  pub rule : ℕ
  pub line_is : line ≡ unsound_line rule
  pub fails : IsTrue site.honest → FailsFirst rule site.image
  pub numbered : IsTrue site.honest → (1 ≤ rule) × (rule ≤ 12)

-- the line that goes with each status
pub record IsAnswer (status : ℕ) (line : List ℕ) (old new : State) : Type 0 where
  pub sound : status ≡ 0 → SaysSound line old
  pub unsound : status ≡ 11 → SaysUnsound line old
  pub device : status ≡ 3 →
      (dev : Dev) × (line ≡ fault_line (halt.Stop (Device dev))) × Rose (faults_of dev old) (faults_of dev new)
  pub memory : status ≡ 4 → line ≡ fault_line (halt.Stop Memory)
  -- with 6 telling the verdict failed
  pub output : status ≡ 6 → (SaysSound line old ⊎ SaysUnsound line old) × Rose old.output_faults new.output_faults

-- What `check` does.
pub record Check (old new : State) (status : ℕ) : Type 0 where
  -- the line of the status is told, or a front of it, and nothing else is done
  pub line : List ℕ
  pub answer : IsAnswer status line old new
  pub any_moment : IsTrue old.honest → EachMoment old new (TellsPart line old)
  -- the devices stay as they are, and nothing is taken from the input
  pub devices : IsTrue old.honest → SameDevices old new
  -- all of it where no tell failed, and with status 0 or 11 at any rate
  pub ends : IsTrue old.honest → EndsWith old.told line old new
  pub whole : IsTrue old.honest → (status ≡ 0) ⊎ (status ≡ 11) → new.told ≡ old.told ++ line

-- all rules hold
abbrev pub AreSound : Image → Type 0
AreSound image = (records : ℕ) × (commits : ℕ) × IsSoundWith image records commits

-- the first rule fails, whatever the devices hold: nothing is read, and its line is told
pub record FailsUnread (old new : State) (status : ℕ) : Type 0 where
  pub is : (status ≡ 11) ⊎ (status ≡ 6)
  pub tells : OnlyTells (unsound_line 1) old new

-- When each status of `check` comes.
pub record CheckCauses (old new : State) (status : ℕ) : Type 0 where
  pub others : status ≡ 0 ⊎ (status ≡ 3 ⊎ (status ≡ 4 ⊎ (status ≡ 6 ⊎ status ≡ 11)))
  pub device : status ≡ 3 → (dev : Dev) × Rose (faults_of dev old) (faults_of dev new)
  pub output : status ≡ 6 → Rose old.output_faults new.output_faults
  -- 11 over an honest site exactly where the devices aren't sound, unless 3, 4 or 6 came first
  pub unsound : IsTrue old.honest → status ≡ 11 → ¬ (AreSound old.image)
  pub not_sound : IsTrue old.honest → ¬ (AreSound old.image) →
      (status ≡ 11) ⊎ ((status ≡ 3) ⊎ ((status ≡ 4) ⊎ (status ≡ 6)))
  -- of every site: devices without sizes fail the first rule, unless memory was wanted before anything was done
  pub sizes : SizesAre None old.image → FailsUnread old new status ⊎ LacksMemory status old new
  -- where nothing fails the devices are judged, or memory was wanted
  pub complete : NoFaultRose old new → (status ≡ 0) ⊎ ((status ≡ 11) ⊎ (status ≡ 4))
  -- with a verdict that is told no call has failed
  pub faultless : (status ≡ 0) ⊎ (status ≡ 11) → SameFaults old new

pub record CheckContract (old new : State) (status : ℕ) : Type 0 where
  pub does : Check old new status
  pub causes : CheckCauses old new status
  -- of every site, by the sizes: how often the devices are read at most
  pub looks : ReadsBySizes log_checked pages_checked old new
