-- When a run halts.
use Rattle.std.specs.Prelude.{◌≡◌, ◌⊎◌, ℕ, ◌+◌, ◌<◌, ◌≤◌, List, length, take, true, false, ⊤, Result, Ok, Err}
use Rattle.std.specs.Prelude.{IfErr, IsTrue}
use Rattle.site.specs.declared.outside.Dev.{Dev}
use Rattle.site.specs.declared.outside.Dev.TheVariants.{Log, Flash, Disk}
use Rattle.site.specs.declared.outside.Stop.{Stop}
use Rattle.site.specs.declared.outside.Stop.TheVariants.{Device, Memory, Worn, Foreign}
use Rattle.site.specs.declared.geometry.Geometry.{Geometry}
use Rattle.site.specs.Geometry.{HasLimits, HasLengths}
use Rattle.site.specs.State.{State, Image, faults_of}
use Rattle.site.specs.Calls.{Preserves, Rose}
use Rattle.record_model.specs.State.{Content}
use Rattle.record_model.specs.State as model
use Rattle.front_end.specs.declared.halt.Halt.{Halt}
use Rattle.front_end.specs.declared.halt.Halt.TheVariants as halt
use Rattle.engine.specs.declared.engine.Engine.{Engine}
use Rattle.engine.specs.Image.{Stands}
use Rattle.engine.specs.Leaves.{HasNoSizes}
use Rattle.engine.specs.Representation.{Matches}
use Rattle.engine.specs.Invariant.{sizes_of}
use Rattle.flash_cache.specs.Representation.{IsWorn}
use Rattle.redo_laws.specs.Holding.{IsLogWorn, IsSpent}
use Rattle.redo_undo.specs.StoreCalls.{AreNext}
use Rattle.std.specs.List.{list_any}
use Rattle.record_model.specs.Run.{is_quit}
use Rattle.front_end.specs.Faults.{RunFaults}
use Rattle.front_end.specs.Lines.{limit, commands_of}

-- of an honest site: the image isn't sound
abbrev pub IsForeign : State → Type 0
IsForeign site = IsTrue site.honest → (g : Geometry) (table : List Content) (commits : ℕ) →
    Stands g site.image table commits → ⊥

-- of an honest site: more octets were taken than a run may take
abbrev pub IsOverLimit : State → State → Type 0
IsOverLimit old new = IsTrue old.honest → limit + length new.input.left < length old.input.left

-- the ring of groups on flash, or a ring on the log's device, stands at its end; the disk has no ring
abbrev pub IsWornAt : Dev → Geometry → Image → Type 0
IsWornAt Flash g image = IsWorn g image
IsWornAt Log g image = IsLogWorn g image
IsWornAt Disk g image = ⊥

-- of an honest site of these sizes: a ring of the device is spent now, and where the image at entry stands for a table
-- it stands at its end; of every site: it isn't the disk
abbrev pub IsWornOut : Dev → State → State → Type 0
IsWornOut Disk old new = ⊥
IsWornOut dev old new = IsTrue old.honest → (g : Geometry) → HasLimits g → HasLengths g old.image →
    IsSpent dev g new.image × ((table : List Content) (commits : ℕ) → Stands g old.image table commits →
    IsWornAt dev g new.image)

-- Why a command fails. A device's fault comes only where its count rose. Over an honest site on which the next units of
-- the rings are those that the database knows a device is worn only where a ring of it is spent, and over one that the
-- database fits only where it stands at its end, and nothing is foreign. Over no site is it the disk that is worn.
abbrev pub FailsBy : Stop → Engine → State → State → Type 0
FailsBy (Device dev) engine old new = Rose (faults_of dev old) (faults_of dev new)
FailsBy Memory engine old new = ⊤
FailsBy (Worn Disk) engine old new = ⊥
FailsBy (Worn dev) engine old new =
    (IsTrue old.honest → AreNext engine.store old → IsSpent dev (sizes_of engine.store) new.image)
    × ((s : model.State) → Matches engine old s → IsWornAt dev (sizes_of engine.store) new.image)
FailsBy Foreign engine old new = (s : model.State) → Matches engine old s → ⊥

-- why the answer to a line fails
abbrev pub AnswerFailsBy : Halt → Engine → State → State → Type 0
AnswerFailsBy (halt.Stop stop) engine old new = FailsBy stop engine old new
AnswerFailsBy halt.Input engine old new = ⊥
AnswerFailsBy halt.Output engine old new = Rose old.output_faults new.output_faults
AnswerFailsBy halt.Limit engine old new = ⊥

-- Why a run halts. A fault comes only where its count rose.
abbrev pub HasCause : Halt → State → State → Type 0
HasCause (halt.Stop (Device dev)) old new = Rose (faults_of dev old) (faults_of dev new)
HasCause (halt.Stop Memory) old new = ⊤
HasCause (halt.Stop (Worn dev)) old new = IsWornOut dev old new
HasCause (halt.Stop Foreign) old new = IsForeign old
HasCause halt.Input old new = Rose old.input_faults new.input_faults
HasCause halt.Output old new = Rose old.output_faults new.output_faults
HasCause halt.Limit old new = IsOverLimit old new

-- when each status comes
pub record HasCauses (status : ℕ) (old new : State) : Type 0 where
  pub device : status ≡ 3 → (dev : Dev) × Rose (faults_of dev old) (faults_of dev new)
  pub input : status ≡ 5 → Rose old.input_faults new.input_faults
  pub output : status ≡ 6 → Rose old.output_faults new.output_faults
  pub limit : status ≡ 7 → IsOverLimit old new
  pub worn : status ≡ 8 → IsWornOut Flash old new ⊎ IsWornOut Log old new
  pub foreign : status ≡ 9 → IsForeign old
  pub others : status ≡ 0 ⊎ (status ≡ 3 ⊎ (status ≡ 4 ⊎ (status ≡ 5
      ⊎ (status ≡ 6 ⊎ (status ≡ 7 ⊎ (status ≡ 8 ⊎ status ≡ 9))))))

-- the input ends within the limit of octets, or has a quit within it
abbrev pub EndsInTime : State → Type 0
EndsInTime site = (length site.input.left ≤ limit)
    ⊎ (list_any is_quit (commands_of false (take limit site.input.left)) ≡ true)

-- devices without sizes are refused, and nothing was done
abbrev pub RefusesAsForeign : {T : Type 0} → Result T Halt → State → State → Type 0
RefusesAsForeign (Ok done) old new = ⊥
RefusesAsForeign (Err h) old new = (h ≡ halt.Stop Foreign) × (new ≡ old)

-- How work ends on any site: where it stops there is a cause, devices without sizes were refused, and a call that
-- fails is the last one.
pub record WorkEnds {T : Type 0} (result : Result T Halt) (old new : State) : Type 0 where
  pub cause : IfErr result (λ h. HasCause h old new)
  pub refuses : HasNoSizes old → RefusesAsForeign result old new
  pub preserves : Preserves old new
  pub faults : RunFaults result old new
