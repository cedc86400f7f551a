-- The counts of faults, by what a call answers.
use Rattle.std.specs.Prelude.{◌≡◌, ℕ, ◌+◌, ◌-◌, ◌^◌, min, Result, Ok, Err}
use Rattle.site.specs.declared.outside.Dev.{Dev}
use Rattle.site.specs.declared.outside.Dev.TheVariants.{Log, Flash, Disk}
use Rattle.site.specs.declared.outside.Failed.{Failed}
use Rattle.site.specs.declared.outside.Stop.{Stop}
use Rattle.site.specs.declared.outside.Stop.TheVariants.{Device, Memory, Worn, Foreign}
use Rattle.site.specs.State.{State}

-- the failed calls so far of each device, of input and of output
pub record Faults : Type 0 where
  pub log : ℕ
  pub flash : ℕ
  pub disk : ℕ
  pub input : ℕ
  pub output : ℕ

abbrev pub faults_in : State → Faults
faults_in s = record {
  log = s.log_faults;
  flash = s.flash_faults;
  disk = s.disk_faults;
  input = s.input_faults;
  output = s.output_faults;
}

-- one failed call more; a count stays at its end
abbrev pub one_more : ℕ → ℕ
one_more count = min (count + 1) (2 ^ 64 - 1)

-- one failed call more of this device
abbrev pub with_fault : Dev → Faults → Faults
with_fault Log f = record { log = one_more f.log; flash = f.flash; disk = f.disk; input = f.input; output = f.output }
with_fault Flash f = record { log = f.log; flash = one_more f.flash; disk = f.disk; input = f.input; output = f.output }
with_fault Disk f = record { log = f.log; flash = f.flash; disk = one_more f.disk; input = f.input; output = f.output }

-- one failed take, one failed tell more
abbrev pub with_input_fault : Faults → Faults
with_input_fault f = record { log = f.log; flash = f.flash; disk = f.disk; input = one_more f.input; output = f.output }

abbrev pub with_output_fault : Faults → Faults
with_output_fault f = record {
  log = f.log;
  flash = f.flash;
  disk = f.disk;
  input = f.input;
  output = one_more f.output;
}

-- after a call of the device: all as they were where it answers Ok, and else one failed call of it more
abbrev pub after_call : {T : Type 0} → Dev → Result T Failed → Faults → Faults
after_call dev (Ok x) f = f
after_call dev (Err e) f = with_fault dev f

abbrev pub after_take : {T : Type 0} → Result T Failed → Faults → Faults
after_take (Ok x) f = f
after_take (Err e) f = with_input_fault f

abbrev pub after_tell : {T : Type 0} → Result T Failed → Faults → Faults
after_tell (Ok x) f = f
after_tell (Err e) f = with_output_fault f

-- after work that the first failed call of a device ends: one failed call more of the device that the answer names, and
-- no other
abbrev pub after_work : {T : Type 0} → Result T Stop → Faults → Faults
after_work (Ok x) f = f
after_work (Err (Device dev)) f = with_fault dev f
after_work (Err Memory) f = f
after_work (Err (Worn dev)) f = f
after_work (Err Foreign) f = f

-- Each failed call is the last one, and is told by the answer: Ok leaves all counts as they were, and an error raises
-- the one count that it names, by one.

abbrev pub CallFaults : {T : Type 0} → Dev → Result T Failed → State → State → Type 0
CallFaults dev result old new = faults_in new ≡ after_call dev result (faults_in old)

abbrev pub TakeFaults : {T : Type 0} → Result T Failed → State → State → Type 0
TakeFaults result old new = faults_in new ≡ after_take result (faults_in old)

abbrev pub TellFaults : {T : Type 0} → Result T Failed → State → State → Type 0
TellFaults result old new = faults_in new ≡ after_tell result (faults_in old)

abbrev pub WorkFaults : {T : Type 0} → Result T Stop → State → State → Type 0
WorkFaults result old new = faults_in new ≡ after_work result (faults_in old)
