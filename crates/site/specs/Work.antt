-- What work of several calls says, however it ends.
use Rattle.std.specs.Prelude.{◌≡◌, Result, IsTrue, OnOk, IfErr, IsErrOf, ⊤}
use Rattle.site.specs.declared.outside.Dev.{Dev}
use Rattle.site.specs.declared.outside.Stop.{Stop}
use Rattle.site.specs.declared.outside.Stop.TheVariants.{Device, Memory, Worn, Foreign}
use Rattle.site.specs.State.{State, IsQuiet}
use Rattle.site.specs.Calls.{Preserves, FaultRose, IsUnchanged}
use Rattle.site.specs.Faults.{WorkFaults}

-- Of every site: lengths and honesty stay, an honest site hears nothing, a quiet one is quiet after Ok, and a device is
-- said to fail only where its faults rose. A call of the site that fails is the last one: Ok leaves all counts of
-- faults as they were, and an error raises the one count that it names, by one.
pub record Calls {T : Type 0} (result : Result T Stop) (before now : State) : Type 0 where
  pub preserves : Preserves before now
  pub left : IsTrue before.honest → now.input ≡ before.input
  pub stays_quiet : IsTrue before.honest → IsQuiet before → OnOk result (IsQuiet now)
  pub device : (d : Dev) → IsErrOf result (Device d) → FaultRose d before now
  pub faults : WorkFaults result before now

-- a device failed, or memory lacked
abbrev pub IsOutside : Stop → Type 0
IsOutside (Device dev) = ⊤
IsOutside Memory = ⊤
IsOutside (Worn dev) = ⊥
IsOutside Foreign = ⊥

-- Of an honest site nothing changes but counts. An error is that of a device, whose count of faults rose by one, or
-- want of memory, and no other count of faults changes.
pub record OnlyReads {T : Type 0} (result : Result T Stop) (old new : State) : Type 0 where
  pub same : IsTrue old.honest → IsUnchanged old new
  pub preserves : Preserves old new
  pub faults : WorkFaults result old new
  pub device : (d : Dev) → IsErrOf result (Device d) → FaultRose d old new
  pub stops : IfErr result IsOutside
