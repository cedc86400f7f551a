-- What calls that only read one device leave.
use Rattle.std.specs.Prelude.{◌≡◌, ◌≢◌, ℕ, ◌+◌, ◌≤◌, Result, IsTrue, IsErrOf}
use Rattle.site.specs.declared.outside.Dev.{Dev}
use Rattle.site.specs.declared.outside.Stop.{Stop}
use Rattle.site.specs.declared.outside.Stop.TheVariants.{Device}
use Rattle.site.specs.State.{State, reads_of}
use Rattle.site.specs.Calls.{Preserves, FaultRose, IsUnchanged}
use Rattle.site.specs.Faults.{WorkFaults}

-- Of an honest site nothing changes but counts. Of every site at most n reads of this device are made and none of
-- another one, and a device that an error names had a fault.
pub record ReadsFrom {T : Type 0} (result : Result T Stop) (dev : Dev) (n : ℕ) (old new : State) : Type 0 where
  pub same : IsTrue old.honest → IsUnchanged old new
  pub preserves : Preserves old new
  pub faults : WorkFaults result old new
  pub reads : reads_of dev new ≤ reads_of dev old + n
  pub others : (d : Dev) → d ≢ dev → reads_of d new ≡ reads_of d old
  pub device : (d : Dev) → IsErrOf result (Device d) → FaultRose d old new
