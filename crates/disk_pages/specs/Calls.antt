-- What writes and syncs of the disk leave.
use Rattle.std.specs.Prelude.{◌≡◌, Result, OnErr, IfErr}
use Rattle.site.specs.declared.outside.Dev.TheVariants.{Disk}
use Rattle.site.specs.declared.outside.Stop.{Stop}
use Rattle.site.specs.declared.outside.Stop.TheVariants.{Device}
use Rattle.site.specs.State.{State}
use Rattle.site.specs.Calls.{Preserves, SameReads, FaultRose}
use Rattle.site.specs.Faults.{WorkFaults}

-- of every site: nothing is read, and the one error is that of the disk
pub record WritesDisk {T : Type 0} (result : Result T Stop) (old new : State) : Type 0 where
  pub preserves : Preserves old new
  pub faults : WorkFaults result old new
  pub reads : SameReads old new
  pub device : OnErr result (FaultRose Disk old new)
  pub stops : IfErr result (λ stop. stop ≡ Device Disk)
