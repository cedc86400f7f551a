-- Devices that aren't blank, or have no sizes, are refused.
use Rattle.std.specs.Prelude.{◌≡◌, ℕ, Result, Ok, Err}
use Rattle.site.specs.State.{State as Site}
use Rattle.site.specs.Calls.{IsUnchanged}
use Rattle.site.specs.declared.geometry.Geometry.{Geometry}
use Rattle.site.specs.declared.outside.Stop.TheVariants.{Foreign}
use Rattle.site.specs.Geometry.{HasLengths, HasLimits}
use Rattle.site.specs.Telling.{SameDevices}
use Rattle.front_end.specs.New.{IsBlank, IsNotBlank, unfit_line, unfit_status}
use Rattle.front_end.specs.Tells.{EndsWith}
use Rattle.front_end.specs.declared.halt.Halt.TheVariants as halt
use Rattle.front_end.specs.declared.new_database.Unfit.{Unfit}
use Rattle.archive_restore.specs.declared.fault.Fault.{Fault}
use Rattle.archive_restore.specs.declared.fault.Fault.TheVariants as fault

-- devices that have sizes, and an octet that isn't zero
pub record IsWritten (site : Site) : Type 0 where
  pub g : Geometry
  pub limits : HasLimits g
  pub lengths : HasLengths g site.image
  pub filled : IsBlank site.image → ⊥

-- they are refused, or a read of one fails, and nothing is changed
abbrev pub RefusesWritten : {T : Type 0} → Result T Fault → Site → Site → Type 0
RefusesWritten (Ok x) old new = ⊥
RefusesWritten (Err f) old new =
    (unfit : Unfit) × (f ≡ fault.Unfit unfit) × IsNotBlank unfit old new × IsUnchanged old new

-- devices without sizes are refused, and nothing is done
abbrev pub RefusesSizes : {T : Type 0} → Result T Fault → Site → Site → Type 0
RefusesSizes (Ok x) old new = ⊥
RefusesSizes (Err f) old new = (f ≡ fault.Halt (halt.Stop Foreign)) × (new ≡ old)

-- So the status is 10, or 3; the place of an octet that isn't zero is told, or the device.
pub record RefusesFilled (status : ℕ) (old new : Site) : Type 0 where
  pub unfit : Unfit
  pub is : status ≡ unfit_status unfit
  pub why : IsNotBlank unfit old new
  pub line : EndsWith old.told (unfit_line unfit) old new
  pub devices : SameDevices old new
