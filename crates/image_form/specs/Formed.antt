-- What is known of devices on the way to the first rule.
use Rattle.std.specs.Prelude.{Option, Some, None, Result, Ok, Err}
use Rattle.site.specs.State.{State}
use Rattle.checkpoint.specs.Newest.{HasMaster}
use Rattle.log_store.specs.declared.store.LogStore.{LogStore}
use Rattle.log_store.specs.Representation.{Invariant, Finds}
use Rattle.image_form.specs.declared.formed.Found.{Found}
use Rattle.image_form.specs.declared.place.Place.{Place}
use Rattle.image_form.specs.Octets.{AreRings}
use Rattle.image_form.specs.Findings.{MayRead, AreFound}
use Rattle.image_form.specs.Verdict.{OctetsAreFormed, FailsFirst}

-- over every site: the log and the rings lie on its devices
pub record MayBeRead (found : Found) (site : State) : Type 0 where
  pub going : Invariant found.log site
  pub may_read : MayRead found.log.geometry found.rings site

-- over an honest site: the log, the rings and the master are those that stand there
pub record IsThere (found : Found) (site : State) : Type 0 where
  pub log : Finds found.log site
  pub rings : AreFound found.rings site
  pub are_rings : AreRings found.log.geometry site.image
  pub master : HasMaster site.image found.master

-- the log is found; it always is
abbrev pub LogIs : Option LogStore → State → Type 0
LogIs (Some log) site = Finds log site
LogIs None site = ⊥

-- this stands there; or the first rule fails
abbrev pub IsThereOr : Result Found Place → State → Type 0
IsThereOr (Ok found) site = IsThere found site
IsThereOr (Err place) site = FailsFirst 1 site.image

-- this stands there and meets the first rule; or that rule fails
abbrev pub IsFormedOr : Result Found Place → State → Type 0
IsFormedOr (Ok found) site = IsThere found site × OctetsAreFormed found.log.geometry found.master site.image
IsFormedOr (Err place) site = FailsFirst 1 site.image
