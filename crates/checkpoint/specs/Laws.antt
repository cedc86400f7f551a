-- Laws of master units.
use Rattle.std.specs.Prelude.{◌≡◌, ℕ, List}
use Rattle.site.specs.declared.geometry.Geometry.{Geometry}
use Rattle.site.specs.Geometry.{HasLimits, blank_image}
use Rattle.site.specs.State.{Image}
use Rattle.sealed_ring.specs.Ring.{Units, appended}
use Rattle.image_changes.specs.Rings.{master_shape, units_on, KeepsUnits}
use Rattle.checkpoint.specs.declared.master.Master.{Master}
use Rattle.checkpoint.specs.Units.{IsUnit, master_in}
use Rattle.checkpoint.specs.Newest.{blank, HasMaster}
use Rattle.checkpoint.specs.Saved.{KeepsMaster}

-- a unit is that of at most one master
abbrev pub OneMaster : Type 0
OneMaster = (content : List ℕ) (a b : Master) → IsUnit content a → IsUnit content b → a ≡ b

-- which its octets say
abbrev pub UnitIsRead : Type 0
UnitIsRead = (content : List ℕ) (m : Master) → IsUnit content m → master_in content ≡ m

-- and devices have at most one newest master
abbrev pub OneNewest : Type 0
OneNewest = (image : Image) (a b : Master) → HasMaster image a → HasMaster image b → a ≡ b

-- blank devices have the blank one
abbrev pub BlankHasNone : Type 0
BlankHasNone = (g : Geometry) → HasLimits g → HasMaster (blank_image g) blank

-- the unit that was appended last is the newest one
abbrev pub AppendedIsNewest : Type 0
AppendedIsNewest =
    (image : Image) (units : Units) (content : List ℕ) (m : Master) → IsUnit content m
    → units_on master_shape image ≡ appended master_shape units content → HasMaster image m

-- changes that leave the units of the master ring leave its newest master
abbrev pub KeptBeside : Type 0
KeptBeside = (old new : Image) → KeepsUnits master_shape old new → KeepsMaster old new
