-- What the tests say of their sites.
use Rattle.std.specs.Prelude.{◌≡◌}
use Rattle.site.specs.declared.geometry.Geometry.{Geometry}
use Rattle.site.specs.Geometry.{HasLengths}
use Rattle.site.specs.State.{State}
use Rattle.sealed_ring.specs.declared.ring.Ring.{Ring}
use Rattle.sealed_ring.specs.Ready.{IsUsable}
use Rattle.image_changes.specs.Rings.{group_shape}

-- the tests' sizes
abbrev pub small : Geometry
small = record { pages = 16; groups = 8; blocks = 16 }

-- a site of the tests' sizes, and its ring of groups
pub record MayTry (groups : Ring) (site : State) : Type 0 where
  pub lengths : HasLengths small site.image
  pub usable : IsUsable groups site
  pub shape : groups.shape ≡ group_shape small
