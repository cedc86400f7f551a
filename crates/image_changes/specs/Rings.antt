-- The four rings of the devices.
use Rattle.std.specs.Prelude.{◌≡◌, ℕ, ◌+◌, ◌*◌, ◌/◌, List}
use Rattle.site.specs.declared.outside.Dev.TheVariants.{Log, Flash}
use Rattle.site.specs.declared.geometry.Geometry.{Geometry}
use Rattle.site.specs.State.{Image, content_of}
use Rattle.sealed_ring.specs.declared.slots.Shape.{Shape}
use Rattle.sealed_ring.specs.Ring.{IsRing, Units, units_of}

-- master units and log blocks on the log, groups of frames and segments of their heads on the flash
pub data RingName : Type 0 where
  Masters : RingName
  Blocks : RingName
  Groups : RingName
  Segments : RingName

abbrev pub master_shape : Shape
master_shape = record { dev = Log; base = 0; slots = 3; stride = 512; room = 503 }

abbrev pub log_shape : Geometry → Shape
log_shape g = record { dev = Log; base = 1536; slots = g.blocks; stride = 512; room = 503 }

abbrev pub group_shape : Geometry → Shape
group_shape g = record { dev = Flash; base = 0; slots = g.groups; stride = 33280; room = 32896 }

abbrev pub segment_shape : Geometry → Shape
segment_shape g = record { dev = Flash; base = 33280 * g.groups; slots = g.groups / 4 + 3; stride = 1024; room = 512 }

abbrev pub shape_of : Geometry → RingName → Shape
shape_of g Masters = master_shape
shape_of g Blocks = log_shape g
shape_of g Groups = group_shape g
shape_of g Segments = segment_shape g

-- the content of the ring's device
abbrev pub octets_of : Shape → Image → List ℕ
octets_of s image = content_of s.dev image

-- the units that stand in the ring
abbrev pub units_on : Shape → Image → Units
units_on s image = units_of s (octets_of s image)

-- the ring has the same units, and is of the form where it was
pub record KeepsUnits (s : Shape) (old new : Image) : Type 0 where
  pub units : units_on s new ≡ units_on s old
  pub form : IsRing s (octets_of s old) → IsRing s (octets_of s new)
