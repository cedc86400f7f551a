-- Which errors calls on pages give.
use Rattle.site.specs.declared.outside.Dev.TheVariants.{Log, Flash, Disk}
use Rattle.site.specs.declared.outside.Stop.{Stop}
use Rattle.site.specs.declared.outside.Stop.TheVariants.{Device, Worn, Memory, Foreign}

-- any but a worn disk
abbrev pub MayStop : Stop → Type 0
MayStop (Device dev) = Unit {0}
MayStop (Worn Log) = Unit {0}
MayStop (Worn Flash) = Unit {0}
MayStop (Worn Disk) = ⊥
MayStop Memory = Unit {0}
MayStop Foreign = Unit {0}
