use Rattle.std.proofs.Common.{◌≡◌, take}
use Rattle.site.specs.State.{is_loose}
use Rattle.mem_site.specs.History.{ranges_of}
use Rattle.mem_site.proofs.crash.stands_loose.Given as goal

abbrev pub invariant-loop-span : goal.invariant-loop-span
invariant-loop-span l = l.found ≡ is_loose (ranges_of (take l.span-index l.spans)) l.place
