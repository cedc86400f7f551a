use Rattle.std.proofs.Common.{◌≡◌, false, take}
use Rattle.std.specs.List.{list_any}
use Rattle.write_ahead.specs.Forcing.{is_unsealed}
use Rattle.write_ahead.proofs.forcing.wants_force.Given as goal

abbrev pub invariant-loop-content : goal.invariant-loop-content
invariant-loop-content l = list_any (is_unsealed l.end) (take l.content-index l.contents) ≡ false
