-- What the tests' helpers keep of a site.
use Rattle.std.proofs.Common.{◌≡◌, ◌∙◌}
use Rattle.site.specs.State.{State}
use Rattle.site.specs.Calls.{Preserves}
use Rattle.sealed_ring.specs.declared.ring.Ring.{Ring}
use Rattle.sealed_ring.specs.Ready.{IsUsable}
use Rattle.tail_rebuild_tests.specs.Trying.{MayTry}
use Rattle.site.proofs.Working.{lengths_later}

pub may_try : (ring again : Ring) (old new : State) → Preserves old new → IsUsable again new → again.shape ≡ ring.shape → MayTry ring old → MayTry again new
may_try ring again old new goes usable shape may = record { lengths = lengths_later _ old new goes may.lengths; usable = usable; shape = shape ∙ may.shape }
