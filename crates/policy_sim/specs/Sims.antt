-- A cache as its machine and its counts.
use Rattle.std.specs.Prelude.{◌≡◌, ◌≤◌, Bool, false}
use Rattle.policy_sim.specs.declared.counts.Counts.{Counts}
use Rattle.policy_sim.specs.declared.machine.Machine.{Machine}
use Rattle.policy_sim.specs.Machines.{State}
use Rattle.policy_sim.specs.Bounds.{IsBounded}
use Rattle.policy_sim.specs.Steps.{cache_of, rules_in, next_group, IsOrdered}

abbrev pub state_of : Machine → Counts → State
state_of m counts = record { rules = rules_in m; cache = cache_of m; counts = counts }

pub record IsRunning (m : Machine) (counts : Counts) : Type 0 where
  pub some : 1 ≤ m.groups
  pub number : next_group m ≤ counts.touches
  pub ordered : IsOrdered m
  pub bounded : IsBounded counts

-- nothing is known of the machine once the cache is ended
pub record IsSim (m : Machine) (counts : Counts) (ended : Bool) : Type 0 where
  pub running : ended ≡ false → IsRunning m counts
