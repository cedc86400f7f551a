-- What three caches have counted.
use Rattle.std.specs.Prelude.{◌≡◌, ℕ, ◌+◌, List, ◌++◌, length}
use Rattle.policy_sim.specs.declared.policy.Policy.TheVariants.{Fifo, Group, Chance}
use Rattle.policy_sim.specs.Machines.{IsAfter}
use Rattle.trace_report.specs.declared.machines.Machines.{Machines}
use Rattle.trace_report.specs.Traces.{Touch}

-- these touches were heard: each cache is its policy's machine after all of them but the last ones, which wait
pub record HaveServed (groups pool : ℕ) (touches : List Touch) (m : Machines) : Type 0 where
  pub served : List Touch
  pub all : touches ≡ served ++ m.waiting.items
  pub fifo : IsAfter Fifo groups pool served m.fifo
  pub group : IsAfter Group groups pool served m.group
  pub chance : IsAfter Chance groups pool served m.chance

-- so many touches were heard
pub record HaveMade (number : ℕ) (m : Machines) : Type 0 where
  pub fifo : m.fifo.counts.touches + length m.waiting.items ≡ number
  pub group : m.group.counts.touches + length m.waiting.items ≡ number
  pub chance : m.chance.counts.touches + length m.waiting.items ≡ number
