-- How large counts can be.
use Rattle.std.specs.Prelude.{◌*◌, ◌≤◌}
use Rattle.policy_sim.specs.declared.counts.Counts.{Counts}

-- each touch counts once at most, and stages eight frames at most
pub record IsBounded (counts : Counts) : Type 0 where
  pub pool : counts.pool ≤ counts.touches
  pub flash : counts.flash ≤ counts.touches
  pub disk : counts.disk ≤ counts.touches
  pub staged : counts.staged ≤ 8 * counts.touches
  pub pushed : counts.pushed ≤ counts.touches
