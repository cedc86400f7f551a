use Rattle.std.proofs.Common.{◌≡◌, ◌+◌, ◌++◌, ℕ, List, take}
use Rattle.policy_sim.specs.declared.policy.Policy.{Policy}
use Rattle.policy_sim.specs.Machines.{IsAfter}
use Rattle.trace_report.specs.Traces.{Touch}
use Rattle.trace_report.proofs.machines.serve_all.Given as goal

abbrev pub invariant-loop-page : goal.invariant-loop-page
invariant-loop-page l = record {
  made : l.cache.counts.touches ≡ l.fn.cache.counts.touches + l.page-index;
  served : (kind : Policy) → (groups pool : ℕ) → (before : List Touch) → IsAfter kind groups pool before l.fn.cache
      → IsAfter kind groups pool (before ++ take l.page-index l.touches) l.cache;
}
