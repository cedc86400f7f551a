-- The lines that are told of a trace.
use Rattle.std.specs.Prelude.{ℕ, List, ◌++◌, codes, decimal}
use Rattle.policy_sim.specs.declared.counts.Counts.{Counts}
use Rattle.policy_sim.specs.declared.policy.Policy.TheVariants.{Fifo, Group, Chance}
use Rattle.policy_sim.specs.Machines.{machine_counts}
use Rattle.trace_report.specs.Traces.{Touch}

-- a machine's name, and what it has counted
abbrev pub counts_line : List ℕ → Counts → List ℕ
counts_line name c =
    name ++ codes " touches " ++ decimal c.touches ++ codes " pool " ++ decimal c.pool ++ codes " flash "
    ++ decimal c.flash
    ++ codes " disk " ++ decimal c.disk ++ codes " staged " ++ decimal c.staged ++ codes " pushed " ++ decimal c.pushed
    ++ codes "\n"

-- what the three machines have counted after these touches, each on a flash of so many groups and with a pool of so
-- many pages
abbrev pub report : ℕ → ℕ → List Touch → List ℕ
report groups pool touches =
    counts_line (codes "fifo") (machine_counts Fifo groups pool touches)
    ++ counts_line (codes "group") (machine_counts Group groups pool touches)
    ++ counts_line (codes "chance") (machine_counts Chance groups pool touches)

-- what is told of a line that is no touch, or one too many
abbrev pub wrong_line : ℕ → List ℕ
wrong_line number = codes "fault trace " ++ decimal number ++ codes "\n"
