-- Runs that were worked out by hand, on eight groups and a pool of one page.
use Rattle.std.specs.Prelude.{◌≡◌, ℕ, Bool, true, false, List, [], ◌∷◌, map}
use Rattle.std.specs.List.{range_with_len}
use Rattle.policy_sim.specs.declared.policy.Policy.{Policy}
use Rattle.policy_sim.specs.declared.policy.Policy.TheVariants.{Fifo, Group, Chance}
use Rattle.policy_sim.specs.declared.counts.Counts.{Counts}
use Rattle.policy_sim.specs.Machines.{machine_counts}

abbrev pub write : ℕ → ℕ × Bool
write page = (page, true)

abbrev pub read : ℕ → ℕ × Bool
read page = (page, false)

-- Page 0 is read while it is in the queue, and its group leaves later.
abbrev pub one_read : List (ℕ × Bool)
one_read = write 0 ∷ write 1 ∷ read 0 ∷ map write (range_with_len 2 7)

-- eight pushes, of which the last makes the front group leave, with so many frames staged
abbrev pub eight_pushes : ℕ → Counts
eight_pushes staged = record { touches = 10; pool = 0; flash = 1; disk = 9; staged = staged; pushed = 8 }

abbrev pub OneReadFifo : Type 0
OneReadFifo = machine_counts Fifo 8 1 one_read ≡ eight_pushes 0

abbrev pub OneReadGroup : Type 0
OneReadGroup = machine_counts Group 8 1 one_read ≡ eight_pushes 1

abbrev pub OneReadChance : Type 0
OneReadChance = machine_counts Chance 8 1 one_read ≡ eight_pushes 0

-- a page that is read twice is in the pool
abbrev pub two_reads : List (ℕ × Bool)
two_reads = read 0 ∷ read 0 ∷ []

abbrev pub TwoReads : Policy → Type 0
TwoReads kind = machine_counts kind 8 1 two_reads ≡ record {
  touches = 2;
  pool = 1;
  flash = 0;
  disk = 1;
  staged = 0;
  pushed = 0;
}
