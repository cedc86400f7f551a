-- Calls as work of the machine.
use Rattle.std.specs.Prelude.{◌≡◌, List, Result, OnOk, IsErrOf, Some, None}
use Rattle.site.specs.declared.outside.Dev.{Dev}
use Rattle.site.specs.declared.outside.Stop.{Stop}
use Rattle.site.specs.declared.outside.Stop.TheVariants.{Worn}
use Rattle.second_chance.specs.Machine.{Rules}
use Rattle.ring_machine.specs.Machine.{Machine, RingOp, after_all, first_worn}

-- A call does this work, from wherever the machine may stand before it. At Ok the machine has done it, has found no
-- ring at its end, and stands where it may behind it. That a device is worn is answered only where the first ring that
-- the machine finds at its end lies on that device.
pub record Performs {T : Type 0} (result : Result T Stop) (rules : Rules) (works : List RingOp) (Before After : Machine
    → Type 0) : Type 0 where
  pub done : (m : Machine) → Before m
      → OnOk result ((first_worn rules works m ≡ None) × After (after_all rules works m))
  pub worn : (m : Machine) → Before m → (dev : Dev) → IsErrOf result (Worn dev) → first_worn rules works m ≡ Some dev
