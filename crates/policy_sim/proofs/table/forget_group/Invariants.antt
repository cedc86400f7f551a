use Rattle.policy_sim.proofs.Names.{◌≡◌, ℕ, take, if◌then◌else◌, elsewhere, at_page, in_group}
use Rattle.policy_sim.proofs.table.forget_group.Given as goal

abbrev pub invariant-loop-frame : goal.invariant-loop-frame
invariant-loop-frame l = (n : ℕ) → at_page l.slots.items n
    ≡ (if in_group (take l.frame-index l.frame-items) n then elsewhere l.number (at_page l.fn.slots.items n) else at_page l.fn.slots.items n)
