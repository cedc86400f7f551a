use Rattle.policy_sim.proofs.Names.{◌≡◌, ℕ, take, newer, at_page}
use Rattle.policy_sim.proofs.table.enter_group.Given as goal

abbrev pub invariant-loop-index : goal.invariant-loop-index
invariant-loop-index l = (n : ℕ) → at_page l.slots.items n ≡ newer l.number (take l.index l.frame-items) n (at_page l.fn.slots.items n)
