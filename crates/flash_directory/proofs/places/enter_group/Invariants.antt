use Rattle.flash_directory.proofs.Names.{◌≡◌, ◌+◌, ◌≤◌, ℕ, nat_eq, take, newer, get, spare}
use Rattle.flash_directory.proofs.places.enter_group.Given as goal

abbrev pub invariant-loop-index : goal.invariant-loop-index
invariant-loop-index l = record {
  entered : (n : ℕ) → get nat_eq l.places n ≡ newer l.number (take l.index l.frame-items) n (get nat_eq l.fn.places n);
  room : 8 ≤ spare l.places + l.index;
}
