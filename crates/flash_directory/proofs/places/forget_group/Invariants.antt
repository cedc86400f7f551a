use Rattle.flash_directory.proofs.Names.{◌≡◌, ◌≤◌, ℕ, nat_eq, take, if◌then◌else◌, elsewhere, get, spare, in_group}
use Rattle.flash_directory.proofs.places.forget_group.Given as goal

abbrev pub invariant-loop-frame : goal.invariant-loop-frame
invariant-loop-frame l = record {
  forgotten : (n : ℕ) → get nat_eq l.places n
      ≡ (if in_group (take l.frame-index l.frame-items) n then elsewhere l.number (get nat_eq l.fn.places n) else get nat_eq l.fn.places n);
  room : spare l.fn.places ≤ spare l.places;
}
