use Rattle.flash_directory.proofs.Names.{◌≡◌, ◌++◌, length, drop, frames_in}
use Rattle.flash_directory.proofs.group.Group.of_heads.Given as goal

abbrev pub invariant-loop-head : goal.invariant-loop-head
invariant-loop-head l = record {
  all : frames_in l.heads ≡ l.frames.items ++ frames_in (drop l.head-index l.heads);
  len : length l.frames.items ≡ l.head-index;
}
