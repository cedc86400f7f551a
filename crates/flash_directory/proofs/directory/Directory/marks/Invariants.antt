use Rattle.flash_directory.proofs.Names.{◌≡◌, ◌+◌, length, take, drop, group_marks}
use Rattle.flash_directory.proofs.directory.Directory.marks.Given as goal

abbrev pub invariant-loop-index : goal.invariant-loop-index
invariant-loop-index l = record {
  marks : take l.index l.into ≡ take l.index (group_marks l.frames (drop (l.place + 1) l.self.groups));
  len : length l.into ≡ 8;
}
