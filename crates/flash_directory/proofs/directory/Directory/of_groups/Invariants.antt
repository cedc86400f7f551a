use Rattle.flash_directory.proofs.Names.{◌≡◌, length, take, map, frames_in, FindsNewest}
use Rattle.flash_directory.proofs.directory.Directory.of_groups.Given as goal

abbrev pub invariant-loop-index : goal.invariant-loop-index
invariant-loop-index l = record {
  groups : l.groups.items ≡ map frames_in (take l.index l.group-items);
  places : FindsNewest l.places (record { first = l.heads.first; groups = l.groups.items });
  count : length l.groups.items ≡ l.index;
}
