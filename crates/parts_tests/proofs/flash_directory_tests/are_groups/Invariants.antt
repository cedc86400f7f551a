use Rattle.std.proofs.Common.{take}
use Rattle.std.specs.List.{AllByRecursion}
use Rattle.byte_fields.specs.FrameHeads.{AreGroupHeads}
use Rattle.parts_tests.proofs.flash_directory_tests.are_groups.Given as goal

abbrev pub invariant-loop-group : goal.invariant-loop-group
invariant-loop-group l = AllByRecursion (λ group. AreGroupHeads group) (take l.group-index l.list)
