use Rattle.image_form.proofs.GroupsRead.{Put}
use Rattle.image_form.proofs.groups.is_group_on.Given as goal

abbrev pub invariant-loop-index : goal.invariant-loop-index
invariant-loop-index l = Put l.content l.again l.pages l.index
