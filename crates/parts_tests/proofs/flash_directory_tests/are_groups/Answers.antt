use Rattle.std.proofs.Common.{List, [], ◌∷◌, ◌++◌, get_or, take, sym, subst}
use Rattle.std.specs.List.{AllByRecursion}
use Rattle.std.proofs.lemmas.List.{take_more, take_all}
use Rattle.std.proofs.lemmas.List.Elements.{All-from_recursion}
use Rattle.byte_fields.specs.declared.frame_head.FrameHead.{FrameHead}
use Rattle.byte_fields.specs.FrameHeads.{AreGroupHeads}
use Rattle.parts_tests.proofs.flash_directory_tests.are_groups.Goals as goal

all_append : (xs ys : List (List FrameHead)) → AllByRecursion (λ group. AreGroupHeads group) xs → AllByRecursion (λ group. AreGroupHeads group) ys → AllByRecursion (λ group. AreGroupHeads group) (xs ++ ys)
all_append [] ys all others = others
all_append (x ∷ xs) ys all others = (all.0, all_append xs ys all.1 others)

pub loop-group-preserved : goal.loop-group-preserved
loop-group-preserved c = subst (λ l. AllByRecursion (λ group. AreGroupHeads group) l) (sym (take_more c.args.list.now c.loop-group.group-index [] c.loop-group-test.true))
    (all_append (take c.loop-group.group-index c.args.list.now) (get_or c.args.list.now c.loop-group.group-index [] ∷ []) c.loop-group.invariant (c.are_group_heads.ensures.0 c.if-not-are_group_heads.false, tt))

pub returns : goal.returns
returns c = All-from_recursion (λ group. AreGroupHeads group) c.args.list.now
    (subst (λ l. AllByRecursion (λ group. AreGroupHeads group) l) (take_all c.loop-group.group-index c.args.list.now c.loop-group-test.false) c.loop-group.invariant)
