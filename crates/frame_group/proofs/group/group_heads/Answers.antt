use Rattle.std.proofs.Common.{arith, subst, sym, ◌∙◌, true≢false}
use Rattle.byte_fields.specs.FrameHeads.{AreGroupHeads}
use Rattle.byte_fields.proofs.HeadLists.{one_list}
use Rattle.frame_group.specs.Groups.{heads_of}
use Rattle.frame_group.proofs.Front.{begins_with_heads, one_heads}
use Rattle.frame_group.proofs.group.group_heads.Goals as goal

pub returns-then-are_group_heads-clause-frames : goal.returns-then-are_group_heads-clause-frames
returns-then-are_group_heads-clause-frames c = λ frames is.
    one_heads c.args.content.now c.read_heads.new.heads (heads_of frames)
    (record { at_front = c.in_ok-read_heads.ensures.found; are_heads = c.are_group_heads.ensures.0 c.if-are_group_heads.true })
    (begins_with_heads c.args.content.now frames is)

pub returns-else-are_group_heads-clause-bad : goal.returns-else-are_group_heads-clause-bad
returns-else-are_group_heads-clause-bad c = λ heads is.
    let read = c.read_heads.new.heads in
    let same = one_list c.args.content.now heads read is.at_front c.in_ok-read_heads.ensures.found (omega (arith, is.are_heads.eight, c.read_heads.auto.heads)) in
    true≢false (sym (c.are_group_heads.ensures.1 (subst AreGroupHeads same is.are_heads)) ∙ c.if-are_group_heads.false)
