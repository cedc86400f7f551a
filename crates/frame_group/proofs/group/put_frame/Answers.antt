use Rattle.std.proofs.Common.{◌+◌, ◌*◌, ℕ, List, arith, ap, ◌∙◌}
use Rattle.std.proofs.lemmas.Grind.{common_steps}
use Rattle.byte_fields.specs.declared.frame_head.FrameHead.{FrameHead}
use Rattle.byte_fields.specs.FrameHeads.{spelling}
use Rattle.frame_group.specs.Groups.{frame_of, group, put}
use Rattle.frame_group.proofs.Growing.{grown_by, head_of_made, octets_fill}
use Rattle.frame_group.proofs.group.put_frame.Goals as goal

pub returns-clause-written : goal.returns-clause-written
returns-clause-written c = grind (arith, common_steps)

pub returns-clause-grown : goal.returns-clause-grown
returns-clause-grown c = λ frames at_index before.
    let head = c.args.head.now in
    let page = c.args.page.now in
    let at = 16 * c.args.index in
    let to = 128 + 4096 * c.args.index in
    returns-clause-written c
    ∙ ap (λ (content : List ℕ). put (put content at (spelling head)) to page) before
    ∙ ap (λ (made : FrameHead). put (put (group frames) at (spelling made)) to page) (head_of_made head page c.requires.present c.requires.lsn)
    ∙ grown_by frames (frame_of head page) at to (omega (arith, at_index)) c.requires.page_size
    (octets_fill c.args.content.now frames before c.requires.content_size (omega (arith, at_index))) (omega (arith, at_index)) (omega (arith, at_index))
