use Rattle.std.proofs.Common.{◌≡◌, ℕ, ◌∙◌, drop, arith, subst, sym, ap}
use Rattle.std.specs.List.{AllByRecursion}
use Rattle.std.proofs.lemmas.List.{take_rest}
use Rattle.byte_fields.specs.FrameHeads.{blank}
use Rattle.byte_fields.proofs.GroupHeads.{is_group, others_blank}
use Rattle.byte_fields.proofs.frame_head.are_group_heads.Goals as goal

pub returns-then-frames-gt0 : goal.returns-then-frames-gt0
returns-then-frames-gt0 c =
    let heads = c.args.heads.now in
    let rest = take_rest heads c.frames_in_front-frames.result ∙ ap (λ (n : ℕ). drop n heads) c.frames_in_front-frames.ensures.front in (
      λ all. is_group heads c.if-frames-gt0.true.0 (omega arith) (subst (AllByRecursion (λ head. head ≡ blank)) rest (c.all_blank.ensures.0 all)),
      λ are. c.all_blank.ensures.1 (subst (AllByRecursion (λ head. head ≡ blank)) (sym rest) (others_blank heads are)),
    )
