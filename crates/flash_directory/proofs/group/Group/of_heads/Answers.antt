use Rattle.flash_directory.proofs.Names.{◌+◌, ◌++◌, drop, arith, ap, ◌∙◌, sym, frames_in}
use Rattle.flash_directory.proofs.Frames.{frames_more}
use Rattle.flash_directory.proofs.group.Group.of_heads.Goals as goal

pub loop-head-preserved : goal.loop-head-preserved
loop-head-preserved c = record {
  all = frames_more c.args.heads.now c.loop-head.frames.items c.loop-head.head-index _ (omega arith) c.loop-head.invariant.all c.if-not-head.false
      ∙ ap (λ l. l ++ frames_in (drop (c.loop-head.head-index + 1) c.args.heads.now)) (sym c.push.ensures.items);
  len = omega arith;
}
