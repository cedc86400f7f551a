use Rattle.log_replay.proofs.Names.{◌≡◌, ◌+◌, ◌++◌, [], ◌∷◌, length, ap, sym, ◌∙◌, arith, length-replicate, replicate-append-replicate, replicate, None}
use Rattle.log_replay.proofs.table.Table.blank.Goals as goal

pub loop-count-preserved : goal.loop-count-preserved
loop-count-preserved c =
    c.in_ok-push.ensures.items ∙ ap (λ l. l ++ None ∷ []) c.loop-count.invariant ∙ replicate-append-replicate c.loop-count._count 1 None
