use Rattle.std.proofs.Common.{◌≡◌, ◌+◌, ◌++◌, [], ◌∷◌, length, ap, sym, ◌∙◌, arith}
use Rattle.std.specs.Prelude.{replicate}
use Rattle.std.proofs.lemmas.List.{length-replicate, replicate-append-replicate}
use Rattle.net_lines.proofs.room.Room.blank.Goals as goal

pub loop-count-preserved : goal.loop-count-preserved
loop-count-preserved c =
    c.in_ok-push.ensures.items ∙ ap (λ l. l ++ 0 ∷ []) c.loop-count.invariant ∙ replicate-append-replicate c.loop-count._count 1 0
