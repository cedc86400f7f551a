use Rattle.std.proofs.Common.{◌≡◌, List, [], ◌∷◌, ◌++◌, length, ap, ◌∙◌, arith}
use Rattle.checkpoint.specs.declared.pairs.Pair.{Pair}
use Rattle.redo_undo_tests.proofs.tests.a_checkpoint_keeps_the_block_of_an_active_begin.Goals as goal

pub checkpointed-requires-clause-ascend : goal.checkpointed-requires-clause-ascend
checkpointed-requires-clause-ascend g c i less =
    let one : length c.push.new.self ≡ 1 = ap length (c.push.ensures ∙ ap (λ (pairs : List Pair). pairs ++ record { begin = 514; last = 514 } ∷ []) c.new-active.ensures) in
    absurd (omega (arith, one, less))
