use Rattle.policy_sim.proofs.Names.{entered_more, at_page}
use Rattle.policy_sim.proofs.table.enter_group.Goals as goal

pub loop-index-preserved : goal.loop-index-preserved
loop-index-preserved c = λ n. entered_more c.args.number c.as_slice-frame-items.result.now c.loop-index.index _ n (at_page c.args.slots.now.items n) (at_page c.loop-index.slots.items n)
    (at_page c.put.new.slots.items n) c.loop-index-test.true (c.loop-index.invariant n) (c.in_ok-put.ensures.puts n)
