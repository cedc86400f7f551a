use Rattle.policy_sim.proofs.Names.{ap, sym, ◌∙◌, with_read_none, read_has, Queue, has_frame}
use Rattle.policy_sim.proofs.machine.read.Goals as goal

pub returns-then-is_none-clause-after : goal.returns-then-is_none-clause-after
returns-then-is_none-clause-after c = sym (with_read_none c.args.page c.args.queue.now (sym c.newest.ensures.frame ∙ c.if-is_none.ensures))

pub returns-clause-frames : goal.returns-clause-frames
returns-clause-frames c n = ap (λ (q : Queue). has_frame q n) c.set_referenced.ensures ∙ read_has c.args.page c.args.queue.now n
