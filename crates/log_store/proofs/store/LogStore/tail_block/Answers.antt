use Rattle.log_store.proofs.Names.{◌∙◌}
use Rattle.log_store.proofs.TailLaws.{tail_is_block}
use Rattle.log_store.proofs.store.LogStore.tail_block.Goals as goal

pub returns : goal.returns
returns c records tail = c.put_u16.ensures.written ∙ tail_is_block c.args.self.now.tail c.args.self.now.used records tail
