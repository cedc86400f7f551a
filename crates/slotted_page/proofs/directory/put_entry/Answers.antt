use Rattle.std.proofs.Common.{arith}
use Rattle.slotted_page.proofs.Steps.{entry_set}
use Rattle.slotted_page.proofs.directory.put_entry.Goals as goal

pub returns : goal.returns
returns c = entry_set _ _ _ c.args.slot c.args.offset c.args.code c.requires.slot (omega arith) (omega arith) c.put_number.ensures c.put_number-2.ensures
