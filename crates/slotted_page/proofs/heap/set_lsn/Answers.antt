use Rattle.std.proofs.Common.{arith}
use Rattle.slotted_page.proofs.Slots.{same_slots}
use Rattle.slotted_page.proofs.Written.{number_behind, lsn_own}
use Rattle.slotted_page.proofs.Steps.{sound_lsn, contents_lsn}
use Rattle.slotted_page.proofs.heap.set_lsn.Goals as goal

pub returns-clause-sound : goal.returns-clause-sound
returns-clause-sound c = sound_lsn _ _ c.args.lsn c.requires c.put_lsn.ensures

pub returns-clause-slots : goal.returns-clause-slots
returns-clause-slots c = same_slots _ _ (contents_lsn _ _ c.args.lsn c.requires c.put_lsn.ensures)

pub returns-clause-lsn : goal.returns-clause-lsn
returns-clause-lsn c = lsn_own _ _ c.args.lsn c.put_lsn.ensures (omega arith)

pub returns-clause-used : goal.returns-clause-used
returns-clause-used c = number_behind _ _ 0 _ 8 c.put_lsn.ensures (omega arith)
