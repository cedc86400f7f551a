use Rattle.std.proofs.Common.{arith, refl, ◌∙◌}
use Rattle.slotted_page.proofs.Written.{length-Wrote, lsn_before}
use Rattle.slotted_page.proofs.Blank.{part_cleared, empty_sound, empty_used, empty_slots}
use Rattle.slotted_page.proofs.heap.clear_all.Goals as goal

pub returns-clause-sound : goal.returns-clause-sound
returns-clause-sound c = empty_sound _ (length-Wrote _ _ 8 _ c.write.ensures ∙ c.told-octets) (part_cleared _ _ 136 refl c.write.ensures)

pub returns-clause-slots : goal.returns-clause-slots
returns-clause-slots c = empty_slots _ (length-Wrote _ _ 8 _ c.write.ensures ∙ c.told-octets) (part_cleared _ _ 136 refl c.write.ensures)

pub returns-clause-used : goal.returns-clause-used
returns-clause-used c = empty_used _ (length-Wrote _ _ 8 _ c.write.ensures ∙ c.told-octets) (part_cleared _ _ 136 refl c.write.ensures)

pub returns-clause-lsn : goal.returns-clause-lsn
returns-clause-lsn c = lsn_before _ _ 8 _ c.write.ensures (omega arith)
