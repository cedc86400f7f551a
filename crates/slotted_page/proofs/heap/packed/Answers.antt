use Rattle.slotted_page.proofs.Carried.{none_carried, next_has_room, one_carried, all_carried_slots, all_carried_used}
use Rattle.slotted_page.proofs.heap.packed.Goals as goal

pub loop-slot-init : goal.loop-slot-init
loop-slot-init c = none_carried _ _ c.clear_all.ensures.sound c.clear_all.ensures.slots c.clear_all.ensures.used c.clear_all.ensures.lsn

pub carry-requires-clause-room : goal.carry-requires-clause-room
carry-requires-clause-room c = next_has_room _ _ _ c.loop-slot.invariant c.loop-slot-test.true c.requires.room

pub loop-slot-preserved : goal.loop-slot-preserved
loop-slot-preserved c = one_carried _ _ _ _ c.loop-slot.invariant c.loop-slot-test.true c.carry.ensures.sets c.carry.ensures.used

pub returns-clause-slots : goal.returns-clause-slots
returns-clause-slots c = all_carried_slots _ _ _ c.loop-slot.invariant c.loop-slot-test.false

pub returns-clause-used : goal.returns-clause-used
returns-clause-used c = all_carried_used _ _ _ c.loop-slot.invariant c.loop-slot-test.false
