use Rattle.std.proofs.Common.{arith, None, Some}
use Rattle.slotted_page.specs.Layout.{slots_of}
use Rattle.slotted_page.proofs.Slots.{total-set, length-slots_of}
use Rattle.slotted_page.proofs.heap.insert.Goals as goal

pub make_room-requires-clause-fits : goal.make_room-requires-clause-fits
make_room-requires-clause-fits c = omega (
  arith,
  total-set (slots_of c.args.octets.now) c.args.slot None (Some c.args.value.now) (omega (arith, c.requires.slot, length-slots_of c.args.octets.now)),
  c.requires.fits,
)
