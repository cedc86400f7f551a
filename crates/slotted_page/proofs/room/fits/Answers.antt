use Rattle.std.proofs.Common.{option_copied}
use Rattle.slotted_page.proofs.Lengths.{fits_exactly, too_many}
use Rattle.slotted_page.proofs.room.fits.Goals as goal

pub returns-then-others-gt-HEAP_LEN : goal.returns-then-others-gt-HEAP_LEN
returns-then-others-gt-HEAP_LEN c = (
  (λ test. cc),
  (λ fits. absurd (too_many c.args.octets.now c.args.slot (option_copied c.args.value) c.length_of_others-others.result c.requires.slot
      c.length_of_others-others.ensures c.if-others-gt-HEAP_LEN.true fits)),
)

pub returns : goal.returns
returns c = fits_exactly c.args.octets.now c.args.slot (option_copied c.args.value) c.length_of_others-others.result c.length_given-own.result c.requires.slot
    c.length_of_others-others.ensures c.length_given-own.ensures c.if-others-gt-HEAP_LEN.false
