use Rattle.image_form.proofs.Names.{◌-◌}
use Rattle.image_form.proofs.PagesRead.{PagesTo}
use Rattle.image_form.proofs.blocks.are_on_pages.Given as goal

abbrev pub invariant-loop-at : goal.invariant-loop-at
invariant-loop-at l = PagesTo l.content l.used l.at l.pages

abbrev pub decreases-loop-at : goal.decreases-loop-at
decreases-loop-at l = l.used - l.at
