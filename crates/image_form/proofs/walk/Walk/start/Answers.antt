use Rattle.image_form.proofs.Names.{refl}
use Rattle.std.specs.Prelude.{[]}
use Rattle.image_form.proofs.walk.Walk.start.Goals as goal

pub returns-clause-stands : goal.returns-clause-stands
returns-clause-stands c image blocks has = record {
  records = [];
  blocks = blocks;
  here = record { have_form = tt; fit_fields = tt; text = refl; end = refl };
  behind = has;
  entries = refl;
}
