use Rattle.std.proofs.lemmas.Bool.{eqb-true}
use Rattle.image_form.proofs.BlockReading.{begin_spelled}
use Rattle.image_form.proofs.begins.begins_at.Goals as goal

pub returns : goal.returns
returns c is = begin_spelled c.args.content.now c.args.end c.args.at c.requires.order c.requires.inside (eqb-true _ 1 is)
