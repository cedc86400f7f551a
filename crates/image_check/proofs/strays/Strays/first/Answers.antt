use Rattle.image_check.proofs.Names.{sym, ap, ◌∙◌}
use Rattle.std.specs.Prelude.{option_map}
use Rattle.std.specs.Map.Iter.{deref_pair}
use Rattle.image_check.proofs.StrayOnes.{stray_first}
use Rattle.image_check.proofs.strays.Strays.first.Goals as goal

pub loop-place-init : goal.loop-place-init
loop-place-init c = stray_first c.args.self.now.txns c.in-Some.txn.now c.in-Some.lsn.now (sym c.first.ensures.entry ∙ ap (option_map deref_pair) c.in-Some.is)
