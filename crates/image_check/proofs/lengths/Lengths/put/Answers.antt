use Rattle.image_check.proofs.Names.{goes_well}
use Rattle.image_check.proofs.FilledOnes.{fit_of, put_kept}
use Rattle.image_check.proofs.lengths.Lengths.put.Goals as goal

pub returns-clause-keeps : goal.returns-clause-keeps
returns-clause-keeps c = goes_well (λ pages old new kept on others. (
  put_kept pages old new c.args.self.now.pages c.insert.new.self c.args.page c.args.lengths kept on others (λ n. c.in-Ok.ensures.updates.0 n),
  fit_of pages new c.args.page c.args.lengths c.fit.result on (c.fit.ensures c.args.page),
))

pub returns-clause-puts : goal.returns-clause-puts
returns-clause-puts c = λ n. c.in-Ok.ensures.updates.0 n
