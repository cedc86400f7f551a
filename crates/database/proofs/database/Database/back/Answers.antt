use Rattle.database.proofs.Names.{refl, Back}
use Rattle.database.proofs.Served.{as_answered, served, leaves_table}
use Rattle.database.proofs.database.Database.back.Goals as goal

pub returns : goal.returns
returns g c = record {
  serves = as_answered _ c.self.view_is c.settle.ensures.answer
      (served (Back c.args.session c.args.standing) c.back-answer.result _ _ refl c.if-self.false c.settle.ensures.closes c.back-answer.ensures.serves (λ s fits. leaves_table (c.back-answer.ensures.answers s fits)) c.back-answer.ensures.performs (c.back-answer.ensures.log_reads));
}
