use Rattle.database.proofs.Names.{refl, Abort}
use Rattle.database.proofs.Served.{as_answered, served, leaves_table}
use Rattle.database.proofs.database.Database.abort.Goals as goal

pub returns : goal.returns
returns g c = record {
  serves = as_answered _ c.self.view_is c.settle.ensures.answer
      (served (Abort c.args.session) c.abort-answer.result _ _ refl c.if-self.false c.settle.ensures.closes c.abort-answer.ensures.serves (λ s fits. leaves_table (c.abort-answer.ensures.answers s fits)) c.abort-answer.ensures.performs (c.abort-answer.ensures.log_reads));
}
