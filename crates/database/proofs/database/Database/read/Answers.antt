use Rattle.database.proofs.Names.{refl, Read}
use Rattle.database.proofs.Served.{as_answered, served, leaves_table, unread}
use Rattle.database.proofs.database.Database.read.Goals as goal

pub returns : goal.returns
returns g c = record {
  serves = as_answered _ c.self.view_is c.settle.ensures.answer
      (served (Read c.args.session c.args.number) c.read-answer.result _ _ refl c.if-self.false c.settle.ensures.closes c.read-answer.ensures.serves.keeps (λ s fits. leaves_table (c.read-answer.ensures.answers s fits)) c.read-answer.ensures.performs (λ s fits. unread 0 c.read-answer.ensures.serves));
}
