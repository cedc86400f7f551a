use Rattle.database.proofs.Names.{refl, Get}
use Rattle.database.proofs.Served.{as_answered, served, leaves_table, unread}
use Rattle.database.proofs.database.Database.get.Goals as goal

pub returns : goal.returns
returns g c = record {
  serves = as_answered _ c.self.view_is c.settle.ensures.answer
      (served (Get c.args.number) c.get-answer.result _ _ refl c.if-self.false c.settle.ensures.closes c.get-answer.ensures.serves.keeps (λ s fits. leaves_table (c.get-answer.ensures.answers s fits)) c.get-answer.ensures.performs (λ s fits. unread 0 c.get-answer.ensures.serves));
}
