use Rattle.database.proofs.Names.{refl, Erase}
use Rattle.database.proofs.Served.{as_answered, served, leaves_table, unread}
use Rattle.database.proofs.database.Database.erase.Goals as goal

pub returns : goal.returns
returns g c = record {
  serves = as_answered _ c.self.view_is c.settle.ensures.answer
      (served (Erase c.args.session c.args.number) c.erase-answer.result _ _ refl c.if-self.false c.settle.ensures.closes c.erase-answer.ensures.serves.keeps (λ s fits. leaves_table (c.erase-answer.ensures.answers s fits)) c.erase-answer.ensures.performs (λ s fits. unread 0 c.erase-answer.ensures.serves));
}
