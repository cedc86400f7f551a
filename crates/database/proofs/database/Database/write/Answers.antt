use Rattle.database.proofs.Names.{refl, Write}
use Rattle.database.proofs.Served.{as_answered, served, leaves_table, unread}
use Rattle.database.proofs.database.Database.write.Goals as goal

pub returns : goal.returns
returns g c = record {
  serves = as_answered _ c.self.view_is c.settle.ensures.answer
      (served (Write c.args.session c.args.number c.args.value.now) c.write-answer.result _ _ refl c.if-self.false c.settle.ensures.closes c.write-answer.ensures.serves.keeps (λ s fits. leaves_table (c.write-answer.ensures.answers s fits)) c.write-answer.ensures.performs (λ s fits. unread 0 c.write-answer.ensures.serves));
}
