use Rattle.database.proofs.Names.{refl, Set}
use Rattle.database.proofs.Served.{as_answered, served, unread}
use Rattle.database.proofs.database.Database.set.Goals as goal

pub returns : goal.returns
returns g c = record {
  serves = as_answered _ c.self.view_is c.settle.ensures.answer
      (served (Set c.args.number c.args.value.now) c.set-answer.result _ _ refl c.if-self.false c.settle.ensures.closes c.set-answer.ensures.serves.keeps (c.set-answer.ensures.answers) c.set-answer.ensures.performs (λ s fits. unread 0 c.set-answer.ensures.serves));
}
