use Rattle.database.proofs.Names.{refl, Begin}
use Rattle.database.proofs.Served.{as_answered, served, leaves_table, unread}
use Rattle.database.proofs.database.Database.begin.Goals as goal

pub returns : goal.returns
returns g c = record {
  serves = as_answered _ c.self.view_is c.settle.ensures.answer
      (served (Begin c.args.session) c.begin-answer.result _ _ refl c.if-self.false c.settle.ensures.closes c.begin-answer.ensures.serves.keeps (λ s fits. leaves_table (c.begin-answer.ensures.answers s fits)) c.begin-answer.ensures.performs (λ s fits. unread 0 c.begin-answer.ensures.serves));
}
