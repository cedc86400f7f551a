use Rattle.database.proofs.Names.{refl, Scan}
use Rattle.database.proofs.Served.{as_answered, served, leaves_table, unread}
use Rattle.database.proofs.database.Database.scan.Goals as goal

pub returns : goal.returns
returns g c = record {
  serves = as_answered _ c.self.view_is c.settle.ensures.answer
      (served (Scan c.args.session c.args.number c.args.count) c.scan-answer.result _ _ refl c.if-self.false c.settle.ensures.closes c.scan-answer.ensures.serves.keeps (λ s fits. leaves_table (c.scan-answer.ensures.answers s fits)) c.scan-answer.ensures.performs (λ s fits. unread 0 c.scan-answer.ensures.serves));
}
