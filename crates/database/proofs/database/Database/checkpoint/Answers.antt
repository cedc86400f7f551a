use Rattle.database.proofs.Names.{refl, Checkpoint}
use Rattle.database.proofs.Served.{as_answered, served, leaves_table, unread}
use Rattle.database.proofs.database.Database.checkpoint.Goals as goal

pub returns : goal.returns
returns g c = record {
  serves = as_answered _ c.self.view_is c.settle.ensures.answer
      (served Checkpoint c.checkpoint-answer.result _ _ refl c.if-self.false c.settle.ensures.closes c.checkpoint-answer.ensures.serves.keeps (λ s fits. leaves_table (c.checkpoint-answer.ensures.answers s fits)) c.checkpoint-answer.ensures.performs (λ s fits. unread 0 c.checkpoint-answer.ensures.serves));
}
