use Rattle.database.proofs.Names.{refl, Commit}
use Rattle.database.proofs.Served.{as_answered, served, unread}
use Rattle.database.proofs.database.Database.commit.Goals as goal

pub returns : goal.returns
returns g c = record {
  serves = as_answered _ c.self.view_is c.settle.ensures.answer
      (served (Commit c.args.session) c.commit-answer.result _ _ refl c.if-self.false c.settle.ensures.closes c.commit-answer.ensures.serves.keeps (c.commit-answer.ensures.answers) c.commit-answer.ensures.performs (λ s fits. unread 0 c.commit-answer.ensures.serves));
}
