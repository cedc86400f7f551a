use Rattle.engine.proofs.Names.{◌≡◌, ◌/◌, ◌∙◌, rules, nat_le}
use Rattle.engine.proofs.Replies.{due_is}
use Rattle.engine.proofs.engine.Engine.is_due.Goals as goal

pub returns : goal.returns
returns c s site fits =
    let is : _ ≡ nat_le (c.args.self.now.cap / 2) c.args.self.now.store.made = search rules in
    is ∙ due_is c.args.self.now site s fits
