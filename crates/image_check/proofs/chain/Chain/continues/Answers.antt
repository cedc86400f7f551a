use Rattle.image_check.proofs.Names.{ℕ, ◌+◌, ◌*◌, nat_eq, ap, ◌∙◌, sym, subst, IsAs, get, is_update, number_of, before_of, prev_of, LogRecord}
use Rattle.image_check.proofs.ChainOnes.{update_goes_on, update_begins}
use Rattle.image_check.proofs.chain.Chain.continues.Goals as goal

pub returns-else-prev-self : goal.returns-else-prev-self
returns-else-prev-self c t rest lsn k =
    let number : ℕ = 32 * c.in-Update.page + c.in-Update.slot in
    let rec : LogRecord = c.args.rec.now in (
      λ admits. update_goes_on t c.args.self.now rest lsn rec number (ap is_update c.in-Update.is) (ap number_of c.in-Update.is) (ap prev_of c.in-Update.is ∙ c.if-prev-self.false)
          (subst (λ (r : LogRecord). IsAs (before_of r) (get nat_eq c.args.self.now.written.last number)) (sym c.in-Update.is) (c.admits.ensures.0 admits)) k,
      λ goes. c.admits.ensures.1 (subst (λ (r : LogRecord). IsAs (before_of r) (get nat_eq c.args.self.now.written.last number)) c.in-Update.is
          (update_begins t c.args.self.now rest lsn rec number (ap is_update c.in-Update.is) (ap number_of c.in-Update.is) k goes)),
    )
