use Rattle.image_check.proofs.Names.{sym, ap, ◌∙◌, cond, nat_eq, Some, get, goes_well, Content}
use Rattle.image_check.proofs.ChainOnes.{last_unwritten, last_written}
use Rattle.image_check.proofs.contents.Contents.hear.Goals as goal

pub returns-in_default : goal.returns-in_default
returns-in_default c = goes_well (λ records lsn are. last_unwritten records (record { lsn = lsn; rec = c.args.rec.now }) c.args.self.now.last (sym c.number_of.ensures ∙ c.in_default.is) are)

pub returns : goal.returns
returns c = goes_well (λ records lsn are. last_written records (record { lsn = lsn; rec = c.args.rec.now }) c.in-Some.number c.args.self.now.last c.insert.new.self (sym c.number_of.ensures ∙ c.in-Some.is)
    (λ n. c.in-Ok.ensures.updates.0 n ∙ ap (λ (o : Content). cond (nat_eq c.in-Some.number n) (Some o) (get nat_eq c.args.self.now.last n)) c.written_by.ensures) are)
