use Rattle.account_book.proofs.Making.{one, one_commit}
use Rattle.account_book.proofs.book.open.Goals as goal

pub returns-in_err-set : goal.returns-in_err-set
returns-in_err-set g c = record { one = one_commit c.calls_are_durable.ensures (one c.set.ensures.serves) }

pub returns : goal.returns
returns g c = record { one = one_commit c.calls_are_durable.ensures (one c.set.ensures.serves) }
