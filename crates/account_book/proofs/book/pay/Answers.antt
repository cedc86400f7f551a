use Rattle.account_book.proofs.Making.{and_then, no_more, one, one_commit}
use Rattle.account_book.proofs.book.pay.Goals as goal

pub returns-in_err-begin : goal.returns-in_err-begin
returns-in_err-begin g c = record { one = one_commit c.calls_are_durable.ensures (no_more (one c.begin.ensures.serves)) }

pub returns-in_err-done : goal.returns-in_err-done
returns-in_err-done g c = record { one = one_commit c.calls_are_durable.ensures (no_more (one c.begin.ensures.serves)) }

pub returns-in_err-abort : goal.returns-in_err-abort
returns-in_err-abort g c = record { one = one_commit c.calls_are_durable.ensures (no_more (and_then (and_then (one c.begin.ensures.serves) c.transfer.ensures.calls) (one c.abort.ensures.serves))) }

pub returns-in-Err : goal.returns-in-Err
returns-in-Err g c = record { one = one_commit c.calls_are_durable.ensures (no_more (and_then (and_then (one c.begin.ensures.serves) c.transfer.ensures.calls) (one c.abort.ensures.serves))) }

pub returns-in_err-commit : goal.returns-in_err-commit
returns-in_err-commit g c = record { one = one_commit c.calls_are_durable.ensures (and_then (and_then (one c.begin.ensures.serves) c.transfer.ensures.calls) (one c.commit.ensures.serves)) }

pub returns : goal.returns
returns g c = record { one = one_commit c.calls_are_durable.ensures (and_then (and_then (one c.begin.ensures.serves) c.transfer.ensures.calls) (one c.commit.ensures.serves)) }
