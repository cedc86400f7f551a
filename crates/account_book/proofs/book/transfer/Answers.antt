use Rattle.account_book.proofs.Making.{one, and_then}
use Rattle.account_book.proofs.book.transfer.Goals as goal

pub returns-in_err-read : goal.returns-in_err-read
returns-in_err-read g c = record { calls = one c.read.ensures.serves }

pub returns-in_err-own : goal.returns-in_err-own
returns-in_err-own g c = record { calls = one c.read.ensures.serves }

pub returns-in_err-left : goal.returns-in_err-left
returns-in_err-left g c = record { calls = one c.read.ensures.serves }

pub returns-in_err-write : goal.returns-in_err-write
returns-in_err-write g c = record { calls = and_then (one c.read.ensures.serves) (one c.write.ensures.serves) }

pub returns-in_err-done : goal.returns-in_err-done
returns-in_err-done g c = record { calls = and_then (one c.read.ensures.serves) (one c.write.ensures.serves) }

pub returns-in_err-read-2 : goal.returns-in_err-read-2
returns-in_err-read-2 g c = record { calls = and_then (and_then (one c.read.ensures.serves) (one c.write.ensures.serves)) (one c.read-2.ensures.serves) }

pub returns-in_err-other : goal.returns-in_err-other
returns-in_err-other g c = record { calls = and_then (and_then (one c.read.ensures.serves) (one c.write.ensures.serves)) (one c.read-2.ensures.serves) }

pub returns-in_err-more : goal.returns-in_err-more
returns-in_err-more g c = record { calls = and_then (and_then (one c.read.ensures.serves) (one c.write.ensures.serves)) (one c.read-2.ensures.serves) }

pub returns-in_err-write-2 : goal.returns-in_err-write-2
returns-in_err-write-2 g c = record { calls = and_then (and_then (and_then (one c.read.ensures.serves) (one c.write.ensures.serves)) (one c.read-2.ensures.serves)) (one c.write-2.ensures.serves) }

pub returns : goal.returns
returns g c = record { calls = and_then (and_then (and_then (one c.read.ensures.serves) (one c.write.ensures.serves)) (one c.read-2.ensures.serves)) (one c.write-2.ensures.serves) }
