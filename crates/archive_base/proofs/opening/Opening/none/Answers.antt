use Rattle.archive_base.proofs.opening.Opening.none.Goals as goal

pub returns : goal.returns
returns c = λ t. let are = c.none.ensures 0 in are.known t
