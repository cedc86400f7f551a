use Rattle.log_store.proofs.Names.{lt-ltb}
use Rattle.log_store.proofs.TailLaws.{spelling_short, full_tail}
use Rattle.log_store.proofs.laws.full_tail.Goals as goal

pub returns : goal.returns
returns c store rec form over = lt-ltb 2 store.used (full_tail store.used _ (spelling_short rec form) over)
