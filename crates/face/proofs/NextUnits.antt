-- The next units of the rings over an honest site, whatever stands there, where nothing changes.
use Rattle.face.proofs.Names.{arith, ◌≡◌, AreNext, TransactionStore, Site}

pub next_later : (store : TransactionStore) (old new : Site) → new.image ≡ old.image → AreNext store old → AreNext store new
next_later store old new same is = grind arith
