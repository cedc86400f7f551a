-- Which Update is undone next.
use Rattle.analysis.proofs.Names.{◌≡◌, inl, inr, ℕ, ◌+◌, ◌<◌, ◌≤◌, List, [], ◌∷◌, length, Some, arith, Open, found_in, AscendFrom, IsTop, Remains, OneHas}
use Rattle.analysis.proofs.Tables.{found_here, found_later}

-- The next one is found.

has_found : (n : ℕ) (table : List Open) (t lsn : ℕ) → AscendFrom n table → OneHas table t lsn → (x : Open) × (found_in table t ≡ Some x) × IsTop lsn x.updates × (n ≤ t)
has_found n [] t lsn ascend h = absurd h
has_found n (x ∷ table) t lsn ascend (inl here) = (x, found_here x table t here.0, here.1, (let low = ascend.0 in let same = here.0 in omega (arith, low, same)))
has_found n (x ∷ table) t lsn ascend (inr later) = grind (arith, found_later, (has_found (x.txn + 1) table t lsn ascend.1 later))

pub remains_is : (table : List Open) (t lsn : ℕ) → AscendFrom 0 table → OneHas table t lsn → Remains table t lsn
remains_is table t lsn ascend has = let found = has_found 0 table t lsn ascend has in record { x = found.0; there = found.1; top = found.2 }

pub some_left : (us : List ℕ) (lsn : ℕ) → IsTop lsn us → 0 < length us
some_left [] lsn top = absurd top
some_left (u ∷ us) lsn top = omega arith
