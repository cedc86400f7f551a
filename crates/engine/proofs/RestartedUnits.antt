-- The next units of the rings behind a restart of an honest site, whatever stood there.
use Rattle.engine.proofs.Names.{◌≡◌, ◌≢◌, ◌∙◌, sym, subst, Ok, Err, LeavesNext, IsSpent, AreNext, KeepsNext, TransactionStore, no_error, err_again, Site as State, Geometry, Dev, Stop, Memory, Worn}
use Rattle.redo_undo.specs.Stores.{sizes_of}

-- a call of it fails
pub next_at_error : {A T : Type 0} {stop : Stop} {old new : TransactionStore} {before now : State} {store_of : T → TransactionStore} {g : Geometry} → sizes_of old ≡ g → AreNext old before → KeepsNext {T = A} (Err stop) old new before now → LeavesNext {T = T} (Err stop) store_of g now
next_at_error {now = now} sizes is first = record { next = tt; worn = λ dev says. subst (λ (k : Geometry). IsSpent dev k now.image) sizes (first.worn is dev (err_again _ _ says)) }

-- it answers for want of something else
pub next_not_worn : {T : Type 0} {stop : Stop} {store_of : T → TransactionStore} {g : Geometry} {now : State} → ((d : Dev) → stop ≢ Worn d) → LeavesNext {T = T} (Err stop) store_of g now
next_not_worn never = record { next = tt; worn = λ dev says. absurd (never dev cc) }

-- it is done
pub next_at_end : {T : Type 0} {x : T} {store_of : T → TransactionStore} {g : Geometry} {now : State} → AreNext (store_of x) now → sizes_of (store_of x) ≡ g → LeavesNext {T = T} (Ok x) store_of g now
next_at_end is sizes = record { next = (is, sizes); worn = λ dev says. absurd (no_error says) }

pub next_as : {T : Type 0} {stop : Stop} {A : Type 0} {store_of : T → TransactionStore} {store_of' : A → TransactionStore} {g : Geometry} {now : State} → LeavesNext {T = T} (Err stop) store_of g now → LeavesNext {T = A} (Err stop) store_of' g now
next_as first = record { next = tt; worn = λ dev says. first.worn dev (err_again _ _ says) }

pub next_no_memory : {T : Type 0} {stop : Stop} {store_of : T → TransactionStore} {g : Geometry} {now : State} → stop ≡ Memory → LeavesNext {T = T} (Err stop) store_of g now
next_no_memory {stop = stop} memory = next_not_worn (λ d is. never d (sym memory ∙ is))
  where
    never : (d : Dev) → Memory ≡ Worn d → ⊥
    never d is = cc
