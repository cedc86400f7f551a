-- The number of the log's next block over an honest site, whatever stands there: calls one after the other.
use Rattle.log_store.proofs.Names.{◌≡◌, inl, inr, arith, refl, sym, ap, ◌∙◌, ◌^◌, Result, Ok, Err, IsErrOf, ring_fits, Masters, Blocks, log_shape, master_shape, IsNext, KeepsNext, LogStore, Units, SameOutside, hi_of, no_error, err_again, ok_as, ok_always, Preserves, HasLimits, HasLengths, State, Geometry, Log, Stop, Worn}
use Rattle.sealed_ring.proofs.Others.{leaves_others}

-- the ring of the master units stays where it stands when a block is appended
pub masters_beside : (g : Geometry) (old new : State) → HasLimits g → HasLengths g old.image → Preserves old new → SameOutside (log_shape g) old.image.log new.image.log
    → hi_of master_shape new.image.log ≡ hi_of master_shape old.image.log
masters_beside g old new limits lengths goes outside =
    ap (λ (u : Units). u.hi) (leaves_others (log_shape g) master_shape old.image.log new.image.log (inr (omega arith)) (ring_fits g old.image Blocks limits lengths) (ring_fits g old.image Masters limits lengths) (goes.sizes Log) outside).0

-- and so does that of the blocks when a master unit is
pub blocks_beside : (g : Geometry) (old new : State) → HasLimits g → HasLengths g old.image → Preserves old new → SameOutside master_shape old.image.log new.image.log
    → hi_of (log_shape g) new.image.log ≡ hi_of (log_shape g) old.image.log
blocks_beside g old new limits lengths goes outside =
    ap (λ (u : Units). u.hi) (leaves_others master_shape (log_shape g) old.image.log new.image.log (inl (omega arith)) (ring_fits g old.image Masters limits lengths) (ring_fits g old.image Blocks limits lengths) (goes.sizes Log) outside).0

-- where nothing changed the ring stands at its end still
pub at_end : (store : LogStore) (old new : State) → IsNext store old → store.ring.hi ≡ 2 ^ 40 → new ≡ old → hi_of (log_shape store.geometry) new.image.log ≡ 2 ^ 40
at_end store old new is full same = ap (λ (s : State). hi_of (log_shape store.geometry) s.image.log) same ∙ sym is ∙ full

-- Calls.

-- one that leaves the log's device
pub next_elsewhere : {T : Type 0} (r : Result T Stop) (store : LogStore) (before now : State) → now.image.log ≡ before.image.log → (IsErrOf r (Worn Log) → ⊥) → KeepsNext r store store before now
next_elsewhere r store before now same never = grind (arith, ok_always)

pub next_nothing : {T : Type 0} {x : T} {store : LogStore} {site : State} → KeepsNext {T = T} (Ok x) store store site site
next_nothing {store = store} {site = site} = next_elsewhere _ store site site refl (λ says. no_error says)

pub next_then : {A B : Type 0} {a : A} {r : Result B Stop} {old mid new : LogStore} {before between now : State} → mid.geometry ≡ old.geometry →
    KeepsNext {T = A} (Ok a) old mid before between → KeepsNext r mid new between now → KeepsNext r old new before now
next_then {r = r} {now = now} sizes first second = grind (arith, ok_as)

pub next_failed : {A B : Type 0} {stop : Stop} {old new : LogStore} {before now : State} → KeepsNext {T = A} (Err stop) old new before now → KeepsNext {T = B} (Err stop) old new before now
next_failed first = record { next = λ is. tt; masters = tt; worn = λ is says. first.worn is (err_again _ _ says) }

pub next_answered : {A B : Type 0} {a : A} {b : B} {old new : LogStore} {before now : State} → KeepsNext {T = A} (Ok a) old new before now → KeepsNext {T = B} (Ok b) old new before now
next_answered first = record { next = first.next; masters = first.masters; worn = λ is says. absurd (no_error says) }
