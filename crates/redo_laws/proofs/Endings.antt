-- How calls end, each known by its record.
use Rattle.redo_laws.proofs.Citing.{arith, ◌≡◌, inl, Bool, List, Result, Ok, Err, Change, LogList, LogStore, PageStore, Ends, in_sequence, leaves_weaker, err_again, no_error, Leaves, LeavesOnly, State, Snapshot, IsQuiet, Geometry, Stop, Memory}
use Rattle.redo_laws.proofs.Asking.{stop_is}
use Rattle.page_store.specs.Calls as page_store

pub ends_ok : {T : Type 0} {x : T} {g : Geometry} {before now : State} {P : Snapshot → Type 0} → (IsQuiet before → LeavesOnly before now P) → Ends {T = T} (Ok x) g before now P
ends_ok {T = T} {x = x} moments = grind (arith, no_error)

pub ends_answered : {A B : Type 0} {a : A} {b : B} {g : Geometry} {before now : State} {P : Snapshot → Type 0} → Ends {T = A} (Ok a) g before now P → Ends {T = B} (Ok b) g before now P
ends_answered first = ends_ok first.any_moment

pub ends_failed : {A B : Type 0} {stop : Stop} {g : Geometry} {before now : State} {P : Snapshot → Type 0} → Ends {T = A} (Err stop) g before now P → Ends {T = B} (Err stop) g before now P
ends_failed {stop = stop} first = grind (arith, err_again)

-- memory gives out behind one that was Ok
pub ends_no_memory : {A B : Type 0} {a : A} {stop : Stop} {g : Geometry} {before now : State} {P : Snapshot → Type 0} → stop ≡ Memory → (IsQuiet before → IsQuiet now) → Ends {T = A} (Ok a) g before now P → Ends {T = B} (Err stop) g before now P
ends_no_memory {B = B} {stop = stop} memory calm first = grind (arith, stop_is)

-- what a crash leaves, said otherwise
pub ends_leaving : {T : Type 0} {r : Result T Stop} {g : Geometry} {before now : State} {P R : Snapshot → Type 0} → (LeavesOnly before now P → LeavesOnly before now R) → Ends r g before now P → Ends r g before now R
ends_leaving more first = record { any_moment = λ quiet. more (first.any_moment quiet); quiet = first.quiet; worn_log = first.worn_log; worn = first.worn; readable = first.readable }

-- what a crash leaves of a call behind one of which it leaves this
pub leaves_late : {before between now : State} {P Q R : Snapshot → Type 0} → ((s : Snapshot) → P s → R s) → (LeavesOnly before between P → (s : Snapshot) → Q s → R s) → LeavesOnly before between P → LeavesOnly between now Q → LeavesOnly before now R
leaves_late {before = before} {between = between} {now = now} {P = P} {Q = Q} {R = R} early late begun left =
    in_sequence before between now (Leaves R) (leaves_weaker before between P R early begun) (leaves_weaker between now Q R (late begun) left)

-- of one on pages
pub ends_by_pages : {T : Type 0} {r : Result T Stop} {log : LogStore} {pages : PageStore} {before now : State} {list : LogList} {sealing : Bool} {changes : List Change} {P : Snapshot → Type 0} → page_store.Keeps r log pages before now list sealing changes → (IsQuiet before → LeavesOnly before now P) → Ends r pages.flash.geometry before now P
ends_by_pages keeps moments = record { any_moment = moments; quiet = keeps.quiet; worn_log = λ is. inl (keeps.worn_log is); worn = keeps.worn; readable = keeps.readable }

-- behind a call that leaves a quiet site quiet
pub ends_behind : {T : Type 0} {r : Result T Stop} {g g' : Geometry} {before between now : State} {P R : Snapshot → Type 0} → (IsQuiet before → IsQuiet between) → g' ≡ g → (IsQuiet before → LeavesOnly between now P → LeavesOnly before now R) → Ends r g' between now P → Ends r g before now R
ends_behind {now = now} calm same more second = grind (arith)
