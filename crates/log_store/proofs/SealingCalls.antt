-- Calls that seal the tail where that is wanted: none of it, the same error again, and a record that is placed behind.
use Rattle.log_store.proofs.Names.{◌≡◌, true≢false, Bool, false, refl, sym, subst, arith, Ok, Err, reads_itself, Invariant, SealsTail, LogStore, no_call, goes_nowhere, no_error, err_again, same_error, SameBut, State, Log, Stop, Device, Worn}
use Rattle.log_store.proofs.NextBlocks.{next_nothing, next_failed}
use Rattle.log_store.proofs.SealLaws.{none_left, none_front, none_beside}

-- where nothing is sealed
pub seals_nothing : {T : Type 0} {x : T} {sealing : Bool} (store : LogStore) (site : State) → sealing ≡ false → Invariant store site → SealsTail {T = T} (Ok x) sealing store store site site
seals_nothing {T = T} {x = x} store site none going =
    subst (λ (b : Bool). SealsTail {T = T} (Ok x) b store store site site) (sym none) (record {
      keeps = record {
        finds = λ found. found;
        fits = λ fits. fits;
        changes = λ honest. record { only = no_call site (SameBut Log site) (record { told = refl; telling = refl; content = λ d ne. refl; loose = λ d ne. refl }); left = refl };
        quiet = λ honest quiet. quiet;
        next = refl;
        at_most_one = (omega arith, omega arith);
        ended = refl;
        err = tt;
        kept = refl;
        geometry = refl;
        preserves = goes_nowhere site;
        faults = refl;
        reads = λ d. refl;
        worn = (λ says. absurd (no_error {T = T} {x = x} {e = Worn Log} says), λ both. absurd (true≢false (sym both.0)));
        device = λ says. absurd (no_error {T = T} {x = x} {e = Device Log} says);
        stops = tt;
      };
      any_moment = λ log fits holds. none_left store.geometry false log site fits.settled holds.blocks;
      front = λ log fits holds quiet. none_front store.geometry _ site quiet;
      reaches = λ log found holds. reads_itself store.geometry site.image;
      next_block = λ honest. next_nothing {T = T} {x = x};
      outside = λ honest p out. refl;
      beside = λ fits. none_beside store.geometry site fits.settled;
      device_calls = λ honest. refl;
      going = going;
    })

-- the same error of an answer of another type
pub seals_failed : {A B : Type 0} {stop : Stop} {sealing wanted : Bool} {old new : LogStore} {before now : State} → sealing ≡ wanted →
    SealsTail {T = A} (Err stop) sealing old new before now → SealsTail {T = B} (Err stop) wanted old new before now
seals_failed {A = A} {B = B} {stop = stop} {old = old} {new = new} {before = before} {now = now} same s = grind (arith, same_error, err_again, next_failed)

-- a record is placed in the tail behind it
pub seals_placed : {A B : Type 0} {a : A} {b : B} {sealing wanted : Bool} {old mid new : LogStore} {before now : State} → sealing ≡ wanted → new ≡ record mid { tail = new.tail; used = new.used } →
    Invariant new now → SealsTail {T = A} (Ok a) sealing old mid before now → SealsTail {T = B} (Ok b) wanted old new before now
seals_placed {A = A} {B = B} {a = a} {b = b} {old = old} {mid = mid} {new = new} {before = before} {now = now} same rest going s = grind (arith, no_error)
