-- The next units of a store's rings over an honest site, whatever stands there: calls one after the other.
use Rattle.redo_undo.proofs.Names.{arith, ◌≡◌, ◌≢◌, ◌⊎◌, inl, inr, refl, ap, sym, subst, ◌∙◌, Result, Ok, Err, OnOk, IfErr, IsErrOf, master_shape, segment_shape, MayStop, PageStore, IsSpent, AreNext, KeepsNext, sizes_of, TransactionStore, hi_of, no_error, err_again, err_as, of_error, ChangesOnly, State as Site, Dev, Log, Flash, Disk, Stop, Device, Worn}
use Rattle.std.specs.Prelude.{◌^◌}
use Rattle.flash_cache.specs.Representation as flash_cache
use Rattle.log_store.specs.Representation as log_store
use Rattle.page_store.specs.Calls as pages

-- a call of log and pages
pub store_next : {T : Type 0} {r : Result T Stop} {old new : TransactionStore} {before now : Site} → old.log.geometry ≡ sizes_of old → new.masters ≡ old.masters → IfErr r (λ stop. MayStop stop) →
    pages.KeepsNext r old.log new.log old.pages new.pages before now → KeepsNext r old new before now
store_next {T = T} {r = r} {old = old} {new = new} {before = before} {now = now} sizes masters stops first = grind (arith, of_error)

pub next_nothing : {T : Type 0} {x : T} {store : TransactionStore} {site : Site} → KeepsNext {T = T} (Ok x) store store site site
next_nothing = record { next = λ is. is; worn = λ is dev says. absurd (no_error says) }

pub next_then : {A B : Type 0} {a : A} {r : Result B Stop} {old mid new : TransactionStore} {before between now : Site} → sizes_of mid ≡ sizes_of old →
    KeepsNext {T = A} (Ok a) old mid before between → KeepsNext r mid new between now → KeepsNext r old new before now
next_then {now = now} sizes first second = grind (arith)

pub next_failed : {A B : Type 0} {stop : Stop} {old new : TransactionStore} {before now : Site} → KeepsNext {T = A} (Err stop) old new before now → KeepsNext {T = B} (Err stop) old new before now
next_failed first = record { next = λ is. tt; worn = λ is dev says. first.worn is dev (err_again _ _ says) }

pub next_answered : {A B : Type 0} {a : A} {b : B} {old new : TransactionStore} {before now : Site} → KeepsNext {T = A} (Ok a) old new before now → KeepsNext {T = B} (Ok b) old new before now
next_answered first = record { next = first.next; worn = λ is dev says. absurd (no_error says) }

-- and then it stops for want of something
pub next_refused : {A B : Type 0} {a : A} {stop : Stop} {old new : TransactionStore} {before now : Site} → ((d : Dev) → stop ≢ Worn d) → KeepsNext {T = A} (Ok a) old new before now → KeepsNext {T = B} (Err stop) old new before now
next_refused never first = record { next = λ is. tt; worn = λ is dev says. absurd (never dev cc) }

-- a master that is saved behind it
pub next_saved : {A : Type 0} {r : Result A Stop} {old mid new : TransactionStore} {before between now : Site} → sizes_of mid ≡ sizes_of old → new.pages ≡ mid.pages → ChangesOnly Log between now →
    IfErr r (λ stop. (stop ≡ Device Log) ⊎ (stop ≡ Worn Log)) → KeepsNext {T = Unit {0}} (Ok tt) old mid before between →
    (log_store.IsNext mid.log between → mid.masters.hi ≡ hi_of master_shape between.image.log → OnOk r (log_store.IsNext new.log now × (new.masters.hi ≡ hi_of master_shape now.image.log))) →
    (mid.masters.hi ≡ hi_of master_shape between.image.log → IsErrOf r (Worn Log) → hi_of master_shape now.image.log ≡ 2 ^ 40) → KeepsNext r old new before now
next_saved {A = A} {r = r} {old = old} {mid = mid} {new = new} {before = before} {between = between} {now = now} sizes pages changes stops first next worn = record { next = λ is. both r (first.next is) next; worn = λ is. spent (first.next is) }
  where
    flash : now.image.flash ≡ between.image.flash
    flash = changes.only.now.content Flash (λ same. cc)

    both : (r : Result A Stop) → AreNext mid between →
        (log_store.IsNext mid.log between → mid.masters.hi ≡ hi_of master_shape between.image.log → OnOk r (log_store.IsNext new.log now × (new.masters.hi ≡ hi_of master_shape now.image.log))) → OnOk r (AreNext new now)
    both (Ok x) is next = let on_log = next is.block is.master in record {
      block = on_log.0;
      master = on_log.1;
      segment = subst (λ (p : PageStore). flash_cache.IsNext p.flash now) (sym pages) (is.segment ∙ ap (hi_of (segment_shape mid.pages.flash.geometry)) (sym flash));
    }
    both (Err stop) is next = tt

    only_log : (stop : Stop) (dev : Dev) → dev ≢ Log → (stop ≡ Device Log) ⊎ (stop ≡ Worn Log) → stop ≢ Worn dev
    only_log stop dev other (inl is) = λ same. cc
    only_log stop dev other (inr is) = λ same. other (let own : dev ≡ Log = cc in own)

    not_there : (dev : Dev) → dev ≢ Log → IsErrOf r (Worn dev) → ⊥
    not_there dev other says = of_error r (λ stop. stop ≢ Worn dev) (Worn dev) (err_as r _ _ (λ stop. only_log stop dev other) stops) says refl

    spent : AreNext mid between → (dev : Dev) → IsErrOf r (Worn dev) → IsSpent dev (sizes_of old) now.image
    spent is Log says = inr (worn is.master says)
    spent is Flash says = absurd (not_there Flash (λ same. cc) says)
    spent is Disk says = absurd (not_there Disk (λ same. cc) says)
