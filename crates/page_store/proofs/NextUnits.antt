-- The next units of the rings over an honest site, whatever stands there: calls one after the other.
use Rattle.std.proofs.lemmas.Grind.{common_steps}
use Rattle.page_store.proofs.Names.{arith, ◌≡◌, ◌≢◌, refl, Result, Ok, Err, IsErrOf, LogStore, KeepsNext, PageStore, no_error, IsUnchanged, ChangesOnly, State, Log, Flash, Stop, Worn}
use Rattle.flash_cache.specs.Representation as flash_cache
use Rattle.flash_cache.proofs.NextSegments as segments
use Rattle.log_store.specs.Representation as log_store
use Rattle.log_store.proofs.NextBlocks as blocks

-- nothing is called
pub next_still : {T : Type 0} (r : Result T Stop) {log : LogStore} {pages pages' : PageStore} {site : State} → pages'.flash ≡ pages.flash → (IsErrOf r (Worn Log) → ⊥) → (IsErrOf r (Worn Flash) → ⊥) → KeepsNext r log log pages pages' site site
next_still r {log = log} {pages = pages} {pages' = pages'} {site = site} same no_log no_flash = grind (arith, common_steps)

pub next_nothing : {T : Type 0} {x : T} {log : LogStore} {pages pages' : PageStore} {site : State} → pages'.flash ≡ pages.flash → KeepsNext {T = T} (Ok x) log log pages pages' site site
next_nothing same = next_still _ same (λ says. no_error says) (λ says. no_error says)

-- nothing is written
pub next_read : {T : Type 0} (r : Result T Stop) {log : LogStore} {pages pages' : PageStore} {before now : State} → IsUnchanged before now → pages'.flash.segments ≡ pages.flash.segments → pages'.flash.geometry ≡ pages.flash.geometry →
    (IsErrOf r (Worn Log) → ⊥) → (IsErrOf r (Worn Flash) → ⊥) → KeepsNext r log log pages pages' before now
next_read r {log = log} {pages = pages} {pages' = pages'} {before = before} {now = now} same ring sizes no_log no_flash = grind (arith, common_steps)

-- the log alone is written
pub next_logged : {T : Type 0} {r : Result T Stop} {old new : LogStore} {pages : PageStore} {before now : State} → log_store.KeepsNext r old new before now → ChangesOnly Log before now → (IsErrOf r (Worn Flash) → ⊥) → KeepsNext r old new pages pages before now
next_logged {r = r} {pages = pages} {before = before} {now = now} logged changes no_flash = record {
  block = logged;
  segment = segments.next_elsewhere r pages.flash pages.flash before now refl refl (changes.only.now.content Flash (λ same. cc)) no_flash;
}

-- a group is pushed
pub next_pushed : {T : Type 0} {r : Result T Stop} {log : LogStore} {pages pages' : PageStore} {before now : State} → flash_cache.KeepsNext r pages.flash pages'.flash before now → now.image.log ≡ before.image.log → (IsErrOf r (Worn Log) → ⊥) → KeepsNext r log log pages pages' before now
next_pushed {r = r} {log = log} {before = before} {now = now} pushed same no_log = record { block = blocks.next_elsewhere r log before now same no_log; segment = pushed }

-- one call after the other
pub next_then : {A B : Type 0} {a : A} {r : Result B Stop} {old mid new : LogStore} {pages between pages' : PageStore} {before middle now : State} → mid.geometry ≡ old.geometry → between.flash.geometry ≡ pages.flash.geometry →
    KeepsNext {T = A} (Ok a) old mid pages between before middle → KeepsNext r mid new between pages' middle now → KeepsNext r old new pages pages' before now
next_then log_sizes sizes first second = record { block = blocks.next_then log_sizes first.block second.block; segment = segments.next_then sizes first.segment second.segment }

pub next_failed : {A B : Type 0} {stop : Stop} {old new : LogStore} {pages pages' : PageStore} {before now : State} → KeepsNext {T = A} (Err stop) old new pages pages' before now → KeepsNext {T = B} (Err stop) old new pages pages' before now
next_failed first = record { block = blocks.next_failed first.block; segment = segments.next_failed first.segment }

pub next_answered : {A B : Type 0} {a : A} {b : B} {old new : LogStore} {pages pages' : PageStore} {before now : State} → KeepsNext {T = A} (Ok a) old new pages pages' before now → KeepsNext {T = B} (Ok b) old new pages pages' before now
next_answered first = record { block = blocks.next_answered first.block; segment = segments.next_answered first.segment }

-- and then it stops for want of something
pub next_refused : {A B : Type 0} {a : A} {stop : Stop} {old new : LogStore} {pages pages' : PageStore} {before now : State} → stop ≢ Worn Log → stop ≢ Worn Flash → KeepsNext {T = A} (Ok a) old new pages pages' before now → KeepsNext {T = B} (Err stop) old new pages pages' before now
next_refused no_log no_flash first = grind (arith, common_steps)

-- by another pool
pub next_with : {T : Type 0} {r : Result T Stop} {old new : LogStore} {pages between middle after : PageStore} {before now : State} → pages.flash ≡ between.flash → after.flash ≡ middle.flash → KeepsNext r old new between middle before now → KeepsNext r old new pages after before now
next_with {r = r} {between = between} {after = after} {before = before} {now = now} front behind first = grind (arith, common_steps)
