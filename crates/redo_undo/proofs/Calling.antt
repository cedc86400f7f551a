-- Calls one after the other, each known by its record.
use Rattle.std.proofs.lemmas.Grind.{common_steps}
use Rattle.redo_undo.proofs.Names.{◌≡◌, ◌≢◌, ◌⊎◌, inl, inr, ◌+◌, ◌≤◌, List, refl, sym, subst, ◌∙◌, arith, Option, ℕ, Result, Ok, Err, OnOk, IfOk, IfErr, IsErrOf, IsTrue, Master, log_shape, KeepsUnits, master_shape, History, LeavesSomeUnder, LeavesTableUnder, LeavesFor, StandsUnder, in_sequence, Leaves, leaves_weaker, holds_now, Entry, end_of, LogStore, next_nothing, next_then, next_failed, next_answered, next_refused, next_read, next_logged, MayStop, PageStore, Content, not_worn_flash, and_then, going_still, holds_still, leaves_still, units_then, ends_answered, ends_behind, ends_failed, ends_leaving, skips_not_saved, skips_still, hi_on, unchanged, then_skips, skips_again, skips_answered, skips_weaker, skips_on, KeepsInvariant, LogsNothing, KeepsInvariantBeside, ReadsOne, Keeps, KeepsBeside, Invariant, Represents, Opening, IsRedoing, LeavesOpened, hi_of, no_call, changes_in_sequence, stays_honest, ok_as, ok_always, no_error, of_error, err_as, err_always, calls_nothing, calls_then, calls_failed, calls_answered, calls_refused, IsUnchanged, FaultRose, LeavesOnly, ChangesOnly, SameBut, State, Snapshot, IsQuiet, Geometry, Dev, Log, Flash, Disk, Stop, Device, Worn, Foreign, Memory}
use Rattle.std.specs.Prelude.{◌<◌}
use Rattle.redo_undo.proofs.Saved.{then_for}
use Rattle.redo_undo.proofs.Redoings.{nothing_happens, then_read}
use Rattle.site.specs.Work.{Calls}
use Rattle.log_store.specs.Representation as log_store
use Rattle.log_store.proofs.NextBlocks as blocks

-- The errors of calls on the log.

-- of a call that reads it
pub reads_stop : (stop : Stop) → (stop ≡ Device Log) ⊎ (stop ≡ Foreign) → MayStop stop
reads_stop stop (inl is) = subst MayStop (sym is) tt
reads_stop stop (inr is) = subst MayStop (sym is) tt

-- of one that appends
pub log_stops : (stop : Stop) → (stop ≡ Device Log) ⊎ (stop ≡ Worn Log) → MayStop stop
log_stops stop (inl is) = subst MayStop (sym is) tt
log_stops stop (inr is) = subst MayStop (sym is) tt

-- of one that does so where there is room
pub ends_stop : (stop : Stop) → (stop ≡ Device Log) ⊎ ((stop ≡ Worn Log) ⊎ (stop ≡ Foreign)) → MayStop stop
ends_stop stop (inl is) = subst MayStop (sym is) tt
ends_stop stop (inr (inl is)) = subst MayStop (sym is) tt
ends_stop stop (inr (inr is)) = subst MayStop (sym is) tt

-- why a call on the log alone says that a device failed
log_device : (d : Dev) → d ≢ Log → (Device d ≡ Device Log) ⊎ ((Device d ≡ Worn Log) ⊎ (Device d ≡ Foreign)) → ⊥
log_device Log other is = other refl
log_device Flash other (inl is) = cc
log_device Flash other (inr (inl is)) = cc
log_device Flash other (inr (inr is)) = cc
log_device Disk other (inl is) = cc
log_device Disk other (inr (inl is)) = cc
log_device Disk other (inr (inr is)) = cc

pub device_of : {T : Type 0} (r : Result T Stop) (before now : State) → IfErr r (λ stop. (stop ≡ Device Log) ⊎ ((stop ≡ Worn Log) ⊎ (stop ≡ Foreign))) →
    (IsErrOf r (Device Log) → FaultRose Log before now) → (d : Dev) → IsErrOf r (Device d) → FaultRose d before now
device_of r before now stops rose Log is = rose is
device_of r before now stops rose Flash is = absurd (log_device Flash (λ same. cc) (of_error r (λ stop. (stop ≡ Device Log) ⊎ ((stop ≡ Worn Log) ⊎ (stop ≡ Foreign))) (Device Flash) stops is))
device_of r before now stops rose Disk is = absurd (log_device Disk (λ same. cc) (of_error r (λ stop. (stop ≡ Device Log) ⊎ ((stop ≡ Worn Log) ⊎ (stop ≡ Foreign))) (Device Disk) stops is))

read_or : (stop : Stop) → (stop ≡ Device Log) ⊎ (stop ≡ Foreign) → (stop ≡ Device Log) ⊎ ((stop ≡ Worn Log) ⊎ (stop ≡ Foreign))
read_or stop (inl is) = inl is
read_or stop (inr is) = inr (inr is)

pub reads_worn : (d : Dev) → (Worn d ≡ Device Log) ⊎ (Worn d ≡ Foreign) → ⊥
reads_worn d (inl is) = cc
reads_worn d (inr is) = cc

-- On every site.

pub calls_read : {T : Type 0} {r : Result T Stop} {before now : State} → ReadsOne r before now → Calls r before now
calls_read {r = r} {before = before} {now = now} read = grind (arith, ok_always, device_of, err_as, read_or)

-- Log and pages, on every site.

pub works_nothing : {T : Type 0} {x : T} {log : LogStore} {pages : PageStore} {site : State} → Invariant log pages site → KeepsInvariant {T = T} (Ok x) log log pages pages site site
works_nothing going = record { calls = calls_nothing; going = going; rises = omega arith; kept = refl; log_geometry = refl; geometry = refl; size = refl; stops = tt; next = λ honest. next_nothing refl }

pub works_then : {A B : Type 0} {a : A} {r : Result B Stop} {old mid new : LogStore} {pages between pages' : PageStore} {before middle now : State} →
    KeepsInvariant {T = A} (Ok a) old mid pages between before middle → KeepsInvariant r mid new between pages' middle now → KeepsInvariant r old new pages pages' before now
works_then {r = r} {before = before} {middle = middle} first second = grind (arith, calls_then, next_then, stays_honest, ok_as)

pub works_failed : {A B : Type 0} {stop : Stop} {old new : LogStore} {pages pages' : PageStore} {before now : State} → KeepsInvariant {T = A} (Err stop) old new pages pages' before now → KeepsInvariant {T = B} (Err stop) old new pages pages' before now
works_failed first = record { calls = calls_failed first.calls; going = tt; next = λ honest. next_failed (first.next honest); rises = tt; kept = first.kept; log_geometry = first.log_geometry; geometry = first.geometry; size = first.size; stops = first.stops }

-- it stops behind a call that was Ok
pub works_stopped : {A B C : Type 0} {a : A} {stop : Stop} {old mid new : LogStore} {pages between pages' : PageStore} {before middle now : State} →
    KeepsInvariant {T = A} (Ok a) old mid pages between before middle → KeepsInvariant {T = B} (Err stop) mid new between pages' middle now → KeepsInvariant {T = C} (Err stop) old new pages pages' before now
works_stopped first second = works_failed (works_then first second)

pub works_answered : {A B : Type 0} {a : A} {b : B} {old new : LogStore} {pages pages' : PageStore} {before now : State} → KeepsInvariant {T = A} (Ok a) old new pages pages' before now → KeepsInvariant {T = B} (Ok b) old new pages pages' before now
works_answered first = record { calls = calls_answered first.calls; going = first.going; next = λ honest. next_answered (first.next honest); rises = first.rises; kept = first.kept; log_geometry = first.log_geometry; geometry = first.geometry; size = first.size; stops = tt }

pub works_refused : {A B : Type 0} {a : A} {stop : Stop} {old new : LogStore} {pages pages' : PageStore} {before now : State} → ((d : Dev) → stop ≢ Device d) → ((d : Dev) → stop ≢ Worn d) → MayStop stop →
    KeepsInvariant {T = A} (Ok a) old new pages pages' before now → KeepsInvariant {T = B} (Err stop) old new pages pages' before now
works_refused other never stops first = record { calls = calls_refused other first.calls; going = tt; next = λ honest. next_refused (never Log) (never Flash) (first.next honest); rises = tt; kept = first.kept; log_geometry = first.log_geometry; geometry = first.geometry; size = first.size; stops = stops }

-- what it read is Foreign
pub works_foreign : {A B : Type 0} {a : A} {old new : LogStore} {pages pages' : PageStore} {before now : State} → KeepsInvariant {T = A} (Ok a) old new pages pages' before now → KeepsInvariant {T = B} (Err Foreign) old new pages pages' before now
works_foreign first = works_refused (λ d same. cc) (λ d same. cc) tt first

pub works_read : {T : Type 0} {r : Result T Stop} {log : LogStore} {pages : PageStore} {before now : State} → Invariant log pages before → ReadsOne r before now → KeepsInvariant r log log pages pages before now
works_read {r = r} {log = log} {pages = pages} {before = before} {now = now} going read = grind (arith, calls_read, ok_always, going_still, err_as, reads_stop, next_read, reads_worn, of_error)

-- a call of the log alone
pub works_beside : {T : Type 0} {r : Result T Stop} {old new : LogStore} {pages : PageStore} {before now : State} → Invariant old pages before → OnOk r (end_of old ≤ end_of new) → IfErr r (λ stop. MayStop stop) → (IsErrOf r (Worn Flash) → ⊥) →
    KeepsInvariantBeside r old new before now → KeepsInvariant r old new pages pages before now
works_beside {pages = pages} going rises stops never beside =
    record { next = λ honest. next_logged (beside.next honest) (beside.changes honest) never; calls = beside.calls; going = beside.going pages going; rises = rises; kept = beside.kept; log_geometry = beside.geometry; geometry = refl; size = refl; stops = stops }

-- that appends a record
pub works_appended : {r : Result ℕ Stop} {old new : LogStore} {pages : PageStore} {before now : State} → Invariant old pages before → IfOk r (λ lsn. (end_of old ≤ lsn) × (lsn < end_of new)) →
    IfErr r (λ stop. (stop ≡ Device Log) ⊎ (stop ≡ Worn Log)) → KeepsInvariantBeside r old new before now → KeepsInvariant r old new pages pages before now
works_appended {r = r} {old = old} {new = new} going rises stops beside = grind (arith, works_beside, err_as, log_stops, of_error, not_worn_flash)

-- The same where no record is logged.

pub logs_nothing : {T : Type 0} {x : T} {log : LogStore} {pages : PageStore} {site : State} → Invariant log pages site → LogsNothing {T = T} (Ok x) log log pages pages site site
logs_nothing going = record { works = works_nothing going; blocks = refl; hi = omega arith; log_reads = refl }

pub logs_then : {A B : Type 0} {a : A} {r : Result B Stop} {old mid new : LogStore} {pages between pages' : PageStore} {before middle now : State} →
    LogsNothing {T = A} (Ok a) old mid pages between before middle → LogsNothing r mid new between pages' middle now → LogsNothing r old new pages pages' before now
logs_then {r = r} first second =
    record { works = works_then first.works second.works; blocks = ok_as r _ _ (λ more. more ∙ first.blocks) second.blocks; hi = ok_as r _ _ (λ more. omega (arith, more, first.hi)) second.hi; log_reads = second.log_reads ∙ first.log_reads }

pub logs_answered : {A B : Type 0} {a : A} {b : B} {old new : LogStore} {pages pages' : PageStore} {before now : State} → LogsNothing {T = A} (Ok a) old new pages pages' before now → LogsNothing {T = B} (Ok b) old new pages pages' before now
logs_answered first = record { works = works_answered first.works; blocks = first.blocks; hi = first.hi; log_reads = first.log_reads }

pub logs_foreign : {A B : Type 0} {a : A} {old new : LogStore} {pages pages' : PageStore} {before now : State} → LogsNothing {T = A} (Ok a) old new pages pages' before now → LogsNothing {T = B} (Err Foreign) old new pages pages' before now
logs_foreign first = record { works = works_foreign first.works; blocks = tt; hi = tt; log_reads = first.log_reads }

-- The log alone, on every site.

log_unchanged : (site : State) → ChangesOnly Log site site
log_unchanged site = record { only = no_call site (SameBut Log site) (record { told = refl; telling = refl; content = λ d other. refl; loose = λ d other. refl }); left = refl }

pub beside_nothing : {T : Type 0} {x : T} {log : LogStore} {site : State} → log_store.Invariant log site → KeepsInvariantBeside {T = T} (Ok x) log log site site
beside_nothing {site = site} going = record { calls = calls_nothing; going = λ pages may. may; log_going = going; kept = refl; geometry = refl; reads = λ d. refl; changes = λ honest. log_unchanged site; next = λ honest. blocks.next_nothing }

-- where memory is wanted
pub works_lacks : {T : Type 0} {stop : Stop} {log : LogStore} {pages : PageStore} {site : State} → (stop ≡ Memory) ⊎ (stop ≡ Foreign) → Invariant log pages site → KeepsInvariant {T = T} (Err stop) log log pages pages site site
works_lacks (inl lacks) going = works_refused {A = Unit {0}} {a = tt} (λ d same. cc) (λ d same. cc) (subst MayStop (sym lacks) tt) (works_nothing going)
works_lacks (inr foreign) going = works_refused {A = Unit {0}} {a = tt} (λ d same. cc) (λ d same. cc) (subst MayStop (sym foreign) tt) (works_nothing going)

pub beside_lacks : {T : Type 0} {stop : Stop} {log : LogStore} {site : State} → stop ≡ Memory → log_store.Invariant log site → KeepsInvariantBeside {T = T} (Err stop) log log site site
beside_lacks {stop = stop} {log = log} {site = site} lacks going = grind (arith, common_steps, calls_refused, calls_nothing, log_unchanged)

pub beside_then : {A B : Type 0} {a : A} {r : Result B Stop} {old mid new : LogStore} {before between now : State} → KeepsInvariantBeside {T = A} (Ok a) old mid before between → KeepsInvariantBeside r mid new between now → KeepsInvariantBeside r old new before now
beside_then {before = before} {between = between} {now = now} first second = record {
  calls = calls_then first.calls second.calls;
  going = λ pages may. second.going pages (first.going pages may);
  log_going = second.log_going;
  kept = second.kept ∙ first.kept;
  geometry = second.geometry ∙ first.geometry;
  reads = λ d. second.reads d ∙ first.reads d;
  next = λ honest. blocks.next_then first.geometry (first.next honest) (second.next (stays_honest before between first.calls.preserves honest));
  changes = λ honest. changes_in_sequence Log before between now (first.changes honest) (second.changes (stays_honest before between first.calls.preserves honest));
}

pub beside_answered : {A B : Type 0} {a : A} {b : B} {old new : LogStore} {before now : State} → KeepsInvariantBeside {T = A} (Ok a) old new before now → KeepsInvariantBeside {T = B} (Ok b) old new before now
beside_answered first = record { calls = calls_answered first.calls; going = first.going; log_going = first.log_going; kept = first.kept; geometry = first.geometry; reads = first.reads; changes = first.changes; next = λ honest. blocks.next_answered (first.next honest) }

pub beside_failed : {A B : Type 0} {stop : Stop} {old new : LogStore} {before now : State} → KeepsInvariantBeside {T = A} (Err stop) old new before now → KeepsInvariantBeside {T = B} (Err stop) old new before now
beside_failed first = record { calls = calls_failed first.calls; going = λ pages may. tt; log_going = first.log_going; kept = first.kept; geometry = first.geometry; reads = first.reads; changes = first.changes; next = λ honest. blocks.next_failed (first.next honest) }

-- Log and pages, on an honest site.

pub keeps_joined : {A B : Type 0} {a : A} {r : Result B Stop} {g g' : Geometry} {old mid new : LogStore} {before between now : State} {P Q W : Snapshot → Type 0} {n m n' m' : ℕ} → IsTrue before.honest → g' ≡ g → Calls {T = A} (Ok a) before between →
    (LeavesOnly before between P → LeavesOnly between now Q → LeavesOnly before now W) → Keeps {T = A} (Ok a) g old mid before between P n m → Keeps r g' mid new between now Q n' m' → Keeps r g old new before now W (n + n') (m + m')
keeps_joined {a = a} {r = r} {g = g} {g' = g'} {old = old} {mid = mid} {new = new} {before = before} {between = between} {now = now} {n = n} {m = m} {n' = n'} {m' = m'} honest sizes calls joined first second = record {
  ends = ends_behind (calls.stays_quiet honest) sizes (λ quiet. joined (first.any_moment quiet)) second.ends;
  numbers = λ quiet. then_skips r a g old mid new before between now n m n' m' (n + n') (m + m') (first.numbers quiet) (skips_on r g' g mid new between now n' m' sizes (second.numbers (calls.stays_quiet honest quiet))) (omega arith) refl;
  masters = λ none. ok_as r _ _ (units_then before.image between.image now.image (first.masters (let no : m ≡ 0 = omega (arith, none) in no))) (second.masters (let no : m' ≡ 0 = omega (arith, none) in no));
}

pub keeps_then : {A B : Type 0} {a : A} {r : Result B Stop} {g g' k k' : Geometry} {old mid new : LogStore} {before between now : State} {newest : Option Master} {history : History} {n m n' m' : ℕ} →
    IsTrue before.honest → g' ≡ g → k' ≡ k → Calls {T = A} (Ok a) before between →
    Keeps {T = A} (Ok a) g old mid before between (LeavesSomeUnder newest k history before.told) n m → Keeps r g' mid new between now (LeavesSomeUnder newest k' history between.told) n' m' →
    Keeps r g old new before now (LeavesSomeUnder newest k history before.told) (n + n') (m + m')
keeps_then {k = k} {k' = k'} {before = before} {between = between} {now = now} {newest = newest} {history = history} honest sizes same calls first second =
    keeps_joined honest sizes calls (and_then newest k k' before between now history same) first second

-- where none is made
pub redone_then : {A B : Type 0} {a : A} {r : Result B Stop} {g g' k k' : Geometry} {old mid new : LogStore} {before between now : State} {newest : Option Master} {table : List Content} {commits n m n' m' : ℕ} →
    IsTrue before.honest → g' ≡ g → k' ≡ k → Calls {T = A} (Ok a) before between →
    Keeps {T = A} (Ok a) g old mid before between (LeavesTableUnder newest k table commits before.told) n m → Keeps r g' mid new between now (LeavesTableUnder newest k' table commits between.told) n' m' →
    Keeps r g old new before now (LeavesTableUnder newest k table commits before.told) (n + n') (m + m')
redone_then {k = k} {k' = k'} {before = before} {between = between} {now = now} {newest = newest} {table = table} {commits = commits} honest sizes same calls first second =
    keeps_joined honest sizes calls (λ begun left. in_sequence before between now (Leaves (LeavesTableUnder newest k table commits before.told)) begun
    (leaves_weaker between now (LeavesTableUnder newest k' table commits between.told) (LeavesTableUnder newest k table commits before.told) (λ s q. record {
      told = q.told ∙ (holds_now before between (LeavesTableUnder newest k table commits before.told) begun).told;
      stands = subst (λ (x : Geometry). StandsUnder newest x s.image table commits) same q.stands;
    }) left)) first second

-- no more records than these
pub keeps_few : {T : Type 0} {r : Result T Stop} {g : Geometry} {old new : LogStore} {before now : State} {P : Snapshot → Type 0} {n k m : ℕ} → n ≤ k → Keeps r g old new before now P n m → Keeps r g old new before now P k m
keeps_few {r = r} {g = g} {old = old} {new = new} {before = before} {now = now} {n = n} {k = k} {m = m} few first = record {
  ends = first.ends;
  numbers = λ quiet. skips_weaker r g old new before now n k m few (first.numbers quiet);
  masters = first.masters;
}

pub keeps_failed : {A B : Type 0} {stop : Stop} {g : Geometry} {old new : LogStore} {before now : State} {P : Snapshot → Type 0} {n m : ℕ} → Keeps {T = A} (Err stop) g old new before now P n m → Keeps {T = B} (Err stop) g old new before now P n m
keeps_failed {stop = stop} {g = g} {old = old} {new = new} {before = before} {now = now} {n = n} {m = m} first = grind (arith, ends_failed, skips_again)

pub keeps_answered : {A B : Type 0} {a : A} {b : B} {g : Geometry} {old new : LogStore} {before now : State} {P : Snapshot → Type 0} {n m : ℕ} → Keeps {T = A} (Ok a) g old new before now P n m → Keeps {T = B} (Ok b) g old new before now P n m
keeps_answered {A = A} {B = B} {a = a} {b = b} {g = g} {old = old} {new = new} {before = before} {now = now} {n = n} {m = m} first = grind (arith, ends_answered, skips_answered)

-- where nothing is written
pub keeps_still : {T : Type 0} {r : Result T Stop} {g : Geometry} {log : LogStore} {before now : State} {P : Snapshot → Type 0} → (IsQuiet before → LeavesOnly before now P) → log.ring.hi ≡ hi_of (log_shape g) before.image.log → IsUnchanged before now →
    ((d : Dev) → IsErrOf r (Worn d) → ⊥) → (IsErrOf r Foreign → ⊥) → Keeps r g log log before now P 0 0
keeps_still {r = r} {g = g} {log = log} {before = before} {now = now} moments hi same worn readable = record {
  ends = record {
    any_moment = moments;
    quiet = λ quiet. err_always r _ (same.loose ∙ quiet);
    worn_log = λ is. absurd (worn Log is);
    worn = λ is. absurd (worn Flash is);
    readable = readable;
  };
  numbers = λ quiet. skips_still r g log before now 0 hi quiet same;
  masters = λ none. ok_always r _ (subst (KeepsUnits master_shape before.image) (sym same.image) (record { units = refl; form = λ form. form }));
}

pub keeps_unchanged : {T : Type 0} {r : Result T Stop} {log : LogStore} {pages : PageStore} {before now : State} {newest : Option Master} {records : List Entry} {history : History} →
    log.geometry ≡ pages.flash.geometry → Represents log pages before newest records history → IsUnchanged before now → ((d : Dev) → IsErrOf r (Worn d) → ⊥) → (IsErrOf r Foreign → ⊥) →
    Keeps r pages.flash.geometry log log before now (LeavesSomeUnder newest pages.flash.geometry history before.told) 0 0
keeps_unchanged {log = log} {pages = pages} {before = before} {now = now} {newest = newest} {records = records} {history = history} sizes h same =
    keeps_still (leaves_still log pages before now newest records history sizes same h) (hi_on log.geometry pages.flash.geometry log before.image sizes h.log_holds.ready.blocks.hi) same

-- while records of an opened log are redone
pub keeps_opened : {T : Type 0} {r : Result T Stop} {o : Opening} {log : LogStore} {pages : PageStore} {before now : State} {front : List Entry} → log.geometry ≡ pages.flash.geometry → IsRedoing o log pages before front → IsUnchanged before now →
    ((d : Dev) → IsErrOf r (Worn d) → ⊥) → (IsErrOf r Foreign → ⊥) → Keeps r pages.flash.geometry log log before now (LeavesOpened o before.told) 0 0
keeps_opened {o = o} {log = log} {pages = pages} {before = before} {now = now} {front = front} sizes h same =
    keeps_still (λ quiet. then_read o before before now (nothing_happens o log pages before front h sizes quiet) same) (hi_on log.geometry pages.flash.geometry log before.image sizes h.ready.blocks.hi) same

pub keeps_redoing : {T : Type 0} {x : T} {o : Opening} {log : LogStore} {pages : PageStore} {site : State} {front : List Entry} → log.geometry ≡ pages.flash.geometry → IsRedoing o log pages site front →
    Keeps {T = T} (Ok x) pages.flash.geometry log log site site (LeavesOpened o site.told) 0 0
keeps_redoing {T = T} {x = x} sizes h = keeps_opened sizes h unchanged (λ d is. no_error {T = T} {x = x} {e = Worn d} is) (no_error {T = T} {x = x} {e = Foreign})

pub not_worn : (stop : Stop) → (stop ≡ Memory) ⊎ (stop ≡ Foreign) → (d : Dev) → stop ≢ Worn d
not_worn stop (inl is) = λ d same. cc
not_worn stop (inr is) = λ d same. cc

pub keeps_refused_by : {T : Type 0} {stop : Stop} {o : Opening} {log : LogStore} {pages : PageStore} {site : State} {front : List Entry} → (stop ≡ Memory) ⊎ (stop ≡ Foreign) → log.geometry ≡ pages.flash.geometry → IsRedoing o log pages site front → stop ≢ Foreign →
    Keeps {T = T} (Err stop) pages.flash.geometry log log site site (LeavesOpened o site.told) 0 0
keeps_refused_by {stop = stop} stops sizes h readable =
    keeps_opened sizes h unchanged (λ d is. not_worn stop stops d (let same : stop ≡ Worn d = cc in same)) (λ is. readable (let same : stop ≡ Foreign = cc in same))

-- where only a record is read
pub keeps_read : {T : Type 0} {r : Result T Stop} {log : LogStore} {pages : PageStore} {before now : State} {newest : Option Master} {records : List Entry} {history : History} →
    log.geometry ≡ pages.flash.geometry → Represents log pages before newest records history → ReadsOne r before now → IfErr r (λ stop. stop ≢ Foreign) →
    Keeps r pages.flash.geometry log log before now (LeavesSomeUnder newest pages.flash.geometry history before.told) 0 0
keeps_read {r = r} sizes h read readable =
    keeps_unchanged sizes h (read.same h.log_holds.ready.blocks.honest) (λ d is. reads_worn d (of_error r (λ stop. (stop ≡ Device Log) ⊎ (stop ≡ Foreign)) (Worn d) read.stops is)) (λ is. of_error r (λ stop. stop ≢ Foreign) Foreign readable is refl)

pub keeps_nothing : {T : Type 0} {x : T} {log : LogStore} {pages : PageStore} {site : State} {newest : Option Master} {records : List Entry} {history : History} →
    log.geometry ≡ pages.flash.geometry → Represents log pages site newest records history → Keeps {T = T} (Ok x) pages.flash.geometry log log site site (LeavesSomeUnder newest pages.flash.geometry history site.told) 0 0
keeps_nothing {T = T} {x = x} sizes h =
    keeps_unchanged sizes h unchanged (λ d is. no_error {T = T} {x = x} {e = Worn d} is) (no_error {T = T} {x = x} {e = Foreign})

-- log and pages hold together behind it
pub held_read : {T : Type 0} {r : Result T Stop} {log : LogStore} {pages : PageStore} {before now : State} {newest : Option Master} {records : List Entry} {history : History} →
    Represents log pages before newest records history → ReadsOne r before now → Represents log pages now newest records history
held_read {log = log} {pages = pages} {before = before} {now = now} {newest = newest} {records = records} {history = history} h read =
    holds_still log pages before now newest records history read.preserves (read.same h.log_holds.ready.blocks.honest) h

-- an append says of the log that it is Foreign, never
foreign_not : (stop : Stop) → (stop ≡ Device Log) ⊎ (stop ≡ Worn Log) → stop ≢ Foreign
foreign_not stop (inl is) = λ same. cc
foreign_not stop (inr is) = λ same. cc

pub appends_foreign : {T : Type 0} (r : Result T Stop) → IfErr r (λ stop. (stop ≡ Device Log) ⊎ (stop ≡ Worn Log)) → IsErrOf r Foreign → ⊥
appends_foreign r stops is = of_error r (λ stop. stop ≢ Foreign) Foreign (err_as r _ _ foreign_not stops) is refl

pub keeps_appended : {T : Type 0} {r : Result T Stop} {old new : LogStore} {pages : PageStore} {before now : State} {P : Snapshot → Type 0} {n : ℕ} → Invariant old pages before → IfErr r (λ stop. (stop ≡ Device Log) ⊎ (stop ≡ Worn Log)) →
    KeepsBeside r old new pages before now P n → Keeps r pages.flash.geometry old new before now P n 0
keeps_appended {r = r} {old = old} {new = new} {pages = pages} {before = before} {now = now} {n = n} going stops beside = grind (arith, of_error, err_as, not_worn_flash, appends_foreign, skips_on)

-- a call that stops before a checkpoint is made, under whatever newest master
pub keeps_unsaved : {A B : Type 0} {stop : Stop} {g : Geometry} {old new : LogStore} {before now : State} {P R : Snapshot → Type 0} {n : ℕ} → (LeavesOnly before now P → LeavesOnly before now R) →
    Keeps {T = A} (Err stop) g old new before now P n 0 → Keeps {T = B} (Err stop) g old new before now R n 1
keeps_unsaved {B = B} {stop = stop} {g = g} {old = old} {new = new} {before = before} {now = now} {n = n} more first = record {
  ends = ends_leaving more (ends_failed first.ends);
  numbers = λ quiet. skips_not_saved stop g old new before now n 0 1 (omega arith) ((keeps_failed {B = B} first).numbers quiet);
  masters = λ none. tt;
}

-- and one behind which a master is saved
pub keeps_saved : {A B : Type 0} {a : A} {r : Result B Stop} {g g' : Geometry} {old mid new : LogStore} {before between now : State} {P : Snapshot → Type 0} {table : List Content} {commits n m : ℕ} → IsTrue before.honest → g' ≡ g → Calls {T = A} (Ok a) before between →
    (LeavesOnly before between P → LeavesOnly before between (LeavesFor g table commits before.told)) → Keeps {T = A} (Ok a) g old mid before between P n 0 → Keeps r g' mid new between now (LeavesFor g' table commits between.told) m 1 → Keeps r g old new before now (LeavesFor g table commits before.told) (n + m) 1
keeps_saved {a = a} {r = r} {g = g} {g' = g'} {old = old} {mid = mid} {new = new} {before = before} {between = between} {now = now} {table = table} {commits = commits} {n = n} {m = m} honest same calls more first second = record {
  ends = ends_behind (calls.stays_quiet honest) same (λ quiet. then_for g g' before between now table commits same (more (first.any_moment quiet))) second.ends;
  numbers = λ quiet. then_skips r a g old mid new before between now n 0 m 1 (n + m) 1 (first.numbers quiet) (skips_on r g' g mid new between now m 1 same (second.numbers (calls.stays_quiet honest quiet))) (omega arith) refl;
  masters = λ none. absurd (omega (arith, none));
}
