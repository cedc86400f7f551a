-- Calls that undo, one after the other.
use Rattle.redo_undo.proofs.Names.{History, ◌≡◌, ◌≢◌, ◌⊎◌, inl, inr, ℕ, ◌+◌, ◌-◌, ◌≤◌, List, [], ◌++◌, Option, sym, subst, refl, arith, Result, Ok, Err, OnOk, IfErr, IsErrOf, Master, LeavesSomeUnder, Entry, LogStore, PageStore, Content, CacheOp, asks_err, asks_nothing, asks_ok, asks_same, asks_stopped, asks_then, no_asks, stages_log, stages_read, asks_later, asks_refused, log_alone, some_group, unchanged, KeepsInvariant, KeepsInvariantBeside, KeepsBeside, ReadsOne, Invariant, Represents, Mirrors, PerformsOn, UndoesWork, taken_by, performs_answered, performs_as, performs_by, performs_failed, performs_from, performs_nothing, performs_refused, performs_stopped, performs_then, RingOp, no_error, of_error, calls_nothing, State, Image, Dev, Log, Stop, Device, Worn, Memory, Foreign}
use Rattle.redo_undo.proofs.Calling.{calls_read, keeps_answered, keeps_appended, keeps_failed, keeps_few, keeps_nothing, keeps_unchanged, keeps_read, keeps_then}

-- before any call
pub undoes_nothing : {log : LogStore} {pages : PageStore} {site : State} {newest : Option Master} {records : List Entry} {history : History} {n k : ℕ} → log.geometry ≡ pages.flash.geometry → Represents log pages site newest records history →
    UndoesWork {T = Unit {0}} (Ok tt) [] [] log log pages pages site site newest history n k
undoes_nothing {pages = pages} {site = site} sizes h = record {
  keeps = keeps_few (omega arith) (keeps_nothing sizes h);
  asks = no_asks pages site;
  performs = performs_nothing (λ m is. is) (λ dev says. absurd (no_error {T = Unit {0}} {x = tt} {e = Worn dev} says));
  log_reads = omega arith;
}

-- a call after one that was Ok
pub undoes_then : {A B : Type 0} {a : A} {r : Result B Stop} {first later : List RingOp} {asked more : List CacheOp} {old mid new : LogStore} {pages between pages' : PageStore} {before middle now : State} {newest : Option Master} {records : List Entry} {history : History} {n k n' k' : ℕ} →
    Represents old pages before newest records history → KeepsInvariant {T = A} (Ok a) old mid pages between before middle → UndoesWork {T = A} (Ok a) first asked old mid pages between before middle newest history n k →
    UndoesWork r later more mid new between pages' middle now newest history n' k' → UndoesWork r (first ++ later) (asked ++ more) old new pages pages' before now newest history (n + n') (k + k')
undoes_then {a = a} {r = r} {asked = asked} {more = more} {pages = pages} {between = between} {pages' = pages'} {before = before} {middle = middle} {now = now} h works one two = record {
  keeps = keeps_then h.log_holds.ready.blocks.honest works.geometry works.geometry works.calls one.keeps two.keeps;
  asks = asks_then a r asked more pages between pages' before middle now one.asks two.asks;
  performs = performs_then one.performs (performs_by (sym one.asks.rules_are) two.performs);
  log_reads = let first = one.log_reads in let second = two.log_reads in omega (arith, first, second);
}

-- no more records than these
pub undoes_few : {T : Type 0} {r : Result T Stop} {works : List RingOp} {touches : List CacheOp} {old new : LogStore} {pages pages' : PageStore} {before now : State} {newest : Option Master} {history : History} {n k n' k' : ℕ} → n ≤ n' → k ≤ k' →
    UndoesWork r works touches old new pages pages' before now newest history n k → UndoesWork r works touches old new pages pages' before now newest history n' k'
undoes_few few least one = record { keeps = keeps_few few one.keeps; asks = one.asks; performs = one.performs; log_reads = let reads = one.log_reads in omega (arith, reads, least) }

-- the same work by other names
pub undoes_as : {T : Type 0} {r : Result T Stop} {works works' : List RingOp} {touches touches' : List CacheOp} {old new : LogStore} {pages pages' : PageStore} {before now : State} {newest : Option Master} {history : History} {n k : ℕ} → works ≡ works' → touches ≡ touches' →
    UndoesWork r works' touches' old new pages pages' before now newest history n k → UndoesWork r works touches old new pages pages' before now newest history n k
undoes_as {r = r} {touches = touches} {touches' = touches'} {pages = pages} {pages' = pages'} {before = before} {now = now} same asked one =
    record { keeps = one.keeps; asks = asks_same r touches touches' pages pages' before now asked one.asks; performs = performs_as same one.performs; log_reads = one.log_reads }

-- another answer of the same call
pub undoes_answered : {A B : Type 0} {a : A} {b : B} {works : List RingOp} {touches : List CacheOp} {old new : LogStore} {pages pages' : PageStore} {before now : State} {newest : Option Master} {history : History} {n k : ℕ} →
    UndoesWork {T = A} (Ok a) works touches old new pages pages' before now newest history n k → UndoesWork {T = B} (Ok b) works touches old new pages pages' before now newest history n k
undoes_answered {a = a} {b = b} {touches = touches} {pages = pages} {pages' = pages'} {before = before} {now = now} one =
    record { keeps = keeps_answered one.keeps; asks = asks_ok a b touches pages pages' before now one.asks; performs = performs_answered one.performs; log_reads = one.log_reads }

-- it stops before all of some work is done
pub undoes_stopped : {A B : Type 0} {stop : Stop} {first : List RingOp} {asked : List CacheOp} {old new other : LogStore} {pages pages' : PageStore} {before now : State} {newest : Option Master} {history : History} {n k : ℕ} (later : List RingOp) (more : List CacheOp) → Invariant other pages before →
    UndoesWork {T = A} (Err stop) first asked old new pages pages' before now newest history n k → UndoesWork {T = B} (Err stop) (first ++ later) (asked ++ more) old new pages pages' before now newest history n k
undoes_stopped {stop = stop} {asked = asked} {pages = pages} {pages' = pages'} {before = before} {now = now} later more going one =
    record { keeps = keeps_failed one.keeps; asks = asks_stopped stop asked more pages pages' before now (some_group going) one.asks; performs = performs_stopped later one.performs; log_reads = one.log_reads }

pub undoes_failed : {A B : Type 0} {stop : Stop} {works : List RingOp} {touches : List CacheOp} {old new : LogStore} {pages pages' : PageStore} {before now : State} {newest : Option Master} {history : History} {n k : ℕ} →
    UndoesWork {T = A} (Err stop) works touches old new pages pages' before now newest history n k → UndoesWork {T = B} (Err stop) works touches old new pages pages' before now newest history n k
undoes_failed {stop = stop} {touches = touches} {pages = pages} {pages' = pages'} {before = before} {now = now} one =
    record { keeps = keeps_failed one.keeps; asks = asks_err stop touches pages pages' before now one.asks; performs = performs_failed one.performs; log_reads = one.log_reads }

-- Calls that read one record of the log.

pub read_refuses : (stop : Stop) → (stop ≡ Device Log) ⊎ (stop ≡ Foreign) → (dev : Dev) → stop ≢ Worn dev
read_refuses stop (inl device) dev = λ worn. cc
read_refuses stop (inr foreign) dev = λ worn. cc

-- before the work
pub undoes_read : {A B : Type 0} {a : A} {r : Result B Stop} {works : List RingOp} {touches : List CacheOp} {log new : LogStore} {pages pages' : PageStore} {before middle now : State} {newest : Option Master} {records : List Entry} {history : History} {n k : ℕ} → log.geometry ≡ pages.flash.geometry →
    Represents log pages before newest records history → ReadsOne {T = A} (Ok a) before middle → UndoesWork r works touches log new pages pages' middle now newest history n k → UndoesWork r works touches log new pages pages' before now newest history n (k + 1)
undoes_read {r = r} {touches = touches} {log = log} {pages = pages} {pages' = pages'} {before = before} {middle = middle} {now = now} sizes h read one = record {
  keeps = keeps_few (omega arith) (keeps_then h.log_holds.ready.blocks.honest refl refl (calls_read read) (keeps_read sizes h read tt) one.keeps);
  asks = asks_later r touches pages pages' before middle now (log_alone before middle read.others) (stages_read read.same read.preserves) one.asks;
  performs = performs_from (λ m is. subst (λ (i : Image). Mirrors log pages i m) (sym (read.same h.log_holds.ready.blocks.honest).image) is) one.performs;
  log_reads = let reads = one.log_reads in omega (arith, reads, read.log_reads);
}

-- and where that fails
pub undoes_unread : {A B : Type 0} {stop : Stop} {log : LogStore} {pages : PageStore} {before now : State} {newest : Option Master} {records : List Entry} {history : History} {n k : ℕ} (works : List RingOp) (touches : List CacheOp) → Invariant log pages before →
    Represents log pages before newest records history → ReadsOne {T = A} (Err stop) before now → stop ≢ Foreign → 1 ≤ k → UndoesWork {T = B} (Err stop) works touches log log pages pages before now newest history n k
undoes_unread {B = B} {stop = stop} {pages = pages} {before = before} {now = now} works touches going h read readable least = record {
  keeps = keeps_few (omega arith) (keeps_failed (keeps_read going.sizes h read readable));
  asks = asks_refused {T = B} stop touches pages before now (some_group going) (log_alone before now read.others) (stages_read read.same read.preserves);
  performs = performs_refused (read_refuses stop read.stops);
  log_reads = let reads = read.log_reads in omega (arith, reads, least);
}

-- where memory is wanted before any call
lacks_other : {T : Type 0} (stop : Stop) → Memory ≢ stop → IsErrOf {T = T} (Err Memory) stop → ⊥
lacks_other {T} stop other is = of_error {T = T} (Err Memory) (λ s. s ≢ stop) stop other is refl

not_worn : (d : Dev) → Memory ≢ Worn d
not_worn d same = cc

not_foreign : Memory ≢ Foreign
not_foreign same = cc

pub undoes_lacks : {B : Type 0} {stop : Stop} {log : LogStore} {pages : PageStore} {site : State} {newest : Option Master} {records : List Entry} {history : History} {n k : ℕ} (works : List RingOp) (touches : List CacheOp) → stop ≡ Memory → Invariant log pages site →
    Represents log pages site newest records history → UndoesWork {T = B} (Err stop) works touches log log pages pages site site newest history n k
undoes_lacks {B = B} {log = log} {pages = pages} {site = site} {newest = newest} {history = history} {n = n} {k = k} works touches lacks going h =
    subst (λ (s : Stop). UndoesWork {T = B} (Err s) works touches log log pages pages site site newest history n k) (sym lacks) (record {
      keeps = keeps_few (omega arith) (keeps_unchanged going.sizes h unchanged (λ d. lacks_other (Worn d) (not_worn d)) (lacks_other Foreign not_foreign));
      asks = asks_refused {T = B} Memory touches pages site site (some_group going) (log_alone site site (λ d other. refl)) (stages_read (λ honest. unchanged) (calls_nothing {T = Unit {0}} {x = tt} {site = site}).preserves);
      performs = performs_refused not_worn;
      log_reads = omega arith;
    })

-- Calls of the log alone.

pub undoes_beside : {r : Result ℕ Stop} {works : List RingOp} {old new : LogStore} {pages : PageStore} {before now : State} {newest : Option Master} {history : History} {n : ℕ} → Invariant old pages before → IfErr r (λ stop. (stop ≡ Device Log) ⊎ (stop ≡ Worn Log)) →
    KeepsInvariantBeside r old new before now → KeepsBeside r old new pages before now (LeavesSomeUnder newest pages.flash.geometry history before.told) n → PerformsOn r works old new pages pages before now → UndoesWork r works [] old new pages pages before now newest history n 0
undoes_beside {r = r} {pages = pages} {before = before} {now = now} going stops works keeps performs = record {
  keeps = keeps_appended going stops keeps;
  asks = asks_nothing r pages before now works.reads (stages_log works);
  performs = performs;
  log_reads = let reads = works.reads Log in omega (arith, reads);
}

-- no more than is taken
pub few_taken : {T : Type 0} (r : Result T Stop) (n old new : ℕ) → n ≤ old → OnOk r (n ≤ old - new) → n ≤ taken_by r old new
few_taken (Ok x) n old new most few = few
few_taken (Err stop) n old new most few = most
