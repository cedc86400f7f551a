-- Calls that ask the cache for work, one after the other.
use Rattle.std.proofs.lemmas.Grind.{common_steps}
use Rattle.redo_laws.proofs.Citing.{◌≡◌, ◌+◌, ◌*◌, ◌≤◌, Bool, true, false, List, [], ◌++◌, arith, refl, sym, ap, subst, ◌∙◌, ℕ, Contains, Result, Ok, Err, IsErrOf, if◌then◌else◌, LogStore, among_first, queue_same, stages_ok, stages_err, stages_as, stages_weaker, stages_then, stages_none, stages_still, stages_beside, cache_of, rules, pushes, pages_staged, HasQueueOn, Stages, PageStore, CacheOp, KeepsInvariantBeside, next_group, one_touch, one_change, ReadsFor, StepsMachine, StagesFor, Rules, Cache, Staged, touched, finds, misses, after_works, staged_by_works, stays_honest, ok_as, ok_always, SameReads, IsUnchanged, Preserves, State, Flash, Disk, Stop}
use Rattle.std.specs.Prelude.{IsTrue}
use Rattle.redo_laws.proofs.Costs.{ops_compose, staged_add_up, reads_add_up, reads_for_more, touched_next, more_next}

pub stop_is : {U : Type 0} (stop is : Stop) → IsErrOf {T = U} (Err stop) is → stop ≡ is
stop_is stop is same = cc

-- One touch.

twelve_times : (b : Bool) → (if b then 12 else 0) ≡ 12 * (if b then 1 else 0)
twelve_times true = refl
twelve_times false = refl

pub touch_reads : (r : Rules) (page : ℕ) (cache : Cache) (before now : State) → 1 ≤ r.groups →
    now.flash_reads ≤ before.flash_reads + (if pushes r page cache then 12 else 0) + (if finds r page cache then 1 else 0) →
    now.disk_reads ≤ before.disk_reads + (if misses r page cache then 1 else 0) → ReadsFor r (one_touch page) cache before now
touch_reads r page cache before now some flash disk = record {
  flash = omega (arith, flash, twelve_times (pushes r page cache), touched_next r page false cache some);
  disk = omega (arith, disk);
}

-- A change costs what the touch costs.

change_next : (r : Rules) (page : ℕ) (cache : Cache) → 1 ≤ r.groups → next_group (touched r page true cache) ≡ next_group (touched r page false cache)
change_next r page cache some = touched_next r page true cache some ∙ sym (touched_next r page false cache some)

pub change_reads : (r : Rules) (page : ℕ) (cache : Cache) (before now : State) → 1 ≤ r.groups → ReadsFor r (one_touch page) cache before now → ReadsFor r (one_change page) cache before now
change_reads r page cache before now some reads = grind (arith, change_next)

pub change_stages : {T : Type 0} (result : Result T Stop) (page : ℕ) (old new : PageStore) (before now : State) → 1 ≤ (rules old).groups → StagesFor result (one_touch page) old new before now → StagesFor result (one_change page) old new before now
change_stages result page old new before now some stages = stages_as refl (sym (change_next (rules old) page (cache_of old) some)) stages

-- calls on the log alone
pub stages_log : {T : Type 0} {result : Result T Stop} {log log' : LogStore} {pages : PageStore} {before now : State} → KeepsInvariantBeside result log log' before now → Stages result [] (next_group (cache_of pages)) pages pages before now
stages_log {result = result} works = stages_beside (ok_always result _ refl) (omega arith) works.changes works.calls refl

pub stages_read : {A : Type 0} {result : Result A Stop} {pages : PageStore} {before now : State} → (IsTrue before.honest → IsUnchanged before now) → Preserves before now → Stages result [] (next_group (cache_of pages)) pages pages before now
stages_read {A} {result = result} {pages = pages} {before = before} {now = now} same goes =
    stages_still (ok_always result _ refl) (omega arith) same refl (ok_always result _ (omega arith)) (λ has. ok_always result (HasQueueOn pages now) (queue_same pages pages before now refl (ap (λ i. i.flash) (same has.fits.honest).image) (stays_honest before now goes has.fits.honest) has))

-- no work
pub no_reads : (r : Rules) (cache : Cache) (before now : State) → SameReads before now → ReadsFor r [] cache before now
no_reads r cache before now same = record { flash = omega (arith, same Flash); disk = omega (arith, same Disk) }

-- a call that does no work
pub asks_nothing : {T : Type 0} (result : Result T Stop) (pages : PageStore) (before now : State) → SameReads before now → Stages result [] (next_group (cache_of pages)) pages pages before now → StepsMachine result [] pages pages before now
asks_nothing result pages before now same stages = record {
  machine = ok_always result _ refl;
  reads = no_reads (rules pages) (cache_of pages) before now same;
  rules_are = refl;
  stages = stages;
}

-- a call after one that was Ok
pub asks_then : {A B : Type 0} (a : A) (result : Result B Stop) (first later : List CacheOp) (old mid new : PageStore) (before between now : State) →
    StepsMachine {T = A} (Ok a) first old mid before between → StepsMachine result later mid new between now → StepsMachine result (first ++ later) old new before now
asks_then a result first later old mid new before between now one two =
    let start : cache_of mid ≡ after_works (rules old) first (cache_of old) = one.machine in
    let all : after_works (rules old) (first ++ later) (cache_of old) ≡ after_works (rules old) later (after_works (rules old) first (cache_of old)) = ops_compose (rules old) first later (cache_of old) in
    let there : after_works (rules mid) later (cache_of mid) ≡ after_works (rules old) (first ++ later) (cache_of old) = grind (arith, common_steps) in
    record {
      machine = ok_as result _ _ (λ is. is ∙ there) two.machine;
      reads = reads_add_up (rules old) first later (cache_of old) before between now one.reads
          (subst (λ (c : Cache). ReadsFor (rules old) later c between now) start (subst (λ (r : Rules). ReadsFor r later (cache_of mid) between now) one.rules_are two.reads));
      rules_are = two.rules_are ∙ one.rules_are;
      stages = stages_as (sym (staged_add_up (rules old) first later (cache_of old)))
          (ap next_group there)
          (stages_then (λ has. omega (arith, more_next (rules old) first later (cache_of old) has.room, ap next_group there)) one.stages
          (stages_as (ap (λ (k : Cache). staged_by_works (rules mid) later k) start ∙ ap (λ (r : Rules). staged_by_works r later (after_works (rules old) first (cache_of old))) one.rules_are) refl two.stages));
    }

-- a call that stops before all of some work is done
pub asks_stopped : {A B : Type 0} (stop : Stop) (first later : List CacheOp) (old new : PageStore) (before now : State) → 1 ≤ (rules old).groups →
    StepsMachine {T = A} (Err stop) first old new before now → StepsMachine {T = B} (Err stop) (first ++ later) old new before now
asks_stopped stop first later old new before now some asks = record {
  machine = tt;
  reads = reads_for_more (rules old) first later (cache_of old) before now some asks.reads;
  rules_are = asks.rules_are;
  stages = stages_err (stages_weaker (λ page is. subst (λ (l : List Staged). Contains (pages_staged l) page) (sym (staged_add_up (rules old) first later (cache_of old))) (among_first (staged_by_works (rules old) first (cache_of old)) _ page is))
      (more_next (rules old) first later (cache_of old) some) asks.stages);
}

-- Another answer of the same call.

-- the same for other work, where the two are equal
pub asks_same : {T : Type 0} (result : Result T Stop) (works other : List CacheOp) (old new : PageStore) (before now : State) → works ≡ other → StepsMachine result other old new before now → StepsMachine result works old new before now
asks_same result works other old new before now same asks = subst (λ (w : List CacheOp). StepsMachine result w old new before now) (sym same) asks

-- before any call
pub no_asks : (pages : PageStore) (now : State) → StepsMachine {T = Unit {0}} (Ok tt) [] pages pages now now
no_asks pages now = record { machine = refl; reads = record { flash = omega arith; disk = omega arith }; rules_are = refl; stages = stages_none refl (omega arith) refl }

-- another answer of the same call
pub asks_ok : {A B : Type 0} (a : A) (b : B) (works : List CacheOp) (old new : PageStore) (before now : State) → StepsMachine {T = A} (Ok a) works old new before now → StepsMachine {T = B} (Ok b) works old new before now
asks_ok a b works old new before now asks = record { machine = asks.machine; reads = asks.reads; rules_are = asks.rules_are; stages = stages_ok asks.stages }

pub asks_err : {A B : Type 0} (stop : Stop) (works : List CacheOp) (old new : PageStore) (before now : State) → StepsMachine {T = A} (Err stop) works old new before now → StepsMachine {T = B} (Err stop) works old new before now
asks_err stop works old new before now asks = record { machine = tt; reads = asks.reads; rules_are = asks.rules_are; stages = stages_err asks.stages }

-- a call that fails behind it for another reason
pub asks_fails : {A B : Type 0} (a : A) (stop : Stop) (works : List CacheOp) (old new : PageStore) (before now : State) → StepsMachine {T = A} (Ok a) works old new before now → StepsMachine {T = B} (Err stop) works old new before now
asks_fails a stop works old new before now asks = grind (arith, stages_err)
