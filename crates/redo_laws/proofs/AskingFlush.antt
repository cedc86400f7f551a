-- What a checkpoint asks of the page cache.
use Rattle.redo_laws.proofs.Citing.{◌≡◌, ◌⊎◌, List, [], arith, ap, append-nil, ⊤, Result, Ok, Err, OnOk, IfErr, IsErrOf, stages_as, stages_then, cache_of, rules, Stages, PageStore, CacheOp, StepsMachine, StagesFor, next_group, after_works, staged_by_works, SameReads, State, Log, Flash, Disk, Stop, Device, Worn}
use Rattle.redo_laws.proofs.Costs.{more_next}
use Rattle.redo_laws.proofs.AskingUndo.{not_worn_flash}

pub never_worn_flash : {A : Type 0} (r : Result A Stop) → IfErr r (λ stop. (stop ≡ Device Log) ⊎ (stop ≡ Worn Log)) → IsErrOf r (Worn Flash) → ⊥
never_worn_flash (Ok x) stops is = cc
never_worn_flash (Err stop) stops is = let equal : stop ≡ Worn Flash = cc in not_worn_flash stop stops equal

-- between calls that read no page
pub asks_around : {A B : Type 0} (r : Result A Stop) (s : Result B Stop) (works : List CacheOp) (pages pages' : PageStore) (old mid flushed new : State) → SameReads old mid → SameReads flushed new →
    OnOk s (cache_of pages' ≡ after_works (rules pages) works (cache_of pages)) → Stages {T = ⊤} (Ok tt) [] (next_group (cache_of pages)) pages pages old mid → Stages s (staged_by_works (rules pages) works (cache_of pages)) (next_group (after_works (rules pages) works (cache_of pages))) pages pages' mid new →
    StepsMachine r works pages pages' mid flushed → StepsMachine s works pages pages' old new
asks_around r s works pages pages' old mid flushed new first last machine still later asks =
    record {
      machine = machine;
      reads = record { flash = omega (arith, first Flash, last Flash, asks.reads.flash); disk = omega (arith, first Disk, last Disk, asks.reads.disk) };
      rules_are = asks.rules_are;
      stages = stages_then (λ has. more_next (rules pages) [] works (cache_of pages) has.room) still later;
    }

-- what is written behind a flush that was Ok
pub flush_then : {A B : Type 0} {a : A} {r : Result B Stop} (works : List CacheOp) {pages pages' : PageStore} {old mid new : State} → cache_of pages' ≡ after_works (rules pages) works (cache_of pages) → StagesFor {T = A} (Ok a) works pages pages' old mid →
    Stages r [] (next_group (cache_of pages')) pages' pages' mid new → StagesFor r works pages pages' old new
flush_then works {pages = pages} machine one still =
    stages_as (append-nil (staged_by_works (rules pages) works (cache_of pages))) (ap next_group machine) (stages_then (λ has. omega (arith, ap next_group machine)) one still)
