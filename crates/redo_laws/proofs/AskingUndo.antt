-- What undo asks of the cache: calls on the log alone, and one Update after the other.
use Rattle.std.proofs.lemmas.Grind.{common_steps}
use Rattle.redo_laws.proofs.Citing.{◌≡◌, ◌⊎◌, inl, inr, ◌+◌, ◌*◌, ◌<◌, ◌≤◌, true, List, [], ◌∷◌, ◌++◌, append_assoc, append-nil, Some, arith, refl, sym, ap, ◌∙◌, ℕ, cons_option, Result, Ok, Err, OnOk, option_map, ⊤, Entry, number_of, stages_err, stages_as, stages_then, cache_of, rules, with_change, Stages, PageStore, CacheOp, touch, page_of, write_touch, next_group, one_touch, one_change, ReadsFor, StepsMachine, works_of, Rules, Cache, touched, staged_by_works, ok_as, SameReads, State, reads_of, Dev, Log, Flash, Disk, Stop, Device, Worn, Foreign}
use Rattle.std.proofs.Common.{◌≢◌, Option}
use Rattle.std.proofs.lemmas.List.Elements.{filter_map-append}
use Rattle.redo_laws.proofs.Costs.{reads_add_up, more_next, touch_then_change}
use Rattle.redo_laws.proofs.Asking.{change_reads, change_stages, asks_stopped}

-- Calls on the log alone.

-- neither the flash nor the disk is read
pub record SameElse (before now : State) : Type 0 where
  pub flash : now.flash_reads ≡ before.flash_reads
  pub disk : now.disk_reads ≡ before.disk_reads

pub log_alone : (before now : State) → ((d : Dev) → d ≢ Log → reads_of d now ≡ reads_of d before) → SameElse before now
log_alone before now others = record { flash = others Flash (λ h. cc); disk = others Disk (λ h. cc) }

pub none_read : (before now : State) → SameReads before now → SameElse before now
none_read before now same = record { flash = same Flash; disk = same Disk }

no_reads_else : (r : Rules) (cache : Cache) (before now : State) → SameElse before now → ReadsFor r [] cache before now
no_reads_else r cache before now same = record { flash = omega (arith, same.flash); disk = omega (arith, same.disk) }

-- why a call on the log stops
pub not_worn_flash : (stop : Stop) → (stop ≡ Device Log) ⊎ (stop ≡ Worn Log) → stop ≢ Worn Flash
not_worn_flash stop (inl device) = λ worn. cc
not_worn_flash stop (inr log) = λ worn. cc

pub not_worn_either : (stop : Stop) → (stop ≡ Device Log) ⊎ ((stop ≡ Worn Log) ⊎ (stop ≡ Foreign)) → stop ≢ Worn Flash
not_worn_either stop (inl device) = λ worn. cc
not_worn_either stop (inr (inl log)) = λ worn. cc
not_worn_either stop (inr (inr foreign)) = λ worn. cc

-- a call that stops before it asks for anything
pub asks_refused : {T : Type 0} (stop : Stop) (works : List CacheOp) (pages : PageStore) (before now : State) → 1 ≤ (rules pages).groups → SameElse before now →
    Stages {T = T} (Err stop) [] (next_group (cache_of pages)) pages pages before now → StepsMachine {T = T} (Err stop) works pages pages before now
asks_refused {T} stop works pages before now some same stages =
    asks_stopped {A = T} stop [] works pages pages before now some
    (record { machine = tt; reads = no_reads_else (rules pages) (cache_of pages) before now same; rules_are = refl; stages = stages })

-- a call that reads the log before it asks
pub asks_later : {T : Type 0} (result : Result T Stop) (works : List CacheOp) (old new : PageStore) (before between now : State) → SameElse before between → Stages {T = ⊤} (Ok tt) [] (next_group (cache_of old)) old old before between →
    StepsMachine result works old new between now → StepsMachine result works old new before now
asks_later result works old new before between now same still asks = record {
  machine = asks.machine;
  reads = reads_add_up (rules old) [] works (cache_of old) before between now (no_reads_else (rules old) (cache_of old) before between same) asks.reads;
  rules_are = asks.rules_are;
  stages = stages_then (λ has. more_next (rules old) [] works (cache_of old) has.room) still asks.stages;
}

-- One Update.

-- its page is touched, which stops
pub change_stopped : {A B : Type 0} (stop : Stop) (page : ℕ) (old new : PageStore) (before now : State) → 1 ≤ (rules old).groups →
    StepsMachine {T = A} (Err stop) (one_touch page) old new before now → StepsMachine {T = B} (Err stop) (one_change page) old new before now
change_stopped stop page old new before now some asks = grind (arith, change_reads, change_stages, stages_err)

-- and changed then
pub change_made : {A B : Type 0} (a : A) (result : Result B Stop) (page : ℕ) (old mid new : PageStore) (before between now : State) → 1 ≤ (rules old).groups →
    StepsMachine {T = A} (Ok a) (one_touch page) old mid before between → OnOk result (cache_of new ≡ with_change (cache_of mid)) → rules new ≡ rules mid → SameReads between now →
    Stages result [] (next_group (cache_of mid)) mid new between now → StepsMachine result (one_change page) old new before now
change_made a result page old mid new before between now some asks changed same read still =
    let there : with_change (cache_of mid) ≡ touched (rules old) page true (cache_of old) = ap with_change asks.machine ∙ sym (touch_then_change (rules old) page (cache_of old)) in
    let none = none_read between now read in
    record {
      machine = ok_as result _ _ (λ is. is ∙ there) changed;
      reads = grind (arith, common_steps, change_reads);
      rules_are = same ∙ asks.rules_are;
      stages = change_stages result page old new before now some
          (stages_as (append-nil (staged_by_works (rules old) (one_touch page) (cache_of old))) (ap next_group asks.machine) (stages_then (λ has. omega (arith, ap next_group asks.machine)) asks.stages still));
    }

pub page_is : (page slot : ℕ) → slot < 32 → page_of (32 * page + slot) ≡ page
page_is page slot less = omega (arith, less)

-- the work of the Update itself
pub work_is : (u : Entry) (page slot : ℕ) → slot < 32 → number_of u.rec ≡ Some (32 * page + slot) → one_change page ≡ works_of (u ∷ [])
work_is u page slot less is =
    ap (λ (n : ℕ). touch n true ∷ []) (sym (page_is page slot less)) ∙ sym (ap (λ (o : Option ℕ). cons_option (option_map write_touch o) []) is)

-- More Updates.

-- all that are left: those that were undone, the next one, and the others
pub works_are : (done rest : List Entry) (u : Entry) → works_of (done ++ u ∷ rest) ≡ (works_of done ++ works_of (u ∷ [])) ++ works_of rest
works_are done rest u = grind (arith, append_assoc, filter_map-append)
