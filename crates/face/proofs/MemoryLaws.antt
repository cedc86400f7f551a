-- Where memory is wanted before anything is done.
use Rattle.face.proofs.Names.{inl, ℕ, [], refl, sym, subst, arith, true, Err, Result, Load, Stands, LeavesTable, IsGood, Headline, LoadHeadline, LoadTellsDone, LoadWorks, Run, first_lines, NeverOpens, run_of, LoadContract, RunContract, NewContract, RunOutcome, load_run, summary_text, LacksMemory, memory_fault, Tells, Halt, Serial, State, numbers_rise, goes_nowhere, no_call, told_is, image_is, Leaves, LeavesOnly, Site, Image, now_of, Geometry, Failed, Memory}
use Rattle.face.proofs.Pagings.{none_read}
use Rattle.front_end.specs.New.{New, NewCauses}
use Rattle.face.proofs.Counted.{counts_nothing}
use Rattle.face.proofs.Demanded.{demands_err}
use Rattle.face.proofs.Dones.{silent_start}
use Rattle.face.proofs.ToldFaults.{tells_fault}
use Rattle.face.proofs.LoadFaults.{load_contract, load_halted, stopped_before}
use Rattle.face.proofs.Loadings.{load_never_opened}
use Rattle.face.proofs.CauseLaws.{status_causes}
use Rattle.face.proofs.Ends.{never_opened}
use Rattle.face.proofs.RunsSoFar.{not_opened}
use Rattle.face.proofs.Faults.{halted, run_contract}
use Rattle.face.proofs.Meanings.{stands_by}
use Rattle.front_end.specs.declared.halt.Halt.TheVariants as halt

abbrev lacks : Halt
lacks = halt.Stop Memory

-- a crash meanwhile leaves what stands there
still : (g : Geometry) (opening : State) (old : Site) → IsGood g opening old → LeavesOnly old old (LeavesTable g opening.table opening.commits old.told)
still g opening old good =
    no_call old (Leaves (LeavesTable g opening.table opening.commits old.told)) (λ s left. record {
      told = told_is old s left;
      stands = subst (λ (x : Image). Stands g x opening.table opening.commits) (sym (image_is (now_of old) s good.quiet left)) (stands_by g old.image opening good.opens);
    })

-- nothing was done
never : (pool : ℕ) (run : Run) (old : Site) → IsGood run.geometry run.opening old → NeverOpens pool run old old lacks
never pool run old good = record {
  stops = not_opened run old old (still run.geometry run.opening old good) lacks (λ ne. good.quiet);
  tells = silent_start pool run old old (still run.geometry run.opening old good);
  demands = demands_err pool (first_lines run 0) old old lacks (λ dev e. cc) (counts_nothing run old good.quiet)
      (λ newest blocks sound. none_read pool run.geometry _ _ old numbers_rise (let least = sound.octets.limits.groups in omega (arith, least)) good.quiet);
}

pub lacked_headline : Serial → (pool : ℕ) (g : Geometry) (opening : State) (old new : Site) → {T : Type 0} (result : Result T Failed) → IsGood g opening old → Tells memory_fault old new result → Headline pool g opening old new 4
lacked_headline law pool g opening old new result good tells =
    let run = run_of g opening true old.input.left [] in
    let works : RunOutcome {T = ℕ} pool run old old (Err lacks) = never_opened pool run old old lacks (never pool run old good) (λ e. cc, λ e. cc) refl in
    halted pool g opening [] old law old new lacks good works (goes_nowhere old) result tells tt 4 refl

-- the same of a load
pub lacked_load : (load : Load) (g : Geometry) (opening : State) (old new : Site) → {T : Type 0} (result : Result T Failed) → IsGood g opening old → Tells memory_fault old new result → LoadHeadline load g opening old new 4
lacked_load load g opening old new result good tells =
    let run = load_run g opening load in
    let works : LoadWorks {T = ℕ} load.pool run (summary_text run load) old old (Err lacks) =
    stopped_before load.pool run (summary_text run load) old {T = ℕ} old lacks (load_never_opened g opening load old old lacks (never load.pool run old good) refl) in
    load_halted load g opening old good old new lacks works (no_call old (LoadTellsDone load.pool run (summary_text run load) [] old) (inl (inl refl))) (goes_nowhere old) result tells tt 4 refl

-- the contracts of a run and of a load
pub lacked_run : Serial → (pool : ℕ) (old new : Site) → {T : Type 0} (result : Result T Failed) → Tells memory_fault old new result → RunContract pool old new 4
lacked_run law pool old new result tells = run_contract pool old new 4
    (λ g opening good. lacked_headline law pool g opening old new result good tells)
    (status_causes lacks 4 old new refl tt) (λ honest. tells_fault lacks 4 old old new result refl tt (goes_nowhere old) honest tells)

pub lacked_load_run : (load : Load) (old new : Site) → {T : Type 0} (result : Result T Failed) → Tells memory_fault old new result → LoadContract load old new 4
lacked_load_run load old new result tells = load_contract load old new 4
    (λ g opening good. lacked_load load g opening old new result good tells)
    (status_causes lacks 4 old new refl tt) (λ e. omega (arith, e), λ e. omega (arith, e)) (λ honest. tells_fault lacks 4 old old new result refl tt (goes_nowhere old) honest tells)

module _ (status : ℕ) (old new : Site) (l : LacksMemory status old new) where
  pub lacked_new : (g : Geometry) → New g old new status
  lacked_new g = grind arith

  pub lacked_new_causes : (g : Geometry) → NewCauses g old new status
  lacked_new_causes g = grind arith

  pub lacked_contract : (g : Geometry) → NewContract g old new status
  lacked_contract g = record { does = lacked_new g; causes = lacked_new_causes g }
