-- What a run asks of the devices, by how it ends.
use Rattle.face.proofs.Names.{◌≡◌, ℕ, ◌≤◌, List, [], length, sym, ap, subst, arith, Ok, Err, IsErrOf, HasDone, Resources, Run, answered, first_lines, turns_of, AsksNoMore, LeavesStaged, SkipsNoNumber, staged_by_run, Demands, WearsFirst, WearsNone, WearsNoneBefore, fault_line, Halt, calls_then, CallsForUnits, unsynced_in, SameReads, EachMoment, Site, Image, TellsPart, Dev, Worn}
use Rattle.face.proofs.Counted.{skips_still}
use Rattle.face.proofs.Writings.{last_told}
use Rattle.face.proofs.Pagings.{done_whole, few_told, leaves_staged}
use Rattle.face.proofs.WornRuns.{wears_none}
use Rattle.front_end.specs.declared.halt.Halt.TheVariants as halt

no_error : {T : Type 0} (x : T) (h : Halt) → IsErrOf {T = T} (Ok x) h → ⊥
no_error x h is = cc

pub same_halt : {T : Type 0} (h is : Halt) → IsErrOf {T = T} (Err h) is → h ≡ is
same_halt h is same = cc

module _ (pool : ℕ) (run : Run) (old new : Site) where
  pub demands_ok : {T : Type 0} (x : T) → WearsNone pool run old.image → HasDone pool run old.image new.image → LeavesStaged pool run old new → CallsForUnits run.geometry old new → SkipsNoNumber run old new → AsksNoMore pool run old new →
      Demands pool run old new (Ok x)
  demands_ok x room done staged calls numbers reads = grind (arith, no_error)

  pub demands_err : {T : Type 0} (h : Halt) → ((dev : Dev) → h ≡ halt.Stop (Worn dev) → WearsFirst pool run dev old.image) → SkipsNoNumber run old new → AsksNoMore pool run old new → Demands {T = T} pool run old new (Err h)
  demands_err {T} h worn numbers reads = record { worn = λ dev is. worn dev (same_halt {T = T} h (halt.Stop (Worn dev)) is); room = tt; done = tt; staged = tt; calls = tt; numbers = numbers; reads = reads }

-- an error of one call is that of another
pub demands_as : {T U : Type 0} (pool : ℕ) (run : Run) (old new : Site) (h : Halt) → Demands {T = U} pool run old new (Err h) → Demands {T = T} pool run old new (Err h)
demands_as pool run old new h d = demands_err pool run old new h (λ dev e. d.worn dev (ap Err e)) d.numbers d.reads

-- where something more is told
module _ (pool : ℕ) (run : Run) (old mid new : Site) (image : new.image ≡ mid.image) (reads : SameReads mid new) {piece : List ℕ} (tells : EachMoment mid new (TellsPart piece mid)) where
  still_reads : AsksNoMore pool run old mid → AsksNoMore pool run old new
  still_reads few newest blocks sound = few_told _ _ _ _ _ old mid new reads tells (few newest blocks sound)

  pub demands_done : {T U : Type 0} (x : T) (y : U) → CallsForUnits run.geometry mid new → unsynced_in new.past ≡ unsynced_in mid.past → Demands pool run old mid (Ok x) → Demands pool run old new (Ok y)
  demands_done x y calls synced d = demands_ok pool run old new y d.room (subst (HasDone pool run old.image) (sym image) d.done)
      (λ newest blocks sound. last_told run.geometry _ _ _ piece old mid new (d.reads newest blocks sound).writes.grown tells synced (d.staged newest blocks sound))
      (calls_then run.geometry old mid new d.calls calls)
      (skips_still run piece old mid new tells d.numbers) (still_reads d.reads)

  pub demands_lost : {T U : Type 0} (x : T) → Demands pool run old mid (Ok x) → Demands {T = U} pool run old new (Err halt.Output)
  demands_lost x d = demands_err pool run old new halt.Output (λ dev e. cc) (skips_still run piece old mid new tells d.numbers) (still_reads d.reads)

  pub demands_failed : {T : Type 0} (h : Halt) → Demands {T = T} pool run old mid (Err h) → Demands {T = T} pool run old new (Err h)
  demands_failed h d = demands_err pool run old new h (λ dev e. d.worn dev (ap Err e)) (skips_still run piece old mid new tells d.numbers) (still_reads d.reads)

-- by the status, of a run of which so many lines were begun
module _ (pool : ℕ) (run : Run) (n : ℕ) (old new : Site) where
  pub asked_done : {T : Type 0} (x : T) → length (answered run) ≤ n → WearsNoneBefore pool run n old.image → Demands pool (first_lines run n) old new (Ok x) → Resources pool run n [] old new 0
  asked_done x all earlier d = record {
    worn = λ eight. absurd (omega (arith, eight));
    room = λ zero. wears_none pool run n all old.image d.room;
    earlier = earlier;
    done = λ zero. done_whole pool run n all old.image new.image d.done;
    staged = λ zero. leaves_staged pool run n all old new d.staged;
    calls = λ zero. d.calls;
    numbers = d.numbers;
    reads = d.reads;
  }

  pub asked_halted : {T : Type 0} (h : Halt) (status : ℕ) → (status ≡ 0 → ⊥) → (status ≡ 8 → (dev : Dev) × (h ≡ halt.Stop (Worn dev))) → WearsNoneBefore pool run n old.image → Demands {T = T} pool (first_lines run n) old new (Err h) → Resources pool run n (fault_line h) old new status
  asked_halted h status some worn earlier d = record {
    worn = λ eight. let w = worn eight in (w.0, ap fault_line w.1, d.worn w.0 (ap Err w.1));
    room = λ zero. absurd (some zero);
    earlier = earlier;
    done = λ zero. absurd (some zero);
    staged = λ zero. absurd (some zero);
    calls = λ zero. absurd (some zero);
    numbers = d.numbers;
    reads = d.reads;
  }
