-- Writes and syncs of the disk, in sequence.
use Rattle.std.proofs.Common.{◌∙◌, ap}
use Rattle.std.specs.Prelude.{Result, Ok, Err, OnErr}
use Rattle.site.specs.declared.outside.Dev.TheVariants.{Disk}
use Rattle.site.specs.declared.outside.Stop.{Stop}
use Rattle.site.specs.State.{State}
use Rattle.site.specs.Faults.{after_work}
use Rattle.site.proofs.Laws.{goes_in_sequence, fault_since}
use Rattle.disk_pages.specs.Calls.{WritesDisk}

on_err_weaker : {T E : Type 0} (r : Result T E) {P Q : Type 0} → (P → Q) → OnErr r P → OnErr r Q
on_err_weaker (Ok x) f p = tt
on_err_weaker (Err e) f p = f p

-- one call behind others that were Ok
pub writes_then : {A B : Type 0} (x : A) (r : Result B Stop) (a b c : State) → WritesDisk {T = A} (Ok x) a b → WritesDisk r b c → WritesDisk r a c
writes_then x r a b c first second = record {
  preserves = goes_in_sequence a b c first.preserves second.preserves;
  faults = second.faults ∙ ap (after_work r) first.faults;
  reads = λ d. second.reads d ∙ first.reads d;
  device = on_err_weaker r (fault_since Disk a b c first.preserves) second.device;
  stops = second.stops;
}
