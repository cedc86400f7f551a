-- The line that is told last.
use Rattle.std.proofs.Common.{◌≡◌, ℕ, List, [], ◌++◌, length, take, refl, sym, ◌∙◌, ap, subst, arith, IsTrue}
use Rattle.std.specs.Prelude.{Err, Ok, Result, OnErr, OnOk, flat_map}
use Rattle.std.proofs.lemmas.List.{append-nil, take_all}
use Rattle.site.specs.State.{State}
use Rattle.site.specs.Calls.{Preserves, Rose}
use Rattle.site.specs.Moments.{EachMoment}
use Rattle.site.specs.Telling.{TellsPart}
use Rattle.site.proofs.Laws.{goes_nowhere, rose_since}
use Rattle.site.specs.declared.outside.Failed.{Failed}
use Rattle.front_end.specs.declared.halt.Halt.{Halt}
use Rattle.front_end.specs.declared.halt.Halt.TheVariants as halt
use Rattle.site.specs.declared.outside.Stop.TheVariants.{Foreign}
use Rattle.front_end.specs.Tells.{EndsBehind, EndsWith, Tells}
use Rattle.front_end.specs.Texts.{fault_line, status_of}
use Rattle.front_end.specs.Refusals.{OnlyTells, RefusesDevices, foreign_fault}

-- told by one call, behind calls that told `before`
pub ends_with : {T : Type 0} (before line : List ℕ) (old mid new : State) (result : Result T Failed) → Preserves old mid → IsTrue mid.honest → mid.told ≡ before → Tells line mid new result → EndsWith before line old new
ends_with before line old mid new result goes honest is tells = by result (tells.told honest) tells.cause
  where
    moments : EachMoment mid new (TellsPart line mid)
    moments = tells.any_moment honest

    front : (k : ℕ) × (new.told ++ take 0 [] ≡ mid.told ++ take k line)
    front = moments.now.told 0

    by : {T : Type 0} (r : Result T Failed) → OnOk r (new.told ≡ mid.told ++ line) → OnErr r (Rose mid.output_faults new.output_faults) → EndsWith before line old new
    by (Ok x) told cause = record {
      part = length line;
      told = told ∙ ap (λ (l : List ℕ). l ++ line) is ∙ ap (λ (l : List ℕ). before ++ l) (sym (take_all (length line) line (omega arith)));
      whole = λ none. take_all (length line) line (omega arith);
    }
    by (Err e) told cause = record {
      part = front.0;
      told = sym (append-nil new.told) ∙ front.1 ∙ ap (λ (l : List ℕ). l ++ take front.0 line) is;
      whole = λ none. absurd (none (rose_since old.output_faults mid.output_faults new.output_faults goes.output_faults cause));
    }

-- nothing but the line
pub only_tells : {T : Type 0} (line : List ℕ) (old new : State) (result : Result T Failed) → Tells line old new result → OnlyTells line old new
only_tells line old new result tells = record {
  any_moment = tells.any_moment;
  hands = tells.hands;
  ends = λ honest. ends_with old.told line old old new result (goes_nowhere old) honest refl tells;
  devices = tells.devices;
  reads = tells.reads;
}

-- devices without sizes
pub refuses_devices : {T : Type 0} (h : Halt) (status : ℕ) (old mid new : State) (result : Result T Failed) → status ≡ status_of h → (h ≡ halt.Stop Foreign) × (mid ≡ old) → Tells (fault_line h) mid new result → RefusesDevices status old new
refuses_devices h status old mid new result is halts tells = (
  is ∙ ap status_of halts.0,
  subst (λ (m : State). OnlyTells foreign_fault m new) halts.1 (subst (λ (l : List ℕ). OnlyTells l mid new) (ap fault_line halts.0) (only_tells (fault_line h) mid new result tells)),
)

-- nothing more is told
pub ends_done : (before : List ℕ) (old new : State) → new.told ≡ before → EndsWith before [] old new
ends_done before old new is = record { part = 0; told = is ∙ sym (append-nil before); whole = λ none. refl }

-- behind all of the texts
pub ends_whole : (texts : List (List ℕ)) (old new : State) → new.told ≡ old.told ++ flat_map (λ (x : List ℕ). x) texts → EndsBehind texts [] old new
ends_whole texts old new told = (
  length texts,
  ends_done (old.told ++ flat_map (λ (x : List ℕ). x) (take (length texts) texts)) old new
      (told ∙ ap (λ (l : List (List ℕ)). old.told ++ flat_map (λ (x : List ℕ). x) l) (sym (take_all (length texts) texts (omega arith)))),
)
