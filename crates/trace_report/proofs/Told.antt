-- What is told, once the trace was heard.
use Rattle.std.proofs.Common.{◌≡◌, ◌⊎◌, ℕ, List, [], ◌++◌, take, refl, ◌∙◌, ap, arith, inl, inr, IsTrue}
use Rattle.std.specs.Prelude.{Result, Ok, Err, OnOk, OnErr}
use Rattle.std.proofs.lemmas.List.{take_all}
use Rattle.site.specs.State.{State, Moment, now_of}
use Rattle.site.specs.Calls.{Preserves, Rose, SameReads}
use Rattle.site.specs.Moments.{EachMoment}
use Rattle.site.specs.Telling.{TellsPart}
use Rattle.site.proofs.Laws.{no_call, calm, now_same, in_sequence, each_weaker, rose_since, rose_then, stays_honest}
use Rattle.site.specs.declared.outside.Failed.{Failed}
use Rattle.trace_report.specs.declared.halt.Halt.{Halt}
use Rattle.trace_report.specs.declared.halt.Halt.TheVariants as halt
use Rattle.trace_report.specs.Traces.{Touch, IsTrace, IsFirstWrong}
use Rattle.trace_report.specs.Reports.{report}
use Rattle.trace_report.specs.Hearing.{HearsOnly}
use Rattle.trace_report.specs.Contract.{HasCause, IsAnswer, SimulateContract, halt_line, halt_status}
use Rattle.trace_report.proofs.Cut.{never_both}

-- which answer it is
wrong_of : (groups pool : ℕ) (octets : List ℕ) (status : ℕ) (text : List ℕ) → IsAnswer groups pool octets status text → (number : ℕ) → IsFirstWrong octets number → (status ≡ 16) ⊎ ((status ≡ 4) ⊎ (status ≡ 5))
wrong_of groups pool octets status text (inl reported) number wrong = absurd (never_both _ _ _ reported.2 wrong)
wrong_of groups pool octets status text (inr (inl here)) number wrong = inl here.0
wrong_of groups pool octets status text (inr (inr (inl input))) number wrong = inr (inr input.0)
wrong_of groups pool octets status text (inr (inr (inr memory))) number wrong = inr (inl memory.0)

trace_of : (groups pool : ℕ) (octets : List ℕ) (status : ℕ) (text : List ℕ) → IsAnswer groups pool octets status text → (touches : List Touch) → IsTrace octets touches → (status ≡ 0) ⊎ ((status ≡ 4) ⊎ ((status ≡ 5) ⊎ (status ≡ 6)))
trace_of groups pool octets status text (inl reported) touches trace =
    elim reported.0 [
      | inl zero ↦ inl zero
      | inr six ↦ inr (inr (inr six))
    ]
trace_of groups pool octets status text (inr (inl here)) touches trace = absurd (never_both _ _ _ trace here.2)
trace_of groups pool octets status text (inr (inr (inl input))) touches trace = inr (inr (inl input.0))
trace_of groups pool octets status text (inr (inr (inr memory))) touches trace = inr (inl memory.0)

-- The trace was heard from old to mid, and the text told from mid to new.
pub record Tells (text : List ℕ) (mid new : State) (result : Result (Unit {0}) Failed) : Type 0 where
  pub any_moment : IsTrue mid.honest → EachMoment mid new (TellsPart text mid)
  pub told : IsTrue mid.honest → OnOk result (new.told ≡ mid.told ++ text)
  pub reads : SameReads mid new
  pub preserves : Preserves mid new
  pub cause : OnErr result (Rose mid.output_faults new.output_faults)

module _ (text : List ℕ) (old mid new : State) (goes : Preserves old mid) (same : IsTrue old.honest → HearsOnly old mid) where
  moments : IsTrue old.honest → EachMoment mid new (TellsPart text mid) → EachMoment old new (TellsPart text old)
  moments honest tells =
      let h = same honest in
      let before : TellsPart text old (now_of old) = record { image = refl; loose = refl; told = λ j. (0, ap (λ (l : List ℕ). old.told ++ l) (take_all j [] (omega arith))) } in
      let heard = calm _ _ _ _ (no_call _ _ before) h.past (now_same old mid h.told h.image h.loose) in
      in_sequence _ _ _ _ heard (each_weaker _ _ _ _ (λ (m : Moment) t. record {
        image = t.image ∙ h.image;
        loose = t.loose ∙ h.loose;
        told = λ j. let part = t.told j in (part.0, part.1 ∙ ap (λ (l : List ℕ). l ++ take part.0 text) h.told);
      }) tells)

  told_all : IsTrue old.honest → new.told ≡ mid.told ++ text → new.told ≡ old.told ++ text
  told_all honest told = told ∙ ap (λ (l : List ℕ). l ++ text) (same honest).told

  whole : (result : Result (Unit {0}) Failed) → IsTrue old.honest → OnOk result (new.told ≡ mid.told ++ text) → OnErr result (Rose mid.output_faults new.output_faults) → ¬ (Rose old.output_faults new.output_faults) → new.told ≡ old.told ++ text
  whole (Ok x) honest told cause none = told_all honest told
  whole (Err e) honest told cause none = absurd (none (rose_since _ _ _ goes.output_faults cause))

-- the contract, by what is known of the status
pub contract : (groups pool : ℕ) (text : List ℕ) (old mid new : State) (result : Result (Unit {0}) Failed) (status : ℕ) → Preserves old mid → (IsTrue old.honest → HearsOnly old mid) → SameReads old mid → Tells text mid new result
    → (IsTrue old.honest → IsAnswer groups pool old.input.left status text)
    → (IsTrue old.honest → status ≡ 0 → new.told ≡ old.told ++ text)
    → (status ≡ 0) ⊎ ((status ≡ 4) ⊎ ((status ≡ 5) ⊎ ((status ≡ 6) ⊎ (status ≡ 16))))
    → (status ≡ 5 → Rose old.input_faults mid.input_faults) → (status ≡ 6 → Rose mid.output_faults new.output_faults)
    → SimulateContract groups pool old new status
contract groups pool text old mid new result status goes same reads tells answer done others input output = record {
  text = text;
  answer = answer;
  any_moment = λ honest. moments _ _ _ _ goes same honest (tells.any_moment (stays_honest _ _ goes honest));
  whole = λ honest. whole text old mid new goes same _ honest (tells.told (stays_honest _ _ goes honest)) tells.cause;
  done = done;
  wrong = λ honest. wrong_of _ _ _ _ _ (answer honest);
  trace = λ honest. trace_of _ _ _ _ _ (answer honest);
  others = others;
  input = λ five. rose_then _ _ _ (input five) tells.preserves.input_faults;
  output = λ six. rose_since _ _ _ goes.output_faults (output six);
  reads = λ dev. tells.reads dev ∙ reads dev;
}

-- A report is told, or was to be told.

abbrev IsReport : ℕ → ℕ → List ℕ → List ℕ → Type 0
IsReport groups pool octets text = (touches : List Touch) × IsTrace octets touches × (text ≡ report groups pool touches)

pub told_report : (groups pool : ℕ) (text : List ℕ) (old mid new : State) (x : Unit {0}) → Preserves old mid → (IsTrue old.honest → HearsOnly old mid) → SameReads old mid → Tells text mid new (Ok x)
    → (IsTrue old.honest → IsReport groups pool old.input.left text) → SimulateContract groups pool old new 0
told_report groups pool text old mid new x goes same reads tells is =
    contract _ _ _ _ _ _ _ _ goes same reads tells
    (λ honest. let r = is honest in inl (inl refl, r.0, r.1, r.2))
    (λ honest zero. told_all text old mid new goes same honest (tells.told (stays_honest _ _ goes honest)))
    (inl refl) (λ bad. absurd (omega (arith, bad))) (λ bad. absurd (omega (arith, bad)))

pub untold_report : (groups pool : ℕ) (text : List ℕ) (old mid new : State) (e : Failed) → Preserves old mid → (IsTrue old.honest → HearsOnly old mid) → SameReads old mid → Tells text mid new (Err e)
    → (IsTrue old.honest → IsReport groups pool old.input.left text) → SimulateContract groups pool old new 6
untold_report groups pool text old mid new e goes same reads tells is =
    contract _ _ _ _ _ _ _ _ goes same reads tells
    (λ honest. let r = is honest in inl (inr refl, r.0, r.1, r.2))
    (λ honest bad. absurd (omega (arith, bad)))
    (inr (inr (inr (inl refl)))) (λ bad. absurd (omega (arith, bad))) (λ six. tells.cause)

-- No report is told.

halt_answer : (groups pool : ℕ) (h : Halt) (old mid : State) → HasCause h old mid → IsTrue old.honest → IsAnswer groups pool old.input.left (halt_status h) (halt_line h)
halt_answer groups pool x2 old mid cause honest = grind arith

halt_not_zero : (h : Halt) → halt_status h ≡ 0 → ⊥
halt_not_zero halt.Memory bad = omega (arith, bad)
halt_not_zero halt.Input bad = omega (arith, bad)
halt_not_zero (halt.Trace number) bad = omega (arith, bad)

halt_not_six : (h : Halt) → halt_status h ≡ 6 → ⊥
halt_not_six halt.Memory bad = omega (arith, bad)
halt_not_six halt.Input bad = omega (arith, bad)
halt_not_six (halt.Trace number) bad = omega (arith, bad)

halt_input : (h : Halt) (old mid : State) → HasCause h old mid → halt_status h ≡ 5 → Rose old.input_faults mid.input_faults
halt_input halt.Memory old mid cause bad = absurd (omega (arith, bad))
halt_input halt.Input old mid cause five = cause
halt_input (halt.Trace number) old mid cause bad = absurd (omega (arith, bad))

halt_others : (h : Halt) → let status = halt_status h in (status ≡ 0) ⊎ ((status ≡ 4) ⊎ ((status ≡ 5) ⊎ ((status ≡ 6) ⊎ (status ≡ 16))))
halt_others halt.Memory = inr (inl refl)
halt_others halt.Input = inr (inr (inl refl))
halt_others (halt.Trace number) = inr (inr (inr (inr refl)))

pub told_halt : (groups pool : ℕ) (h : Halt) (old mid new : State) (result : Result (Unit {0}) Failed) → Preserves old mid → (IsTrue old.honest → HearsOnly old mid) → SameReads old mid → Tells (halt_line h) mid new result
    → HasCause h old mid → SimulateContract groups pool old new (halt_status h)
told_halt groups pool h old mid new result goes same reads tells cause =
    contract _ _ _ _ _ _ _ _ goes same reads tells
    (halt_answer _ _ _ _ _ cause) (λ honest bad. absurd (halt_not_zero _ bad)) (halt_others _) (halt_input _ _ _ cause) (λ bad. absurd (halt_not_six _ bad))
