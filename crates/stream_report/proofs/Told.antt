-- What is told, once the input was heard.
use Rattle.std.proofs.Common.{◌≡◌, ◌⊎◌, ℕ, ◌+◌, List, [], ◌++◌, length, take, refl, sym, ◌∙◌, ap, arith, inl, inr, IsTrue}
use Rattle.std.specs.Prelude.{Result, Ok, Err, OnOk, OnErr}
use Rattle.std.proofs.lemmas.List.{take_all}
use Rattle.site.specs.State.{State, Input, Moment, now_of}
use Rattle.site.specs.Calls.{Preserves, Rose, SameReads}
use Rattle.site.specs.Moments.{EachMoment}
use Rattle.site.specs.Telling.{TellsPart}
use Rattle.site.proofs.Laws.{no_call, calm, now_same, in_sequence, each_weaker, rose_since, rose_then, stays_honest}
use Rattle.site.specs.declared.outside.Failed.{Failed}
use Rattle.stream_report.specs.declared.halt.Halt.{Halt}
use Rattle.stream_report.specs.declared.halt.Halt.TheVariants as halt
use Rattle.stream_report.specs.Streams.{AreAccepted, IsArchiveOf, IsFirstBad, most, verified_line}
use Rattle.stream_lines.specs.Lines.{AsksFor, HearsOnly}
use Rattle.stream_report.specs.Contract.{HasCause, IsAnswer, VerifyContract, halt_line, halt_status}
use Rattle.stream_report.proofs.Heard.{never_both}

-- which answer it is
bad_of : (pages : ℕ) (octets left : List ℕ) (status : ℕ) (text : List ℕ) → IsAnswer pages octets left status text → (number : ℕ) → IsFirstBad pages octets number → (status ≡ 13) ⊎ ((status ≡ 4) ⊎ ((status ≡ 5) ⊎ (status ≡ 7)))
bad_of pages octets left status text (inl (zero, count, archive, is)) number wrong = absurd (never_both pages octets count number archive wrong)
bad_of pages octets left status text (inr (inl here)) number wrong = inl here.0
bad_of pages octets left status text (inr (inr (inl limit))) number wrong = inr (inr (inr limit.0))
bad_of pages octets left status text (inr (inr (inr (inl input)))) number wrong = inr (inr (inl input.0))
bad_of pages octets left status text (inr (inr (inr (inr memory)))) number wrong = inr (inl memory.0)

archive_of : (pages : ℕ) (octets left : List ℕ) (status : ℕ) (text : List ℕ) → IsAnswer pages octets left status text → (count : ℕ) → IsArchiveOf pages octets count → (status ≡ 0) ⊎ ((status ≡ 4) ⊎ ((status ≡ 5) ⊎ (status ≡ 6)))
archive_of pages octets left status text (inl (inl zero, told, is, text_is)) count archive = inl zero
archive_of pages octets left status text (inl (inr six, told, is, text_is)) count archive = inr (inr (inr six))
archive_of pages octets left status text (inr (inl (is, number, wrong, told))) count archive = absurd (never_both pages octets count number archive wrong)
archive_of pages octets left status text (inr (inr (inl (is, long, told)))) count archive = let few = archive.few in absurd (omega (arith, few, long))
archive_of pages octets left status text (inr (inr (inr (inl input)))) count archive = inr (inr (inl input.0))
archive_of pages octets left status text (inr (inr (inr (inr memory)))) count archive = inr (inl memory.0)

-- The input was heard from old to mid, and the text told from mid to new.
pub record Tells (text : List ℕ) (mid new : State) (result : Result (Unit {0}) Failed) : Type 0 where
  pub any_moment : IsTrue mid.honest → EachMoment mid new (TellsPart text mid)
  pub told : IsTrue mid.honest → OnOk result (new.told ≡ mid.told ++ text)
  pub input : IsTrue mid.honest → new.input ≡ mid.input
  pub reads : SameReads mid new
  pub preserves : Preserves mid new
  pub cause : OnErr result (Rose mid.output_faults new.output_faults)

module _ (text : List ℕ) (old mid new : State) (goes : Preserves old mid) (same : IsTrue old.honest → HearsOnly old mid) where
  moments : IsTrue old.honest → EachMoment mid new (TellsPart text mid) → EachMoment old new (TellsPart text old)
  moments honest tells =
      let h = same honest in
      let before : TellsPart text old (now_of old) = record { image = refl; loose = refl; told = λ j. (0, ap (λ (l : List ℕ). old.told ++ l) (take_all j [] (omega arith))) } in
      let heard = calm _ _ _ _ (no_call _ _ before) h.past (now_same old mid h.told h.image h.loose) in
      in_sequence _ _ _ _ heard (each_weaker _ _ _ _ (λ (m : Moment) t. record {
        image = t.image ∙ h.image;
        loose = t.loose ∙ h.loose;
        told = λ j. let part = t.told j in (part.0, part.1 ∙ ap (λ (l : List ℕ). l ++ take part.0 text) h.told);
      }) tells)

  told_all : IsTrue old.honest → new.told ≡ mid.told ++ text → new.told ≡ old.told ++ text
  told_all honest told = told ∙ ap (λ (l : List ℕ). l ++ text) (same honest).told

  whole : (result : Result (Unit {0}) Failed) → IsTrue old.honest → OnOk result (new.told ≡ mid.told ++ text) → OnErr result (Rose mid.output_faults new.output_faults) → ¬ (Rose old.output_faults new.output_faults) → new.told ≡ old.told ++ text
  whole (Ok x) honest told cause none = told_all honest told
  whole (Err e) honest told cause none = absurd (none (rose_since _ _ _ goes.output_faults cause))

-- the contract, by what is known of the status
pub contract : (pages : ℕ) (text : List ℕ) (old mid new : State) (result : Result (Unit {0}) Failed) (status : ℕ) → Preserves old mid → (IsTrue old.honest → HearsOnly old mid) → Tells text mid new result
    → (IsTrue old.honest → IsAnswer pages old.input.left new.input.left status text)
    → (IsTrue old.honest → status ≡ 0 → new.told ≡ old.told ++ text)
    → (status ≡ 0) ⊎ ((status ≡ 4) ⊎ ((status ≡ 5) ⊎ ((status ≡ 6) ⊎ ((status ≡ 7) ⊎ (status ≡ 13)))))
    → (status ≡ 5 → Rose old.input_faults mid.input_faults) → (status ≡ 6 → Rose mid.output_faults new.output_faults)
    → (IsTrue old.honest → AsksFor (AreAccepted pages) old mid) → VerifyContract pages old new status
contract pages text old mid new result status goes same tells answer done others input output asks = record {
  text = text;
  answer = answer;
  any_moment = λ honest. moments _ _ _ _ goes same honest (tells.any_moment (stays_honest _ _ goes honest));
  whole = λ honest. whole text old mid new goes same _ honest (tells.told (stays_honest _ _ goes honest)) tells.cause;
  done = done;
  bad = λ honest. bad_of _ _ _ _ _ (answer honest);
  archive = λ honest. archive_of _ _ _ _ _ (answer honest);
  others = others;
  input = λ five. rose_then _ _ _ (input five) tells.preserves.input_faults;
  output = λ six. rose_since _ _ _ goes.output_faults (output six);
  reads = λ honest dev. tells.reads dev ∙ (same honest).reads dev;
  asks = λ honest.
      let a = asks honest in
      record { takes = a.takes; are = ap (λ (x : Input). x.takes) (tells.input (stays_honest _ _ goes honest)) ∙ a.are; each = a.each };
}

-- The count is told, or was to be told.

abbrev IsCount : ℕ → List ℕ → List ℕ → Type 0
IsCount pages octets text = (count : ℕ) × IsArchiveOf pages octets count × (text ≡ verified_line count)

pub told_count : (pages : ℕ) (text : List ℕ) (old mid new : State) (x : Unit {0}) → Preserves old mid → (IsTrue old.honest → HearsOnly old mid) → Tells text mid new (Ok x)
    → (IsTrue old.honest → AsksFor (AreAccepted pages) old mid) → (IsTrue old.honest → IsCount pages old.input.left text) → VerifyContract pages old new 0
told_count pages text old mid new x goes same tells asks is =
    contract _ _ _ _ _ _ _ goes same tells
    (λ honest. let r = is honest in inl (inl refl, r.0, r.1, r.2))
    (λ honest zero. told_all text old mid new goes same honest (tells.told (stays_honest _ _ goes honest)))
    (inl refl) (λ bad. absurd (omega (arith, bad))) (λ bad. absurd (omega (arith, bad))) asks

pub untold_count : (pages : ℕ) (text : List ℕ) (old mid new : State) (e : Failed) → Preserves old mid → (IsTrue old.honest → HearsOnly old mid) → Tells text mid new (Err e)
    → (IsTrue old.honest → AsksFor (AreAccepted pages) old mid) → (IsTrue old.honest → IsCount pages old.input.left text) → VerifyContract pages old new 6
untold_count pages text old mid new e goes same tells asks is =
    contract _ _ _ _ _ _ _ goes same tells
    (λ honest. let r = is honest in inl (inr refl, r.0, r.1, r.2))
    (λ honest bad. absurd (omega (arith, bad)))
    (inr (inr (inr (inl refl)))) (λ bad. absurd (omega (arith, bad))) (λ six. tells.cause) asks

-- No count is told.

halt_answer : (pages : ℕ) (h : Halt) (old mid new : State) → HasCause pages h old mid → IsTrue old.honest → new.input.left ≡ mid.input.left → IsAnswer pages old.input.left new.input.left (halt_status h) (halt_line h)
halt_answer pages halt.Memory old mid new cause honest same = inr (inr (inr (inr (refl, refl))))
halt_answer pages halt.Input old mid new cause honest same = inr (inr (inr (inl (refl, refl))))
halt_answer pages halt.Limit old mid new cause honest same = inr (inr (inl (refl, cause honest ∙ ap (λ l. most + 1 + length l) (sym same), refl)))
halt_answer pages (halt.Stream number) old mid new cause honest same = inr (inl (refl, number, cause honest, refl))

halt_not_zero : (h : Halt) → halt_status h ≡ 0 → ⊥
halt_not_zero halt.Memory bad = omega (arith, bad)
halt_not_zero halt.Input bad = omega (arith, bad)
halt_not_zero halt.Limit bad = omega (arith, bad)
halt_not_zero (halt.Stream number) bad = omega (arith, bad)

halt_not_six : (h : Halt) → halt_status h ≡ 6 → ⊥
halt_not_six halt.Memory bad = omega (arith, bad)
halt_not_six halt.Input bad = omega (arith, bad)
halt_not_six halt.Limit bad = omega (arith, bad)
halt_not_six (halt.Stream number) bad = omega (arith, bad)

halt_input : (pages : ℕ) (h : Halt) (old mid : State) → HasCause pages h old mid → halt_status h ≡ 5 → Rose old.input_faults mid.input_faults
halt_input pages halt.Memory old mid cause bad = absurd (omega (arith, bad))
halt_input pages halt.Input old mid cause five = cause
halt_input pages halt.Limit old mid cause bad = absurd (omega (arith, bad))
halt_input pages (halt.Stream number) old mid cause bad = absurd (omega (arith, bad))

halt_others : (h : Halt) → let status = halt_status h in (status ≡ 0) ⊎ ((status ≡ 4) ⊎ ((status ≡ 5) ⊎ ((status ≡ 6) ⊎ ((status ≡ 7) ⊎ (status ≡ 13)))))
halt_others halt.Memory = inr (inl refl)
halt_others halt.Input = inr (inr (inl refl))
halt_others halt.Limit = inr (inr (inr (inr (inl refl))))
halt_others (halt.Stream number) = inr (inr (inr (inr (inr refl))))

pub told_halt : (pages : ℕ) (h : Halt) (old mid new : State) (result : Result (Unit {0}) Failed) → Preserves old mid → (IsTrue old.honest → HearsOnly old mid) → Tells (halt_line h) mid new result
    → (IsTrue old.honest → AsksFor (AreAccepted pages) old mid) → HasCause pages h old mid → VerifyContract pages old new (halt_status h)
told_halt pages h old mid new result goes same tells asks cause =
    contract _ _ _ _ _ _ _ goes same tells
    (λ honest. halt_answer pages h old mid new cause honest (ap (λ (x : Input). x.left) (tells.input (stays_honest _ _ goes honest)))) (λ honest bad. absurd (halt_not_zero _ bad)) (halt_others _) (halt_input _ _ _ _ cause) (λ bad. absurd (halt_not_six _ bad)) asks
