-- What telling a line does.
use Rattle.std.specs.Prelude.{◌≡◌, ◌⊎◌, List, ℕ, [], ◌++◌, take, flat_map, slice_index_or, IsTrue, Result, OnOk, OnErr}
use Rattle.std.specs.List.{concat}
use Rattle.site.specs.State.{State, Moment}
use Rattle.site.specs.Calls.{Preserves, SameReads, Rose}
use Rattle.site.specs.Faults.{TellFaults}
use Rattle.site.specs.Moments.{EachMoment}
use Rattle.site.specs.Telling.{HandsLine, HandsRest, TellsPart, SameDevices}
use Rattle.site.specs.declared.outside.Failed.{Failed}

-- one of these lines is being told behind these octets: those before it are told whole
abbrev pub HandsOneOf : List (List ℕ) → List ℕ → Moment → Type 0
HandsOneOf lines so_far moment =
    (whole : ℕ) × HandsLine (slice_index_or lines whole []) (so_far ++ concat (take whole lines)) moment

-- within a tell it is
abbrev pub HandsLines : List (List ℕ) → List ℕ → Moment → Type 0
HandsLines lines so_far moment = (moment.telling ≡ []) ⊎ HandsOneOf lines so_far moment

-- the text is told, or after an error a front of it, and nothing else is done
pub record TellsText {T : Type 0} (text : List ℕ) (old new : State) (result : Result T Failed) : Type 0 where
  pub any_moment : IsTrue old.honest → EachMoment old new (TellsPart text old)
  pub told : IsTrue old.honest → OnOk result (new.told ≡ old.told ++ text)
  pub devices : IsTrue old.honest → SameDevices old new
  pub cause : OnErr result (Rose old.output_faults new.output_faults)
  pub reads : SameReads old new
  pub preserves : Preserves old new
  pub faults : TellFaults result old new

-- so is the line, and each call is handed all that is left of it
pub record Tells {T : Type 0} (line : List ℕ) (old new : State) (result : Result T Failed) : Type 0 where
  pub text : TellsText line old new result
  pub open text use *
  pub hands : IsTrue old.honest → EachMoment old new (HandsRest line old)

-- Behind what was told before, this line comes last: all of it where no tell has failed, and else a front of it.
pub record EndsWith (before line : List ℕ) (old new : State) : Type 0 where
  pub part : ℕ
  pub told : new.told ≡ before ++ take part line
  pub whole : ¬ (Rose old.output_faults new.output_faults) → take part line ≡ line

-- it comes behind some of these texts, each of them whole
abbrev pub EndsBehind : List (List ℕ) → List ℕ → State → State → Type 0
EndsBehind texts line old new =
    (whole : ℕ) × EndsWith (old.told ++ flat_map (λ text. text) (take whole texts)) line old new
