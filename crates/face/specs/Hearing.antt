-- What is heard of the input, over every honest site, whatever stands on its devices.
use Rattle.std.specs.Prelude.{◌≡◌, ◌≢◌, ℕ, ◌+◌, ◌≤◌, Bool, true, false, List, [], ◌++◌, length, take, Result, OnOk}
use Rattle.std.specs.Prelude.{IfErr}
use Rattle.std.specs.List.{list_any}
use Rattle.site.specs.State.{State as Site}
use Rattle.record_model.specs.Run.{is_quit}
use Rattle.front_end.specs.declared.halt.Halt.{Halt}
use Rattle.front_end.specs.declared.halt.Halt.TheVariants.{Limit}
use Rattle.front_end.specs.Lines.{HeardAll, commands_of, limit}

-- these are more octets than a run may take, and there is no quit among the first of them
abbrev pub IsTooLong : List ℕ → Type 0
IsTooLong octets = (length octets ≡ limit + 1) × (list_any is_quit (commands_of false (take limit octets)) ≡ false)

-- these octets were taken, and the input is said to have ended only where nothing of it is left
pub record HasTaken (octets : List ℕ) (ended : Bool) (old now : Site) : Type 0 where
  pub taken : old.input.left ≡ octets ++ now.input.left
  pub end : ended ≡ true → now.input.left ≡ []

-- A run ends with 0 only where it has heard the input to its end or to a quit, and with 7 exactly where it has taken
-- one octet more than it may take, and there was no quit before.
pub record HearsInTime (status : ℕ) (old now : Site) : Type 0 where
  pub octets : List ℕ
  pub ended : Bool
  pub has_taken : HasTaken octets ended old now
  pub all : status ≡ 0 → HeardAll ended octets
  pub over : status ≡ 7 → IsTooLong octets
  pub within : status ≢ 7 → length octets ≤ limit

-- the same of a run before its fault line
abbrev pub EndsHearing : Halt → List ℕ → Type 0
EndsHearing Limit octets = IsTooLong octets
EndsHearing _ octets = length octets ≤ limit

pub record WorkHears {T : Type 0} (result : Result T Halt) (old now : Site) : Type 0 where
  pub octets : List ℕ
  pub ended : Bool
  pub has_taken : HasTaken octets ended old now
  pub all : OnOk result (HeardAll ended octets × (length octets ≤ limit))
  pub stops : IfErr result (λ halt. EndsHearing halt octets)
