-- What follows for those who read scripts.
use Rattle.std.specs.Prelude.{◌≡◌, ◌↔◌, ◌⊎◌, ℕ, zero, suc, true, List, [], ◌∷◌, ◌++◌, drop, slice_range, codes, decimal}
use Rattle.std.specs.Prelude.{Some, None}
use Rattle.std.specs.List.{AllByRecursion, join_with_byte}
use Rattle.shell_text.specs.Grammar.{IsNumber}
use Rattle.shell_text.specs.Runs.{lines_of}
use Rattle.workload.specs.declared.scripts.Life.{Life}
use Rattle.workload.specs.declared.lives.TheConstants.{STOPS_MAX}
use Rattle.workload.specs.Scripts.{stop_of, lives_of}

-- a stop line with these numbers: its words with one space between them
abbrev pub stop_text : ℕ → ℕ → List ℕ
stop_text k seed = join_with_byte 32 (codes "stop" ∷ decimal k ∷ decimal seed ∷ [])

-- a line is read as a stop line exactly where it is one
abbrev pub StopLinesAreRead : Type 0
StopLinesAreRead = (line : List ℕ) (k seed : ℕ)
    → (stop_of line ≡ Some (k, seed)) ↔ (IsNumber k × IsNumber seed × (line ≡ stop_text k seed))

-- the lines of a life, and those of the script from a place on
abbrev pub lines_in : List ℕ → Life → List (List ℕ)
lines_in script life = lines_of true (slice_range script life.start life.end)

abbrev pub lines_from : List ℕ → ℕ → List (List ℕ)
lines_from script at = lines_of true (drop at script)

-- none of these lines is a stop line
abbrev pub HaveNoStop : List (List ℕ) → Type 0
HaveNoStop lines = AllByRecursion (λ line. stop_of line ≡ None) lines

-- Behind a life's lines, none of which is a stop line, comes one, with the numbers that the life has, and then the next
-- life's.
pub record IsEnded (script : List ℕ) (life next : Life) : Type 0 where
  pub k : ℕ
  pub seed : ℕ
  pub says : life.stop ≡ Some (k, seed)
  pub are_numbers : IsNumber k × IsNumber seed
  pub lines : lines_from script life.start ≡ lines_in script life ++ stop_text k seed ∷ lines_from script next.start
  pub no_stop : HaveNoStop (lines_in script life)

-- The last life has all lines that are left, and where more of them might end a life there is no stop line among them.
pub record IsLast (script : List ℕ) (life : Life) (many : ℕ) : Type 0 where
  pub stop : life.stop ≡ None
  pub lines : lines_from script life.start ≡ lines_in script life
  pub no_stop : (many ≡ 0) ⊎ HaveNoStop (lines_in script life)

-- These are the lives of a script, the first of them and those behind it, of which so many may be ended by stop lines.
abbrev pub AreLives : List ℕ → Life → List Life → ℕ → Type 0
AreLives script life [] many = IsLast script life many
AreLives script life (next ∷ lives) zero = ⊥
AreLives script life (next ∷ lives) (suc many) = IsEnded script life next × AreLives script next lives many

pub record IsCut (script : List ℕ) : Type 0 where
  pub first : Life
  pub others : List Life
  pub lives : lives_of script ≡ first ∷ others
  pub begins : first.start ≡ 0
  pub are_lives : AreLives script first others STOPS_MAX

abbrev pub ScriptsAreCut : Type 0
ScriptsAreCut = (script : List ℕ) → IsCut script
