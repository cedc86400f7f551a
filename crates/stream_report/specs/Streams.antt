-- Which input is an archive, of how many commits, and which of its lines is the first that isn't accepted.
use Rattle.std.specs.Prelude.{◌≡◌, ℕ, ◌+◌, ◌^◌, ◌≤◌, true, List, ◌∷◌, ◌++◌, length, codes, decimal}
use Rattle.shell_text.specs.Runs.{lines_of}
use Rattle.log_archive.specs.Accepted.{Accepted, AfterLine, Stream, blank_stream, commits_in}

-- an input of more octets isn't heard to its end
abbrev pub most : ℕ
most = 2 ^ 40

-- these lines are all accepted
abbrev pub AreAccepted : ℕ → List (List ℕ) → Type 0
AreAccepted pages lines = (now : Stream) × Accepted pages lines (blank_stream pages) now

-- The octets of an input are an archive that begins with a blank database of so many pages, and has so many commits.
pub record IsArchiveOf (pages : ℕ) (octets : List ℕ) (count : ℕ) : Type 0 where
  pub now : Stream
  pub accepted : Accepted pages (lines_of true octets) (blank_stream pages) now
  pub count_is : count ≡ commits_in now
  pub few : length octets ≤ most

-- Among the lines of an input, counted from 1, the one of this number is the first that isn't accepted.
pub record IsFirstBad (pages : ℕ) (octets : List ℕ) (number : ℕ) : Type 0 where
  pub before : List (List ℕ)
  pub line : List ℕ
  pub behind : List (List ℕ)
  pub lines : lines_of true octets ≡ before ++ line ∷ behind
  pub number_is : number ≡ length before + 1
  pub mid : Stream
  pub accepted : Accepted pages before (blank_stream pages) mid
  pub bad : (now : Stream) → AfterLine pages line mid now → ⊥

-- what is told of an archive, and of one that isn't
abbrev pub verified_line : ℕ → List ℕ
verified_line count = codes "verified " ++ decimal count ++ codes "\n"

abbrev pub bad_line : ℕ → List ℕ
bad_line number = codes "fault stream " ++ decimal number ++ codes "\n"
