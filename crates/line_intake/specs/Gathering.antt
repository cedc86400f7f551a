-- How a line is gathered from a piece of an input.
use Rattle.std.specs.Prelude.{◌≡◌, ◌≢◌, ℕ, ◌+◌, List, [], ◌∷◌, ◌++◌, length, take, drop, Option, Some, None, IfSome}
use Rattle.std.specs.List.{AllByRecursion}

-- what stands in a piece behind the octets of a line: its newline and all behind it, or nothing
abbrev pub from_newline : Option ℕ → List ℕ → List ℕ
from_newline (Some place) piece = 10 ∷ drop (place + 1) piece
from_newline None piece = []

-- A piece begins with these octets of a line, none of them a newline, and then comes the newline or the piece's end. As
-- far as there is room they are put behind what stood in the line.
pub record Gathers (room : ℕ) (piece : List ℕ) (newline : Option ℕ) (old new : List ℕ) : Type 0 where
  pub octets : List ℕ
  pub none : AllByRecursion (λ x. x ≢ 10) octets
  pub all : piece ≡ octets ++ from_newline newline piece
  pub place : IfSome newline (λ place. place ≡ length octets)
  pub line : new ≡ take room (old ++ octets)
