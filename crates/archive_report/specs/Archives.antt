-- The archive of a log from a block on, and what is told where it can't be had.
use Rattle.std.specs.Prelude.{◌≡◌, ◌⊎◌, ℕ, ◌+◌, ◌-◌, ◌≤◌, ◌<◌, List, [], ◌∷◌, ◌++◌, drop, codes, decimal}
use Rattle.site.specs.declared.geometry.Geometry.{Geometry}
use Rattle.site.specs.Geometry.{HasLimits, HasLengths}
use Rattle.site.specs.State.{Image}
use Rattle.sealed_ring.specs.declared.slots.Shape.{Shape}
use Rattle.sealed_ring.specs.Ring.{IsRing, Units}
use Rattle.image_changes.specs.Rings.{log_shape, units_on}
use Rattle.log_archive.specs.Lines.{block_text, end_text}

-- the lines of blocks, numbered on by one
abbrev pub block_lines : ℕ → List (List ℕ) → List (List ℕ)
block_lines number [] = []
block_lines number (content ∷ contents) = (block_text number content ++ codes "\n") ∷ block_lines (number + 1) contents

-- the number of the oldest live block, or of the next block where none lives
abbrev pub oldest_in : Shape → Units → ℕ
oldest_in s units = units.hi - (s.slots - 1)

-- the live blocks from a number on
abbrev pub blocks_from : Shape → Units → ℕ → List (List ℕ)
blocks_from s units from = block_lines from (drop (from - oldest_in s units) units.live)

-- and behind them the line with the number of the next block
abbrev pub archive_of : Shape → Units → ℕ → List (List ℕ)
archive_of s units from = blocks_from s units from ++ (end_text units.hi ++ codes "\n") ∷ []

abbrev pub gone_line : ℕ → List ℕ
gone_line oldest = codes "gone " ++ decimal oldest ++ codes "\n"

abbrev pub ahead_line : ℕ → List ℕ
ahead_line next = codes "ahead " ++ decimal next ++ codes "\n"

-- A status, and the lines that are told with it: the archive from a block on, or that this block lives no more, or that
-- it is behind the next one.
abbrev pub IsAnswer : Shape → Units → ℕ → ℕ → List (List ℕ) → Type 0
IsAnswer s units from status lines =
    ((oldest_in s units ≤ from) × (from ≤ units.hi) × (status ≡ 0) × (lines ≡ archive_of s units from))
    ⊎ (((from < oldest_in s units) × (status ≡ 12) × (lines ≡ gone_line (oldest_in s units) ∷ []))
    ⊎ ((units.hi < from) × (status ≡ 12) × (lines ≡ ahead_line units.hi ∷ [])))

-- devices of these sizes, with a log whose ring of blocks is of the form
pub record HasLog (g : Geometry) (image : Image) : Type 0 where
  pub limits : HasLimits g
  pub lengths : HasLengths g image
  pub form : IsRing (log_shape g) image.log

-- the devices have a log, and this is the answer of it
pub record Answers (from : ℕ) (image : Image) (status : ℕ) (lines : List (List ℕ)) : Type 0 where
  pub g : Geometry
  pub log : HasLog g image
  pub is : IsAnswer (log_shape g) (units_on (log_shape g) image) from status lines
