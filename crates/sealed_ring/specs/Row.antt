-- Units that stand in slots one behind the other, and their slots as they were read.
use Rattle.std.specs.Prelude.{◌≡◌, ℕ, ◌+◌, ◌-◌, ◌*◌, ◌%◌, ◌<◌, min, List, take, drop}
use Rattle.sealed_ring.specs.declared.slots.Shape.{Shape}
use Rattle.sealed_ring.specs.Ring.{first_number, number, Units, unit_at}

-- how many units below hi stand from n on in slots one behind the other, at most so many
abbrev pub in_row : Shape → ℕ → ℕ → ℕ → ℕ
in_row s hi n most = min (min most (hi - n)) (s.slots - n % s.slots)

-- whole slots one behind the other hold the contents of the units from n on
abbrev pub HaveContents : Shape → Units → ℕ → ℕ → List ℕ → Type 0
HaveContents s units n count slots =
    (i : ℕ) → i < count → take s.room (drop (i * s.stride + 9) slots) ≡ unit_at s units (n + i)

-- they hold the numbers from n on
abbrev pub HaveNumbers : Shape → ℕ → ℕ → List ℕ → Type 0
HaveNumbers s n count slots = (i : ℕ) → i < count → first_number (drop (i * s.stride + 1) slots) ≡ n + i

-- the slots of so many units from n on hold their numbers
abbrev pub StandInRow : Shape → ℕ → ℕ → List ℕ → Type 0
StandInRow s n count c = (i : ℕ) → i < count → number s c ((n + i) % s.slots) ≡ n + i
