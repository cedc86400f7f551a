-- The numbers of the generator, by which workloads are made and names find their homes.
use Rattle.std.specs.Prelude.{ℕ, ◌+◌, ◌*◌, ◌%◌, ◌^◌}

-- the number after another one
abbrev pub following : ℕ → ℕ
following x = (x * 6364136223846793005 + 1442695040888963407) % 2 ^ 64
