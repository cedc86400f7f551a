-- How many changes earlier lives of a site in memory asked for.
use Rattle.std.specs.Prelude.{ℕ, List, min, take}
use Rattle.mem_site.specs.declared.lives.Lives.{Lives}

-- the numbers, oldest first
abbrev pub lives_in : Lives → List ℕ
lives_in l = take (min l.count 31) l.numbers
