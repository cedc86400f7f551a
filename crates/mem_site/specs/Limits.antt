-- Which changes a site in memory lets pass.
use Rattle.std.specs.Prelude.{◌+◌, ℕ, Bool, false, ◌||◌, nat_lt, if◌then◌else◌, Option, None, Some, List, [], ◌∷◌}
use Rattle.mem_site.specs.declared.limits.Gate.{Gate}
use Rattle.mem_site.specs.declared.limits.Gate.TheVariants.{Open, Blown, Over}
use Rattle.mem_site.specs.declared.limits.Limits.{Limits}

-- a fuse as a number
abbrev pub code_of : Option ℕ → ℕ
code_of None = 0
code_of (Some n) = n + 1

-- the fuse has blown
abbrev pub is_past : Option ℕ → ℕ → Bool
is_past None changes = false
is_past (Some n) changes = nat_lt n changes

-- a change with this number doesn't pass
abbrev pub is_barred : ℕ → Option ℕ → Bool
is_barred changes last = nat_lt 10000 changes || is_past last changes

-- a call may have failed: a call was named or a blown fuse renewed, memory lacked, or a change was barred
abbrev pub is_spent : Limits → Bool
is_spent l = l.excused || (l.lacked || is_barred l.changes l.last)

-- what no call of the trait changes
abbrev pub fixed_in : Limits → List ℕ
fixed_in l = code_of l.last ∷ (if l.excused then 1 else 0) ∷ []

-- whether the change that was counted last passes
abbrev pub gate_at : Limits → Bool → Gate
gate_at l named = if nat_lt 10000 l.changes then Over else (if named || is_past l.last l.changes then Blown else Open)
