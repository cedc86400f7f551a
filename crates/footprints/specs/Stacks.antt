-- The stacks of footprints, and the map of the longest lengths.
use Rattle.std.specs.Prelude.{◌≡◌, ℕ, nat_eq, max, List, [], ◌∷◌, ◌++◌, length, map}
use Rattle.std.specs.List.{reduce}
use Rattle.indexmap.specs.IndexMap.{IndexMap, get}
use Rattle.footprints.specs.declared.footprint.Footprint.{Footprint}
use Rattle.footprints.specs.declared.stack.Standing.{Standing}
use Rattle.footprints.specs.Longest.{lengths_on, longest, IsOnlyOf}

-- the footprints on a stack
abbrev pub shown : List Standing → List Footprint
shown stack = map (λ s. s.footprint) stack

-- Each footprint on a stack, behind these earlier ones, knows the longest length on its record before it.
abbrev pub Remember : List Footprint → List Standing → Type 0
Remember earlier [] = Unit {0}
Remember earlier (s ∷ later) =
    (s.before ≡ reduce max (lengths_on s.footprint.number earlier)) × Remember (earlier ++ s.footprint ∷ []) later

-- There are eight stacks, each record has footprints of one session at most, and the map has its longest length.
pub record AreStacks {S : Type 0} (map : IndexMap ℕ ℕ S) (stacks : List (List Footprint)) : Type 0 where
  pub eight : length stacks ≡ 8
  pub owned : (number : ℕ) → (owner : ℕ) × IsOnlyOf stacks owner number
  pub longest : (number : ℕ) → get nat_eq map number ≡ longest stacks number
