-- The content of a master unit.
use Rattle.std.specs.Prelude.{◌≡◌, ℕ, zero, suc, ◌-◌, ◌^◌, ◌<◌, ◌≤◌, List, [], ◌∷◌, ◌++◌, length, take, drop, replicate}
use Rattle.std.specs.Prelude.{get_or}
use Rattle.std.specs.List.{AllByRecursion}
use Rattle.std.specs.Int.{w64, from_be_bytes, to_be_bytes}
use Rattle.checkpoint.specs.declared.TheConstants.{UNIT_LEN}
use Rattle.checkpoint.specs.declared.master.Master.{Master}
use Rattle.checkpoint.specs.declared.pairs.Pair.{Pair}
use Rattle.checkpoint.specs.Actives.{Ascend, FitsFields, spelling_of_all}

-- the three numbers, how many transactions were active, and these
unfoldable pub spelling : Master → List ℕ
spelling m = to_be_bytes w64 m.redo ++ to_be_bytes w64 m.kept ++ to_be_bytes w64 m.commits ++ length m.active ∷ []
    ++ spelling_of_all m.active

-- zeros follow
unfoldable pub unit : Master → List ℕ
unit m = spelling m ++ replicate (UNIT_LEN - length (spelling m)) 0

-- a content is a master's unit
pub record IsUnit (content : List ℕ) (m : Master) : Type 0 where
  pub spelled : content ≡ unit m
  pub few : length m.active ≤ 8
  pub ascend : Ascend m.active
  -- the numbers fit their fields
  pub redo : m.redo < 2 ^ 64
  pub kept : m.kept < 2 ^ 64
  pub commits : m.commits < 2 ^ 64
  pub fit : AllByRecursion FitsFields m.active

-- the number in eight octets from a place on
abbrev pub number_at : List ℕ → ℕ → ℕ
number_at octets at = from_be_bytes w64 (take 8 (drop at octets))

-- so many pairs, one after the other
unfoldable pub pairs_in : ℕ → List ℕ → List Pair
pairs_in zero octets = []
pairs_in (suc n) octets = record { begin = number_at octets 0; last = number_at octets 8 } ∷ pairs_in n (drop 16 octets)

-- the master that a unit's octets say
unfoldable pub master_in : List ℕ → Master
master_in content = record {
  redo = number_at content 0;
  kept = number_at content 8;
  commits = number_at content 16;
  active = pairs_in (get_or content 24 0) (drop 25 content);
}
