-- The newest master of the devices.
use Rattle.std.specs.Prelude.{◌≡◌, ℕ, true, List, [], map, Option, Some, None}
use Rattle.site.specs.State.{Image}
use Rattle.log_records.specs.Log.{last_where}
use Rattle.log_records.specs.Sound as sound
use Rattle.image_changes.specs.Rings.{master_shape, units_on}
use Rattle.checkpoint.specs.declared.master.Master.{Master}
use Rattle.checkpoint.specs.Units.{IsUnit}

-- where no checkpoint was made redo begins with the first block, and no transaction was active
abbrev pub blank : Master
blank = record { redo = 0; kept = 0; commits = 0; active = [] }

-- the last of the live units
abbrev pub newest_of : List (List ℕ) → Option (List ℕ)
newest_of live = last_where (λ unit. true) live

-- the master of the newest unit, and the blank one where there is none
abbrev pub IsOf : Option (List ℕ) → Master → Type 0
IsOf None m = m ≡ blank
IsOf (Some content) m = IsUnit content m

-- the newest master of an image
abbrev pub HasMaster : Image → Master → Type 0
HasMaster image m = IsOf (newest_of (units_on master_shape image).live) m

-- a master as the laws of logs see it
abbrev pub seen : Master → sound.Master
seen m = record {
  redo = m.redo;
  kept = m.kept;
  commits = m.commits;
  active = map (λ pair. record { begin = pair.begin; last = pair.last }) m.active;
}
