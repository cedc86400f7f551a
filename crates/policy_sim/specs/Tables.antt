-- The places of the pages' last frames, in a table by the pages' numbers.
use Rattle.std.specs.Prelude.{◌≡◌, ℕ, false, List, Option, Some, None, slice_index_or, if◌then◌else◌}
use Rattle.second_chance.specs.Queue.{Queue}
use Rattle.flash_directory.specs.declared.place.Place.{Place}
use Rattle.flash_directory.specs.Heads.{newest}
use Rattle.policy_sim.specs.declared.table.Slot.{Slot}

abbrev pub no_slot : Slot
no_slot = record { some = false; index = 0; group = 0 }

abbrev pub place_of : Slot → Option Place
place_of slot = if slot.some then Some (record { group = slot.group; index = slot.index }) else None

-- the place that the table has of a page, and none where it isn't so long
abbrev pub at_page : List Slot → ℕ → Option Place
at_page slots page = place_of (slice_index_or slots page no_slot)

-- the table has a page's place exactly where the page has a frame, and it is that of its last frame
abbrev pub PlacesNewest : List Slot → Queue → Type 0
PlacesNewest slots queue = (page : ℕ) → at_page slots page ≡ newest queue page
