-- The places that a directory keeps, one for each page.
use Rattle.std.specs.Prelude.{◌≡◌, ℕ, ◌==◌, nat_eq, List, Option, Some, None, option_map, if◌then◌else◌}
use Rattle.std.specs.Option.{option_or}
use Rattle.indexmap.specs.IndexMap.{IndexMap, get}
use Rattle.second_chance.specs.declared.frame.Frame.{Frame}
use Rattle.second_chance.specs.Queue.{Queue}
use Rattle.flash_directory.specs.declared.place.Place.{Place}
use Rattle.flash_directory.specs.Heads.{last_in, place_in, newest}

-- A page has an entry exactly where it has a frame, and the entry is the place of its last frame.
abbrev pub FindsNewest : {S : Type 0} → IndexMap ℕ Place S → Queue → Type 0
FindsNewest places queue = (page : ℕ) → get nat_eq places page ≡ newest queue page

-- a place in another group than this one
abbrev pub elsewhere : ℕ → Option Place → Option Place
elsewhere number None = None
elsewhere number (Some place) = if place.group == number then None else Some place

-- the place of a page's last frame, once a group of this number stands behind the others
abbrev pub newer : ℕ → List Frame → ℕ → Option Place → Option Place
newer number group page before = option_or (option_map (place_in number) (last_in 0 group page)) before
