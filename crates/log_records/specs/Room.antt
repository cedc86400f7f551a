-- How much of a page the values of its records take up.
use Rattle.std.specs.Prelude.{ℕ, ◌≤◌, List, ◌∷◌, map, filter, flat_map, sum_by}
use Rattle.record_model.specs.State.{Content, greatest, length_of, page_room, records_of}
use Rattle.log_records.specs.Log.{Entry, Version, is_on, before_of, shown}
use Rattle.log_records.specs.Unfinished.{left_open, losers}

-- so many octets for each record of a page, together
unfoldable pub total_on : ℕ → (ℕ → ℕ) → ℕ
total_on page lengths = sum_by lengths (records_of page)

-- the greatest length of these
abbrev pub longest : List Content → ℕ
longest contents = greatest (map length_of contents)

-- what undo may put back on a record: what stood there before each of its Updates that an unfinished transaction has
-- left open
abbrev pub put_back : List Entry → ℕ → List Content
put_back log number = map (λ u. before_of u.rec) (filter (is_on number) (flat_map (left_open log) (losers log)))

-- the octets that a record's slot needs until all that is unfinished is undone: those of what it shows once all records
-- are redone, and of all that undo may put back
abbrev pub open_length : List Entry → List Version → ℕ → ℕ
open_length log pages number = longest (shown log pages number ∷ put_back log number)

-- a page has room for that in all its slots
abbrev pub HasOpenRoom : List Entry → List Version → ℕ → Type 0
HasOpenRoom log pages page = total_on page (open_length log pages) ≤ page_room
