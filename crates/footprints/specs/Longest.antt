-- How long the longest value of a record is that footprints tell of, and what a page may need.
use Rattle.std.specs.Prelude.{◌≡◌, ◌≢◌, ℕ, ◌+◌, ◌-◌, ◌*◌, ◌≤◌, ◌==◌, max, List, [], ◌∷◌, length, take, filter, sum_by}
use Rattle.std.specs.Prelude.{All, Contains, Option, Some, None, unwrap_or, slice_index_or, slice_set, if◌then◌else◌}
use Rattle.std.specs.List.{flat_map, reduce, range_with_len}
use Rattle.footprints.specs.declared.footprint.Footprint.{Footprint}

-- the footprints of a session among those of all, the last one last
abbrev pub of_session : List (List Footprint) → ℕ → List Footprint
of_session standing session = slice_index_or standing session []

-- the lengths that footprints on a record tell of: of what stood there and of what was written
abbrev pub lengths_on : ℕ → List Footprint → List ℕ
lengths_on number footprints =
    flat_map (λ f. f.stood ∷ f.written ∷ []) (filter (λ f. f.number == number) footprints)

-- the same, of all sessions
abbrev pub lengths : List (List Footprint) → ℕ → List ℕ
lengths standing number = flat_map (lengths_on number) standing

-- the greatest of these lengths, and none where the record has no footprint
abbrev pub longest : List (List Footprint) → ℕ → Option ℕ
longest standing number = reduce max (lengths standing number)

-- the greatest of numbers, and none where there are none
abbrev pub IsGreatest : List ℕ → Option ℕ → Type 0
IsGreatest numbers None = numbers ≡ []
IsGreatest numbers (Some greatest) = Contains numbers greatest × All (λ number. number ≤ greatest) numbers

-- no other session has a footprint on the record
abbrev pub IsOnlyOf : List (List Footprint) → ℕ → ℕ → Type 0
IsOnlyOf standing session number =
    (other : ℕ) → other ≢ session → lengths_on number (of_session standing other) ≡ []

-- how long a record's value is at most, whichever sessions are undone, where it has so many octets now
abbrev pub footprint : List (List Footprint) → ℕ → ℕ → ℕ
footprint standing number now = unwrap_or (longest standing number) now

-- The same of a record of a page, by the lengths that its 32 records have now, where the record in a slot is to have a
-- value of this length.
abbrev pub need_in : List (List Footprint) → ℕ → List ℕ → ℕ → ℕ → ℕ → ℕ
need_in standing page now slot length i =
    if i == slot then max (footprint standing (32 * page + i) (slice_index_or now i 0)) length
    else footprint standing (32 * page + i) (slice_index_or now i 0)

-- the octets that the page's values need at most
abbrev pub need : List (List Footprint) → ℕ → List ℕ → ℕ → ℕ → ℕ
need standing page now slot length = sum_by (need_in standing page now slot length) (range_with_len 0 32)

-- A session's last footprint is gone, where it had one. All others are as before.
abbrev pub Drops : List (List Footprint) → List (List Footprint) → ℕ → Type 0
Drops old new session =
    new ≡ slice_set old session (take (length (of_session old session) - 1) (of_session old session))
