-- How a script is cut into lives.
use Rattle.std.specs.Prelude.{ℕ, ◌+◌, min, true, List, [], ◌∷◌, length, take, drop, codes, Option, Some, None}
use Rattle.std.specs.Prelude.{if◌then◌else◌}
use Rattle.std.specs.Str.{bytes_eq}
use Rattle.shell_text.specs.Reading.{words_of, number_of}
use Rattle.shell_text.specs.Runs.{lines_of}
use Rattle.workload.specs.declared.scripts.Life.{Life}
use Rattle.workload.specs.declared.scripts.StopLine.{StopLine}
use Rattle.workload.specs.declared.lives.TheConstants.{STOPS_MAX}

-- both of two numbers, if they are there
abbrev pub pair_of : Option ℕ → Option ℕ → Option (ℕ × ℕ)
pair_of (Some k) (Some seed) = Some (k, seed)
pair_of _ _ = None

-- what the words of a stop line say: the word stop, then K and SEED
abbrev pub stop_in : List (List ℕ) → Option (ℕ × ℕ)
stop_in (name ∷ k ∷ seed ∷ []) = if bytes_eq name (codes "stop") then pair_of (number_of k) (number_of seed) else None
stop_in _ = None

abbrev pub stop_of : List ℕ → Option (ℕ × ℕ)
stop_of line = stop_in (words_of line)

-- a line that begins at a place, put in front where it is a stop line
abbrev pub with_stop : ℕ → ℕ → Option (ℕ × ℕ) → List StopLine → List StopLine
with_stop from next None stops = stops
with_stop from next (Some (k, seed)) stops = record { from = from; next = next; limit = k; seed = seed } ∷ stops

-- the stop lines among lines, of which the first begins at a place
abbrev pub stops_among : ℕ → List (List ℕ) → List StopLine
stops_among at [] = []
stops_among at (line ∷ lines) =
    with_stop at (at + length line + 1) (stop_of line) (stops_among (at + length line + 1) lines)

-- the stop lines of a script from a place on
abbrev pub stops_from : List ℕ → ℕ → List StopLine
stops_from script at = stops_among at (lines_of true (drop at script))

-- the lives that stop lines end, from a place on, and the last one, which goes to the end
abbrev pub lives_between : ℕ → List StopLine → ℕ → List Life
lives_between start [] end = record { start = min start end; end = end; stop = None } ∷ []
lives_between start (stop ∷ stops) end = record { start = start; end = stop.from; stop = Some (stop.limit, stop.seed) }
    ∷ lives_between stop.next stops end

-- the lives of a script: as many stop lines as may end one do
abbrev pub lives_of : List ℕ → List Life
lives_of script = lives_between 0 (take STOPS_MAX (stops_from script 0)) (length script)
