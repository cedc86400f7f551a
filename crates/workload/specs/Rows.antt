-- Numbers and scripts that were worked out by hand.
use Rattle.std.specs.Prelude.{◌≡◌, ℕ, List, [], ◌∷◌, length, replicate, map, slice_get, codes, Some, None}
use Rattle.std.specs.List.{concat}
use Rattle.workload.specs.declared.scripts.Life.{Life}
use Rattle.workload.specs.Generator.{following, record_of, value_of}
use Rattle.workload.specs.Scripts.{stop_of, lives_of}

-- the first number behind 1 sets record 470 of 512
abbrev pub FirstOfOne : Type 0
FirstOfOne = (following 1 ≡ 7806831264735756412) × (record_of (following 1) 512 ≡ 470)
    × (value_of (following 1) ≡ 108 ∷ 87 ∷ 111 ∷ 172 ∷ 67 ∷ 253 ∷ 0 ∷ 124 ∷ [])

-- a life
abbrev pub ended : ℕ → ℕ → ℕ → ℕ → Life
ended start end k seed = record { start = start; end = end; stop = Some (k, seed) }

abbrev pub last : ℕ → ℕ → Life
last start end = record { start = start; end = end; stop = None }

-- two stop lines make three lives
abbrev pub ThreeLives : Type 0
ThreeLives = lives_of (codes "set 0 aa\nstop 1000 1\nstop 8 1\nget 0\n")
    ≡ ended 0 9 1000 1 ∷ ended 21 21 8 1 ∷ last 30 36 ∷ []

-- a script without octets is one life
abbrev pub OneLife : Type 0
OneLife = lives_of [] ≡ last 0 0 ∷ []

-- the last line may end one too, without a newline
abbrev pub EndsWithoutNewline : Type 0
EndsWithoutNewline = lives_of (codes "get 0\nstop 2 0") ≡ ended 0 6 2 0 ∷ last 14 14 ∷ []

-- lines that end no life
abbrev pub no_stops : List (List ℕ)
no_stops = codes "stop 5 01" ∷ codes "stop 05 1" ∷ codes "stop 5" ∷ codes "stop 5 0 " ∷ codes "stop 5  0"
    ∷ codes "stop 5 0 1" ∷ codes " stop 5 0"
    ∷ codes "Stop 5 0" ∷ codes "stop 1000000000 0" ∷ codes "stop -1 0" ∷ codes "stop" ∷ [] ∷ []

abbrev pub NoStops : Type 0
NoStops = map stop_of no_stops ≡ replicate 12 None

-- of 32 stop lines the last one ends none
abbrev pub many_stops : List ℕ
many_stops = concat (replicate 32 (codes "stop 1 1\n"))

abbrev pub AtMost31 : Type 0
AtMost31 = (length (lives_of many_stops) ≡ 32) × (slice_get (lives_of many_stops) 31 ≡ Some (last 279 288))
