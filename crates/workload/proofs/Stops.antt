-- The stop lines of a script, and its lives.
use Rattle.std.proofs.Common.{◌≡◌, ℕ, zero, suc, ◌+◌, ◌-◌, ◌<◌, Bool, true, false, List, [], ◌∷◌, length, take, Option, Some, None, refl, ap, ◌∙◌, arith}
use Rattle.std.specs.Prelude.{min, slice_get, if◌then◌else◌}
use Rattle.workload.specs.declared.scripts.Life.{Life}
use Rattle.workload.specs.declared.scripts.StopLine.{StopLine}
use Rattle.workload.specs.Scripts.{stops_from, lives_between}

-- Lives.

-- the life at a place, of those from a number and a start on, which stop lines end of which so many count
abbrev pub life_from : List ℕ → ℕ → ℕ → ℕ → Option Life
life_from script start many place = slice_get (lives_between start (take many (stops_from script start)) (length script)) place

abbrev pub last_from : List ℕ → ℕ → Life
last_from script start = record { start = min start (length script); end = length script; stop = None }

only_at : (life : Life) (place : ℕ) (wanted : Bool) → (wanted ≡ true → place ≡ 0) → (wanted ≡ false → 0 < place) → slice_get (life ∷ []) place ≡ (if wanted then Some life else None)
only_at life zero true here more = refl
only_at life zero false here more = absurd (omega (arith, more refl))
only_at life (suc place) true here more = absurd (omega (arith, here refl))
only_at life (suc place) false here more = refl

-- where no stop line is left that counts, the last life is the only one
pub last_is : (script : List ℕ) (start many place : ℕ) (wanted : Bool) → stops_from script start ≡ [] → (wanted ≡ true → place ≡ 0) → (wanted ≡ false → 0 < place) →
    life_from script start many place ≡ (if wanted then Some (last_from script start) else None)
last_is script start zero place wanted none here more = only_at (last_from script start) place wanted here more
last_is script start (suc many) place wanted none here more =
    ap (λ (stops : List StopLine). slice_get (lives_between start (take (suc many) stops) (length script)) place) none ∙ only_at (last_from script start) place wanted here more

pub last_by_count : (script : List ℕ) (start many place : ℕ) (wanted : Bool) → many ≡ 0 → (wanted ≡ true → place ≡ 0) → (wanted ≡ false → 0 < place) →
    life_from script start many place ≡ (if wanted then Some (last_from script start) else None)
last_by_count script start many place wanted none here more = ap (λ (n : ℕ). life_from script start n place) none ∙ only_at (last_from script start) place wanted here more

-- the life that a stop line ends, and those behind it
lives_more : (script : List ℕ) (start many left : ℕ) (stop : StopLine) → stops_from script start ≡ stop ∷ stops_from script stop.next → many ≡ suc left →
    lives_between start (take many (stops_from script start)) (length script)
    ≡ record { start = start; end = stop.from; stop = Some (stop.limit, stop.seed) } ∷ lives_between stop.next (take left (stops_from script stop.next)) (length script)
lives_more script start many left stop all count = λ i. lives_between start (take (count i) (all i)) (length script)

pub life_here : (script : List ℕ) (start many place : ℕ) (stop : StopLine) → stops_from script start ≡ stop ∷ stops_from script stop.next → 0 < many → place ≡ 0 →
    life_from script start many place ≡ Some (record { start = start; end = stop.from; stop = Some (stop.limit, stop.seed) })
life_here script start many place stop all some here =
    let parts : many ≡ suc (many - 1) = omega (arith, some) in
    (λ i. slice_get (lives_more script start many (many - 1) stop all parts i) (here i))

pub life_behind : (script : List ℕ) (start many left place rest : ℕ) (stop : StopLine) → stops_from script start ≡ stop ∷ stops_from script stop.next → many ≡ left + 1 → place ≡ rest + 1 →
    life_from script start many place ≡ life_from script stop.next left rest
life_behind script start many left place rest stop all count behind =
    let parts : many ≡ suc left = omega (arith, count) in
    let place-is : place ≡ suc rest = omega (arith, behind) in
    (λ i. slice_get (lives_more script start many left stop all parts i) (place-is i))
