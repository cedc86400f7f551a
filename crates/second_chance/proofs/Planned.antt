-- A plan by its three parts.
use Rattle.std.proofs.lemmas.Grind.{common_steps}
use Rattle.second_chance.proofs.Names.{arith, ◌≡◌, ℕ, ◌-◌, Bool, not, ◌||◌, List, [], length, map, filter, take, ap, ◌∙◌, length-map, enumerate_from, Option, unwrap_or, Mark, chances_of, staged_of, eviction_plan, flush_plan, PoolMark}
use Rattle.std.proofs.Common.{if◌then◌else◌}
use Rattle.std.specs.Borrow.{Bor}
use Rattle.std.specs.Option.{option_copied}
use Rattle.second_chance.specs.declared.plan.Plan.{Plan}
use Rattle.second_chance.proofs.Chosen.{place, is_staged, staged_are}

-- the marks of a front group that may be missing
pub unwrapped : (front : Option (Bor (List Mark))) (none : Bor (List Mark)) → none.now ≡ [] → (unwrap_or front none).now ≡ unwrap_or (option_copied front) []
unwrapped x0 none is = grind (arith, common_steps)

abbrev page : PoolMark → ℕ
page p = p.page

-- the staged frames of these second chances
staged_by : (given : Bool) (front : List Mark) (chances staged : List ℕ) → chances ≡ map place (chances_of given front)
    → staged ≡ map place (filter (λ f. is_staged chances f.0 f.1) (enumerate_from 0 front)) → staged ≡ map place (staged_of given front)
staged_by given front chances staged are is = grind (arith, place, is_staged, staged_are)

many : (given : Bool) (front : List Mark) (chances : List ℕ) (n : ℕ) → chances ≡ map place (chances_of given front) → n ≡ length chances → n ≡ length (chances_of given front)
many given front chances n are is = is ∙ ap length are ∙ length-map (chances_of given front) place

pub eviction_is : (pulls given : Bool) (front known : List Mark) (pool : List PoolMark) (chances staged pulled : List ℕ) (n : ℕ) → front ≡ known
    → chances ≡ map place (chances_of given front) → staged ≡ map place (filter (λ f. is_staged chances f.0 f.1) (enumerate_from 0 front)) → n ≡ length chances
    → pulled ≡ map page (if pulls then take (8 - 1 - n) (filter (λ p. p.changed || not p.framed) pool) else [])
    → ◌≡◌ {A = Plan} (record { chances = chances; staged = staged; pulled = pulled }) (eviction_plan pulls given known pool)
eviction_is pulls given front known pool chances staged pulled n same are staged_is n_is pulled_is = grind (arith, staged_by, many)

pub flush_is : (given : Bool) (front known : List Mark) (pool : List PoolMark) (chances staged pulled : List ℕ) (n : ℕ) → front ≡ known
    → chances ≡ map place (chances_of given front) → staged ≡ map place (filter (λ f. is_staged chances f.0 f.1) (enumerate_from 0 front)) → n ≡ length chances
    → pulled ≡ map page (take (8 - n) (filter (λ p. p.changed) pool))
    → ◌≡◌ {A = Plan} (record { chances = chances; staged = staged; pulled = pulled }) (flush_plan given known pool)
flush_is given front known pool chances staged pulled n same are staged_is n_is pulled_is = grind (arith, staged_by, many)
