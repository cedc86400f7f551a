-- How many calls a push makes, by its changes and by the units that it appends.
use Rattle.page_store.proofs.Names.{◌≡◌, ℕ, ◌+◌, ◌*◌, ◌≤◌, Bool, true, false, cond, List, [], ◌∷◌, ◌++◌, length, refl, ap, arith, if◌then◌else◌, sum_joined, group_calls, staged_pages, changes_of_group, sum_of, calls_by, FlashCache, Stored, Change, Reaches, LogList, changes_if, CallsForUnits, EachMoment, State, Image, IsSettled, Geometry, Disk, changes_of, calls_of, unsynced_in, is_due, changes_of_save}
use Rattle.page_store.proofs.Counting.{IsSilent, silent_works, paid, paid_append, cost_reached}
use Rattle.std.proofs.lemmas.Grind.{common_steps}

paid_staged : (pages : List ℕ) → paid (changes_of pages) ≡ 0
paid_staged [] = refl
paid_staged (page ∷ pages) = refl

paid_saved : (due : Bool) (groups : List (List Stored)) → paid (changes_of_save due groups) ≡ (if due then 5 else 0)
paid_saved true groups = refl
paid_saved false groups = refl

-- the heads of four groups are read where a segment is due
pub four_most : (due : Bool) → (if due then 4 else 0) ≤ 4
four_most true = omega arith
four_most false = omega arith

-- the group is paid for, and a segment that is due
pub paid_group : (cache : FlashCache) (image : Image) (pages : List ℕ) (changed : List Bool) (contents : List (List ℕ)) → paid (changes_of_group cache image pages changed contents) ≡ (if is_due cache.ring.hi cache.segments.hi then 5 else 0) + 5
paid_group cache image pages changed contents = grind (arith, common_steps, paid_append, paid_saved, paid_staged, paid)

-- What a force of the log and the push behind it take: the calls of their changes, which are those of their units and
-- those of staging.
pub record TakesCalls (changes : List Change) (staged : List ℕ) (old new : State) : Type 0 where
  pub calls : length new.past ≡ length old.past + sum_of calls_by changes
  pub paid_for : length new.past ≡ length old.past + (paid changes + calls_of staged)

pub push_takes : (list : LogList) (sealing : Bool) (cache : FlashCache) (image : Image) (pages : List ℕ) (changed : List Bool) (contents : List (List ℕ)) (hi hi' : ℕ) (old mid new : State)
    → hi' ≡ cond sealing (hi + 1) hi → length mid.past + 5 * hi ≡ length old.past + 5 * hi' → length new.past ≡ length mid.past + ((if is_due cache.ring.hi cache.segments.hi then 5 else 0) + (calls_of (staged_pages cache) + 5))
    → TakesCalls (changes_if sealing list ++ changes_of_group cache image pages changed contents) (staged_pages cache) old new
push_takes list sealing cache image pages changed contents hi hi' old mid new is sealed pushed = grind (arith, common_steps, sum_joined, group_calls, paid_append, paid_group, paid)

-- what it takes by the cache's clauses
abbrev pub PushTakes : FlashCache → State → State → Type 0
PushTakes cache old new =
    (length new.past ≡ length old.past + ((if is_due cache.ring.hi cache.segments.hi then 5 else 0) + (calls_of (staged_pages cache) + 5)))
    × (IsSettled Disk old → unsynced_in new.past ≡ unsynced_in old.past + calls_of (staged_pages cache))

pub push_calls : (g : Geometry) (changes : List Change) (staged : List ℕ) (old new : State) → Reaches g changes old.image new.image → TakesCalls changes staged old new → new.told ≡ old.told → EachMoment old new IsSilent
    → unsynced_in new.past ≡ unsynced_in old.past + calls_of staged → CallsForUnits g old new
push_calls g changes staged old new reaches takes told silent unsynced =
    let works = silent_works old new silent in
    let cost = cost_reached g changes old.image new.image reaches in
    let paid_for = takes.paid_for in
    let same = ap length told in
    record { works = omega (arith, works, cost, paid_for, unsynced); tells = omega (arith, works, same) }
