-- Which ring stands at its end, and what sealing makes of a tail.
use Rattle.std.proofs.Common.{◌≡◌, ℕ, ◌+◌, ◌^◌, ◌<◌, ◌≤◌, Bool, true, false, nat_lt, List, [], ◌∷◌, Option, Some, None, refl, ap, ◌∙◌, lt-ltb, le-ltb, true≢false}
use Rattle.std.specs.Prelude.{if◌then◌else◌}
use Rattle.std.specs.List.{list_any}
use Rattle.std.proofs.lemmas.Bool.{or_from, or_left, or_right, or_parts}
use Rattle.site.specs.declared.outside.Dev.{Dev}
use Rattle.site.specs.declared.outside.Dev.TheVariants.{Log, Flash}
use Rattle.record_model.specs.State.{Content}
use Rattle.second_chance.specs.Machine.{Rules, next_group}
use Rattle.ring_machine.specs.Tail.{Tail, sealed_if}
use Rattle.ring_machine.specs.Machine.{Machine, RingOp, cached, logged, changed, force, save, apply_op, after_all, past_end}
use Rattle.ring_machine.specs.Restart.{clr_on}

abbrev of_flash : Bool → Option Dev
of_flash b = if b then Some Flash else None

abbrev of_log : ℕ → Bool → Option Dev
of_log group b = if b then Some Log else if nat_lt (2 ^ 40) group then Some Flash else None

pub never_past : (m : Machine) → m.tail.next ≤ 2 ^ 40 → m.masters ≤ 2 ^ 40 → next_group m.cache ≤ 2 ^ 40 → past_end m ≡ None
never_past m tail masters group =
    ap (of_log (next_group m.cache)) (or_from (nat_lt (2 ^ 40) m.tail.next) (nat_lt (2 ^ 40) m.masters) (le-ltb (2 ^ 40) m.tail.next tail) (le-ltb (2 ^ 40) m.masters masters))
    ∙ ap of_flash (le-ltb (2 ^ 40) (next_group m.cache) group)

pub log_past : (m : Machine) → 2 ^ 40 < m.tail.next → past_end m ≡ Some Log
log_past m past = ap (of_log (next_group m.cache)) (or_left (nat_lt (2 ^ 40) m.tail.next) (nat_lt (2 ^ 40) m.masters) (lt-ltb (2 ^ 40) m.tail.next past))

pub masters_past : (m : Machine) → 2 ^ 40 < m.masters → past_end m ≡ Some Log
masters_past m past = ap (of_log (next_group m.cache)) (or_right (nat_lt (2 ^ 40) m.tail.next) (nat_lt (2 ^ 40) m.masters) (lt-ltb (2 ^ 40) m.masters past))

pub flash_past : (m : Machine) → m.tail.next ≤ 2 ^ 40 → m.masters ≤ 2 ^ 40 → 2 ^ 40 < next_group m.cache → past_end m ≡ Some Flash
flash_past m tail masters past =
    ap (of_log (next_group m.cache)) (or_from (nat_lt (2 ^ 40) m.tail.next) (nat_lt (2 ^ 40) m.masters) (le-ltb (2 ^ 40) m.tail.next tail) (le-ltb (2 ^ 40) m.masters masters))
    ∙ ap of_flash (lt-ltb (2 ^ 40) (next_group m.cache) past)

-- A tail that is sealed where that is wanted.

pub sealed_next : (b : Bool) (t : Tail) → (sealed_if b t).next ≡ (if b then t.next + 1 else t.next)
sealed_next true t = refl
sealed_next false t = refl

pub sealed_used : (b : Bool) (t : Tail) → (sealed_if b t).used ≡ (if b then 2 else t.used)
sealed_used true t = refl
sealed_used false t = refl

-- Work that saves no master unit leaves their number.

abbrev pub saves_one : RingOp → Bool
saves_one (cached work) = false
saves_one (logged octets) = false
saves_one (changed octets page) = false
saves_one force = false
saves_one save = true

pub masters_stay : (rules : Rules) (works : List RingOp) (m : Machine) → list_any saves_one works ≡ false → (after_all rules works m).masters ≡ m.masters
masters_stay rules [] m none = refl
masters_stay rules (work ∷ works) m none =
    let parts = or_parts (saves_one work) (list_any saves_one works) none in
    masters_stay rules works (apply_op rules work m) parts.1 ∙ one work parts.0
  where
    one : (w : RingOp) → saves_one w ≡ false → (apply_op rules w m).masters ≡ m.masters
    one (cached work) none = refl
    one (logged octets) none = refl
    one (changed octets page) none = refl
    one force none = refl
    one save none = absurd (true≢false none)

pub clr_saves_none : (before : Content) (number : Option ℕ) → list_any saves_one (clr_on before number) ≡ false
clr_saves_none before None = refl
clr_saves_none before (Some number) = refl
