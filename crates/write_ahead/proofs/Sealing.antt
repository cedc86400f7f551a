-- Where no force is wanted.
use Rattle.std.proofs.Common.{◌≡◌, ℕ, ◌+◌, ◌*◌, ◌<◌, Bool, true, false, ◌&&◌, ◌||◌, cond, List, [], ◌∷◌, arith, refl, subst}
use Rattle.std.specs.Prelude.{nat_le, nat_lt}
use Rattle.std.specs.List.{AllByRecursion, list_any}
use Rattle.std.proofs.lemmas.Bool.Decides.{nat_tests}
use Rattle.slotted_page.specs.Layout.{lsn_of}
use Rattle.log_store.specs.declared.store.LogStore.{LogStore}
use Rattle.log_store.specs.Representation.{has_tail}
use Rattle.write_ahead.specs.Forcing.{IsLogged, is_unsealed, forces, end_now, end_forced}

sealed_one : (end : ℕ) (content : List ℕ) → is_unsealed end content ≡ false → IsLogged end content
sealed_one end content none = record { below = by (lsn_of content) none }
  where
    by : (lsn : ℕ) → (nat_lt 0 lsn && nat_le end lsn) ≡ false → 0 < lsn → lsn < end
    by lsn none some = grind (arith, nat_tests)

all_sealed : (end : ℕ) (contents : List (List ℕ)) → list_any (is_unsealed end) contents ≡ false → AllByRecursion (IsLogged end) contents
all_sealed end [] none = tt
all_sealed end (content ∷ contents) none = by (is_unsealed end content) refl none (all_sealed end contents)
  where
    by : (b : Bool) → is_unsealed end content ≡ b → (b || list_any (is_unsealed end) contents) ≡ false
        → (list_any (is_unsealed end) contents ≡ false → AllByRecursion (IsLogged end) contents) → AllByRecursion (IsLogged end) (content ∷ contents)
    by true is none rest = absurd cc
    by false is none rest = (sealed_one end content is, rest none)

-- where no force is wanted, all that is logged is sealed
pub none_wanted : (log : LogStore) (contents : List (List ℕ)) → forces log contents ≡ false → AllByRecursion (IsLogged (end_forced log)) contents → AllByRecursion (IsLogged (end_now log)) contents
none_wanted log contents none logged = by (has_tail log) none logged
  where
    same : 512 * (log.ring.hi + 0) ≡ 512 * log.ring.hi
    same = omega arith

    by : (b : Bool) → (b && list_any (is_unsealed (end_now log)) contents) ≡ false → AllByRecursion (IsLogged (512 * (log.ring.hi + cond b 1 0))) contents
        → AllByRecursion (IsLogged (end_now log)) contents
    by true none logged = all_sealed (end_now log) contents none
    by false none logged = subst (λ (end : ℕ). AllByRecursion (IsLogged end) contents) same logged
