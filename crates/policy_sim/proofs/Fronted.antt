-- A page that comes to the front of the pool.
use Rattle.policy_sim.proofs.Names.{◌≡◌, ℕ, ◌<◌, ◌==◌, ◌||◌, nat_eq, Bool, ◌∷◌, arith, keys_of, remove_entry, AreStamped, enlisted, kept_of, listed_of, pages_in, Kept, is_changed, without}
use Rattle.std.specs.List.{IsDistinct}
use Rattle.policy_sim.proofs.Pooled.{Entries, marked, removed}
use Rattle.policy_sim.proofs.Struck.{Listed, enlisted_front, stamped_removed}
use Rattle.std.proofs.lemmas.Grind.{common_steps}

-- what stood in the pool, and what is kept of the page now
module _ (es : Entries) (k : ℕ) (v : Kept) where
  pub front_pages : (change : Bool) → IsDistinct nat_eq (keys_of es) → v.changed ≡ ((kept_of k es).changed || change)
      → pages_in ((k, v) ∷ remove_entry (nat_eq k) es) ≡ record { page = k; changed = is_changed (pages_in es) k || change } ∷ without (λ other. other == k) (pages_in es)
  front_pages change distinct is = grind (arith, common_steps, marked, removed)

  pub front_listed : (bound : ℕ) (before after : Listed) → v.stamp ≡ bound → AreStamped bound es → before ≡ listed_of (remove_entry (nat_eq k) es) → after ≡ enlisted k v before
      → after ≡ listed_of ((k, v) ∷ remove_entry (nat_eq k) es)
  front_listed bound before after is stamped was now = grind (arith, common_steps, enlisted_front, stamped_removed)

  pub front_stamped : (bound next : ℕ) → v.stamp ≡ bound → bound < next → AreStamped bound es → AreStamped next ((k, v) ∷ remove_entry (nat_eq k) es)
  front_stamped bound next is less stamped = grind (arith, common_steps, stamped_removed)
