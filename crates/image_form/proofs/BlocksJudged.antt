-- What was read of one block, and of all.
use Rattle.std.proofs.lemmas.Grind.{common_steps}
use Rattle.image_form.proofs.Names.{◌≡◌, inl, inr, ℕ, ◌+◌, ◌-◌, ◌≤◌, ◌<◌, List, sym, subst, arith, refl, cases_eq, log_shape, IsBlockOn, AreBlocks, LogRecord, Invariant, Finds, block_on, LogStore, usable_later, IsLive, hi_of, stays_honest, Preserves, State}
use Rattle.log_store.proofs.GoingOn.{goes_on}

pub finds_later : (store : LogStore) (a b : State) → Preserves a b → b.image ≡ a.image → Finds store a → Finds store b
finds_later store a b goes same finds = grind (arith, common_steps, stays_honest)

pub going_later : (store : LogStore) (a b : State) → Preserves a b → Invariant store a → Invariant store b
going_later store a b goes going =
    goes_on store store a b going goes refl (usable_later store.ring a b goes going.usable) refl going.kept going.live going.low going.high

module _ (store : LogStore) (old : State) (kept at : ℕ) (going : Invariant store old) (finds : Finds store old) (from : kept ≤ at) (low : store.ring.hi - (store.geometry.blocks - 1) ≤ at) (below : at < store.ring.hi) where
  lives : IsLive (log_shape store.geometry) (hi_of (log_shape store.geometry) old.image.log) at
  lives = let is = finds.hi in let some = going.limits.blocks in record { below = omega (arith, is, below); near = omega (arith, is, low, some) }

  -- where one content isn't that of a block, not all are of the form
  pub one_is_not : (content : List ℕ) → content ≡ block_on store.geometry old.image at → ((records : List LogRecord) → IsBlockOn store.geometry.pages content records → ⊥) → AreBlocks store.geometry kept old.image → ⊥
  one_is_not content is none all =
      let found = all at lives from in
      none found.0 (subst (λ (c : List ℕ). IsBlockOn store.geometry.pages c found.0) (sym is) found.1)

-- one block more
pub one_is : (store : LogStore) (old : State) (kept at : ℕ) (content : List ℕ) → content ≡ block_on store.geometry old.image at → ((records : List LogRecord) × IsBlockOn store.geometry.pages content records) →
    ((n : ℕ) → IsLive (log_shape store.geometry) store.ring.hi n → kept ≤ n → n < at → (records : List LogRecord) × IsBlockOn store.geometry.pages (block_on store.geometry old.image n) records) →
    (n : ℕ) → IsLive (log_shape store.geometry) store.ring.hi n → kept ≤ n → n < at + 1 → (records : List LogRecord) × IsBlockOn store.geometry.pages (block_on store.geometry old.image n) records
one_is store old kept at content is here before n live from below = elim (cases_eq n at) [
  | inl same ↦ (here.0, subst (λ (k : ℕ). IsBlockOn store.geometry.pages (block_on store.geometry old.image k) here.0) (sym same) (subst (λ (c : List ℕ). IsBlockOn store.geometry.pages c here.0) is here.1))
  | inr other ↦ before n live from (omega (arith, below, other))
]
