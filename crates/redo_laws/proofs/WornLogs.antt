-- A log that is worn stands at its end, and where a log ends.
use Rattle.redo_laws.proofs.Citing.{◌≡◌, inl, ◌^◌, ℕ, sym, ap, subst, ◌∙◌, arith, log_shape, master_shape, LogStore, IsLogWorn, blocks_to, hi_of, State, content_of}
use Rattle.sealed_ring.specs.declared.ring.Ring.{Ring}
use Rattle.sealed_ring.specs.declared.slots.Shape.{Shape}
use Rattle.sealed_ring.specs.Ready.{Matches}
use Rattle.log_store.specs.Representation as log_store

-- a log that takes no more blocks changes nothing, and its ring stands at its end
pub log_at_end : (log : LogStore) (old new : State) → log_store.Finds log old → new ≡ old → log.ring.hi ≡ 2 ^ 40 → IsLogWorn log.geometry new.image
log_at_end log old new finds same worn = inl (ap (λ (s : State). hi_of (log_shape log.geometry) s.image.log) same ∙ sym finds.hi ∙ worn)

-- so does the ring of master units
pub masters_at_end : (masters : Ring) (old new : State) → masters.shape ≡ master_shape → Matches masters old → new ≡ old → masters.hi ≡ 2 ^ 40 → hi_of master_shape new.image.log ≡ 2 ^ 40
masters_at_end masters old new shape fits same worn =
    ap (λ (s : State). hi_of master_shape s.image.log) same ∙ sym (subst (λ (s : Shape). masters.hi ≡ hi_of s (content_of s.dev old.image)) shape fits) ∙ worn

-- a sealed log ends with its blocks
pub sealed_hi : (log : LogStore) (blocks : ℕ) → log.used ≡ 2 → blocks_to log ≡ blocks → log.ring.hi ≡ blocks
sealed_hi log blocks empty is = grind (arith)
