-- What stays where only some of the octets change.
use Rattle.sealed_ring.proofs.Names.{sym, subst, IsUsable, FitsIn, Ring, Preserves, State}
pub use Rattle.site.proofs.Laws.{quiet_again}

-- a ring may be used after any calls
pub usable_later : (ring : Ring) (old new : State) → Preserves old new → IsUsable ring old → IsUsable ring new
usable_later ring old new goes usable = record { fits = subst (FitsIn ring.shape) (sym (goes.sizes ring.shape.dev)) usable.fits; bounded = usable.bounded }
