-- A store goes on.
use Rattle.log_store.proofs.Names.{◌≡◌, ◌+◌, ◌-◌, ◌≤◌, arith, log_shape, block_len, Invariant, LogStore, IsUsable, lengths_later, Preserves, HasLimits, HasLengths, State}

-- where its bounds still hold
pub goes_on : (store store' : LogStore) (old new : State) → Invariant store old → Preserves old new → store'.geometry ≡ store.geometry → IsUsable store'.ring new → store'.ring.shape ≡ store.ring.shape →
    store'.kept ≤ store'.ring.hi → store'.ring.hi ≤ store'.kept + (store.geometry.blocks - 1) → 2 ≤ store'.used → store'.used ≤ block_len → Invariant store' new
goes_on store store' old new going goes geometry usable shape kept live low high = grind (arith, lengths_later)

-- a store with an empty tail, over the ring that stands there
pub begins : (store : LogStore) (old new : State) → HasLimits store.geometry → HasLengths store.geometry old.image → Preserves old new → IsUsable store.ring new → store.ring.shape ≡ log_shape store.geometry →
    store.kept ≡ store.ring.hi - (store.geometry.blocks - 1) → store.used ≡ 2 → Invariant store new
begins store old new limits lengths goes usable shape kept used = grind (arith, lengths_later)
