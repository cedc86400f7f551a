-- What stands on the devices.
use Rattle.log_store.proofs.Names.{◌≡◌, ◌≢◌, ℕ, zero, suc, get_or, ◌+◌, ◌-◌, ◌%◌, ◌≤◌, ◌<◌, ◌*◌, ◌/◌, List, [], ◌∷◌, length, take, replicate, refl, sym, ap, ◌∙◌, subst, arith, get_or-map, get_or-drop, length-replicate, take-take, w16, from_be_bytes, AllByRecursion, slice_index, Option, log_shape, units_on, used_is, entries_from, used_by, AreBlock, IsBlock, LogRecord, LogList, next_block, entries, at_lsn, sealed_block, Invariant, end_of, Matches, Finds, HasBlocks, HasRecords, Represents, block_on, LogStore, live_count, region, FitsIn, Units, IsLive, hi_of, units_of, unit_at, last_of, Shape, log_length, HasLimits, blank_image, State, Image, Geometry}
use Rattle.std.proofs.lemmas.Nat.{mod_below, div-add-mod'}
use Rattle.sealed_ring.proofs.Examples.{blank_is_ring}
use Rattle.sealed_ring.proofs.Heads.{unit_is}
use Rattle.log_records.specs.Spelling.{block}
use Rattle.log_store.proofs.BlockLaws.{blocks_stay}
use Rattle.log_store.proofs.Finding.{in_block, in_tail, tail_has, block_has}
use Rattle.log_store.specs.Laws.{FitsBeside, HoldsBeside}

-- beside the log's ring

pub fits_beside : FitsBeside
fits_beside store old new keeps goes settled fits = grind arith

pub holds_beside : HoldsBeside
holds_beside store old new log keeps holds = record { kept = holds.kept; blocks = blocks_stay store.geometry log.first log.blocks old new holds.blocks keeps; tail = holds.tail }

-- blank devices

-- blank devices have no block
pub blank_has_no_blocks : (g : Geometry) → HasLimits g → HasBlocks g 0 [] (blank_image g)
blank_has_no_blocks g limits =
    let c : List ℕ = replicate (log_length g) 0 in
    let low = limits.blocks in
    let high = limits.few_blocks in
    let size = length-replicate {A = ℕ} (log_length g) 0 in
    let fits : FitsIn (log_shape g) (length c) = record { slots = omega (arith, low); room = omega arith; stride = omega arith; inside = omega (arith, size); addresses = omega (arith, high) } in
    let ring = blank_is_ring (log_shape g) c fits (λ p. zero_at (log_length g) p) in record {
      form = ring.0;
      next = sym (ap (λ (u : Units). u.hi) ring.1);
      few = omega arith;
      are_blocks = tt;
      units = ap (λ (u : Units). last_of 0 u.live) ring.1;
    }
  where
    zero_at : (n p : ℕ) → slice_index (replicate n 0) p ≡ 0
    zero_at zero p = refl
    zero_at (suc n) zero = refl
    zero_at (suc n) (suc p) = zero_at n p

-- a sealed block

are_at : (blocks : List (List LogRecord)) (i : ℕ) → i < length blocks → AllByRecursion AreBlock blocks → AreBlock (get_or blocks i [])
are_at [] i less all = absurd (omega (arith, less))
are_at (first ∷ blocks) zero less all = all.0
are_at (first ∷ blocks) (suc i) less all = are_at blocks i (omega (arith, less)) all.1

pub stands_there : (g : Geometry) (log : LogList) (image : Image) (n : ℕ) → HasBlocks g log.first log.blocks image → log.first ≤ n → n < next_block log → IsBlock (block_on g image n) (sealed_block log n)
stands_there g log image n has from to =
    let live = (units_on (log_shape g) image).live in
    let i = n - log.first in
    let count = live_count (log_shape g) image.log in
    let next = has.next in
    let few = has.few in
    let at : n - (hi_of (log_shape g) image.log - (g.blocks - 1)) ≡ length live - length log.blocks + i = omega (arith, count, next, few, from, to) in
    record {
      are_block = are_at log.blocks i (omega (arith, from, to)) has.are_blocks;
      spelled =
          ap (λ (k : ℕ). get_or live k []) at
          ∙ sym (get_or-drop (length live - length log.blocks) live i [])
          ∙ ap (λ (l : List (List ℕ)). get_or l i []) has.units
          ∙ get_or-map block log.blocks i [] [] (omega (arith, from, to));
    }

-- a unit that was read

-- a store that fits is the one that was found
pub finds : (store : LogStore) (site : State) → Matches store site → Finds store site
finds store site fits = record { honest = fits.honest; form = fits.form; hi = fits.hi }

-- and its ring is the one that stands there
pub ring_found : (store : LogStore) (site : State) → Invariant store site → Finds store site → store.ring.hi ≡ hi_of store.ring.shape (region store.ring.shape site)
ring_found store site going found = found.hi ∙ sym (ap (λ (s : Shape). hi_of s (region s site)) going.shape)

read_whole : (s : Shape) (hi n : ℕ) (c : List ℕ) → 3 ≤ s.slots → hi ≡ hi_of s c → IsLive s hi n → take s.room (unit_at s (units_of s c) n) ≡ unit_at s (units_of s c) n
read_whole s hi n c slots is live = grind (arith, unit_is, take-take)

pub unit_read : (store : LogStore) (site : State) (n : ℕ) (read octets : List ℕ) → Invariant store site → Finds store site → IsLive store.ring.shape store.ring.hi n →
    octets ≡ take 503 read → read ≡ take 503 (unit_at store.ring.shape (units_of store.ring.shape (region store.ring.shape site)) n) → octets ≡ block_on store.geometry site.image n
unit_read store site n read octets going fits live copied is =
    let blocks = going.limits.blocks in
    copied ∙ ap (take 503) is
    ∙ take-take 503 503 (unit_at store.ring.shape (units_of store.ring.shape (region store.ring.shape site)) n) (omega arith)
    ∙ ap (λ (s : Shape). take 503 (unit_at s (units_of s (region s site)) n)) going.shape
    ∙ read_whole (log_shape store.geometry) store.ring.hi n site.image.log (omega (arith, blocks)) fits.hi (subst (λ (s : Shape). IsLive s store.ring.hi n) going.shape live)

-- where the records of a block end
pub one_end : (octets : List ℕ) (a b : List LogRecord) → IsBlock octets a → IsBlock octets b → used_by a ≡ used_by b
one_end octets a b first second =
    let used = from_be_bytes w16 (take 2 octets) in
    sym (used_is octets a used first refl) ∙ used_is octets b used second refl

-- a block of the log that the store holds
pub held_block : (store : LogStore) (site : State) (log : LogList) (n : ℕ) → Finds store site → Represents store site.image log → log.first ≤ n → n < store.ring.hi → IsBlock (block_on store.geometry site.image n) (sealed_block log n)
held_block store site log n fits holds from below = grind (arith, stands_there)

-- what was found in the tail, and in a sealed block
module _ (store : LogStore) (site : State) (log : LogList) (lsn : ℕ) (fits : Finds store site) (holds : Represents store site.image log) (result : Option LogRecord) where
  abbrev b : ℕ
  b = lsn / 512

  abbrev offset : ℕ
  offset = lsn % 512

  pub found_in_tail : b ≡ store.ring.hi → ((records : List LogRecord) → HasRecords store.tail store.used records → result ≡ at_lsn offset (entries_from 2 records)) → at_lsn lsn (entries log) ≡ result
  found_in_tail at found = grind (arith, in_tail, tail_has)

  pub found_in_block : 512 * log.first ≤ lsn → b < store.ring.hi → (octets : List ℕ) (used : ℕ) → IsBlock octets (sealed_block log b) × (used ≡ used_by (sealed_block log b)) →
      ((records : List LogRecord) → HasRecords octets used records → result ≡ at_lsn offset (entries_from 2 records)) → at_lsn lsn (entries log) ≡ result
  found_in_block from below octets used is found = grind (arith, mod_below, in_block, block_has)

-- an LSN before the tail is of a sealed block
pub block_bounds : (store : LogStore) (log : LogList) (lsn : ℕ) → store.used ≤ 503 → lsn < end_of store → 512 * log.first ≤ lsn → lsn / 512 ≢ store.ring.hi → (log.first ≤ lsn / 512) × (lsn / 512 < store.ring.hi)
block_bounds store log lsn high before from ne = grind (arith, div-add-mod', mod_below)
