-- What a log store holds, in memory and on a site.
use Rattle.std.specs.Prelude.{◌≡◌, ◌⊎◌, ℕ, ◌+◌, ◌-◌, ◌*◌, ◌≤◌, ◌<◌, IsTrue, Bool, true, nat_lt, if◌then◌else◌, List, []}
use Rattle.std.specs.Prelude.{◌∷◌, ◌++◌, ◌^◌, length, drop, map, flat_map, replicate, Result, OnOk, IsErrOf}
use Rattle.std.specs.List.{AllByRecursion}
use Rattle.site.specs.declared.outside.Dev.TheVariants.{Log}
use Rattle.site.specs.declared.outside.Stop.{Stop}
use Rattle.site.specs.declared.outside.Stop.TheVariants.{Worn}
use Rattle.site.specs.declared.geometry.Geometry.{Geometry}
use Rattle.site.specs.Geometry.{HasLimits, HasLengths}
use Rattle.site.specs.State.{State, Image, Snapshot, IsSettled}
use Rattle.sealed_ring.specs.Ring.{IsRing, SameOutside, hi_of, last_of, unit_at}
use Rattle.sealed_ring.specs.Ready.{IsUsable}
use Rattle.log_records.specs.declared.log_record.LogRecord.{LogRecord}
use Rattle.log_records.specs.Spelling.{spelling, used_by, block, block_len, HasForm, FitsFields, AreBlock}
use Rattle.image_changes.specs.Rings.{log_shape, master_shape, units_on}
use Rattle.log_store.specs.declared.store.LogStore.{LogStore}
use Rattle.log_store.specs.LogList.{LogList}

-- of every site: the store may go on
pub record Invariant (store : LogStore) (site : State) : Type 0 where
  pub limits : HasLimits store.geometry
  pub lengths : HasLengths store.geometry site.image
  pub usable : IsUsable store.ring site
  pub shape : store.ring.shape ≡ log_shape store.geometry
  pub kept : store.kept ≤ store.ring.hi
  -- the blocks from the kept one on are live
  pub live : store.ring.hi ≤ store.kept + (store.geometry.blocks - 1)
  pub low : 2 ≤ store.used
  pub high : store.used ≤ block_len

-- one block more may be sealed: from the kept one on there are fewer than can be live
abbrev pub HasRoom : LogStore → Type 0
HasRoom store = store.ring.hi + 1 < store.kept + store.geometry.blocks

-- the tail has records
abbrev pub has_tail : LogStore → Bool
has_tail store = nat_lt 2 store.used

-- a record doesn't fit the tail
abbrev pub overflows : LogStore → LogRecord → Bool
overflows store rec = nat_lt block_len (store.used + length (spelling rec))

-- the LSN just past the last record
abbrev pub end_of : LogStore → ℕ
end_of store = 512 * store.ring.hi + store.used

-- the LSN that a next record gets
abbrev pub next_lsn : LogStore → LogRecord → ℕ
next_lsn store rec = if overflows store rec then 512 * (store.ring.hi + 1) + 2 else end_of store

-- of an honest site: nothing of the log device is loose, and the ring of the log's blocks is of the form and the one
-- that the store found
pub record Matches (store : LogStore) (site : State) : Type 0 where
  pub honest : IsTrue site.honest
  pub settled : IsSettled Log site
  pub form : IsRing (log_shape store.geometry) site.image.log
  pub hi : store.ring.hi ≡ hi_of (log_shape store.geometry) site.image.log

-- of an honest site, whatever of the log device is loose: the ring of the log's blocks is of the form and the one that
-- the store found
pub record Finds (store : LogStore) (site : State) : Type 0 where
  pub honest : IsTrue site.honest
  pub form : IsRing (log_shape store.geometry) site.image.log
  pub hi : store.ring.hi ≡ hi_of (log_shape store.geometry) site.image.log

-- over an honest site, whatever stands there: the store's next block is that of the content
abbrev pub IsNext : LogStore → State → Type 0
IsNext store site = store.ring.hi ≡ hi_of (log_shape store.geometry) site.image.log

-- A call on an honest site, whatever stands there: so it is again, the ring of the master units beside it stays where
-- it stands, and the log is worn only where the ring of its blocks stands at its end.
pub record KeepsNext {T : Type 0} (result : Result T Stop) (old new : LogStore) (before now : State) : Type 0 where
  pub next : IsNext old before → OnOk result (IsNext new now)
  pub masters : OnOk result (hi_of master_shape now.image.log ≡ hi_of master_shape before.image.log)
  pub worn : IsNext old before → IsErrOf result (Worn Log) → hi_of (log_shape old.geometry) now.image.log ≡ 2 ^ 40

-- the newest blocks of an image, from a number on, have these records
pub record HasBlocks (g : Geometry) (first : ℕ) (blocks : List (List LogRecord)) (image : Image) : Type 0 where
  pub form : IsRing (log_shape g) image.log
  pub next : first + length blocks ≡ hi_of (log_shape g) image.log
  pub few : length blocks ≤ g.blocks - 1
  pub are_blocks : AllByRecursion AreBlock blocks
  pub units : last_of (length blocks) (units_on (log_shape g) image).live ≡ map block blocks

-- the content of a live block
abbrev pub block_on : Geometry → Image → ℕ → List ℕ
block_on g image n = unit_at (log_shape g) (units_on (log_shape g) image) n

-- the octets of a tail: behind the place for the offset of their end, these records, and zeros
pub record HasTail (octets : List ℕ) (used : ℕ) (records : List LogRecord) : Type 0 where
  pub end : used ≡ used_by records
  pub have_form : AllByRecursion HasForm records
  pub fit_fields : AllByRecursion FitsFields records
  pub text : drop 2 octets ≡ flat_map spelling records ++ replicate (block_len - used) 0

-- the store holds this log, which begins at its kept block or behind
pub record Represents (store : LogStore) (image : Image) (log : LogList) : Type 0 where
  pub kept : store.kept ≤ log.first
  pub blocks : HasBlocks store.geometry log.first log.blocks image
  pub tail : HasTail store.tail store.used log.tail

-- a crash leaves the sealed blocks, or, where the tail is to be sealed, the tail as one more
pub record LeavesLog (g : Geometry) (sealing : Bool) (log : LogList) (so_far : List ℕ)
    (snapshot : Snapshot) : Type 0 where
  pub told : snapshot.told ≡ so_far
  pub blocks : HasBlocks g log.first log.blocks snapshot.image
      ⊎ ((sealing ≡ true) × HasBlocks g log.first (log.blocks ++ log.tail ∷ []) snapshot.image)

-- the log device has its length, and each of its octets that lies in no slot of the blocks' ring is as it was
pub record KeepsBeside (g : Geometry) (old : Image) (snapshot : Snapshot) : Type 0 where
  pub size : length snapshot.image.log ≡ length old.log
  pub outside : SameOutside (log_shape g) old.log snapshot.image.log

-- from the third octet on to a place these records are spelled, one after the other
pub record HasRecords (octets : List ℕ) (used : ℕ) (records : List LogRecord) : Type 0 where
  pub end : used ≡ used_by records
  pub have_form : AllByRecursion HasForm records
  pub fit_fields : AllByRecursion FitsFields records
  pub text : drop 2 octets ≡ flat_map spelling records ++ drop used octets
