-- The records of an opened log are judged, one after the other.
use Rattle.redo_undo.proofs.Names.{◌≡◌, ℕ, ◌+◌, ◌-◌, ◌*◌, ◌≤◌, List, [], ◌∷◌, ◌++◌, length, take, append-nil, sym, subst, ◌∙◌, arith, length-append, AllByRecursion, flat_map, Master, log_shape, length-versions, kept_by, next_block_under, IsOfSizes, HasHeard, Sizes, IsPast, past_none, some_octet, in_order_from, in_order_left, Entry, entries_from, log_from, IsInOrder, spelling, AreBlock, IsBlock, used_by, LogRecord, LogList, LogStore, fits_beside, PageStore, only_read, Opening, opened, IsReadable, IsReading, Redone, IsRing, hi_of, stays_honest, Preserves, IsUnchanged, State, Image, Geometry}
use Rattle.std.specs.Prelude.{Option, Some, None}
use Rattle.redo_undo.proofs.TakenRecords.{none_read}
use Rattle.log_store.specs.Representation as log_store

-- The LSNs of blocks ascend.

entries_in_order : (lsn : ℕ) (records : List LogRecord) (rest : List Entry) (to : ℕ) → IsInOrder (lsn + length (flat_map spelling records)) rest to → IsInOrder lsn (entries_from lsn records ++ rest) to
entries_in_order lsn [] rest to order = in_order_from (lsn + 0) lsn rest to (omega arith) order
entries_in_order lsn (rec ∷ records) rest to order =
    let some = some_octet rec in
    let all = length-append (spelling rec) (flat_map spelling records) in
    let next : ℕ = lsn + length (spelling rec) in
    let end : lsn + length (flat_map spelling (rec ∷ records)) ≡ next + length (flat_map spelling records) = omega (arith, all) in
    let later = entries_in_order next records rest to (subst (λ (n : ℕ). IsInOrder n rest to) end order) in
    (omega arith, in_order_from next (lsn + 1) (entries_from next records ++ rest) to (omega (arith, some)) later)

log_in_order : (first : ℕ) (blocks : List (List LogRecord)) (to : ℕ) → AllByRecursion AreBlock blocks → 512 * (first + length blocks) ≤ to → IsInOrder (512 * first) (log_from first blocks) to
log_in_order first [] to are end = omega (arith, end)
log_in_order first (records ∷ blocks) to are end =
    let room = are.0.room in
    let later = log_in_order (first + 1) blocks to are.1 (omega (arith, end)) in
    in_order_from (512 * first + 2) (512 * first) (entries_from (512 * first + 2) records ++ log_from (first + 1) blocks) to (omega arith)
    (entries_in_order (512 * first + 2) records (log_from (first + 1) blocks) to
    (in_order_from (512 * (first + 1)) (512 * first + 2 + length (flat_map spelling records)) (log_from (first + 1) blocks) to (omega (arith, room)) later))

pub read_in_order : (o : Opening) (log : LogStore) (pages : PageStore) (site : State) → IsReadable o log pages site → IsInOrder (512 * kept_by o.newest) (log_from (kept_by o.newest) o.blocks) (512 * (kept_by o.newest + length o.blocks))
read_in_order o log pages site h = log_in_order (kept_by o.newest) o.blocks _ h.ready.records.blocks.are_blocks (omega arith)

-- The sizes of an opened log.

next_is : (newest : Option Master) (blocks : List (List LogRecord)) → next_block_under newest blocks ≡ kept_by newest + length blocks
next_is None blocks = omega arith
next_is (Some m) blocks = omega arith

pub of_sizes : (o : Opening) (sizes : Sizes) → sizes.pages ≡ o.sizes.pages → sizes.blocks ≡ o.sizes.blocks → sizes.hi ≡ kept_by o.newest + length o.blocks → IsOfSizes (opened o) sizes
of_sizes o sizes pages blocks hi = record { pages = length-versions o.sizes o.image ∙ sym pages; blocks = sym blocks; hi = next_is o.newest o.blocks ∙ sym hi }

-- Calls that only read.
pub readable_still : (o : Opening) (log : LogStore) (pages : PageStore) (old new : State) → Preserves old new → IsUnchanged old new → IsReadable o log pages old → IsReadable o log pages new
readable_still o log pages old new goes same h =
    let list : LogList = record { first = kept_by o.newest; blocks = o.blocks; tail = [] } in
    record {
      kept = h.kept;
      ready = record {
        pages = fits_beside pages old new (only_read old new same) goes h.ready.pages;
        blocks = record {
          honest = stays_honest old new goes h.ready.blocks.honest;
          form = subst (λ (i : Image). IsRing (log_shape log.geometry) i.log) (sym same.image) h.ready.blocks.form;
          hi = subst (λ (i : Image). log.ring.hi ≡ hi_of (log_shape log.geometry) i.log) (sym same.image) h.ready.blocks.hi;
        };
        records = subst (λ (i : Image). log_store.Represents log i list) (sym same.image) h.ready.records;
      };
    }

pub finds_them : (o : Opening) (log : LogStore) (pages : PageStore) (site : State) → IsReadable o log pages site → log_store.Finds log site
finds_them o log pages site h = let fits = h.ready.blocks in record { honest = fits.honest; form = fits.form; hi = fits.hi }

-- up to a place of a block all records are read
pub record IsPartRead (o : Opening) (log : LogStore) (pages : PageStore) (site : State) (so_far : Redone) (front : List Entry) (block : ℕ) (octets : List ℕ) (used at : ℕ) (records : List LogRecord) : Type 0 where
  pub done : List Entry
  pub past : IsPast block octets used at records done
  pub reading : IsReading o log pages site so_far (front ++ done)

pub part_read : (o : Opening) (log : LogStore) (pages : PageStore) (site : State) (so_far : Redone) (front : List Entry) (block : ℕ) (octets : List ℕ) (used : ℕ) (records : List LogRecord) →
    IsReading o log pages site so_far front → IsBlock octets records → used ≡ used_by records → IsPartRead o log pages site so_far front block octets used 2 records
part_read o log pages site so_far front block octets used records h is end = record {
  done = [];
  past = past_none block octets used records is end;
  reading = subst (IsReading o log pages site so_far) (sym (append-nil front)) h;
}

-- the first blocks are read
pub record IsReadTo (o : Opening) (log : LogStore) (pages : PageStore) (site : State) (so_far : Redone) (block : ℕ) : Type 0 where
  pub from : kept_by o.newest ≤ block
  pub reading : IsReading o log pages site so_far (log_from (kept_by o.newest) (take (block - kept_by o.newest) o.blocks))

pub read_none : (o : Opening) (log : LogStore) (pages : PageStore) (site : State) (so_far : Redone) (block : ℕ) → IsReadable o log pages site → HasHeard (opened o) [] so_far.judge → so_far.records ≡ 0 → block ≡ kept_by o.newest →
    IsReadTo o log pages site so_far block
read_none o log pages site so_far block readable heard none is = record {
  from = omega (arith, is);
  reading = subst (IsReading o log pages site so_far) (sym (none_read o block is)) (record { readable = readable; heard = heard; count = none });
}
