-- A master unit is appended.
use Rattle.image_meaning.proofs.Names.{◌≡◌, ◌⊎◌, inl, inr, true, false, ℕ, zero, suc, ◌+◌, ◌-◌, ◌*◌, ◌<◌, ◌≤◌, List, [], ◌∷◌, ◌++◌, length, drop, flat_map, Option, Some, refl, sym, ap, subst, ◌∙◌, arith, le-leb, lt-leb, length-drop, AllByRecursion, nat_le, appended_is, seen, Master, AppendsMaster, Makes, Blocks, Groups, Segments, master_shape, units_on, MaySave, IsFlushed, IsMasterOf, oldest_needed, kept_by, next_block_under, logical_image_under, IsNewest, IsSoundUnder, versions_on, filter_none, all_from, entries_in_order, all_below, with_master, MayCheckpoint, entries_from, log_from, LogicalImage, Means, AreOrderly, from_block, spelling, AreBlock, LogRecord, blocks_stay, blocks_from, HasBlocks, Content, Units, Image, Geometry, all_weaker, filter_all}
use Rattle.std.proofs.lemmas.List.Elements.{filter-append}
use Rattle.log_laws.proofs.Masters.{master_is_sound, master_means, master_is_orderly, empty_master_is_sound, empty_master_means, empty_master_is_orderly}
use Rattle.checkpoint.proofs.UnitParts.{unit_read}
use Rattle.checkpoint.specs.Units.{IsUnit, master_in}
use Rattle.image_meaning.specs.Checkpoints.{blocks_saved, SavedOctets}
use Rattle.image_meaning.proofs.Flushes.{checkpoint_needs}
use Rattle.image_meaning.proofs.Naming.{master_is_saved}
use Rattle.image_meaning.proofs.Versions.{versions_same, version_stays}
use Rattle.image_meaning.proofs.UnchangedImages.{next_block_is, segments_stay, octets_beside}
use Rattle.log_records.specs.Sound as lists

-- The records of the blocks from a later one on.

-- all records of a log from a block on have the LSNs of these blocks
all_kept : (to from : ℕ) (blocks : List (List LogRecord)) → to ≤ from → from_block to (log_from from blocks) ≡ log_from from blocks
all_kept to from [] less = refl
all_kept to from (records ∷ blocks) less =
    filter-append (λ e. nat_le (512 * to) e.lsn) (entries_from (512 * from + 2) records) (log_from (from + 1) blocks)
    ∙ (λ i. own i ++ all_kept to (from + 1) blocks (omega (arith, less)) i)
  where
    own : from_block to (entries_from (512 * from + 2) records) ≡ entries_from (512 * from + 2) records
    own = filter_all (λ e. nat_le (512 * to) e.lsn) (entries_from (512 * from + 2) records)
        (all_weaker (λ e. 512 * from + 2 ≤ e.lsn) (λ e. nat_le (512 * to) e.lsn ≡ true) (λ e late. le-leb (512 * to) e.lsn (omega (arith, less, late)))
        (entries_from (512 * from + 2) records) (all_from (512 * from + 2) (entries_from (512 * from + 2) records) _ (entries_in_order (512 * from + 2) records)))

-- those of one block are none of a later block
none_kept : (to from : ℕ) (records : List LogRecord) → AreBlock records → from < to → from_block to (entries_from (512 * from + 2) records) ≡ []
none_kept to from records are less =
    filter_none (λ e. nat_le (512 * to) e.lsn) (entries_from (512 * from + 2) records)
    (all_weaker (λ e. e.lsn < 512 * from + 2 + length (flat_map spelling records)) (λ e. nat_le (512 * to) e.lsn ≡ false) (λ e early. lt-leb (512 * to) e.lsn (let room = are.room in omega (arith, less, early, room)))
    (entries_from (512 * from + 2) records) (all_below (512 * from + 2) (entries_from (512 * from + 2) records) _ (entries_in_order (512 * from + 2) records)))

pub kept_records : (from n : ℕ) (blocks : List (List LogRecord)) → AllByRecursion AreBlock blocks → log_from (from + n) (drop n blocks) ≡ from_block (from + n) (log_from from blocks)
kept_records from zero blocks are = grind (arith, all_kept)
kept_records from (suc n) [] are = refl
kept_records from (suc n) (records ∷ blocks) are = grind (arith, filter-append, records, none_kept, (kept_records (from + 1) n blocks are.1))

pub newest_appended : (g : Geometry) (old new : Image) (content : List ℕ) → IsUnit content (master_in content) → Makes g (AppendsMaster content) old new → IsNewest new (master_in content)
newest_appended g old new content unit made = record {
  form = made.form;
  some = let hi = ap (λ (u : Units). u.hi) made.units in omega (arith, hi);
  master = appended_is new (units_on master_shape old) content (master_in content) unit made.units;
}

pub saved_octets : SavedOctets
saved_octets newest g old new content sound unit made =
    octets_beside newest (Some (master_in content)) g old new made.sizes (newest_appended g old new content unit made)
    (segments_stay g old new (made.others Segments (λ h. cc)) (made.others Groups (λ h. cc)) sound.segments) (made.others Groups (λ h. cc)) made.disk sound

module _ (newest : Option Master) (g : Geometry) (old new : Image) (blocks : List (List LogRecord)) (content : List ℕ) (sound : IsSoundUnder newest g old blocks) (may : MaySave newest g old blocks content)
    (made : Makes g (AppendsMaster content) old new) where
  abbrev kept : ℕ
  kept = (master_in content).kept

  abbrev skipped : ℕ
  skipped = kept - kept_by newest

  abbrev before : LogicalImage
  before = logical_image_under newest g old blocks

  later : kept_by newest + skipped ≡ kept
  later = let rises = may.may.kept_rises in omega (arith, rises)

  records : log_from kept (drop skipped blocks) ≡ from_block kept (log_from (kept_by newest) blocks)
  records =
      ap (λ n. log_from n (drop skipped blocks)) (sym later) ∙ kept_records (kept_by newest) skipped blocks sound.held.are_blocks
      ∙ ap (λ n. from_block n (log_from (kept_by newest) blocks)) later

  next : next_block_under newest blocks ≡ kept_by newest + length blocks
  next = next_block_is newest blocks

  end : kept + length (drop skipped blocks) ≡ next_block_under newest blocks
  end = grind (arith, next, length-drop)

  versions : versions_on g new ≡ versions_on g old
  versions = versions_same g old new (version_stays g old new (made.others Groups (λ h. cc)) made.disk)

  pub logical_image_saved : logical_image_under (Some (master_in content)) g new (blocks_saved newest blocks content) ≡ with_master (logical_image_under newest g old blocks) kept
  logical_image_saved = λ i. record { master = may.master i; log = records i; hi = end i; blocks = g.blocks; pages = versions i }

  held : HasBlocks g kept (drop skipped blocks) new
  held =
      let within = may.may.kept_in_log in
      let rises = may.may.kept_rises in
      blocks_stay g _ (drop skipped blocks) old new
      (subst (λ n. HasBlocks g n (drop skipped blocks) old) (omega (arith, rises)) (blocks_from g (kept_by newest) kept blocks old sound.held (omega (arith, within, next_block_is newest blocks))))
      (made.others Blocks (λ h. cc))

  list_sound : lists.IsSound (with_master before kept)
  list_sound = by may.orderly
    where
      by : AreOrderly before.log ⊎ (kept ≡ before.hi) → lists.IsSound (with_master before kept)
      by (inl orderly) = master_is_sound before kept sound.records orderly may.may
      by (inr none) = subst (λ n. lists.IsSound (with_master before n)) (sym none) (empty_master_is_sound before sound.records (subst (MayCheckpoint before) none may.may))

  list_means : (table : List Content) (count : ℕ) → Means before table count → Means (with_master before kept) table count
  list_means table count means = by may.orderly
    where
      by : AreOrderly before.log ⊎ (kept ≡ before.hi) → Means (with_master before kept) table count
      by (inl orderly) = master_means before kept sound.records orderly may.may table count means
      by (inr none) = subst (λ n. Means (with_master before n) table count) (sym none) (empty_master_means before sound.records (subst (MayCheckpoint before) none may.may) table count means)

  list_orderly : AreOrderly (with_master before kept).log
  list_orderly = by may.orderly
    where
      by : AreOrderly before.log ⊎ (kept ≡ before.hi) → AreOrderly (with_master before kept).log
      by (inl orderly) = master_is_orderly before kept sound.records orderly
      by (inr none) = subst (λ n. AreOrderly (with_master before n).log) (sym none) (empty_master_is_orderly before sound.records)

  pub sound_saved : IsSoundUnder (Some (master_in content)) g new (blocks_saved newest blocks content)
  sound_saved = record {
    octets = saved_octets newest g old new content sound.octets may.unit made;
    held = held;
    records = subst lists.IsSound (sym logical_image_saved) list_sound;
  }

  pub means_saved : (table : List Content) (count : ℕ) → Means before table count → Means (logical_image_under (Some (master_in content)) g new (blocks_saved newest blocks content)) table count
  means_saved table count means = subst (λ (p : LogicalImage). Means p table count) (sym logical_image_saved) (list_means table count means)

  pub orderly_saved : AreOrderly (logical_image_under (Some (master_in content)) g new (blocks_saved newest blocks content)).log
  orderly_saved = subst (λ (p : LogicalImage). AreOrderly p.log) (sym logical_image_saved) list_orderly

-- A unit of a master is the one that its octets say.

module _ (newest : Option Master) (g : Geometry) (image : Image) (blocks : List (List LogRecord)) (content : List ℕ) (m : Master) (unit : IsUnit content m)
    (master : seen m ≡ (with_master (logical_image_under newest g image blocks) m.kept).master) (may : MayCheckpoint (logical_image_under newest g image blocks) m.kept) where
  abbrev standing : LogicalImage
  standing = logical_image_under newest g image blocks

  may_save : AreOrderly standing.log ⊎ (m.kept ≡ standing.hi) → MaySave newest g image blocks content
  may_save orderly = grind (arith, unit_read)

-- So the unit of a checkpoint's master may be: the pages are flushed, and it keeps the blocks of unfinished
-- transactions.
pub checkpoint_may_save : (newest : Option Master) (g : Geometry) (image : Image) (blocks : List (List LogRecord)) (content : List ℕ) (m : Master) → IsSoundUnder newest g image blocks → IsUnit content m → IsMasterOf (logical_image_under newest g image blocks) m → IsFlushed (logical_image_under newest g image blocks) → kept_by newest ≤ m.kept → m.kept ≤ oldest_needed (logical_image_under newest g image blocks) → AreOrderly (logical_image_under newest g image blocks).log ⊎ (m.kept ≡ (logical_image_under newest g image blocks).hi) → MaySave newest g image blocks content
checkpoint_may_save newest g image blocks content m sound unit is flushed rises within orderly =
    let p = logical_image_under newest g image blocks in
    may_save newest g image blocks content m unit (master_is_saved p m sound.records is) ((checkpoint_needs p m.kept sound.records).1 (flushed, rises, within)) orderly

-- The blocks of the transactions that the master names as active.
