-- The rules of sound devices, one definition each, and the verdict on three contents.
use Rattle.std.specs.Prelude.{◌≡◌, ℕ, zero, suc, ◌+◌, ◌-◌, ◌<◌, ◌≤◌, IsTrue, is_some, List, [], length, count_by}
use Rattle.site.specs.declared.geometry.Geometry.{Geometry}
use Rattle.site.specs.State.{Image}
use Rattle.sealed_ring.specs.Ring.{hi_of}
use Rattle.image_changes.specs.Rings.{log_shape}
use Rattle.log_records.specs.declared.log_record.LogRecord.{LogRecord}
use Rattle.log_records.specs.Log.{log_from, table_of, entries_of, is_loser}
use Rattle.log_records.specs.Sound.{LogicalImage, InTurn, Pairwise, IsOfOpenTransaction, HaveBegunBefore, IsLoserChain}
use Rattle.log_records.specs.Sound.{HoldsOff, FitsLog, HasRoom, HasRoomInPage, active_in, before_block, AreNumbered}
use Rattle.log_records.specs.Sound.{commit_count}
use Rattle.log_records.specs.Log.{version_at}
use Rattle.checkpoint.specs.declared.master.Master.{Master}
use Rattle.checkpoint.specs.Newest.{seen}
use Rattle.log_store.specs.Representation.{HasBlocks}
use Rattle.flash_cache.specs.Representation.{IsCleanOn}
use Rattle.image_meaning.specs.Meaning.{versions_on, AreSegments}
use Rattle.image_form.specs.Octets.{IsFormed}

-- What three contents are read as where the first two rules hold: their sizes, their newest master, and the records of
-- the blocks from its oldest kept one on.
pub record Reading : Type 0 where
  pub g : Geometry
  pub master : Master
  pub blocks : List (List LogRecord)

-- the records, versions and master of a reading
abbrev pub logical_image_of : Reading → Image → LogicalImage
logical_image_of r image = record {
  master = seen r.master;
  log = log_from r.master.kept r.blocks;
  hi = hi_of (log_shape r.g) image.log;
  blocks = r.g.blocks;
  pages = versions_on r.g image;
}

-- 1. The octets are of the form.
abbrev pub OctetsAreFormed : Geometry → Master → Image → Type 0
OctetsAreFormed = IsFormed

-- 2. The oldest kept block is live, or nothing is kept, and redo begins among the kept blocks or behind them.
pub record KeptBlocksAreLive (g : Geometry) (m : Master) (image : Image) : Type 0 where
  pub kept_before_redo : m.kept ≤ m.redo
  pub redo_before_end : m.redo ≤ hi_of (log_shape g) image.log
  pub kept_is_live : hi_of (log_shape g) image.log ≤ m.kept + (g.blocks - 1)

-- 3. From the redo block on each record but a Begin is of an open transaction, and no record stands before the Begin
-- that it names.
pub record RecordsFollowBegins (p : LogicalImage) : Type 0 where
  pub open_transactions : InTurn (IsOfOpenTransaction p.master) [] p.log
  pub begun : HaveBegunBefore p.log

-- 4. An unfinished transaction has its Begin, then Updates and CLRs: each CLR is of the last Update that is left, and
-- an Update begins with what the transaction has written on its number last.
abbrev pub LosersCanBeUndone : LogicalImage → Type 0
LosersCanBeUndone p = (t : ℕ) → IsTrue (is_loser p.log t) → IsLoserChain t (entries_of t p.log)

-- 5. Behind an Update of an unfinished transaction no other transaction has a record on the same number.
abbrev pub LosersHoldOthersOff : LogicalImage → Type 0
LosersHoldOthersOff p = Pairwise (HoldsOff p.log) p.log

-- 6. Each version shows the records that it knows of, knows of all before the redo block, and of none that isn't
-- sealed.
abbrev pub VersionsFit : LogicalImage → Type 0
VersionsFit p = (page : ℕ) → page < length p.pages → FitsLog p page (version_at p.pages page)

-- 7. A valid frame that isn't dirty equals its disk page.
abbrev pub FramesAreClean : Geometry → Image → Type 0
FramesAreClean = IsCleanOn

-- 8. The live segments follow the live groups.
abbrev pub SegmentsFollowGroups : Geometry → Image → Type 0
SegmentsFollowGroups = AreSegments

-- 9. There is room for all that undo will write.
abbrev pub UndoHasRoom : LogicalImage → Type 0
UndoHasRoom = HasRoom

-- 10. The master names the transactions that were active at the redo block.
abbrev pub MasterNamesTheActive : LogicalImage → Type 0
MasterNamesTheActive p = p.master.active ≡ active_in (before_block p.master.redo p.log)

-- 11. The commits are numbered on by one, and are no more than the octets of the sealed blocks.
abbrev pub CommitsAreNumbered : LogicalImage → Type 0
CommitsAreNumbered = AreNumbered

-- 12. Each page has room for what is redone on it, and for what undo may put back.
abbrev pub PagesHaveRoom : LogicalImage → Type 0
PagesHaveRoom p = (page : ℕ) → page < length p.pages → HasRoomInPage p page

-- the rule of a reading that has this number, from the third on
pub record Rule (i : ℕ) (r : Reading) (image : Image) : Type 0 where
  pub third : i ≡ 3 → RecordsFollowBegins (logical_image_of r image)
  pub fourth : i ≡ 4 → LosersCanBeUndone (logical_image_of r image)
  pub fifth : i ≡ 5 → LosersHoldOthersOff (logical_image_of r image)
  pub sixth : i ≡ 6 → VersionsFit (logical_image_of r image)
  pub seventh : i ≡ 7 → FramesAreClean r.g image
  pub eighth : i ≡ 8 → SegmentsFollowGroups r.g image
  pub ninth : i ≡ 9 → UndoHasRoom (logical_image_of r image)
  pub tenth : i ≡ 10 → MasterNamesTheActive (logical_image_of r image)
  pub eleventh : i ≡ 11 → CommitsAreNumbered (logical_image_of r image)
  pub twelfth : i ≡ 12 → PagesHaveRoom (logical_image_of r image)

-- the first two rules hold, and the contents are read so
pub record Reads (r : Reading) (image : Image) : Type 0 where
  pub formed : OctetsAreFormed r.g r.master image
  pub live : KeptBlocksAreLive r.g r.master image
  pub blocks : HasBlocks r.g r.master.kept r.blocks image

-- the rules from the third on hold that come before one
abbrev pub HoldBefore : ℕ → Reading → Image → Type 0
HoldBefore i r image = (j : ℕ) → j < i → Rule j r image

-- the numbers that have a value in the table of a logical image
abbrev pub values_of : LogicalImage → ℕ
values_of p = count_by is_some (table_of p.log p.pages)

-- all rules hold, and the table has so many values after so many commits
pub record IsSoundWith (image : Image) (records commits : ℕ) : Type 0 where
  pub reading : Reading
  pub reads : Reads reading image
  pub rules : HoldBefore 13 reading image
  pub values : records ≡ values_of (logical_image_of reading image)
  pub count : commits ≡ commit_count (logical_image_of reading image)

-- this is the least rule that fails, read where those before it hold
abbrev pub FailsFirst : ℕ → Image → Type 0
FailsFirst zero image = ⊥
FailsFirst (suc zero) image = (g : Geometry) (m : Master) → OctetsAreFormed g m image → ⊥
FailsFirst (suc (suc zero)) image = (g : Geometry) × (m : Master) × OctetsAreFormed g m image
    × (KeptBlocksAreLive g m image → ⊥)
FailsFirst i image = (r : Reading) × Reads r image × HoldBefore i r image × (Rule i r image → ⊥)
