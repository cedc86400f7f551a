-- The five changes of an image.
use Rattle.std.specs.Prelude.{◌≡◌, ◌≢◌, ℕ, ◌*◌, ◌<◌, List, [], ◌∷◌, length, slice_index, Contains, Option, Some, None}
use Rattle.std.specs.List.{AllByRecursion}
use Rattle.site.specs.declared.outside.Dev.{Dev}
use Rattle.site.specs.declared.geometry.Geometry.{Geometry}
use Rattle.site.specs.State.{Image, content_of}
use Rattle.sealed_ring.specs.Ring.{IsRing, IsBeside, appended}
use Rattle.log_records.specs.declared.log_record.LogRecord.{LogRecord}
use Rattle.log_records.specs.Spelling.{AreBlock, block}
use Rattle.image_changes.specs.Rings.{RingName, Masters, Blocks, Groups, Segments, shape_of, octets_of, units_on}
use Rattle.image_changes.specs.Rings.{KeepsUnits}

pub data Change : Type 0 where
  -- a log block with these records is sealed
  SealsBlock : List LogRecord → Change
  -- these disk pages are rewritten; until the sync they may have any octets
  RewritesPages : List ℕ → Change
  -- a group, a segment or a master unit with this content is appended
  AppendsGroup : List ℕ → Change
  AppendsSegment : List ℕ → Change
  AppendsMaster : List ℕ → Change

-- the ring that it appends to
abbrev pub ring_of : Change → Option RingName
ring_of (SealsBlock records) = Some Blocks
ring_of (RewritesPages pages) = None
ring_of (AppendsGroup content) = Some Groups
ring_of (AppendsSegment content) = Some Segments
ring_of (AppendsMaster content) = Some Masters

abbrev pub SameSizes : Image → Image → Type 0
SameSizes old new = (dev : Dev) → length (content_of dev new) ≡ length (content_of dev old)

-- All that is read of an image reads the same: the units of the four rings, and the disk.
pub record ReadsAs (g : Geometry) (old new : Image) : Type 0 where
  pub sizes : SameSizes old new
  pub rings : (ring : RingName) → KeepsUnits (shape_of g ring) old new
  pub disk : new.disk ≡ old.disk

-- one ring has one more unit, and all else reads the same
pub record Appends (g : Geometry) (ring : RingName) (bytes : List ℕ) (old new : Image) : Type 0 where
  pub sizes : SameSizes old new
  pub room : length bytes ≡ (shape_of g ring).room
  pub form : IsRing (shape_of g ring) (octets_of (shape_of g ring) new)
  pub units : units_on (shape_of g ring) new ≡ appended (shape_of g ring) (units_on (shape_of g ring) old) bytes
  pub others : (other : RingName) → other ≢ ring → KeepsUnits (shape_of g other) old new
  pub disk : new.disk ≡ old.disk

-- only octets of these pages differ, and the rings read the same
pub record Rewrites (g : Geometry) (pages : List ℕ) (old new : Image) : Type 0 where
  pub sizes : SameSizes old new
  pub rings : (ring : RingName) → KeepsUnits (shape_of g ring) old new
  pub exist : AllByRecursion (λ page. page < g.pages) pages
  pub others : (place : ℕ) → ((page : ℕ) → Contains pages page → IsBeside (4096 * page) 4096 place)
      → slice_index new.disk place ≡ slice_index old.disk place

-- what a change does to an image, with what must hold of it
abbrev pub Makes : Geometry → Change → Image → Image → Type 0
Makes g (SealsBlock records) old new = AreBlock records × Appends g Blocks (block records) old new
Makes g (RewritesPages pages) old new = Rewrites g pages old new
Makes g (AppendsGroup content) old new = Appends g Groups content old new
Makes g (AppendsSegment content) old new = Appends g Segments content old new
Makes g (AppendsMaster content) old new = Appends g Masters content old new

-- one image leads to another by these changes, one after the other
abbrev pub Reaches : Geometry → List Change → Image → Image → Type 0
Reaches g [] old new = ReadsAs g old new
Reaches g (change ∷ changes) old new = (mid : Image) × Makes g change old mid × Reaches g changes mid new
