-- Laws on images.
use Rattle.std.specs.Prelude.{◌≡◌, ℕ, ◌+◌, ◌*◌, ◌<◌, List, [], ◌∷◌, ◌++◌, replicate, Option, None}
use Rattle.site.specs.declared.geometry.Geometry.{Geometry}
use Rattle.site.specs.Geometry.{HasLimits, blank_image}
use Rattle.site.specs.State.{Image}
use Rattle.record_model.specs.State.{Content, table_with}
use Rattle.log_records.specs.declared.log_record.LogRecord.{LogRecord}
use Rattle.log_records.specs.declared.log_record.LogRecord.TheVariants.{Commit}
use Rattle.log_records.specs.Log.{Entry}
use Rattle.log_records.specs.Sound.{Means, commit_numbers}
use Rattle.log_laws.specs.Follow.{GoesOn, next_entries, writes_in}
use Rattle.frame_group.specs.Groups.{Frame, IsGroup}
use Rattle.log_laws.specs.NewImage.{Replaces}
use Rattle.checkpoint.specs.declared.master.Master.{Master}
use Rattle.checkpoint.specs.Newest.{HasMaster}
use Rattle.sealed_ring.specs.Ring.{IsRing}
use Rattle.image_changes.specs.Rings.{master_shape}
use Rattle.image_changes.specs.Changes.{SealsBlock, RewritesPages, AppendsGroup, AppendsSegment, Makes}
use Rattle.log_store.specs.Representation.{HasBlocks}
use Rattle.flash_cache.specs.Representation.{version_on}
use Rattle.image_meaning.specs.Meaning.{saved_by, kept_by, logical_image_under, version_in, HasNewest}
use Rattle.image_meaning.specs.Meaning.{AreOctetsSoundUnder}
use Rattle.image_meaning.specs.Meaning.{IsSoundUnder, StandsUnder, StandsFor}
use Rattle.image_meaning.specs.Changes.{MaySaveSegment, MayAppend, MayStage}

-- blank devices stand for the table without values
abbrev pub BlankStands : Type 0
BlankStands = (g : Geometry) → HasLimits g → StandsUnder None g (blank_image g) (replicate (32 * g.pages) None) 0

-- an image stands for one table at most
abbrev pub OneMeaningFor : Type 0
OneMeaningFor =
    (g : Geometry) (image : Image) (table other : List Content) (commits many : ℕ) → StandsFor g image table commits
    → StandsFor g image other many →
    (table ≡ other) × (commits ≡ many)

-- which is one master at most
abbrev pub OneMasterStands : Type 0
OneMasterStands = (g : Geometry) (image : Image) (a b : Option Master) → HasNewest a g image
    → HasNewest b g image → a ≡ b

-- and the one that is read of the master ring.
abbrev pub NewestIsRead : Type 0
NewestIsRead = (newest : Option Master) (g : Geometry) (image : Image) → HasNewest newest g image
    → HasMaster image (saved_by newest)

abbrev pub ReadIsNewest : Type 0
ReadIsNewest =
    (g : Geometry) (image : Image) (m : Master) → IsRing master_shape image.log → HasMaster image m →
    (newest : Option Master) × HasNewest newest g image × (m ≡ saved_by newest)

-- A block that goes on is sealed.
abbrev pub SealedIsSound : Type 0
SealedIsSound =
    (newest : Option Master) (g : Geometry) (old new : Image) (blocks : List (List LogRecord))
    (records : List LogRecord) → IsSoundUnder newest g old blocks
    → GoesOn (logical_image_under newest g old blocks) records →
    Makes g (SealsBlock records) old new → IsSoundUnder newest g new (blocks ++ records ∷ [])

-- without a Commit it changes nothing of what the image stands for
abbrev pub SealedWithoutCommit : Type 0
SealedWithoutCommit =
    (newest : Option Master) (g : Geometry) (old new : Image) (blocks : List (List LogRecord))
    (records : List LogRecord) → IsSoundUnder newest g old blocks
    → GoesOn (logical_image_under newest g old blocks) records →
    Makes g (SealsBlock records) old new
    → commit_numbers (next_entries (logical_image_under newest g old blocks) records) ≡ [] →
    (table : List Content) (count : ℕ) → Means (logical_image_under newest g old blocks) table count
    → Means (logical_image_under newest g new (blocks ++ records ∷ [])) table count

-- with one Commit the writes of its transaction enter the table
abbrev pub SealedWithCommit : Type 0
SealedWithCommit =
    (newest : Option Master) (g : Geometry) (old new : Image) (blocks : List (List LogRecord))
    (records : List LogRecord) → IsSoundUnder newest g old blocks
    → GoesOn (logical_image_under newest g old blocks) records →
    Makes g (SealsBlock records) old new →
    (before after : List Entry) (lsn t number : ℕ)
    → next_entries (logical_image_under newest g old blocks) records
    ≡ before ++ record { lsn = lsn; rec = Commit t number } ∷ after →
    commit_numbers before ≡ [] → commit_numbers after ≡ [] →
    (table : List Content) (count : ℕ) → Means (logical_image_under newest g old blocks) table count →
    Means (logical_image_under newest g new (blocks ++ records ∷ []))
    (table_with table (writes_in t ((logical_image_under newest g old blocks).log ++ before))) (count + 1)

-- Valid dirty frames are staged, whatever octets the disk has meanwhile.
abbrev pub StagedIsSound : Type 0
StagedIsSound =
    (newest : Option Master) (g : Geometry) (old new : Image) (blocks : List (List LogRecord)) (pages : List ℕ)
    → IsSoundUnder newest g old blocks → MayStage g old pages →
    Makes g (RewritesPages pages) old new → IsSoundUnder newest g new blocks

abbrev pub StagedMeans : Type 0
StagedMeans =
    (newest : Option Master) (g : Geometry) (old new : Image) (blocks : List (List LogRecord)) (pages : List ℕ)
    → IsSoundUnder newest g old blocks → MayStage g old pages →
    Makes g (RewritesPages pages) old new →
    (table : List Content) (count : ℕ) → Means (logical_image_under newest g old blocks) table count
    → Means (logical_image_under newest g new blocks) table count

-- A group is appended, which brings new versions, and the front group leaves where the queue is full.
abbrev pub PushedIsSound : Type 0
PushedIsSound =
    (newest : Option Master) (g : Geometry) (old new : Image) (blocks : List (List LogRecord)) (content : List ℕ)
    (frames : List Frame) → IsSoundUnder newest g old blocks → IsGroup content frames →
    MayAppend newest g old blocks frames → Makes g (AppendsGroup content) old new → IsSoundUnder newest g new blocks

abbrev pub PushedMeans : Type 0
PushedMeans =
    (newest : Option Master) (g : Geometry) (old new : Image) (blocks : List (List LogRecord)) (content : List ℕ)
    (frames : List Frame) → IsSoundUnder newest g old blocks → IsGroup content frames →
    MayAppend newest g old blocks frames → Makes g (AppendsGroup content) old new →
    (table : List Content) (count : ℕ) → Means (logical_image_under newest g old blocks) table count
    → Means (logical_image_under newest g new blocks) table count

-- A segment that is due is saved: the image has the same groups and pages.
abbrev pub SegmentIsSound : Type 0
SegmentIsSound =
    (newest : Option Master) (g : Geometry) (old new : Image) (blocks : List (List LogRecord)) (content : List ℕ)
    → IsSoundUnder newest g old blocks → MaySaveSegment g old content →
    Makes g (AppendsSegment content) old new → IsSoundUnder newest g new blocks

abbrev pub SegmentMeans : Type 0
SegmentMeans =
    (newest : Option Master) (g : Geometry) (old new : Image) (blocks : List (List LogRecord)) (content : List ℕ)
    → Makes g (AppendsSegment content) old new →
    (table : List Content) (count : ℕ) → Means (logical_image_under newest g old blocks) table count
    → Means (logical_image_under newest g new blocks) table count

-- All else of the octets may change as long as they are sound and each version replaces the one before: by itself, or
-- by a new one.
abbrev pub ReplacedIsSound : Type 0
ReplacedIsSound =
    (newest : Option Master) (g : Geometry) (old new : Image) (blocks : List (List LogRecord))
    → IsSoundUnder newest g old blocks → AreOctetsSoundUnder newest g new
    → HasBlocks g (kept_by newest) blocks new →
    ((number : ℕ) → number < g.pages
    → Replaces (logical_image_under newest g old blocks) number (version_in (version_on g new number)))
    → IsSoundUnder newest g new blocks

abbrev pub ReplacedMeans : Type 0
ReplacedMeans =
    (newest : Option Master) (g : Geometry) (old new : Image) (blocks : List (List LogRecord))
    → IsSoundUnder newest g old blocks →
    ((number : ℕ) → number < g.pages
    → Replaces (logical_image_under newest g old blocks) number (version_in (version_on g new number))) →
    (table : List Content) (count : ℕ) → Means (logical_image_under newest g old blocks) table count
    → Means (logical_image_under newest g new blocks) table count

abbrev pub VersionReplaces : Type 0
VersionReplaces =
    (newest : Option Master) (g : Geometry) (image : Image) (blocks : List (List LogRecord)) (number : ℕ)
    → IsSoundUnder newest g image blocks → number < g.pages →
    Replaces (logical_image_under newest g image blocks) number (version_in (version_on g image number))

-- Changes that may be made, one after the other.
