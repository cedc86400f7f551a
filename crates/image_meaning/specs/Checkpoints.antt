-- Laws on a new master.
use Rattle.std.specs.Prelude.{◌≡◌, ℕ, List}
use Rattle.std.specs.Prelude.{Option, Some}
use Rattle.site.specs.declared.geometry.Geometry.{Geometry}
use Rattle.site.specs.State.{Image}
use Rattle.record_model.specs.State.{Content}
use Rattle.log_records.specs.declared.log_record.LogRecord.{LogRecord}
use Rattle.log_records.specs.Sound.{AreOrderly, Means}
use Rattle.log_laws.specs.NewImage.{with_master}
use Rattle.checkpoint.specs.declared.master.Master.{Master}
use Rattle.checkpoint.specs.Units.{IsUnit, master_in}
use Rattle.image_changes.specs.Changes.{AppendsMaster, Makes}
use Rattle.image_meaning.specs.Meaning.{logical_image_under, AreOctetsSoundUnder}
use Rattle.image_meaning.specs.Meaning.{IsSoundUnder}
use Rattle.image_meaning.specs.Changes.{MaySave}
use Rattle.image_meaning.specs.Changes.{blocks_after}

-- The blocks that a master unit with this content keeps.
abbrev pub blocks_saved : Option Master → List (List LogRecord) → List ℕ → List (List LogRecord)
blocks_saved newest blocks content = blocks_after newest blocks (AppendsMaster content)

-- Its octets are sound where the others were,
abbrev pub SavedOctets : Type 0
SavedOctets =
    (newest : Option Master) (g : Geometry) (old new : Image) (content : List ℕ) → AreOctetsSoundUnder newest g old
    → IsUnit content (master_in content) →
    Makes g (AppendsMaster content) old new → AreOctetsSoundUnder (Some (master_in content)) g new

-- and its logical image is the one before, with the new master.
abbrev pub SavedLogicalImage : Type 0
SavedLogicalImage =
    (newest : Option Master) (g : Geometry) (old new : Image) (blocks : List (List LogRecord)) (content : List ℕ)
    → IsSoundUnder newest g old blocks → MaySave newest g old blocks content →
    Makes g (AppendsMaster content) old new →
    logical_image_under (Some (master_in content)) g new (blocks_saved newest blocks content)
    ≡ with_master (logical_image_under newest g old blocks) (master_in content).kept

-- So the image is sound under the new master, from its oldest kept block on,
abbrev pub SavedIsSound : Type 0
SavedIsSound =
    (newest : Option Master) (g : Geometry) (old new : Image) (blocks : List (List LogRecord)) (content : List ℕ)
    → IsSoundUnder newest g old blocks → MaySave newest g old blocks content →
    Makes g (AppendsMaster content) old new
    → IsSoundUnder (Some (master_in content)) g new (blocks_saved newest blocks content)

-- stands for the same,
abbrev pub SavedMeans : Type 0
SavedMeans =
    (newest : Option Master) (g : Geometry) (old new : Image) (blocks : List (List LogRecord)) (content : List ℕ)
    → IsSoundUnder newest g old blocks → MaySave newest g old blocks content →
    Makes g (AppendsMaster content) old new →
    (table : List Content) (count : ℕ) → Means (logical_image_under newest g old blocks) table count
    → Means (logical_image_under (Some (master_in content)) g new (blocks_saved newest blocks content)) table count

-- and its log is orderly.
abbrev pub SavedIsOrderly : Type 0
SavedIsOrderly =
    (newest : Option Master) (g : Geometry) (old new : Image) (blocks : List (List LogRecord)) (content : List ℕ)
    → IsSoundUnder newest g old blocks → MaySave newest g old blocks content →
    Makes g (AppendsMaster content) old new
    → AreOrderly (logical_image_under (Some (master_in content)) g new (blocks_saved newest blocks content)).log
