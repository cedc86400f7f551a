-- Laws on the rules.
use Rattle.std.specs.Prelude.{◌≡◌, ℕ, is_some, List, count_by}
use Rattle.site.specs.declared.geometry.Geometry.{Geometry}
use Rattle.site.specs.State.{Image}
use Rattle.record_model.specs.State.{Content}
use Rattle.log_records.specs.declared.log_record.LogRecord.{LogRecord}
use Rattle.log_records.specs.Sound.{Means}
use Rattle.checkpoint.specs.declared.master.Master.{Master}
use Rattle.image_meaning.specs.Meaning.{StandsFor}
use Rattle.image_form.specs.Verdict.{Reading, Reads, OctetsAreFormed, KeptBlocksAreLive, HoldBefore, logical_image_of}
use Rattle.image_form.specs.Verdict.{IsSoundWith, FailsFirst}

-- Devices for which all rules hold stand for the table and the commits that they are read as.
abbrev pub SoundStands : Type 0
SoundStands = (r : Reading) (image : Image) (table : List Content) (commits : ℕ) → Reads r image
    → HoldBefore 13 r image →
    Means (logical_image_of r image) table commits → StandsFor r.g image table commits

-- a reading by which all rules hold, with this table and so many commits
pub record IsReadAs (g : Geometry) (image : Image) (table : List Content) (commits : ℕ) : Type 0 where
  pub reading : Reading
  pub sizes : reading.g ≡ g
  pub reads : Reads reading image
  pub rules : HoldBefore 13 reading image
  pub means : Means (logical_image_of reading image) table commits

-- And devices that stand for a table are sound by all rules, and read as that.
abbrev pub StandingIsSound : Type 0
StandingIsSound = (g : Geometry) (image : Image) (table : List Content) (commits : ℕ) → StandsFor g image table commits
    → IsReadAs g image table commits

-- Devices are read in one way: no two readings are of one image,
abbrev pub OneReading : Type 0
OneReading = (image : Image) (a b : Reading) → Reads a image → Reads b image → a ≡ b

-- and where the first two rules hold there is one, with their sizes and master.
abbrev pub AReading : Type 0
AReading = (g : Geometry) (m : Master) (image : Image) → OctetsAreFormed g m image → KeptBlocksAreLive g m image
    → (blocks : List (List LogRecord)) × Reads (record { g = g; master = m; blocks = blocks }) image

-- Sound devices fail no rule.
abbrev pub SoundFailsNone : Type 0
SoundFailsNone = (image : Image) (records commits i : ℕ) → IsSoundWith image records commits → FailsFirst i image → ⊥

-- sizes and a table with so many values, for which devices stand after so many commits
pub record StandsWith (image : Image) (records commits : ℕ) : Type 0 where
  pub sizes : Geometry
  pub table : List Content
  pub stands : StandsFor sizes image table commits
  pub values : records ≡ count_by is_some table

-- Devices that are judged sound stand for a table with as many values and commits as they are judged to have,
abbrev pub JudgedStands : Type 0
JudgedStands = (image : Image) (records commits : ℕ) → IsSoundWith image records commits
    → StandsWith image records commits

-- and all that stand for a table are judged so.
abbrev pub StandingIsJudged : Type 0
StandingIsJudged = (image : Image) (records commits : ℕ) → StandsWith image records commits
    → IsSoundWith image records commits
