-- Other versions of the pages, as a statement over lists.
use Rattle.std.specs.Prelude.{◌≡◌, ℕ, ◌<◌, List, length}
use Rattle.log_records.specs.Log.{Version, version_at}
use Rattle.log_records.specs.Sound.{LogicalImage}
use Rattle.log_laws.specs.NewImage.{Replaces}

-- the logical image with other versions
abbrev pub with_versions : LogicalImage → List Version → LogicalImage
with_versions p versions = record p { pages = versions }

-- each version fits the log, and over it the same is redone as over the one before
pub record ReplaceAll (p : LogicalImage) (versions : List Version) : Type 0 where
  pub count : length versions ≡ length p.pages
  pub each : (page : ℕ) → page < length p.pages → Replaces p page (version_at versions page)
