-- A run opens exactly over sound devices.
use Rattle.std.specs.Prelude.{◌≡◌, ℕ, count_by, is_some}
use Rattle.site.specs.declared.geometry.Geometry.{Geometry}
use Rattle.site.specs.State.{Image}
use Rattle.record_model.specs.State as model
use Rattle.image_form.specs.Verdict.{IsSoundWith}
use Rattle.engine.specs.Image.{Opens}

-- A run over the image opens, with a table of so many values after so many commits.
pub record OpensWith (image : Image) (records commits : ℕ) : Type 0 where
  pub g : Geometry
  pub opening : model.State
  pub opens : Opens g image opening
  pub values : records ≡ count_by is_some opening.table
  pub count : commits ≡ opening.commits

-- a run over each image that is sound by the rules opens, with these numbers
abbrev pub SoundOpens : Type 0
SoundOpens = (image : Image) (records commits : ℕ) →
    IsSoundWith image records commits → OpensWith image records commits

-- and each image over which a run opens is sound by the rules
abbrev pub OpeningIsSound : Type 0
OpeningIsSound = (image : Image) (records commits : ℕ) →
    OpensWith image records commits → IsSoundWith image records commits
