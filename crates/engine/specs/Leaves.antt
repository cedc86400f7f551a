-- What a crash may leave of a call.
use Rattle.std.specs.Prelude.{◌≡◌, ◌⊎◌, ℕ, List, Result, Ok, Err}
use Rattle.site.specs.declared.outside.Stop.{Stop}
use Rattle.site.specs.declared.outside.Stop.TheVariants.{Foreign}
use Rattle.site.specs.declared.geometry.Geometry.{Geometry}
use Rattle.site.specs.State.{Snapshot, State as Site}
use Rattle.site.specs.Geometry.{HasLimits, HasLengths}
use Rattle.record_model.specs.State.{Content, State}
use Rattle.image_meaning.specs.Moments as moments
use Rattle.engine.specs.Image.{Stands}

-- nothing was told, and the devices stand for this table after so many commits
abbrev pub LeavesTable : Geometry → List Content → ℕ → List ℕ → Snapshot → Type 0
LeavesTable = moments.LeavesFor

-- nothing was told, and the devices stand for the table before the command or after it
pub record LeavesEither (g : Geometry) (before after : State) (so_far : List ℕ) (snapshot : Snapshot) : Type 0 where
  pub told : snapshot.told ≡ so_far
  pub stands : Stands g snapshot.image before.table before.commits ⊎ Stands g snapshot.image after.table after.commits

-- no geometry has devices of these lengths
abbrev pub HasNoSizes : Site → Type 0
HasNoSizes site = (g : Geometry) → HasLimits g → HasLengths g site.image → ⊥

-- what comes of devices without sizes: they are refused, and nothing was done
abbrev pub IsRefused : {T X : Type 0} → Result T Stop → X → X → Type 0
IsRefused (Ok done) old new = ⊥
IsRefused (Err stop) old new = (stop ≡ Foreign) × (new ≡ old)
