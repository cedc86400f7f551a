-- A database as its contracts speak of it, and what it stands for.
use Rattle.std.specs.Prelude.{◌≡◌, ℕ, ◌*◌, Bool, false}
use Rattle.site.specs.State.{State as Site, IsQuiet}
use Rattle.site.specs.declared.geometry.Geometry.{Geometry}
use Rattle.record_model.specs.State.{State}
use Rattle.engine.specs.declared.engine.Engine.{Engine}
use Rattle.engine.specs.Invariant.{Invariant, sizes_of}
use Rattle.engine.specs.Representation.{Matches}

-- the engine, the site that it works on, and whether a call has stopped
pub record Held : Type 0 where
  pub engine : Engine
  pub site : Site
  pub closed : Bool

-- how many records it has
abbrev pub records_of : Held → ℕ
records_of db = 32 * (sizes_of db.engine.store).pages

-- over an honest and quiet site of these sizes: it is open, and stands for this state
pub record StandsFor (g : Geometry) (s : State) (db : Held) : Type 0 where
  pub is_open : db.closed ≡ false
  pub going : Invariant db.engine db.site
  pub fits : Matches db.engine db.site s
  pub quiet : IsQuiet db.site
  pub sizes : sizes_of db.engine.store ≡ g
