-- A database that was never written has made its restart.
use Rattle.std.specs.Prelude.{◌≡◌, ◌≢◌, ℕ, []}
use Rattle.site.specs.State.{State as Site, no_loose}
use Rattle.site.specs.declared.geometry.Geometry.{Geometry}
use Rattle.site.specs.Moments.{LeavesOnly}
use Rattle.engine.specs.declared.engine.Engine.{Engine}
use Rattle.engine.specs.Leaves.{LeavesTable}
use Rattle.front_end.specs.declared.halt.Halt.{Halt}
use Rattle.front_end.specs.Texts.{status_of}
use Rattle.face.specs.Image.{blank_table}
use Rattle.archive_restore.specs.Writing.{AsksSome, HasCarried, blank_state}

-- no line was carried out yet
pub record HasBegun (pool : ℕ) (g : Geometry) (old now : Site) (engine : Engine) : Type 0 where
  pub carried : HasCarried pool g old now engine [] (blank_state g)
  pub moments : LeavesOnly old now (LeavesTable g (blank_table g) 0 old.told)

-- or it stops
pub record NeverBegins (pool : ℕ) (g : Geometry) (old new : Site) (halt : Halt) : Type 0 where
  pub asks : AsksSome pool g 0 [] old new halt
  pub moments : LeavesOnly old new (LeavesTable g (blank_table g) 0 old.told)
  pub quiet : status_of halt ≢ 3 → new.loose ≡ no_loose
