-- What opening comes to.
use Rattle.std.specs.Prelude.{◌≡◌, ℕ, false, List, Result, IsTrue, IfOk, IfErr}
use Rattle.site.specs.declared.outside.Stop.{Stop}
use Rattle.site.specs.declared.geometry.Geometry.{Geometry}
use Rattle.site.specs.State.{State as Site, IsQuiet}
use Rattle.site.specs.Work.{Calls}
use Rattle.record_model.specs.State.{Content, State}
use Rattle.page_store.specs.Stopping.{MayStop}
use Rattle.engine.specs.Calls.{Ends}
use Rattle.engine.specs.Image.{Stands, Opens}
use Rattle.engine.specs.Leaves.{LeavesTable, HasNoSizes, IsRefused}
use Rattle.database.specs.Held.{Held, StandsFor}

-- A restart over a site, with a pool of so many pages: the database that it opens, or why it stops.
pub record HasOpened (pool : ℕ) (result : Result Held Stop) (before now : Site) : Type 0 where
  -- of every site
  pub is_open : IfOk result (λ db. (db.closed ≡ false) × (db.site ≡ now))
  pub pool_is : IfOk result (λ db. db.engine.store.pages.pool.size ≡ pool)
  pub calls : Calls result before now
  pub stops : IfErr result (λ stop. MayStop stop)
  pub refuses : HasNoSizes before → IsRefused result before now
  -- of an honest one whose image stands for a table: so it does at each moment
  pub ends : IsTrue before.honest → (g : Geometry) (table : List Content) (commits : ℕ) →
      Stands g before.image table commits → Ends result g before now (LeavesTable g table commits before.told)
  -- and where nothing is loose the database stands for the state that the image opens with
  pub stands : IsTrue before.honest → IsQuiet before → (g : Geometry) (s : State) → Opens g before.image s →
      IfOk result (λ db. StandsFor g s db)
