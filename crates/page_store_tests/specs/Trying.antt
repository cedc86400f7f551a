-- What the tests say of a store and its log over a site.
use Rattle.std.specs.Prelude.{◌≡◌}
use Rattle.site.specs.State.{State}
use Rattle.site.specs.declared.geometry.Geometry.{Geometry}
use Rattle.log_store.specs.declared.store.LogStore.{LogStore}
use Rattle.log_store.specs.Representation as log_store
use Rattle.page_store.specs.declared.store.PageStore.{PageStore}
use Rattle.page_store.specs.Representation.{Invariant}

-- the tests' sizes
abbrev pub small : Geometry
small = record { pages = 16; groups = 8; blocks = 16 }

-- store and log may go on
pub record AreGoing (store : PageStore) (log : LogStore) (site : State) : Type 0 where
  pub pages : Invariant store site
  pub records : log_store.Invariant log site
  pub sizes : store.flash.geometry ≡ small
  pub log_sizes : log.geometry ≡ small
