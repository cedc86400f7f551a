-- What a restart asks of the machine of the rings.
use Rattle.std.specs.Prelude.{◌≡◌, List, Result, IfOk}
use Rattle.site.specs.declared.outside.Stop.{Stop}
use Rattle.site.specs.declared.geometry.Geometry.{Geometry}
use Rattle.site.specs.State.{State, Image}
use Rattle.image_changes.specs.Rings.{log_shape, master_shape}
use Rattle.sealed_ring.specs.Ring.{hi_of}
use Rattle.second_chance.specs.Machine.{Rules}
use Rattle.ring_machine.specs.Tail.{empty_at}
use Rattle.ring_machine.specs.Machine.{Machine, RingOp}
use Rattle.ring_machine.specs.Performing.{Performs}
use Rattle.page_store.specs.Caching.{cache_of}
use Rattle.redo_undo.specs.declared.store.TransactionStore.{TransactionStore}
use Rattle.redo_undo.specs.Mirroring.{MirrorsStore}
use Rattle.engine.specs.declared.restart.Opened.{Opened}
use Rattle.engine.specs.Paging.{cache_on}

-- The machine at the beginning of a restart, by what stands on the devices: the queue on flash and an empty pool, a
-- tail without records, and the numbers of the next block and the next master unit.
abbrev pub machine_on : Geometry → Image → Machine
machine_on g image = record {
  cache = cache_on g image;
  tail = empty_at (hi_of (log_shape g) image.log);
  masters = hi_of master_shape image.log;
}

-- the same by what was opened
abbrev pub found_machine : Opened → Machine
found_machine opened = record {
  cache = cache_of opened.pages;
  tail = empty_at opened.log.ring.hi;
  masters = opened.masters.hi;
}

-- a call that opens a store does this work, beginning with this machine, which mirrors the store at Ok
abbrev pub PerformsFrom : {T : Type 0} → Result T Stop → (T → TransactionStore) → Rules → List RingOp → Machine
    → State → Type 0
PerformsFrom result store r works start now =
    Performs result r works (λ m. m ≡ start) (λ m. IfOk result (λ x. MirrorsStore (store x) now.image m))
