-- The page cache of the database: its listing, and its queue on flash.
use Rattle.std.specs.Prelude.{◌≡◌, List}
use Rattle.site.specs.State.{State as Site}
use Rattle.record_model.specs.declared.words.CacheLine.{CacheLine}
use Rattle.record_model.specs.State.{State}
use Rattle.second_chance.specs.Machine.{listing, opened}
use Rattle.page_store.specs.Caching.{cache_of}
use Rattle.engine.specs.declared.engine.Engine.{Engine}
use Rattle.engine.specs.Representation.{Matches}
use Rattle.engine.specs.Invariant.{sizes_of}
use Rattle.engine.specs.Paging.{cache_on}

-- what the cache machine lists in the state that the database's cache stands for
abbrev pub listing_of : Engine → List CacheLine
listing_of engine = listing (cache_of engine.store.pages)

-- a restart would find the queue of the database's cache on flash, in its groups and with its dirty marks
abbrev pub QueueIsOnFlash : Type 0
QueueIsOnFlash = (engine : Engine) (site : Site) (s : State) → Matches engine site s
    → cache_on (sizes_of engine.store) site.image ≡ opened (cache_of engine.store.pages).queue
