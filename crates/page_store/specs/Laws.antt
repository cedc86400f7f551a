-- What follows for those who build on page stores.
use Rattle.std.specs.Prelude.{◌≡◌, ℕ, ◌≤◌, Bool, true, false, List}
use Rattle.site.specs.declared.outside.Dev.TheVariants.{Log}
use Rattle.site.specs.declared.geometry.Geometry.{Geometry}
use Rattle.site.specs.State.{State, IsQuiet}
use Rattle.site.specs.Calls.{Preserves}
use Rattle.site.specs.Moments.{LeavesOnly, ChangesOnly}
use Rattle.image_changes.specs.Reached.{LeavesFront}
use Rattle.flash_cache.specs.Representation.{version_on, IsCleanOn}
use Rattle.second_chance.specs.Machine.{Rules, Cache, touched}
use Rattle.log_store.specs.declared.store.LogStore.{LogStore}
use Rattle.log_store.specs.LogList.{LogList, changes_if}
use Rattle.log_store.specs.Representation as log_store
use Rattle.log_store.specs.Representation.{HasBlocks, LeavesLog}
use Rattle.write_ahead.specs.Forcing.{end_forced}
use Rattle.page_store.specs.declared.store.PageStore.{PageStore}
use Rattle.page_store.specs.Representation.{Invariant, Matches, current}
use Rattle.page_store.specs.Caching.{with_change}
use Rattle.page_store.specs.Ahead.{IsAhead, AreSealed, LeavesSealed}
use Rattle.page_store.specs.Leaves.{HasQueue, LeavesPages}

-- a touch and then a change of the page in front are the machine's touch with a change
abbrev pub TouchThenChange : Type 0
TouchThenChange = (r : Rules) (page : ℕ) (cache : Cache)
    → touched r page true cache ≡ with_change (touched r page false cache)

-- a store may go on after any calls on its site
abbrev pub GoesOnBeside : Type 0
GoesOnBeside = (store : PageStore) (old new : State) → Preserves old new → Invariant store old → Invariant store new

-- a store fits after calls that change the log's device alone, and each page has the content that it had
abbrev pub FitsBeside : Type 0
FitsBeside = (store : PageStore) (old new : State) → ChangesOnly Log old new → Preserves old new → Matches store old
    → Matches store new

abbrev pub CurrentBeside : Type 0
CurrentBeside = (store : PageStore) (old new : State) (page : ℕ) → ChangesOnly Log old new
    → current store new.image page ≡ current store old.image page

-- and the log, where it grew, is ahead of the pages still
abbrev pub AheadBeside : Type 0
AheadBeside =
    (store : PageStore) (log log' : LogStore) (old new : State) → log.geometry ≡ store.flash.geometry
    → log'.geometry ≡ log.geometry →
    log_store.Finds log old → log_store.Finds log' new → log.ring.hi ≤ log'.ring.hi → end_forced log ≤ end_forced log' →
    ChangesOnly Log old new → IsAhead log store old.image → IsAhead log' store new.image

-- Calls on the log alone leave each page's version.
abbrev pub VersionsBeside : Type 0
VersionsBeside = (g : Geometry) (old new : State) (page : ℕ) → ChangesOnly Log old new
    → version_on g new.image page ≡ version_on g old.image page

-- A crash at any moment of such a call leaves what a call on pages may leave, and the LSN of each version is sealed
-- still.
abbrev pub LeavesBeside : Type 0
LeavesBeside =
    (g : Geometry) (sealing : Bool) (list : LogList) (given : ℕ → List ℕ) (old new : State) → IsQuiet old
    → HasQueue g old.image → IsCleanOn g old.image → ChangesOnly Log old new →
    LeavesOnly old new (LeavesLog g sealing list old.told) → LeavesFront g (changes_if sealing list) old new
    → LeavesOnly old new (LeavesPages g given sealing list old)

abbrev pub SealedBeside : Type 0
SealedBeside =
    (g : Geometry) (sealing : Bool) (list : LogList) (old new : State) → IsQuiet old
    → HasBlocks g list.first list.blocks old.image → AreSealed g old.image → ChangesOnly Log old new →
    LeavesOnly old new (LeavesLog g sealing list old.told) → LeavesOnly old new (LeavesSealed g)
