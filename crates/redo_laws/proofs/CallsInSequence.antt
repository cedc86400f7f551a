-- Calls one behind the other, and a site of which only was read.
use Rattle.std.proofs.lemmas.Grind.{common_steps}
use Rattle.redo_laws.proofs.Citing.{◌≡◌, ℕ, ◌<◌, ◌≤◌, nat_lt, arith, append-nil, [], List, refl, sym, subst, ◌∙◌, Option, Master, KeepsUnits, master_shape, next_block_is, AreRingsSoundUnder, logical_image_under, StandsUnder, kept_by, IsSoundUnder, LeavesSomeUnder, carries_nothing, Entry, log_from, Means, LogRecord, Finds, end_of, LogStore, fits_beside, IsAhead, rules, AreReady, current, PageStore, Content, History, settled, LeavesTableUnder, leaves_weaker, Invariant, Represents, RepresentsIn, ShowRecords, RunsOn, in_sequence, holds_now, no_call, unchanged_calm, stays_honest, quiet_leaves, Preserves, IsUnchanged, Leaves, LeavesOnly, ChangesOnly, State, Image, IsQuiet, Geometry, Log, lsn_of}
use Rattle.redo_laws.proofs.Runs.{runs_settled, means_settled}
use Rattle.redo_laws.proofs.Touched.{some_of, leaves_settled}
use Rattle.page_store.proofs.Versions.{flash_later}
use Rattle.log_store.specs.Representation as log_store

-- The ring of blocks is found on a site on which log and pages hold together.
pub found_now : {g : Geometry} {log : LogStore} {pages : PageStore} {site : State} {newest : Option Master} {records : List Entry} {history : History} → RepresentsIn g log pages site newest records history → Finds log site
found_now h = let ready = h.log_holds.ready.blocks in record { honest = ready.honest; form = ready.form; hi = ready.hi }

-- A queue on flash has room for a group.
pub some_group : {log : LogStore} {pages : PageStore} {site : State} → Invariant log pages site → 1 ≤ (rules pages).groups
some_group going = let least = going.pages_going.flash.limits.groups in omega (arith, least)

-- one call behind others
pub and_then : (newest : Option Master) (g g' : Geometry) (old mid new : State) (history : History) → g' ≡ g → LeavesOnly old mid (LeavesSomeUnder newest g history old.told) → LeavesOnly mid new (LeavesSomeUnder newest g' history mid.told) → LeavesOnly old new (LeavesSomeUnder newest g history old.told)
and_then newest g g' old mid new history same first second =
    let told : mid.told ≡ old.told = (holds_now old mid (LeavesSomeUnder newest g history old.told) first).told in
    in_sequence old mid new (Leaves (LeavesSomeUnder newest g history old.told)) first
    (subst (λ (t : List ℕ). LeavesOnly mid new (LeavesSomeUnder newest g history t)) told (subst (λ (x : Geometry). LeavesOnly mid new (LeavesSomeUnder newest x history mid.told)) same second))

-- reading changes no device
pub only_read : (old new : State) → IsUnchanged old new → ChangesOnly Log old new
only_read old new same = grind (arith, common_steps, unchanged_calm, no_call)

-- log and pages hold together still
pub holds_still : (log : LogStore) (pages : PageStore) (old new : State) (newest : Option Master) (records : List Entry) (history : History) → Preserves old new → IsUnchanged old new → Represents log pages old newest records history → Represents log pages new newest records history
holds_still log pages old new newest records history goes same h =
    let ready = h.log_holds.ready in
    record {
      log_holds = record {
        kept = h.log_holds.kept;
        blocks = h.log_holds.blocks;
        tail = h.log_holds.tail;
        ready = record {
          pages = fits_beside pages old new (only_read old new same) goes ready.pages;
          blocks = grind (arith, common_steps, stays_honest);
          records = subst (λ (i : Image). log_store.Represents log i (record { first = kept_by newest; blocks = h.log_holds.blocks; tail = h.log_holds.tail })) (sym same.image) ready.records;
        };
        rings = subst (AreRingsSoundUnder newest pages.flash.geometry) (sym same.image) h.log_holds.rings;
        runs_on = subst (λ (i : Image). RunsOn (logical_image_under newest pages.flash.geometry i h.log_holds.blocks) h.log_holds.tail records history) (sym same.image) h.log_holds.runs_on;
        ahead = subst (IsAhead log pages) (sym same.image) h.log_holds.ahead;
        room = h.log_holds.room;
      };
      shows = subst (λ (i : Image). ShowRecords pages.flash.geometry pages i records) (sym same.image) h.shows;
      below = subst (λ (i : Image). (page : ℕ) → page < pages.flash.geometry.pages → lsn_of (current pages i page) < end_of log) (sym same.image) h.below;
    }

-- they may still go on
pub going_still : (log : LogStore) (pages : PageStore) (old new : State) → Preserves old new → Invariant log pages old → Invariant log pages new
going_still log pages old new goes may = grind (arith, flash_later)

-- what stands there is sound
pub sound_there : (log : LogStore) (pages : PageStore) (site : State) (newest : Option Master) (records : List Entry) (history : History) → log.geometry ≡ pages.flash.geometry → (h : Represents log pages site newest records history) → IsSoundUnder newest pages.flash.geometry site.image h.log_holds.blocks
sound_there log pages site newest records history sizes h = grind (arith)

-- and stands for what is sealed
pub stands_sealed : (log : LogStore) (pages : PageStore) (site : State) (newest : Option Master) (records : List Entry) (history : History) → log.geometry ≡ pages.flash.geometry → (h : Represents log pages site newest records history) → StandsUnder newest pages.flash.geometry site.image (history.tables h.log_holds.runs_on.count) h.log_holds.runs_on.count
stands_sealed log pages site newest records history sizes h =
    record { blocks = h.log_holds.blocks; sound = sound_there log pages site newest records history sizes h; means = h.log_holds.runs_on.means }

-- for the table, where no commit waits
pub stands_there : (log : LogStore) (pages : PageStore) (site : State) (newest : Option Master) (records : List Entry) (table : List Content) (commits : ℕ) → log.geometry ≡ pages.flash.geometry → Represents log pages site newest records (settled table commits) → StandsUnder newest pages.flash.geometry site.image table commits
stands_there log pages site newest records table commits sizes h = record {
  blocks = h.log_holds.blocks;
  sound = sound_there log pages site newest records (settled table commits) sizes h;
  means = means_settled (logical_image_under newest pages.flash.geometry site.image h.log_holds.blocks) h.log_holds.tail records table commits h.log_holds.runs_on;
}

pub nothing_lost : (log : LogStore) (pages : PageStore) (site : State) (newest : Option Master) (records : List Entry) (history : History) → log.geometry ≡ pages.flash.geometry → Represents log pages site newest records history → IsQuiet site → LeavesOnly site site (LeavesSomeUnder newest pages.flash.geometry history site.told)
nothing_lost log pages site newest records history sizes h quiet =
    no_call site (Leaves (LeavesSomeUnder newest pages.flash.geometry history site.told))
    (λ snapshot left. subst (LeavesSomeUnder newest pages.flash.geometry history site.told) (sym (quiet_leaves site snapshot quiet left)) (some_of refl h.log_holds.runs_on (stands_sealed log pages site newest records history sizes h)))

pub nothing_happens : (log : LogStore) (pages : PageStore) (site : State) (newest : Option Master) (records : List Entry) (table : List Content) (commits : ℕ) → log.geometry ≡ pages.flash.geometry → Represents log pages site newest records (settled table commits) → IsQuiet site → LeavesOnly site site (LeavesTableUnder newest pages.flash.geometry table commits site.told)
nothing_happens log pages site newest records table commits sizes h quiet =
    leaves_weaker site site (LeavesSomeUnder newest pages.flash.geometry (settled table commits) site.told) (LeavesTableUnder newest pages.flash.geometry table commits site.told) leaves_settled (nothing_lost log pages site newest records (settled table commits) sizes h quiet)

-- a crash while only was read leaves it
pub leaves_still : (log : LogStore) (pages : PageStore) (old new : State) (newest : Option Master) (records : List Entry) (history : History) → log.geometry ≡ pages.flash.geometry → IsUnchanged old new → Represents log pages old newest records history → IsQuiet old → LeavesOnly old new (LeavesSomeUnder newest pages.flash.geometry history old.told)
leaves_still log pages old new newest records history sizes same h quiet =
    unchanged_calm old old new (Leaves (LeavesSomeUnder newest pages.flash.geometry history old.told)) (nothing_lost log pages old newest records history sizes h quiet) same

-- where the tail is empty all records are sealed ones
pub opened_holds : (log : LogStore) (pages : PageStore) (site : State) (newest : Option Master) (blocks : List (List LogRecord)) (table : List Content) (commits : ℕ) → log.geometry ≡ pages.flash.geometry → log.kept ≡ kept_by newest → AreReady pages log (record { first = kept_by newest; blocks = blocks; tail = [] }) site → IsSoundUnder newest pages.flash.geometry site.image blocks → Means (logical_image_under newest pages.flash.geometry site.image blocks) table commits → ShowRecords pages.flash.geometry pages site.image (log_from (kept_by newest) blocks) → IsAhead log pages site.image → ((page : ℕ) → page < pages.flash.geometry.pages → lsn_of (current pages site.image page) < end_of log) → Represents log pages site newest (log_from (kept_by newest) blocks) (settled table commits)
opened_holds log pages site newest blocks table commits sizes kept ready sound means shows are_ahead below = grind (arith, nat_lt, carries_nothing, append-nil, next_block_is, runs_settled)

-- the master ring is kept by one call behind others
pub units_then : (old mid new : Image) → KeepsUnits master_shape old mid → KeepsUnits master_shape mid new → KeepsUnits master_shape old new
units_then old mid new first second = record { units = second.units ∙ first.units; form = λ form. second.form (first.form form) }
