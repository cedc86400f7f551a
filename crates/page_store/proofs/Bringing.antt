-- A page is brought in, behind the eviction of another.
use Rattle.page_store.proofs.Names.{◌≡◌, IsTrue, ℕ, ◌<◌, ◌≤◌, arith, sym, subst, AllByRecursion, front_of, Frame, version_on, LogList, LogStore, AreSealed, IsAhead, sealed_end, AreReady, KeepsCurrent, PutsIn, Matches, PageStore, IsUnchanged, State, Image, snapshot_of, IsLogged, end_forced}
use Rattle.page_store.proofs.PushLaws.{logged_more}
use Rattle.std.proofs.lemmas.Grind.{common_steps}
use Rattle.log_store.specs.Representation as log_store

-- a site of which nothing changed leaves the same snapshot
pub snapshot_same : (old new : State) → IsUnchanged old new → snapshot_of new ≡ snapshot_of old
snapshot_same old new same = λ i. record { told = same.told i; image = same.image i }

pub log_found_same : (log : LogStore) (old new : State) → IsUnchanged old new → IsTrue new.honest → log_store.Finds log old → log_store.Finds log new
log_found_same log old new same honest fits = grind (arith, common_steps)

pub ready_same : (store store' : PageStore) (log : LogStore) (list : LogList) (old new : State) → Matches store' new → IsUnchanged old new → AreReady store log list old → AreReady store' log list new
ready_same store store' log list old new fits same ready = record {
  pages = fits;
  blocks = log_found_same log old new same fits.flash.honest ready.blocks;
  records = subst (λ (i : Image). log_store.Represents log i list) (sym same.image) ready.records;
}

pub current_again : (a b c : PageStore) (x y z : Image) → b.flash.geometry ≡ a.flash.geometry → KeepsCurrent a x b y → KeepsCurrent b y c z → KeepsCurrent a x c z
current_again a b c x y z geometry first second = grind (arith, common_steps)

-- the LSN of a version is below the end of the log's blocks
sealed_below : (log : LogStore) (site : State) → log_store.Finds log site → sealed_end log.geometry site.image ≤ end_forced log
sealed_below log site fits = grind (arith, common_steps)

pub ahead_in : (store mid store' : PageStore) (log : LogStore) (page : ℕ) (site new : State) → mid.flash.geometry ≡ store.flash.geometry → store'.flash.geometry ≡ mid.flash.geometry → log.geometry ≡ store.flash.geometry
    → log_store.Finds log site → new.image ≡ site.image → page < store.flash.geometry.pages → AreSealed store.flash.geometry site.image
    → AllByRecursion (λ (frame : Frame). IsLogged (end_forced log) frame.content) mid.pool.frames
    → PutsIn page mid.pool.frames store'.pool.frames → (front_of store'.pool.frames).content ≡ version_on mid.flash.geometry site.image page → IsAhead log store' new.image
ahead_in store mid store' log page site new geometry geometry' log_geometry fits same exists sealed rest put read = grind (arith, common_steps, sealed_below, logged_more)
