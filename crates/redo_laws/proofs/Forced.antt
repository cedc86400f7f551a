-- The tail is sealed beside the pages.
use Rattle.redo_laws.proofs.Citing.{◌≡◌, ℕ, ◌+◌, ◌≤◌, ◌<◌, Bool, true, false, List, [], ◌∷◌, ◌++◌, true≢false, sym, ap, subst, ◌∙◌, arith, nat_lt, inl, inr, lt-ltb, AllByRecursion, if◌then◌else◌, Result, Ok, Err, OnOk, IfErr, IsErrOf, ◌≢◌, Option, Master, Reaches, ring_of, Masters, versions_on, version_in, kept_by, ShowsAll, Entry, Version, AreBlock, block_len, LogRecord, LogList, sealed_if, changes_if, has_tail, end_of, LogStore, fits_beside, current, PageStore, History, settled, commit_numbers, next_entries, logical_image_under, Represents, blocks_to, Preserves, ChangesOnly, State, IsQuiet, Dev, Log, Stop, Device, Worn, lsn_of, end_forced}
use Rattle.std.specs.Prelude.{Some, ◌⊎◌}
use Rattle.redo_laws.proofs.Runs.{none_waits}
use Rattle.redo_laws.proofs.Touched.{of_history}
use Rattle.redo_laws.proofs.Standing.{last_of_all}
use Rattle.redo_laws.proofs.Touched.{tail_blocks, sealed_now}
use Rattle.redo_laws.proofs.Appended.{logged_more, versions_same, current_same, moved, more_sealed, rings_now}
use Rattle.log_store.specs.Representation as log_store

-- what sealing a tail has done on an honest site
pub record IsForced (log log' : LogStore) (list : LogList) (site new : State) : Type 0 where
  pub next : log'.ring.hi ≡ (if has_tail log then log.ring.hi + 1 else log.ring.hi)
  pub empty : log'.used ≡ 2
  pub kept : log'.kept ≡ log.kept
  pub geometry : log'.geometry ≡ log.geometry
  pub holds : log_store.Represents log' new.image (sealed_if (has_tail log) list)
  pub finds : log_store.Finds log' new
  pub reaches : Reaches log.geometry (changes_if (has_tail log) list) site.image new.image
  pub changes : ChangesOnly Log site new
  pub preserves : Preserves site new

pub none_now : (log' : LogStore) → log'.used ≡ 2 → has_tail log' ≡ false
none_now log' empty = ap (nat_lt 2) empty

hi_after : (b : Bool) (hi hi' : ℕ) → b ≡ true → hi' ≡ (if b then hi + 1 else hi) → hi' ≡ hi + 1
hi_after true hi hi' some is = is
hi_after false hi hi' some is = absurd (true≢false (sym some))

-- the blocks stay as many
pub same_blocks : (log log' : LogStore) → has_tail log ≡ true → log'.ring.hi ≡ (if has_tail log then log.ring.hi + 1 else log.ring.hi) → log'.used ≡ 2 → blocks_to log' ≡ blocks_to log
same_blocks log log' some next empty = grind (arith, tail_blocks, none_now, hi_after)

module _ (log : LogStore) (pages : PageStore) (site : State) (newest : Option Master) (records : List Entry) (history : History) (h : Represents log pages site newest records history)
    (sizes : log.geometry ≡ pages.flash.geometry) (log' : LogStore) (new : State) (some : has_tail log ≡ true) (high : log.used ≤ block_len)
    (is : IsForced log log' (record { first = kept_by newest; blocks = h.log_holds.blocks; tail = h.log_holds.tail }) site new) where
  abbrev more : List (List LogRecord)
  more = h.log_holds.blocks ++ h.log_holds.tail ∷ []

  hi_is : log'.ring.hi ≡ log.ring.hi + 1
  hi_is = hi_after (has_tail log) log.ring.hi log'.ring.hi some is.next

  blocks_are : blocks_to log' ≡ blocks_to log
  blocks_are = same_blocks log log' some is.next is.empty

  held : log_store.Represents log' new.image (record { first = kept_by newest; blocks = more; tail = [] })
  held = subst (λ (b : Bool). log_store.Represents log' new.image (sealed_if b (record { first = kept_by newest; blocks = h.log_holds.blocks; tail = h.log_holds.tail }))) some is.holds

  -- and no commit waits any more
  pub forced_holds : Represents log' pages new newest records (settled (history.tables history.commits) history.commits)
  forced_holds =
      let same = versions_same pages site new is.changes in
      let stays = current_same pages site new is.changes in
      record {
        log_holds = record {
          kept = is.kept ∙ h.log_holds.kept;
          blocks = more;
          tail = [];
          ready = record { pages = fits_beside pages site new is.changes is.preserves h.log_holds.ready.pages; blocks = is.finds; records = held };
          rings = rings_now newest pages.flash.geometry log.geometry (has_tail log) _ site.image new.image sizes h.log_holds.rings is.reaches;
          runs_on = moved log pages site newest records history h sizes new is.changes more [] records (settled (history.tables history.commits) history.commits)
              (sealed_now log pages site newest records history h some (last_of_all AreBlock h.log_holds.blocks h.log_holds.tail held.blocks.are_blocks));
          ahead = record {
            pool = logged_more (end_forced log) (end_forced log') (let all = blocks_are in omega (arith, all)) pages.pool.frames h.log_holds.ahead.pool;
            versions = more_sealed pages site new is.changes log log' sizes is.geometry h.log_holds.ready.blocks is.finds (let next = hi_is in omega (arith, next)) h.log_holds.ahead.versions;
          };
          room = let room = h.log_holds.room in let all = blocks_are in let kept = is.kept in omega (arith, room, all, kept);
        };
        shows = record {
          each = λ number exists.
              subst (λ (v : List Version). ShowsAll records v number (version_in (current pages new.image number))) (sym same)
              (subst (λ (c : List ℕ). ShowsAll records (versions_on pages.flash.geometry site.image) number (version_in c)) (sym (stays number)) (h.shows.each number exists));
        };
        below = λ number exists.
            subst (λ (c : List ℕ). lsn_of c < end_of log') (sym (stays number)) (omega (arith, h.below number exists, hi_is, is.empty, high));
      }

-- so it is where the tail is empty
pub rests : (log : LogStore) (pages : PageStore) (site : State) (newest : Option Master) (records : List Entry) (history : History) → (h : Represents log pages site newest records history) → h.log_holds.tail ≡ [] → Represents log pages site newest records (settled (history.tables history.commits) history.commits)
rests log pages site newest records history h empty =
    let p = logical_image_under newest pages.flash.geometry site.image h.log_holds.blocks in
    of_history (settled (history.tables history.commits) history.commits) h (none_waits p h.log_holds.tail records history h.log_holds.runs_on (ap (λ (tail : List LogRecord). commit_numbers (next_entries p tail)) empty))

-- where no record is unsealed there is no tail
pub some_now : (log : LogStore) → 2 ≤ log.used → (log.used ≡ 2 → ⊥) → has_tail log ≡ true
some_now log low other = lt-ltb 2 log.used (omega (arith, low, other))

pub ok_five : {A E : Type 0} (r : Result A E) (P Q R S T Z : Type 0) → (P → Q → R → S → T → Z) → OnOk r P → OnOk r Q → OnOk r R → OnOk r S → OnOk r T → OnOk r Z
ok_five (Ok x) P Q R S T Z f p q r s t = f p q r s t
ok_five (Err e) P Q R S T Z f p q r s t = tt

-- a call that is only refused, or stops at the log's device
pub quiet_stops : {A : Type 0} (r : Result A Stop) (now old : State) → IsQuiet old → (IsErrOf r (Worn Log) → now ≡ old) → IfErr r (λ stop. (stop ≡ Device Log) ⊎ (stop ≡ Worn Log)) → IfErr r (λ stop. ((d : Dev) → stop ≢ Device d) → IsQuiet now)
quiet_stops (Ok x) now old quiet same stops = tt
quiet_stops (Err stop) now old quiet same (inl device) = λ other. absurd (other Log device)
quiet_stops (Err stop) now old quiet same (inr worn) = λ other. subst IsQuiet (sym (same (ap Err worn))) quiet

-- sealing a tail appends to no other ring
pub seals_only : (sealing : Bool) (list : LogList) → AllByRecursion (λ change. ring_of change ≢ Some Masters) (changes_if sealing list)
seals_only true list = ((λ same. cc), tt)
seals_only false list = tt
