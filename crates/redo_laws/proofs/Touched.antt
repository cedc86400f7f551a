-- Log and pages that hold together, while pages come and go.
use Rattle.redo_laws.proofs.Citing.{◌≡◌, ◌⊎◌, inl, inr, ℕ, ◌≤◌, ◌<◌, Bool, true, false, List, [], ◌∷◌, ◌++◌, refl, sym, subst, ◌∙◌, arith, and_parts, length-append, if◌then◌else◌, Option, Master, version_on, next_block_is, AreRingsSoundUnder, next_block_under, logical_image_under, versions_on, version_in, kept_by, LeavesSomeUnder, LeavesTableUnder, StandsUnder, Content, ShowsAll, sealed, Entry, LogicalImage, HasRoom, AreBlock, block_len, LogRecord, LogList, sealed_if, HasBlocks, has_tail, end_of, LogStore, AreSealed, LeavesSealed, IsAhead, AreReady, LeavesPages, LeavesRings, KeepsCurrent, IsStore, current, PageStore, History, settled, RepresentsIn, Represents, RunsOn, each_both, each_weaker, Leaves, LeavesOnly, State, Snapshot, snapshot_of, Geometry, lsn_of, end_forced, forces}
use Rattle.redo_laws.proofs.Runs.{sealed_settled, resettled, rises}
use Rattle.redo_laws.proofs.Standing.{more_blocks, runs_now, shows_now, stands_now, current_sound, last_of_all}
use Rattle.slotted_page.specs.Layout as page

abbrev pub tail_blocks : Bool → ℕ
tail_blocks b = if b then 1 else 0

-- the log is forced only where its tail has records
pub forced_tail : (log : LogStore) (contents : List (List ℕ)) → forces log contents ≡ true → has_tail log ≡ true
forced_tail log contents is = (and_parts (has_tail log) _ is).0

-- what stands under a log that runs on is what a crash may leave
pub some_of : {newest : Option Master} {g : Geometry} {history : History} {so_far : List ℕ} {s : Snapshot} {p : LogicalImage} {tail : List LogRecord} {records : List Entry} →
    s.told ≡ so_far → (runs : RunsOn p tail records history) → StandsUnder newest g s.image (history.tables runs.count) runs.count → LeavesSomeUnder newest g history so_far s
some_of told runs stands = record { told = told; count = runs.count; from_floor = runs.from_floor; within = runs.within; stands = stands }

module _ (log : LogStore) (pages : PageStore) (site : State) (newest : Option Master) (records : List Entry) (history : History) (h : Represents log pages site newest records history) where
  abbrev g : Geometry
  g = pages.flash.geometry

  abbrev blocks : List (List LogRecord)
  blocks = h.log_holds.blocks

  abbrev tail : List LogRecord
  tail = h.log_holds.tail

  abbrev list : LogList
  list = record { first = kept_by newest; blocks = h.log_holds.blocks; tail = h.log_holds.tail }

  -- the ring's next block is the one behind the sealed ones
  pub hi_is : log.ring.hi ≡ next_block_under newest blocks
  hi_is = let hi = h.log_holds.ready.blocks.hi in let next = h.log_holds.ready.records.blocks.next in let at = next_block_is newest blocks in omega (arith, hi, next, at)

  -- a tail that has records may be sealed
  tail_room : has_tail log ≡ true → HasRoom (sealed (logical_image_under newest g site.image blocks) tail)
  tail_room some = grind (arith, hi_is, next_block_is)

  -- no commit waits then
  pub sealed_now : has_tail log ≡ true → AreBlock tail → RunsOn (logical_image_under newest g site.image (blocks ++ tail ∷ [])) [] records (settled (history.tables history.commits) history.commits)
  sealed_now some block =
      subst (λ (p : LogicalImage). RunsOn p [] records (settled (history.tables history.commits) history.commits)) (more_blocks newest g site.image blocks tail)
      (sealed_settled (logical_image_under newest g site.image blocks) tail records history h.log_holds.runs_on block (tail_room some))

  pub runs_sealed : has_tail log ≡ true → AreBlock tail → RunsOn (logical_image_under newest g site.image (blocks ++ tail ∷ [])) [] records history
  runs_sealed some block = resettled (logical_image_under newest g site.image (blocks ++ tail ∷ [])) [] records history (rises h.log_holds.runs_on) (sealed_now some block)

  abbrev given : ℕ → List ℕ
  given = current pages site.image

  -- what a crash leaves
  module _ (own : IsStore pages) (sealing : Bool) (some : sealing ≡ true → has_tail log ≡ true) where
    sound_given : (number : ℕ) → number < g.pages → page.IsSound (current pages site.image number)
    sound_given number exists = current_sound pages site.image number own (h.log_holds.ready.pages.sound number exists)

    pub at_snapshot : (s : Snapshot) → LeavesPages g (current pages site.image) sealing list site s → AreSealed g s.image → AreRingsSoundUnder newest g s.image → LeavesSomeUnder newest g history site.told s
    at_snapshot s leaves are_sealed rings = elim leaves.log.blocks [
      | inl has ↦ some_of leaves.log.told h.log_holds.runs_on (stands_now g site.image s.image given blocks tail newest records history h.log_holds.runs_on h.shows.each has are_sealed leaves.versions
          rings leaves.clean h.log_holds.ready.pages.sound sound_given)
      | inr more ↦
          let runs = runs_sealed (some more.0) (last_of_all AreBlock blocks tail more.1.are_blocks) in
          some_of leaves.log.told runs (stands_now g site.image s.image given (blocks ++ tail ∷ []) [] newest records history runs h.shows.each more.1 are_sealed
          leaves.versions rings leaves.clean h.log_holds.ready.pages.sound sound_given)
    ]

    pub leaves_table : (new : State) → LeavesOnly site new (LeavesPages g (current pages site.image) sealing list site) → LeavesOnly site new (LeavesSealed g) → LeavesOnly site new (LeavesRings newest g) →
        LeavesOnly site new (LeavesSomeUnder newest g history site.told)
    leaves_table new leaves are_sealed rings =
        each_weaker site new (λ m. Leaves (LeavesPages g (current pages site.image) sealing list site) m × (Leaves (LeavesSealed g) m × Leaves (LeavesRings newest g) m)) (Leaves (LeavesSomeUnder newest g history site.told))
        (λ m q s left. at_snapshot s (q.0 s left) (q.1.0 s left) (q.1.1 s left))
        (each_both site new _ _ leaves (each_both site new _ _ are_sealed rings))

  -- and what stands behind a touch
  module _ (log' : LogStore) (pages' : PageStore) (new : State) (geometry : log'.geometry ≡ g) (same_kept : log'.kept ≡ log.kept) (kept : KeepsCurrent pages site.image pages' new.image) (are_ahead : IsAhead log' pages' new.image)
      (end : end_forced log' ≡ end_forced log) (are_sealed : AreSealed g new.image) (rings : AreRingsSoundUnder newest g new.image) (high : log.used ≤ block_len) where
    touched_with : (blocks' : List (List LogRecord)) (tail' : List LogRecord) → RunsOn (logical_image_under newest g site.image blocks') tail' records history → AreReady pages' log' (record { first = kept_by newest; blocks = blocks'; tail = tail' }) new →
        ((number : ℕ) → number < g.pages → (version_on g new.image number ≡ version_on g site.image number) ⊎ (version_on g new.image number ≡ given number)) → end_of log ≤ end_of log' → RepresentsIn g log' pages' new newest records history
    touched_with blocks' tail' runs ready versions more =
        let has : HasBlocks g (kept_by newest) blocks' new.image = subst (λ (k : Geometry). HasBlocks k (kept_by newest) blocks' new.image) geometry ready.records.blocks in
        record {
          log_holds = record {
            kept = same_kept ∙ h.log_holds.kept;
            blocks = blocks';
            tail = tail';
            ready = ready;
            rings = rings;
            runs_on = runs_now g site.image new.image given blocks' tail' newest records history runs h.shows.each has are_sealed versions;
            ahead = are_ahead;
            room = omega (arith, h.log_holds.room, end, same_kept);
          };
          shows = record {
            each = λ number exists.
                subst (λ (c : List ℕ). ShowsAll records (versions_on g new.image) number (version_in c)) (sym (kept.each number exists))
                (shows_now g site.image new.image given blocks' tail' newest records history runs h.shows.each has are_sealed versions number exists);
          };
          below = λ number exists. subst (λ (c : List ℕ). lsn_of c < end_of log') (sym (kept.each number exists)) (omega (arith, h.below number exists, more));
        }

    pub touched_holds : (sealing : Bool) → (sealing ≡ true → has_tail log ≡ true) → AreReady pages' log' (sealed_if sealing list) new → LeavesPages g (current pages site.image) sealing list site (snapshot_of new) →
        RepresentsIn g log' pages' new newest records history
    touched_holds false some ready leaves =
        touched_with blocks tail h.log_holds.runs_on ready leaves.versions
        (omega (arith, ready.blocks.hi, ready.records.blocks.next, ready.records.tail.end, h.log_holds.ready.records.tail.end, hi_is, next_block_is newest blocks))
    touched_holds true some ready leaves =
        touched_with (blocks ++ tail ∷ []) [] (runs_sealed (some refl) (last_of_all AreBlock blocks tail ready.records.blocks.are_blocks)) ready leaves.versions
        (omega (arith, ready.blocks.hi, ready.records.blocks.next, ready.records.tail.end, hi_is, high, length-append blocks (tail ∷ []), next_block_is newest blocks))

-- log and pages that hold together do so of another history, where the log does
pub of_history : {g : Geometry} {log : LogStore} {pages : PageStore} {site : State} {newest : Option Master} {records : List Entry} {history : History} (history' : History) (h : RepresentsIn g log pages site newest records history) →
    RunsOn (logical_image_under newest g site.image h.log_holds.blocks) h.log_holds.tail records history' → RepresentsIn g log pages site newest records history'
of_history history' h runs = record {
  log_holds = record { kept = h.log_holds.kept; blocks = h.log_holds.blocks; tail = h.log_holds.tail; ready = h.log_holds.ready; rings = h.log_holds.rings; runs_on = runs; ahead = h.log_holds.ahead; room = h.log_holds.room };
  shows = h.shows;
  below = h.below;
}

-- where no commit waits a crash leaves the table
pub leaves_settled : {newest : Option Master} {g : Geometry} {table : List Content} {commits : ℕ} {so_far : List ℕ} (s : Snapshot) → LeavesSomeUnder newest g (settled table commits) so_far s → LeavesTableUnder newest g table commits so_far s
leaves_settled {newest = newest} {g = g} {table = table} {commits = commits} s left =
    let all : left.count ≡ commits = let least = left.from_floor in let most = left.within in omega (arith, least, most) in
    record { told = left.told; stands = subst (StandsUnder newest g s.image table) all left.stands }
