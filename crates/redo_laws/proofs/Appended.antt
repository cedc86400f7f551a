-- A record is appended beside the pages.
use Rattle.redo_laws.proofs.Citing.{◌≡◌, ℕ, ◌+◌, ◌*◌, ◌≤◌, ◌<◌, Bool, true, false, List, [], ◌∷◌, ◌++◌, map, refl, sym, ap, subst, ◌∙◌, arith, lt-ltb, AllByRecursion, range_with_len, if◌then◌else◌, Result, Ok, Err, OnOk, IfOk, Option, frame_of, Frame, Master, ring_kept, Reaches, IsReached, IsFrontOf, LeavesFront, AreRingsSoundUnder, KeepsRingsAll, next_block_under, logical_image_under, master_of, versions_on, version_in, kept_by, LeavesSomeUnder, next_lsn, Entry, Version, log_from, AreBlock, LogRecord, LogList, sealed_if, changes_if, with_record, HasBlocks, LeavesLog, has_tail, end_of, LogStore, fits_beside, leaves_beside, sealed_beside, versions_beside, AreSealed, LeavesSealed, IsAhead, sealed_end, AreReady, LeavesPages, LeavesRings, IsStore, current, content_by, PageStore, History, table_with, writes_in, owed, owed_by, ◌-◌, MayCommit, EndsWith, RepresentsLog, Represents, MayGrow, KeepsPages, blocks_to, RunsOn, leaves_weaker, Preserves, LeavesOnly, ChangesOnly, State, Image, IsQuiet, Geometry, Log, lsn_of, IsLogged}
use Rattle.image_meaning.proofs.Beside.{rings_kept}
use Rattle.page_store.proofs.Rings.{all_front, sealing_keeps}
use Rattle.redo_laws.proofs.Runs.{one_more, one_commit}
use Rattle.redo_laws.proofs.Standing.{last_of_all, next_more}
use Rattle.redo_laws.proofs.Changed.{shows_same}
use Rattle.redo_laws.proofs.Touched.{tail_blocks, hi_is, runs_sealed, leaves_table}
use Rattle.log_laws.proofs.Appends.{commit_follows}
use Rattle.log_laws.proofs.Owing.{owed_closing}
use Rattle.log_records.specs.declared.log_record.LogRecord.TheVariants.{Commit}
use Rattle.log_store.specs.Representation as log_store

-- the numbers of an append, on every site
pub record IsNumbered (log log' : LogStore) (lsn : ℕ) (sealing : Bool) : Type 0 where
  pub lsn_is : lsn ≡ (if sealing then 512 * (log.ring.hi + 1) + 2 else end_of log)
  pub next : log'.ring.hi ≡ (if sealing then log.ring.hi + 1 else log.ring.hi)
  pub below : lsn < end_of log'
  pub low : 2 ≤ log.used

-- and what it has done on an honest one
pub record IsAppended (g : Geometry) (log log' : LogStore) (list : LogList) (site new : State) (rec : LogRecord) (lsn : ℕ) (sealing : Bool) : Type 0 where
  pub numbers : IsNumbered log log' lsn sealing
  pub kept : log'.kept ≡ log.kept
  pub holds : log_store.Represents log' new.image (with_record rec (sealed_if sealing list))
  pub finds : log_store.Finds log' new
  pub changes : ChangesOnly Log site new
  pub preserves : Preserves site new

few_blocks : (b : Bool) → tail_blocks b ≤ 1
few_blocks true = omega arith
few_blocks false = omega arith

-- Its numbers.
module _ (log log' : LogStore) (lsn : ℕ) where
  some_now : (sealing : Bool) → IsNumbered log log' lsn sealing → 2 < log'.used
  some_now true is = let a = is.lsn_is in let b = is.next in let c = is.below in omega (arith, a, b, c)
  some_now false is = let a = is.lsn_is in let b = is.next in let c = is.below in let d = is.low in omega (arith, a, b, c, d)

  pub has_now : (sealing : Bool) → IsNumbered log log' lsn sealing → has_tail log' ≡ true
  has_now sealing is = lt-ltb 2 log'.used (some_now sealing is)

  pub one_now : (sealing : Bool) → IsNumbered log log' lsn sealing → tail_blocks (has_tail log') ≡ 1
  one_now sealing is = ap tail_blocks (has_now sealing is)

  pub most_blocks : (sealing : Bool) → (sealing ≡ true → has_tail log ≡ true) → IsNumbered log log' lsn sealing → blocks_to log' ≤ blocks_to log + 1
  most_blocks true full is = let a = one_now true is in let b = is.next in let c = ap tail_blocks (full refl) in omega (arith, a, b, c)
  most_blocks false full is = let a = one_now false is in let b = is.next in omega (arith, a, b)

  pub least_blocks : (sealing : Bool) → IsNumbered log log' lsn sealing → blocks_to log ≤ blocks_to log'
  least_blocks true is = let a = one_now true is in let b = is.next in let c = few_blocks (has_tail log) in omega (arith, a, b, c)
  least_blocks false is = let a = one_now false is in let b = is.next in let c = few_blocks (has_tail log) in omega (arith, a, b, c)

pub logged_more : (end end' : ℕ) → end ≤ end' → (frames : List Frame) → AllByRecursion (λ frame. IsLogged end frame.content) frames → AllByRecursion (λ frame. IsLogged end' frame.content) frames
logged_more end end' more [] all = tt
logged_more end end' more (frame ∷ frames) all = (record { below = λ some. let below = all.0.below some in omega (arith, below, more) }, logged_more end end' more frames all.1)

-- the pages stay
module _ (pages : PageStore) (site new : State) (changes : ChangesOnly Log site new) where
  pub versions_same : versions_on pages.flash.geometry new.image ≡ versions_on pages.flash.geometry site.image
  versions_same = λ i. map (λ number. version_in (versions_beside pages.flash.geometry site new number changes i)) (range_with_len 0 pages.flash.geometry.pages)

  pub current_same : (number : ℕ) → current pages new.image number ≡ current pages site.image number
  current_same number = ap (content_by (frame_of pages.pool.frames number)) (versions_beside pages.flash.geometry site new number changes)

  -- the LSN of each version is sealed still, where the log grew
  pub more_sealed : (log log' : LogStore) → log.geometry ≡ pages.flash.geometry → log'.geometry ≡ log.geometry → log_store.Finds log site → log_store.Finds log' new → log.ring.hi ≤ log'.ring.hi →
      AreSealed pages.flash.geometry site.image → AreSealed pages.flash.geometry new.image
  more_sealed log log' sizes same finds finds' more sealed =
      let g = pages.flash.geometry in
      let before : 512 * log.ring.hi ≡ sealed_end g site.image = ap (λ (n : ℕ). 512 * n) finds.hi ∙ ap (λ (k : Geometry). sealed_end k site.image) sizes in
      let after : 512 * log'.ring.hi ≡ sealed_end g new.image = ap (λ (n : ℕ). 512 * n) finds'.hi ∙ ap (λ (k : Geometry). sealed_end k new.image) (same ∙ sizes) in
      record {
        each = λ page exists. record {
          below = λ some.
              let was = (sealed.each page exists).below (subst (λ (c : List ℕ). 0 < lsn_of c) (versions_beside g site new page changes) some) in
              omega (arith, was, before, after, more, ap lsn_of (versions_beside g site new page changes));
        };
      }

-- the rings stay sound behind a tail that is sealed
pub rings_now : (newest : Option Master) (g g' : Geometry) (sealing : Bool) (list : LogList) (old new : Image) → g' ≡ g → AreRingsSoundUnder newest g old → Reaches g' (changes_if sealing list) old new → AreRingsSoundUnder newest g new
rings_now newest g g' sealing list old new same rings reaches =
    rings_kept newest g (changes_if sealing list) old new rings (sealing_keeps g old sealing list) (subst (λ (k : Geometry). Reaches k (changes_if sealing list) old new) same reaches)

-- What a crash leaves while a tail may be sealed.
module _ (log : LogStore) (pages : PageStore) (site new : State) (newest : Option Master) (sealing : Bool) (list : LogList) (ready : AreReady pages log list site) (rings : AreRingsSoundUnder newest pages.flash.geometry site.image)
    (are_sealed : AreSealed pages.flash.geometry site.image) (sizes : log.geometry ≡ pages.flash.geometry) (quiet : IsQuiet site) (changes : ChangesOnly Log site new) (leaves : LeavesOnly site new (LeavesLog log.geometry sealing list site.told))
    (front : LeavesFront log.geometry (changes_if sealing list) site new) where
  at_log : LeavesOnly site new (LeavesLog pages.flash.geometry sealing list site.told)
  at_log = subst (λ (k : Geometry). LeavesOnly site new (LeavesLog k sealing list site.told)) sizes leaves

  at_front : LeavesFront pages.flash.geometry (changes_if sealing list) site new
  at_front = subst (λ (k : Geometry). LeavesFront k (changes_if sealing list) site new) sizes front

  rings_stay : LeavesOnly site new (LeavesRings newest pages.flash.geometry)
  rings_stay =
      leaves_weaker site new (IsReached pages.flash.geometry (IsFrontOf (changes_if sealing list)) site) (LeavesRings newest pages.flash.geometry)
      (λ s is. rings_kept newest pages.flash.geometry is.changes site.image s.image rings (all_front pages.flash.geometry site.image is.changes is.made.0 (subst (KeepsRingsAll pages.flash.geometry site.image) is.made.1 (sealing_keeps pages.flash.geometry site.image sealing list))) is.reaches)
      at_front

  sealed_stay : LeavesOnly site new (LeavesSealed pages.flash.geometry)
  sealed_stay = sealed_beside pages.flash.geometry sealing list site new quiet (subst (λ (k : Geometry). HasBlocks k list.first list.blocks site.image) sizes ready.records.blocks) are_sealed changes at_log

  -- the pages, the LSNs of their versions, and the rings
  pub pages_stay : LeavesOnly site new (LeavesPages pages.flash.geometry (current pages site.image) sealing list site) × LeavesOnly site new (LeavesSealed pages.flash.geometry) × LeavesOnly site new (LeavesRings newest pages.flash.geometry)
  pages_stay = (
    (leaves_beside ring_kept) pages.flash.geometry sealing list (current pages site.image) site new quiet
        (record { first = pages.flash.directory.first; groups = ready.pages.groups; has = ready.pages.holds.has; saved = ready.pages.holds.saved }) ready.pages.clean changes at_log at_front,
    sealed_stay,
    rings_stay,
  )

module _ (log : LogStore) (pages : PageStore) (site : State) (newest : Option Master) (records : List Entry) (history : History) (h : Represents log pages site newest records history) (sizes : log.geometry ≡ pages.flash.geometry) where
  abbrev g : Geometry
  g = pages.flash.geometry

  abbrev list : LogList
  list = record { first = kept_by newest; blocks = h.log_holds.blocks; tail = h.log_holds.tail }

  -- At each moment.
  pub append_leaves : (new : State) (sealing : Bool) → IsQuiet site → ChangesOnly Log site new → LeavesOnly site new (LeavesLog log.geometry sealing list site.told) → LeavesFront log.geometry (changes_if sealing list) site new → IsStore pages → (sealing ≡ true → has_tail log ≡ true) →
      LeavesOnly site new (LeavesSomeUnder newest g history site.told)
  append_leaves new sealing quiet changes leaves front own some =
      let stay = pages_stay log pages site new newest sealing list h.log_holds.ready h.log_holds.rings h.log_holds.ahead.versions sizes quiet changes leaves front in
      leaves_table log pages site newest records history h own sealing some new stay.0 stay.1 stay.2

  -- Behind it.
  module _ (new : State) (changes : ChangesOnly Log site new) where
    pub moved : (blocks : List (List LogRecord)) (tail : List LogRecord) (records' : List Entry) (history' : History) → RunsOn (logical_image_under newest g site.image blocks) tail records' history' → RunsOn (logical_image_under newest g new.image blocks) tail records' history'
    moved blocks tail records' history' runs =
        subst (λ (versions : List Version). RunsOn (record { master = (master_of newest); log = log_from (kept_by newest) blocks; hi = next_block_under newest blocks; blocks = g.blocks; pages = versions }) tail records' history') (sym (versions_same pages site new changes)) runs

  module _ (log' : LogStore) (new : State) (rec : LogRecord) (lsn : ℕ) (rings : AreRingsSoundUnder newest g new.image) (are_sealed : AreSealed g new.image) where
    -- what stands in the log before the record: the tail, or nothing where it was sealed
    record StandsBefore : Type 0 where
      pub blocks : List (List LogRecord)
      pub front : List LogRecord
      pub holds : log_store.Represents log' new.image (record { first = kept_by newest; blocks = blocks; tail = front ++ rec ∷ [] })
      pub runs_on : RunsOn (logical_image_under newest g site.image blocks) front records history
      pub next : lsn ≡ next_lsn (logical_image_under newest g site.image blocks) front

    stands_before : (sealing : Bool) → (sealing ≡ true → has_tail log ≡ true) → IsAppended g log log' list site new rec lsn sealing → StandsBefore
    stands_before false full is =
        let hi = hi_is log pages site newest records history h in
        record {
          blocks = h.log_holds.blocks;
          front = h.log_holds.tail;
          holds = is.holds;
          runs_on = h.log_holds.runs_on;
          next = omega (arith, hi, h.log_holds.ready.records.tail.end, is.numbers.lsn_is);
        }
    stands_before true full is =
        let hi = hi_is log pages site newest records history h in
        record {
          blocks = h.log_holds.blocks ++ h.log_holds.tail ∷ [];
          front = [];
          holds = is.holds;
          runs_on = runs_sealed log pages site newest records history h (full refl) (last_of_all AreBlock h.log_holds.blocks h.log_holds.tail is.holds.blocks.are_blocks);
          next = omega (arith, hi, is.numbers.lsn_is, next_more newest h.log_holds.blocks h.log_holds.tail);
        }

    module _ (sealing : Bool) (full : sealing ≡ true → has_tail log ≡ true) (is : IsAppended g log log' list site new rec lsn sealing) where
      before : StandsBefore
      before = stands_before sealing full is

      ready_now : AreReady pages log' (record { first = kept_by newest; blocks = before.blocks; tail = before.front ++ rec ∷ [] }) new
      ready_now = record { pages = fits_beside pages site new is.changes is.preserves h.log_holds.ready.pages; blocks = is.finds; records = before.holds }

      ahead_still : IsAhead log' pages new.image
      ahead_still = grind (arith, least_blocks, logged_more)

      -- the record comes last in the tail
      pub ends_with : KeepsPages g pages site.image new.image → end_of log ≤ lsn →
          EndsWith g log' pages new newest records history (record { lsn = lsn; rec = rec })
      ends_with keeps behind =
          record {
            kept = is.kept ∙ h.log_holds.kept;
            blocks = before.blocks;
            front = before.front;
            ready = ready_now;
            rings = rings;
            runs_on = moved new is.changes before.blocks before.front records history before.runs_on;
            next = before.next;
            ahead = ahead_still;
            shows = record { each = shows_same g log log' pages site new newest records history h keeps };
            below = λ number exists.
                subst (λ (c : List ℕ). lsn_of c < end_of log') (sym (keeps.current number)) (omega (arith, h.below number exists, behind, is.numbers.below));
            room = omega (arith, most_blocks log log' lsn sealing full is.numbers, h.log_holds.room, h.log_holds.rings.limits.blocks, is.kept);
          }

      -- where it may follow, log and pages hold together with it
      grown : (history' : History) → RunsOn (logical_image_under newest g site.image before.blocks) (before.front ++ rec ∷ []) (records ++ record { lsn = lsn; rec = rec } ∷ []) history' →
          blocks_to log' + owed (records ++ record { lsn = lsn; rec = rec } ∷ []) ≤ log'.kept + (g.blocks - 1) → RepresentsLog g log' pages new newest (records ++ record { lsn = lsn; rec = rec } ∷ []) history'
      grown history' runs room =
          record {
            kept = is.kept ∙ h.log_holds.kept;
            blocks = before.blocks;
            tail = before.front ++ rec ∷ [];
            ready = ready_now;
            rings = rings;
            runs_on = moved new is.changes before.blocks (before.front ++ rec ∷ []) (records ++ record { lsn = lsn; rec = rec } ∷ []) history' runs;
            ahead = ahead_still;
            room = room;
          }

      pub appended : MayGrow log pages site.image newest records (record { lsn = lsn; rec = rec }) → RepresentsLog g log' pages new newest (records ++ record { lsn = lsn; rec = rec } ∷ []) history
      appended may =
          grown history (one_more (logical_image_under newest g site.image before.blocks) before.front rec lsn records history before.runs_on before.next may.follows may.no_commit)
          (omega (arith, most_blocks log log' lsn sealing full is.numbers, may.room, is.kept))

      -- a Commit waits for its seal
      pub commit_waits : (txn number : ℕ) → rec ≡ Commit txn number → MayCommit newest records txn number history.commits → history.tables (history.commits + 1) ≡ table_with (history.tables history.commits) (writes_in txn records) →
          RepresentsLog g log' pages new newest (records ++ record { lsn = lsn; rec = rec } ∷ []) (record history { commits = history.commits + 1 })
      commit_waits txn number same may table =
          let e : Entry = record { lsn = lsn; rec = Commit txn number } in
          let next : History = record history { commits = history.commits + 1 } in
          let less : owed records ≡ owed (records ++ record { lsn = lsn; rec = Commit txn number } ∷ []) + owed_by records txn = owed_closing records e refl may.begun.not_closed may.chain in
          let again : owed (records ++ record { lsn = lsn; rec = rec } ∷ []) ≡ owed (records ++ record { lsn = lsn; rec = Commit txn number } ∷ []) = ap (λ (r : LogRecord). owed (records ++ record { lsn = lsn; rec = r } ∷ [])) same in
          grown next
          (subst (λ (r : LogRecord). RunsOn (logical_image_under newest g site.image before.blocks) (before.front ++ r ∷ []) (records ++ record { lsn = lsn; rec = r } ∷ []) next) (sym same)
          (one_commit (logical_image_under newest g site.image before.blocks) before.front txn number lsn records history before.runs_on before.next
          (commit_follows (master_of newest) (versions_on g site.image) records lsn txn number may.begun) may.number_is table))
          (omega (arith, most_blocks log log' lsn sealing full is.numbers, h.log_holds.room, less, again, is.kept))

pub if_ok_four : {A E : Type 0} (r : Result A E) (P Q R : Type 0) (L Z : A → Type 0) → ((x : A) → P → Q → R → L x → Z x) → OnOk r P → OnOk r Q → OnOk r R → IfOk r L → IfOk r Z
if_ok_four (Ok x) P Q R L Z f p q r l = f x p q r l
if_ok_four (Err e) P Q R L Z f p q r l = tt

pub if_ok_one : {A E : Type 0} (r : Result A E) (P Q : A → Type 0) → ((x : A) → P x → Q x) → IfOk r P → IfOk r Q
if_ok_one (Ok x) P Q f p = f x p
if_ok_one (Err e) P Q f p = tt

pub if_ok_two : {A E : Type 0} (r : Result A E) (P R Q : A → Type 0) → ((x : A) → P x → R x → Q x) → IfOk r P → IfOk r R → IfOk r Q
if_ok_two (Ok x) P R Q f p s = f x p s
if_ok_two (Err e) P R Q f p s = tt

pub if_ok_three : {A E : Type 0} (r : Result A E) (N : Type 0) (P R Q : A → Type 0) → ((x : A) → N → P x → R x → Q x) → OnOk r N → IfOk r P → IfOk r R → IfOk r Q
if_ok_three (Ok x) N P R Q f n p s = f x n p s
if_ok_three (Err e) N P R Q f n p s = tt

pub ok_by : {A E : Type 0} (r : Result A E) (P : A → Type 0) (Z : Type 0) → ((x : A) → P x → Z) → IfOk r P → OnOk r Z
ok_by (Ok x) P Z f p = f x p
ok_by (Err e) P Z f p = tt
