-- A force of the log, and a push behind it.
use Rattle.page_store.proofs.Names.{◌≡◌, ◌≢◌, ◌⊎◌, inl, inr, IsTrue, ℕ, zero, suc, ◌*◌, ◌<◌, ◌≤◌, Bool, true, false, List, [], ◌∷◌, ◌++◌, length, get_or, Some, arith, refl, sym, ap, subst, ◌∙◌, length-append, append-nil, cases_eq, get_or_default, AllByRecursion, Result, Ok, Err, OnOk, OnErr, IsErrOf, Contains, frame_of, Frame, page_on, GivesVersions, AreCleanGiven, LeavesClean, changes_of_push, changes_of_group, pushed_queue, pushed_groups, known_pushed, frames_pushed, version_on, IsCleanOn, HasGroups, AreSaved, FlashCache, Stored, group, units_then, Change, Reaches, ring_of, RingKept, IsReached, IsFrontOf, LeavesFront, Masters, master_shape, log_shape, group_shape, KeepsUnits, LogList, sealed_if, changes_if, HasBlocks, LeavesLog, LogStore, AreSealed, LeavesSealed, sealed_end, HasQueue, AreReady, LeavesPages, AreGiven, Gives, AreChanged, Matches, PageStore, IsRing, hi_of, units_of, leaves_weaker, leaves_others_too, untouched_leaves, each_both, each_weaker, settled_is, quiet_settled, stays_honest, Preserves, Leaves, LeavesOnly, ChangesOnly, Untouched, State, Image, Snapshot, MayStand, content_of, loose_of, snapshot_of, IsSettled, IsQuiet, Geometry, Dev, Log, Flash, Disk, IsSound, all_left, changes_of_save, IsLogged}
use Rattle.std.proofs.lemmas.Bool.{true≢false}
use Rattle.log_records.specs.declared.log_record.LogRecord.{LogRecord}
use Rattle.sealed_ring.specs.declared.slots.Shape.{Shape}
use Rattle.frame_group.specs.Versions.{frames_of, version, CleanAsDisk}
use Rattle.tail_rebuild.proofs.Following.{saved_again}
use Rattle.std.proofs.lemmas.Grind.{common_steps}
use Rattle.flash_cache.specs.Representation as flash_cache
use Rattle.flash_cache.specs.Kept as kept
use Rattle.log_store.specs.Representation as log_store

-- blocks on a log device that is the same
blocks_same : (g : Geometry) (first : ℕ) (blocks : List (List LogRecord)) (old new : Image) → new.log ≡ old.log → HasBlocks g first blocks old → HasBlocks g first blocks new
blocks_same g first blocks old new same has = grind (arith, common_steps)

-- The same flash and disk.

pub version_same : (g : Geometry) (old new : Image) (page : ℕ) → new.flash ≡ old.flash → new.disk ≡ old.disk → version_on g new page ≡ version_on g old page
version_same g old new page flash disk = λ i. version (λ p. page_on p (disk i)) (frames_of (units_of (group_shape g) (flash i)).live) page

pub clean_same : (g : Geometry) (old new : Image) → new.flash ≡ old.flash → new.disk ≡ old.disk → IsCleanOn g old → IsCleanOn g new
clean_same g old new flash disk clean =
    subst (λ (f : List ℕ). CleanAsDisk (λ p. page_on p new.disk) (frames_of (units_of (group_shape g) f).live)) (sym flash)
    (subst (λ (d : List ℕ). CleanAsDisk (λ p. page_on p d) (frames_of (units_of (group_shape g) old.flash).live)) (sym disk) clean)

pub groups_same : (g : Geometry) (first : ℕ) (groups : List (List Stored)) (old new : Image) → new.flash ≡ old.flash → HasGroups g first groups old → HasGroups g first groups new
groups_same g first groups old new flash has = grind (arith, common_steps)

keeps_same : (s : Shape) (old new : Image) → s.dev ≡ Flash → new.flash ≡ old.flash → KeepsUnits s old new
keeps_same s old new on_flash flash = grind (arith, common_steps)

pub saved_same : (g : Geometry) (groups : List (List Stored)) (old new : Image) → new.flash ≡ old.flash → AreSaved g groups old → AreSaved g groups new
saved_same g groups old new flash saved = grind (arith, common_steps, saved_again, keeps_same)

pub flash_fits_same : (cache : FlashCache) (old new : State) → new.image.flash ≡ old.image.flash → IsTrue new.honest → flash_cache.Matches cache old → flash_cache.Matches cache new
flash_fits_same cache old new flash honest fits = grind (arith, common_steps)

pub flash_holds_same : (cache : FlashCache) (old new : Image) (groups : List (List Stored)) → new.flash ≡ old.flash → flash_cache.Represents cache old groups → flash_cache.Represents cache new groups
flash_holds_same cache old new groups flash holds = grind (arith, common_steps, groups_same, saved_same)

-- An LSN that is logged stays so.
pub logged_more : (end end' : ℕ) (content : List ℕ) → end ≤ end' → IsLogged end content → IsLogged end' content
logged_more end end' content more logged = record { below = λ some. let below = logged.below some in omega (arith, below, more) }

pub logged_at : (end : ℕ) (contents : List (List ℕ)) (k : ℕ) (d : List ℕ) → AllByRecursion (IsLogged end) contents → k < length contents → IsLogged end (get_or contents k d)
logged_at end [] k d all less = absurd (omega (arith, less))
logged_at end (content ∷ contents) zero d all less = all.0
logged_at end (content ∷ contents) (suc k) d all less = logged_at end contents k d all.1 (omega (arith, less))

pub sound_at : (contents : List (List ℕ)) (k : ℕ) (d : List ℕ) → AllByRecursion IsSound contents → k < length contents → IsSound (get_or contents k d)
sound_at [] k d all less = absurd (omega (arith, less))
sound_at (content ∷ contents) zero d all less = all.0
sound_at (content ∷ contents) (suc k) d all less = sound_at contents k d all.1 (omega (arith, less))

-- A page is given, at a place, or it isn't.
abbrev IsListed : List ℕ → ℕ → Type 0
IsListed pages page = (k : ℕ) × (k < length pages) × (get_or pages k 0 ≡ page)

listed : (pages : List ℕ) (page : ℕ) → IsListed pages page ⊎ (IsListed pages page → ⊥)
listed [] page = inr (λ is. omega (arith, is.1))
listed (first ∷ pages) page = by (cases_eq first page) (listed pages page)
  where
    by : (first ≡ page) ⊎ (first ≢ page) → IsListed pages page ⊎ (IsListed pages page → ⊥) → IsListed (first ∷ pages) page ⊎ (IsListed (first ∷ pages) page → ⊥)
    by (inl same) rest = inl (0, omega arith, same)
    by (inr other) (inl there) = inl (suc there.0, let less = there.1 in omega (arith, less), there.2)
    by (inr other) (inr none) = inr (λ is. at is.0 is.1 is.2)
      where
        at : (k : ℕ) → k < length (first ∷ pages) → get_or (first ∷ pages) k 0 ≡ page → ⊥
        at zero less is = other is
        at (suc k) less is = none (k, omega (arith, less), is)

pub or_listed : (pages : List ℕ) (page : ℕ) → IsListed pages page ⊎ (Contains pages page → ⊥)
or_listed pages page = elim (listed pages page) [
  | inl there ↦ inl there
  | inr none ↦ inr (λ is. none (is.0, is.1, get_or_default pages is.0 0 page is.1 ∙ is.2))
]

-- The ring of masters, to which no change appends.

abbrev pub AreOwn : List Change → Type 0
AreOwn changes = AllByRecursion (λ change. ring_of change ≢ Some Masters) changes

pub own_sealing : (sealing : Bool) (list : LogList) → AreOwn (changes_if sealing list)
own_sealing true list = ((λ same. cc), tt)
own_sealing false list = tt

own_push : (pages group : List ℕ) → AreOwn (changes_of_push pages group)
own_push pages group = grind (arith, common_steps)

own_save : (due : Bool) (groups : List (List Stored)) (changes : List Change) → AreOwn changes → AreOwn (changes_of_save due groups ++ changes)
own_save due groups changes h = grind (arith, common_steps)

pub own_group : (cache : FlashCache) (image : Image) (pages : List ℕ) (changed : List Bool) (contents : List (List ℕ)) → AreOwn (changes_of_group cache image pages changed contents)
own_group cache image pages changed contents = grind (arith, common_steps, own_save, own_push)

pub masters_kept : RingKept → (g : Geometry) (all : List Change) (old : State) (s : Snapshot) → AreOwn all → IsReached g (IsFrontOf all) old s → KeepsUnits master_shape old.image s.image
masters_kept law g all old s own is =
    law g Masters is.changes old.image s.image (all_left (λ change. ring_of change ≢ Some Masters) is.changes is.made.0 (subst AreOwn is.made.1 own)) is.reaches

-- The force.

module _ (g : Geometry) (sealing : Bool) (list : LogList) (old mid : State) (leaves : LeavesOnly old mid (LeavesLog g sealing list old.told)) (changes : ChangesOnly Log old mid) (quiet : IsQuiet old) where
  record Forced (s : Snapshot) : Type 0 where
    blocks : LeavesLog g sealing list old.told s
    flash : s.image.flash ≡ old.image.flash
    disk : s.image.disk ≡ old.image.disk

  none_loose : (d : Dev) (s : Snapshot) → MayStand (loose_of d old.loose) (content_of d old.image) (content_of d s.image) → content_of d s.image ≡ content_of d old.image
  none_loose d s stands = settled_is (content_of d old.image) (content_of d s.image) (subst (λ rs. MayStand rs (content_of d old.image) (content_of d s.image)) (quiet_settled d old quiet) stands)

  flash_other : Flash ≢ Log
  flash_other same = cc

  disk_other : Disk ≢ Log
  disk_other same = cc

  forced : LeavesOnly old mid Forced
  forced = leaves_weaker old mid _ Forced (λ s p. record { blocks = p.0; flash = none_loose Flash s (p.2 Flash flash_other); disk = none_loose Disk s (p.2 Disk disk_other) })
      (leaves_others_too Log old mid (LeavesLog g sealing list old.told) leaves changes.only)

  pub force_leaves : RingKept → LeavesFront g (changes_if sealing list) old mid → HasQueue g old.image → (given : ℕ → List ℕ) → IsCleanOn g old.image → LeavesOnly old mid (LeavesPages g given sealing list old)
  force_leaves law front queue given clean =
      each_weaker old mid (λ m. Leaves Forced m × Leaves (IsReached g (IsFrontOf (changes_if sealing list)) old) m) (Leaves (LeavesPages g given sealing list old)) (λ m p s left.
      let is = p.0 s left in record {
        log = is.blocks;
        masters = masters_kept law g (changes_if sealing list) old s (own_sealing sealing list) (p.1 s left);
        queue = record {
          first = queue.first;
          groups = queue.groups;
          has = groups_same g queue.first queue.groups old.image s.image is.flash queue.has;
          saved = saved_same g queue.groups old.image s.image is.flash queue.saved;
        };
        clean = clean_same g old.image s.image is.flash is.disk clean;
        versions = λ page exists. inl (version_same g old.image s.image page is.flash is.disk);
      }) (each_both old mid _ _ forced front)

  rises : (s : Snapshot) → HasBlocks g list.first list.blocks old.image → LeavesLog g sealing list old.told s → sealed_end g old.image ≤ sealed_end g s.image
  rises s has blocks = grind (arith, common_steps, length-append)

  pub force_sealed : HasBlocks g list.first list.blocks old.image → AreSealed g old.image → LeavesOnly old mid (LeavesSealed g)
  force_sealed has sealed = leaves_weaker old mid Forced (LeavesSealed g) (λ s p. record {
    each = λ page exists. logged_more (sealed_end g old.image) (sealed_end g s.image) (version_on g s.image page) (rises s has p.blocks)
        (subst (IsLogged (sealed_end g old.image)) (sym (version_same g old.image s.image page p.flash p.disk)) (sealed.each page exists));
  }) forced

-- The push.

module _ (cache : FlashCache) (groups : List (List Stored)) (pages : List ℕ) (changed : List Bool) (contents : List (List ℕ)) (old mid new : State)
    (flash : mid.image.flash ≡ old.image.flash) (disk : mid.image.disk ≡ old.image.disk) (told : mid.told ≡ old.told) where
  abbrev g : Geometry
  g = cache.geometry

  log_stands : IsSettled Log mid → (s : Snapshot) → MayStand (loose_of Log mid.loose) mid.image.log s.image.log → s.image.log ≡ mid.image.log
  log_stands settled s stands = settled_is mid.image.log s.image.log (subst (λ rs. MayStand rs mid.image.log s.image.log) settled stands)

  pub record Pushed (s : Snapshot) : Type 0 where
    pub log : s.image.log ≡ mid.image.log
    pub pages_are : kept.LeavesVersions cache groups pages changed contents mid s

  pub pushed : IsSettled Log mid → LeavesOnly mid new (kept.LeavesVersions cache groups pages changed contents mid) → Untouched Log mid new → LeavesOnly mid new Pushed
  pushed settled versions untouched =
      each_weaker mid new (λ m. Leaves (λ s. MayStand (loose_of Log mid.loose) mid.image.log s.image.log) m × Leaves (kept.LeavesVersions cache groups pages changed contents mid) m) (Leaves Pushed)
      (λ m p s left. record { log = log_stands settled s (p.0 s left); pages_are = p.1 s left })
      (each_both mid new _ _ (untouched_leaves Log mid new untouched) versions)

  -- the version of each page
  module _ (P : ℕ → List ℕ → Type 0) (before : (page : ℕ) → page < g.pages → P page (version_on g old.image page)) (own : (k : ℕ) → k < length pages → P (get_or pages k 0) (get_or contents k [])) where
    kept_version : (s : Image) (page : ℕ) → page < g.pages → version_on g s page ≡ version_on g mid.image page → P page (version_on g s page)
    kept_version s page exists same = subst (P page) (sym (same ∙ version_same g old.image mid.image page flash disk)) (before page exists)

    given_version : (s : Image) (page : ℕ) → page < g.pages → Gives g pages contents mid.image s → P page (version_on g s page)
    given_version s page exists gives = elim (or_listed pages page) [
      | inl there ↦ subst (λ n. P n (version_on g s n)) there.2 (subst (P (get_or pages there.0 0)) (sym (gives.given there.0 there.1)) (own there.0 there.1))
      | inr none ↦ kept_version s page exists (gives.others page none)
    ]

    each_version : (s : Snapshot) → kept.LeavesVersions cache groups pages changed contents mid s → (page : ℕ) → page < g.pages → P page (version_on g s.image page)
    each_version s is page exists = elim is.either [
      | inl keeps ↦ kept_version s.image page exists (keeps.versions page)
      | inr gives ↦ given_version s.image page exists (record { given = gives.given; others = gives.others })
    ]

  -- the queue
  queue_left : (s : Snapshot) → kept.LeavesVersions cache groups pages changed contents mid s → HasQueue g s.image
  queue_left s is = elim is.either [
    | inl keeps ↦ record { first = cache.directory.first; groups = groups; has = keeps.has; saved = keeps.saved }
    | inr gives ↦ record {
      first = (pushed_queue cache (known_pushed cache pages changed)).first;
      groups = pushed_groups cache groups (frames_pushed cache mid.image pages changed contents);
      has = gives.has;
      saved = gives.saved;
    }
  ]

  -- what one snapshot has, behind a front of the push
  pub pushed_pages : RingKept → KeepsUnits master_shape old.image mid.image
      → (given : ℕ → List ℕ) (sealing : Bool) (list : LogList) → AreGiven given pages contents → HasBlocks g (sealed_if sealing list).first (sealed_if sealing list).blocks mid.image
      → (s : Snapshot) → Pushed s → IsCleanOn g s.image → IsReached g (IsFrontOf (changes_of_group cache mid.image pages changed contents)) mid s → LeavesPages g given sealing list old s
  pushed_pages law before given sealing list are has s is clean more =
      record {
        log = blocks_left s is.log is.pages_are sealing list refl has;
        masters = units_then master_shape old.image mid.image s.image before
            (masters_kept law g (changes_of_group cache mid.image pages changed contents) mid s (own_group cache mid.image pages changed contents) more);
        queue = queue_left s is.pages_are;
        clean = clean;
        versions = each_version (λ page content. (content ≡ version_on g old.image page) ⊎ (content ≡ given page)) (λ page exists. inl refl) (λ k less. inr (are.each k less)) s is.pages_are;
      }
    where
      blocks_left : (s : Snapshot) → s.image.log ≡ mid.image.log → kept.LeavesVersions cache groups pages changed contents mid s → (b : Bool) (l : LogList) → b ≡ b
          → HasBlocks g (sealed_if b l).first (sealed_if b l).blocks mid.image → LeavesLog g b l old.told s
      blocks_left s log is true l same has = record { told = is.told ∙ told; blocks = inr (refl, blocks_same g l.first (l.blocks ++ l.tail ∷ []) mid.image s.image log has) }
      blocks_left s log is false l same has = record { told = is.told ∙ told; blocks = inl (blocks_same g l.first l.blocks mid.image s.image log has) }

  pub push_leaves : RingKept → IsSettled Log mid → LeavesOnly mid new (kept.LeavesVersions cache groups pages changed contents mid) → Untouched Log mid new
      → LeavesFront g (changes_of_group cache mid.image pages changed contents) mid new → KeepsUnits master_shape old.image mid.image
      → (given : ℕ → List ℕ) (sealing : Bool) (list : LogList) → AreGiven given pages contents → HasBlocks g (sealed_if sealing list).first (sealed_if sealing list).blocks mid.image
      → LeavesOnly mid new (LeavesClean g) → LeavesOnly mid new (LeavesPages g given sealing list old)
  push_leaves law settled versions untouched front before given sealing list are has clean =
      each_weaker mid new (λ m. Leaves Pushed m × Leaves (λ s. LeavesClean g s × IsReached g (IsFrontOf (changes_of_group cache mid.image pages changed contents)) mid s) m) (Leaves (LeavesPages g given sealing list old))
      (λ m p s left. let more = p.1 s left in pushed_pages law before given sealing list are has s (p.0 s left) more.0 more.1)
      (each_both mid new _ _ (pushed settled versions untouched) (each_weaker mid new (λ m. Leaves (LeavesClean g) m × Leaves (IsReached g (IsFrontOf (changes_of_group cache mid.image pages changed contents)) mid) m)
      (Leaves (λ s. LeavesClean g s × IsReached g (IsFrontOf (changes_of_group cache mid.image pages changed contents)) mid s)) (λ m q s left. (q.0 s left, q.1 s left)) (each_both mid new _ _ clean front)))

  pub pushed_sealed : (end : ℕ) → end ≡ sealed_end g mid.image → sealed_end g old.image ≤ end → length contents ≡ length pages → AllByRecursion (IsLogged end) contents → AreSealed g old.image
      → (s : Snapshot) → Pushed s → AreSealed g s.image
  pushed_sealed end is rises lists logged sealed s p = record {
    each = λ page exists. subst (λ e. IsLogged e (version_on g s.image page)) (is ∙ ap (λ l. 512 * hi_of (log_shape g) l) (sym p.log))
        (each_version (λ n content. IsLogged end content) (λ n there. logged_more (sealed_end g old.image) end (version_on g old.image n) rises (sealed.each n there))
        (λ k less. logged_at end contents k [] logged (omega (arith, lists, less))) s p.pages_are page exists);
  }

  -- once it is done
  pub pushed_now : mid.image.log ≡ new.image.log → new.told ≡ mid.told → GivesVersions g (pushed_queue cache (known_pushed cache pages changed)).first (pushed_groups cache groups (frames_pushed cache mid.image pages changed contents)) pages contents mid.image new.image
      → Pushed (snapshot_of new)
  pushed_now log told_since gives = record { log = sym log; pages_are = record { told = told_since; either = inr gives } }

-- the new group is that of the image at first
pub frames_since : (cache : FlashCache) (pages : List ℕ) (changed : List Bool) (contents : List (List ℕ)) (old mid : Image) → mid.flash ≡ old.flash → mid.disk ≡ old.disk
    → frames_pushed cache mid pages changed contents ≡ frames_pushed cache old pages changed contents
frames_since cache pages changed contents old mid flash disk = grind (arith, common_steps, version_same)

-- and the changes are, too
pub group_changes_since : (cache : FlashCache) (pages : List ℕ) (changed : List Bool) (contents : List (List ℕ)) (old mid : Image) → mid.flash ≡ old.flash → mid.disk ≡ old.disk
    → changes_of_group cache mid pages changed contents ≡ changes_of_group cache old pages changed contents
group_changes_since cache pages changed contents old mid flash disk = grind (arith, common_steps, frames_since)

-- all changes of a call were made
pub reached_all : (g : Geometry) (all : List Change) (old new : State) → new.told ≡ old.told → Reaches g all old.image new.image → IsReached g (IsFrontOf all) old (snapshot_of new)
reached_all g all old new told reaches = record { told = told; changes = all; made = ([], sym (append-nil all)); reaches = reaches }

pub gives_since : (g : Geometry) (pages : List ℕ) (contents : List (List ℕ)) (old mid new : Image) → mid.flash ≡ old.flash → mid.disk ≡ old.disk → Gives g pages contents mid new → Gives g pages contents old new
gives_since g pages contents old mid new flash disk gives = record { given = gives.given; others = λ page none. gives.others page none ∙ version_same g old mid page flash disk }

-- Between the force and the push.

pub record IsBetween (store : PageStore) (log log' : LogStore) (sealing : Bool) (list : LogList) (old mid : State) (ready : AreReady store log list old) : Type 0 where
  pub flash : mid.image.flash ≡ old.image.flash
  pub disk : mid.image.disk ≡ old.image.disk
  pub told : mid.told ≡ old.told
  pub honest : IsTrue mid.honest
  pub fits : flash_cache.Matches store.flash mid
  pub holds : flash_cache.Represents store.flash mid.image ready.pages.groups
  pub clean : IsCleanOn store.flash.geometry mid.image
  pub log_fits : log_store.Finds log' mid
  pub log_holds : log_store.Represents log' mid.image (sealed_if sealing list)

pub between : (store : PageStore) (log log' : LogStore) (sealing : Bool) (list : LogList) (old mid : State) (ready : AreReady store log list old) → ChangesOnly Log old mid → Preserves old mid
    → log_store.Finds log' mid → log_store.Represents log' mid.image (sealed_if sealing list) → IsBetween store log log' sealing list old mid ready
between store log log' sealing list old mid ready changes goes fits holds =
    let flash_other : Flash ≢ Log = λ same. cc in
    let disk_other : Disk ≢ Log = λ same. cc in
    let flash : mid.image.flash ≡ old.image.flash = changes.only.now.content Flash flash_other in
    let disk : mid.image.disk ≡ old.image.disk = changes.only.now.content Disk disk_other in
    let honest = stays_honest old mid goes ready.blocks.honest in
    record {
      flash = flash;
      disk = disk;
      told = changes.only.now.told;
      honest = honest;
      fits = flash_fits_same store.flash old mid flash honest ready.pages.flash;
      holds = flash_holds_same store.flash old.image mid.image ready.pages.groups flash ready.pages.holds;
      clean = clean_same store.flash.geometry old.image mid.image flash disk ready.pages.clean;
      log_fits = fits;
      log_holds = holds;
    }

pub clean_given_same : (cache : FlashCache) (pages : List ℕ) (changed : List Bool) (contents : List (List ℕ)) (old new : Image) → new.disk ≡ old.disk
    → AreCleanGiven cache pages changed contents old → AreCleanGiven cache pages changed contents new
clean_given_same cache pages changed contents old new disk are k less unchanged = grind (arith, common_steps)

pub ok_under : {A E : Type 0} (r : Result A E) (P Q : Type 0) → (P → OnOk r Q) → OnOk r (P → Q)
ok_under (Ok x) P Q f = f
ok_under (Err e) P Q f = tt

pub ok_four : {A E : Type 0} (r : Result A E) (P Q R S Z : Type 0) → (P → Q → R → S → Z) → OnOk r P → OnOk r Q → OnOk r R → OnOk r S → OnOk r Z
ok_four (Ok x) P Q R S Z f p q r s = f p q r s
ok_four (Err e) P Q R S Z f p q r s = tt

pub ok_seven : {A E : Type 0} (r : Result A E) (P Q R S T U V Z : Type 0) → (P → Q → R → S → T → U → V → Z) → OnOk r P → OnOk r Q → OnOk r R → OnOk r S → OnOk r T → OnOk r U → OnOk r V → OnOk r Z
ok_seven r P Q R S T U V Z h h2 h3 h4 h5 h6 h7 h8 = grind (arith, common_steps)

-- the log that was found, where nothing of its device is loose
pub log_fits : (log : LogStore) (site : State) → IsQuiet site → log_store.Finds log site → log_store.Matches log site
log_fits log site quiet finds = record { honest = finds.honest; settled = quiet_settled Log site quiet; form = finds.form; hi = finds.hi }

-- a log is found after calls that leave the units of its ring
pub log_found : (log : LogStore) (old new : State) → KeepsUnits (log_shape log.geometry) old.image new.image → Preserves old new → log_store.Finds log old → log_store.Finds log new
log_found log old new keeps goes finds = grind (arith, common_steps, stays_honest)

-- Behind the push.

module _ (store : PageStore) (flash' : FlashCache) (log : LogStore) (list : LogList) (old : State) (ready : AreReady store log list old) (geometry : flash'.geometry ≡ store.flash.geometry) where
  abbrev h : Geometry
  h = store.flash.geometry

  pub fits_behind : (pages : List ℕ) (contents : List (List ℕ)) (new : State) (groups' : List (List Stored)) → flash_cache.Matches flash' new → flash_cache.Represents flash' new.image groups' → IsCleanOn h new.image
      → Gives h pages contents old.image new.image → length contents ≡ length pages → AllByRecursion IsSound contents → AreChanged store pages → Matches (record store { flash = flash' }) new
  fits_behind pages contents new groups' fits holds clean gives lists sound changed = record {
    flash = fits;
    groups = groups';
    holds = holds;
    clean = subst (λ (k : Geometry). IsCleanOn k new.image) (sym geometry) clean;
    sound = λ page exists. subst (λ (k : Geometry). IsSound (version_on k new.image page)) (sym geometry) (sound_version page (subst (λ (k : Geometry). page < k.pages) geometry exists));
    unchanged = λ page frame found unchanged. subst (λ (k : Geometry). frame.content ≡ version_on k new.image page) (sym geometry) (kept page frame found unchanged (or_listed pages page));
  }
    where
      sound_version : (page : ℕ) → page < h.pages → IsSound (version_on h new.image page)
      sound_version page exists = elim (or_listed pages page) [
        | inl there ↦ subst (λ n. IsSound (version_on h new.image n)) there.2 (subst IsSound (sym (gives.given there.0 there.1)) (sound_at contents there.0 [] sound (omega (arith, lists, there.1))))
        | inr none ↦ subst IsSound (sym (gives.others page none)) (ready.pages.sound page exists)
      ]

      kept : (page : ℕ) (frame : Frame) → frame_of store.pool.frames page ≡ Some frame → frame.changed ≡ false → IsListed pages page ⊎ (Contains pages page → ⊥) → frame.content ≡ version_on h new.image page
      kept page frame found unchanged (inl there) =
          absurd (true≢false (sym (changed.each there.0 frame there.1 (ap (frame_of store.pool.frames) there.2 ∙ found)) ∙ unchanged))
      kept page frame found unchanged (inr none) = ready.pages.unchanged page frame found unchanged ∙ sym (gives.others page none)

-- The log behind a push.

pub log_units_same : (g : Geometry) (old new : Image) → new.log ≡ old.log → KeepsUnits (log_shape g) old new
log_units_same g old new same = record { units = ap (units_of (log_shape g)) same; form = λ form. subst (IsRing (log_shape g)) (sym same) form }

-- what holds where there was an error holds of each error
pub kept_where : {A E : Type 0} (r : Result A E) (e : E) (P : Type 0) → IsErrOf r e → OnErr r P → P
kept_where (Ok x) e P says p = absurd cc
kept_where (Err x) e P says p = p
