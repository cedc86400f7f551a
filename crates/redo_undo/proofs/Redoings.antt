-- Log and pages while the records of an opened log are redone.
use Rattle.redo_undo.proofs.Names.{settled, ◌≡◌, ◌⊎◌, inl, inr, ◌+◌, ◌*◌, ◌<◌, ◌==◌, ◌||◌, ◌&&◌, nat_lt, Bool, false, List, [], append-nil, length, refl, sym, ap, subst, ◌∙◌, arith, ℕ, true≢false, AllByRecursion, frame_of, Frame, Master, version_on, IsCleanOn, log_shape, KeepsUnits, master_shape, redone_is_current, redone_replaces, version_is_redone, next_block_is, length-versions, version_is, AreRingsSoundUnder, IsSoundUnder, StandsUnder, logical_image_under, versions_on, version_in, kept_by, next_block_under, IsRedone, AreKnown, ShowsAll, Entry, Version, log_from, Means, LogRecord, LogList, sealed_if, HasBlocks, has_tail, end_of, LogStore, fits_beside, IsAhead, sealed_end, AreReady, LeavesPages, LeavesRings, KeepsCurrent, IsStore, current, content_by, PageStore, Content, units_then, only_read, opened_holds, Represents, ShowRecords, IsOpened, Opening, opened, IsFrom, LeavesOpened, IsRedoing, IsRing, hi_of, each_both, each_weaker, no_call, unchanged_calm, stays_honest, quiet_leaves, Preserves, IsUnchanged, Leaves, LeavesOnly, State, Image, Snapshot, snapshot_of, IsQuiet, Geometry, lsn_of, IsLogged, end_forced, forces}
use Rattle.image_meaning.proofs.Behind.{shows_still}
use Rattle.image_meaning.proofs.OtherVersions.{version_replaces_itself, versions_are_sound, versions_mean}
use Rattle.image_meaning.proofs.Replacing.{replace_all}
use Rattle.std.proofs.Common.{IsTrue}
use Rattle.std.specs.Prelude.{Option}
use Rattle.std.proofs.lemmas.Bool.Decides.{nat_tests}
use Rattle.log_laws.specs.NewImage.{Replaces}
use Rattle.image_meaning.specs.LogicalImages.{ReplaceAll}
use Rattle.redo_laws.proofs.Standing.{current_sound}
use Rattle.redo_laws.proofs.Empties.{logged_below}
use Rattle.log_records.specs.Sound as lists
use Rattle.slotted_page.specs.Layout as page
use Rattle.log_store.specs.Representation as log_store

-- an empty tail is never forced
pub never_forced : (log : LogStore) (contents : List (List ℕ)) → log.used ≡ 2 → forces log contents ≡ false
never_forced log contents empty = by _ (ap (nat_lt 2) empty)
  where
    by : (c : Bool) → has_tail log ≡ false → (has_tail log && c) ≡ false
    by c none = ap (λ b. b && c) none

module _ (o : Opening) (sound : lists.IsSound (opened o)) where
  exists_in : (number : ℕ) → number < o.sizes.pages → number < length (opened o).pages
  exists_in number exists = let long = length-versions o.sizes o.image in omega (arith, exists, long)

  -- the versions of an image, each of which replaces that of the opened one
  module _ (now : Image) (given : (number : ℕ) → number < o.sizes.pages → Replaces (opened o) number (version_in (version_on o.sizes now number))) where
    pub all_replace : ReplaceAll (opened o) (versions_on o.sizes now)
    all_replace = replace_all o.newest o.sizes o.image now o.blocks given

  pub version_replaces : (image : Image) → ReplaceAll (opened o) (versions_on o.sizes image) → (number : ℕ) → number < o.sizes.pages → Replaces (opened o) number (version_in (version_on o.sizes image number))
  version_replaces image replace number exists =
      subst (Replaces (opened o) number) (version_is o.sizes image number exists) (replace.each number (exists_in number exists))

  -- such an image is sound, and stands for the same
  pub sound_by : (now : Image) → ReplaceAll (opened o) (versions_on o.sizes now) → HasBlocks o.sizes (kept_by o.newest) o.blocks now → AreRingsSoundUnder o.newest o.sizes now → IsCleanOn o.sizes now →
      ((number : ℕ) → number < o.sizes.pages → page.IsSound (version_on o.sizes now number)) → IsSoundUnder o.newest o.sizes now o.blocks
  sound_by now replace held rings clean sound_pages = record {
    octets = record {
      limits = rings.limits;
      lengths = rings.lengths;
      masters = rings.masters;
      segments = rings.segments;
      groups = rings.groups;
      versions = sound_pages;
      clean = clean;
    };
    held = held;
    records = versions_are_sound (opened o) (versions_on o.sizes now) sound replace;
  }

  pub means_by : (now : Image) → ReplaceAll (opened o) (versions_on o.sizes now) → Means (opened o) o.table o.commits → Means (logical_image_under o.newest o.sizes now o.blocks) o.table o.commits
  means_by now replace means = versions_mean (opened o) (versions_on o.sizes now) sound replace o.table o.commits means

module _ (o : Opening) (log : LogStore) (pages : PageStore) (site : State) (front : List Entry) (h : IsRedoing o log pages site front) where
  pub rings_given : AreRingsSoundUnder o.newest pages.flash.geometry site.image
  rings_given = subst (λ (k : Geometry). AreRingsSoundUnder o.newest k site.image) (sym h.geometry) h.rings

  pub rings_of : (new : State) → LeavesOnly site new (LeavesRings o.newest pages.flash.geometry) → LeavesOnly site new (LeavesRings o.newest o.sizes)
  rings_of new rings = subst (λ (k : Geometry). LeavesOnly site new (LeavesRings o.newest k)) h.geometry rings

module _ (o : Opening) (log : LogStore) (pages : PageStore) (site : State) (front : List Entry) (h : IsRedoing o log pages site front) where
  abbrev list : LogList
  list = record { first = kept_by o.newest; blocks = o.blocks; tail = [] }

  version_sound : (number : ℕ) → number < o.sizes.pages → page.IsSound (version_on o.sizes site.image number)
  version_sound = subst (λ (k : Geometry). (number : ℕ) → number < k.pages → page.IsSound (version_on k site.image number)) h.geometry h.ready.pages.sound

  content_sound : IsStore pages → (number : ℕ) → number < o.sizes.pages → page.IsSound (current pages site.image number)
  content_sound own = subst (λ (k : Geometry). (number : ℕ) → number < k.pages → page.IsSound (current pages site.image number)) h.geometry
      (λ number exists. current_sound pages site.image number own (h.ready.pages.sound number exists))

  clean_now : IsCleanOn o.sizes site.image
  clean_now = subst (λ (k : Geometry). IsCleanOn k site.image) h.geometry h.ready.pages.clean

  pub held_now : log.geometry ≡ pages.flash.geometry → HasBlocks o.sizes (kept_by o.newest) o.blocks site.image
  held_now same = subst (λ (k : Geometry). HasBlocks k (kept_by o.newest) o.blocks site.image) (same ∙ h.geometry) h.ready.records.blocks

  -- The site itself.
  pub sound_now : log.geometry ≡ pages.flash.geometry → IsSoundUnder o.newest o.sizes site.image o.blocks
  sound_now same = sound_by o h.sound site.image h.replace (held_now same) h.rings clean_now version_sound

  pub stands_now : log.geometry ≡ pages.flash.geometry → StandsUnder o.newest o.sizes site.image o.table o.commits
  stands_now same = record { blocks = o.blocks; sound = sound_now same; means = means_by o h.sound site.image h.replace h.means }

  pub nothing_happens : log.geometry ≡ pages.flash.geometry → IsQuiet site → LeavesOnly site site (LeavesOpened o site.told)
  nothing_happens same quiet =
      no_call site (Leaves (LeavesOpened o site.told))
      (λ snapshot left. subst (LeavesOpened o site.told) (sym (quiet_leaves site snapshot quiet left)) (record { told = refl; stands = stands_now same }))

  -- Within a touch.
  by_version : (now : Image) (number : ℕ) → number < o.sizes.pages → (version_on o.sizes now number ≡ version_on o.sizes site.image number) ⊎ (version_on o.sizes now number ≡ current pages site.image number) →
      Replaces (opened o) number (version_in (version_on o.sizes now number))
  by_version now number exists (inl same) = subst (λ (c : List ℕ). Replaces (opened o) number (version_in c)) (sym same) (version_replaces o h.sound site.image h.replace number exists)
  by_version now number exists (inr same) = subst (λ (c : List ℕ). Replaces (opened o) number (version_in c)) (sym same)
      (redone_replaces (opened o) number (version_in (current pages site.image number)) h.sound (exists_in o h.sound number exists) (h.redone number exists))

  pub replaced : (s : Snapshot) → LeavesPages o.sizes (current pages site.image) false list site s → ReplaceAll (opened o) (versions_on o.sizes s.image)
  replaced s leaves = all_replace o h.sound s.image (λ number exists. by_version s.image number exists (leaves.versions number exists))

  pub blocks_left : (s : Snapshot) → LeavesPages o.sizes (current pages site.image) false list site s → HasBlocks o.sizes (kept_by o.newest) o.blocks s.image
  blocks_left s leaves = elim leaves.log.blocks [
    | inl has ↦ has
    | inr more ↦ absurd (true≢false (sym more.0))
  ]

  at_snapshot : IsStore pages → (s : Snapshot) → LeavesPages o.sizes (current pages site.image) false list site s → AreRingsSoundUnder o.newest o.sizes s.image → LeavesOpened o site.told s
  at_snapshot own s leaves rings = record {
    told = leaves.log.told;
    stands = record {
      blocks = o.blocks;
      sound = sound_by o h.sound s.image (replaced s leaves) (blocks_left s leaves) rings leaves.clean (λ number exists. by_page number exists (leaves.versions number exists));
      means = means_by o h.sound s.image (replaced s leaves) h.means;
    };
  }
    where
      by_page : (number : ℕ) → number < o.sizes.pages → (version_on o.sizes s.image number ≡ version_on o.sizes site.image number) ⊎ (version_on o.sizes s.image number ≡ current pages site.image number) → page.IsSound (version_on o.sizes s.image number)
      by_page number exists (inl same) = subst page.IsSound (sym same) (version_sound number exists)
      by_page number exists (inr same) = subst page.IsSound (sym same) (content_sound own number exists)

  module _ (sealing : Bool) (never : sealing ≡ false) (new : State) where
    pub leaves_so : LeavesOnly site new (LeavesPages pages.flash.geometry (current pages site.image) sealing list site) → LeavesOnly site new (LeavesPages o.sizes (current pages site.image) false list site)
    leaves_so leaves = subst (λ (b : Bool). LeavesOnly site new (LeavesPages o.sizes (current pages site.image) b list site)) never
        (subst (λ (k : Geometry). LeavesOnly site new (LeavesPages k (current pages site.image) sealing list site)) h.geometry leaves)

    pub touch_leaves : LeavesOnly site new (LeavesPages pages.flash.geometry (current pages site.image) sealing list site) → LeavesOnly site new (LeavesRings o.newest o.sizes) → IsStore pages → LeavesOnly site new (LeavesOpened o site.told)
    touch_leaves leaves rings own =
        each_weaker site new (λ m. Leaves (LeavesPages o.sizes (current pages site.image) false list site) m × Leaves (LeavesRings o.newest o.sizes) m) (Leaves (LeavesOpened o site.told))
        (λ m q s left. at_snapshot own s (q.0 s left) (q.1 s left))
        (each_both site new _ _ (leaves_so leaves) rings)

    left_so : LeavesPages pages.flash.geometry (current pages site.image) sealing list site (snapshot_of new) → LeavesPages o.sizes (current pages site.image) false list site (snapshot_of new)
    left_so leaves = subst (λ (b : Bool). LeavesPages o.sizes (current pages site.image) b list site (snapshot_of new)) never
        (subst (λ (k : Geometry). LeavesPages k (current pages site.image) sealing list site (snapshot_of new)) h.geometry leaves)

    -- and behind it
    pub touched : (log' : LogStore) (pages' : PageStore) → pages'.flash.geometry ≡ pages.flash.geometry → log'.kept ≡ log.kept → AreReady pages' log' (sealed_if sealing list) new → KeepsCurrent pages site.image pages' new.image →
        IsAhead log' pages' new.image → LeavesPages pages.flash.geometry (current pages site.image) sealing list site (snapshot_of new) → AreRingsSoundUnder o.newest pages.flash.geometry new.image → IsRedoing o log' pages' new front
    touched log' pages' same same_kept ready kept are_ahead leaves rings = record {
      geometry = same ∙ h.geometry;
      kept = same_kept ∙ h.kept;
      sound = h.sound;
      means = h.means;
      ready = subst (λ (b : Bool). AreReady pages' log' (sealed_if b list) new) never ready;
      rings = subst (λ (k : Geometry). AreRingsSoundUnder o.newest k new.image) h.geometry rings;
      masters = units_then o.image site.image new.image h.masters leaves.masters;
      ahead = are_ahead;
      replace = replaced (snapshot_of new) (left_so leaves);
      redone = λ number exists. subst (λ (c : List ℕ). IsRedone (opened o) number (version_in c)) (sym (kept_so number exists)) (h.redone number exists);
      known = λ number exists. subst (λ (c : List ℕ). AreKnown front number (lsn_of c)) (sym (kept_so number exists)) (h.known number exists);
      from = λ number exists. subst (λ (c : List ℕ). IsFrom (opened o) front number (lsn_of c)) (sym (kept_so number exists)) (h.from number exists);
    }
      where
        kept_so : (number : ℕ) → number < o.sizes.pages → current pages' new.image number ≡ current pages site.image number
        kept_so = subst (λ (k : Geometry). (number : ℕ) → number < k.pages → current pages' new.image number ≡ current pages site.image number) h.geometry kept.each

-- Nothing was redone yet.

before_two : (n end : ℕ) → IsTrue ((n == 0) || nat_lt n end) → n < end + 2
before_two n end logged = grind (arith, nat_tests)

module _ (log : LogStore) (pages : PageStore) (site : State) (newest : Option Master) (blocks : List (List LogRecord)) (table : List Content) (commits : ℕ)
    (h : IsOpened pages.flash.geometry log pages site newest blocks table commits) where
  abbrev pub begun : Opening
  begun = record { sizes = pages.flash.geometry; image = site.image; newest = newest; blocks = blocks; table = table; commits = commits }

  unpooled : (number : ℕ) → current pages site.image number ≡ version_on pages.flash.geometry site.image number
  unpooled number = ap (λ (frames : List Frame). content_by (frame_of frames number) (version_on pages.flash.geometry site.image number)) h.empty

  listed_there : (number : ℕ) → number < pages.flash.geometry.pages → number < length (versions_on pages.flash.geometry site.image)
  listed_there number exists = let long = length-versions pages.flash.geometry site.image in omega (arith, exists, long)

  version_logged : (number : ℕ) → number < pages.flash.geometry.pages → IsLogged (sealed_end pages.flash.geometry site.image) (version_on pages.flash.geometry site.image number)
  version_logged number exists =
      let end : 512 * next_block_under newest blocks ≡ sealed_end pages.flash.geometry site.image = omega (arith, h.sound.held.next, next_block_is newest blocks) in
      let logged = (h.sound.records.versions_fit number (listed_there number exists)).logged in
      let of_it = subst (λ (v : Version). IsTrue ((v.lsn == 0) || nat_lt v.lsn (512 * next_block_under newest blocks))) (version_is pages.flash.geometry site.image number exists) logged in
      record { below = λ some. subst (λ n. lsn_of (version_on pages.flash.geometry site.image number) < n) end (logged_below (lsn_of (version_on pages.flash.geometry site.image number)) (512 * next_block_under newest blocks) of_it some) }

  pub begins : IsRedoing begun log pages site []
  begins = record {
    geometry = refl;
    kept = h.kept;
    sound = h.sound.records;
    means = h.means;
    ready = h.ready;
    rings = record { limits = h.sound.octets.limits; lengths = h.sound.octets.lengths; masters = h.sound.octets.masters; segments = h.sound.octets.segments; groups = h.sound.octets.groups };
    masters = record { units = refl; form = λ form. form };
    ahead = record {
      pool = subst (AllByRecursion (λ (frame : Frame). IsLogged (end_forced log) frame.content)) (sym h.empty) tt;
      versions = record { each = version_logged };
    };
    replace = record { count = refl; each = λ number less. version_replaces_itself (opened begun) number h.sound.records less };
    redone = λ number exists.
        subst (λ (c : List ℕ). IsRedone (opened begun) number (version_in c)) (sym (unpooled number))
        (subst (IsRedone (opened begun) number) (version_is pages.flash.geometry site.image number exists) (version_is_redone (opened begun) number h.sound.records (listed_there number exists)));
    known = λ number exists. tt;
    from = λ number exists. inl (ap lsn_of (unpooled number) ∙ sym (ap (λ (v : Version). v.lsn) (version_is pages.flash.geometry site.image number exists)));
  }

-- All is redone.

module _ (o : Opening) (log : LogStore) (pages : PageStore) (site : State) (h : IsRedoing o log pages site (log_from (kept_by o.newest) o.blocks)) (sizes : log.geometry ≡ pages.flash.geometry) where
  shows_all : (number : ℕ) → number < o.sizes.pages → ShowsAll (log_from (kept_by o.newest) o.blocks) (versions_on o.sizes site.image) number (version_in (current pages site.image number))
  shows_all number exists =
      let v = version_in (current pages site.image number) in
      let is = redone_is_current (opened o) number v (h.redone number exists) (h.known number exists) in
      subst (λ (l : List Entry). ShowsAll l (versions_on o.sizes site.image) number v) (append-nil (log_from (kept_by o.newest) o.blocks))
      (shows_still (opened o) (versions_on o.sizes site.image) [] number v h.replace (omega (arith, exists, length-versions o.sizes o.image))
      (subst (λ (l : List Entry). ShowsAll l (versions_on o.sizes o.image) number v) (sym (append-nil (log_from (kept_by o.newest) o.blocks))) is.all))

  below_end : (number : ℕ) → number < o.sizes.pages → lsn_of (current pages site.image number) < end_of log
  below_end number exists =
      let less = before_two (lsn_of (current pages site.image number)) (512 * next_block_under o.newest o.blocks) (h.redone number exists).logged in
      omega (arith, h.ready.blocks.hi, h.ready.records.blocks.next, h.ready.records.tail.end, less, next_block_is o.newest o.blocks)

  pub holds_all : Represents log pages site o.newest (log_from (kept_by o.newest) o.blocks) (settled o.table o.commits)
  holds_all =
      let back = sym h.geometry in
      opened_holds log pages site o.newest o.blocks o.table o.commits sizes h.kept h.ready
      (subst (λ (k : Geometry). IsSoundUnder o.newest k site.image o.blocks) back (sound_now o log pages site (log_from (kept_by o.newest) o.blocks) h sizes))
      (subst (λ (k : Geometry). Means (logical_image_under o.newest k site.image o.blocks) o.table o.commits) back (means_by o h.sound site.image h.replace h.means))
      (subst (λ (k : Geometry). ShowRecords k pages site.image (log_from (kept_by o.newest) o.blocks)) back (record { each = shows_all }))
      h.ahead
      (subst (λ (k : Geometry). (number : ℕ) → number < k.pages → lsn_of (current pages site.image number) < end_of log) back below_end)

-- A site of which only was read.

pub redoing_still : (o : Opening) (log : LogStore) (pages : PageStore) (old new : State) (front : List Entry) → Preserves old new → IsUnchanged old new → IsRedoing o log pages old front → IsRedoing o log pages new front
redoing_still o log pages old new front goes same h =
    let list : LogList = record { first = kept_by o.newest; blocks = o.blocks; tail = [] } in
    record {
      geometry = h.geometry;
      kept = h.kept;
      sound = h.sound;
      means = h.means;
      ready = record {
        pages = fits_beside pages old new (only_read old new same) goes h.ready.pages;
        blocks = record {
          honest = stays_honest old new goes h.ready.blocks.honest;
          form = subst (λ (i : Image). IsRing (log_shape log.geometry) i.log) (sym same.image) h.ready.blocks.form;
          hi = subst (λ (i : Image). log.ring.hi ≡ hi_of (log_shape log.geometry) i.log) (sym same.image) h.ready.blocks.hi;
        };
        records = subst (λ (i : Image). log_store.Represents log i list) (sym same.image) h.ready.records;
      };
      rings = subst (AreRingsSoundUnder o.newest o.sizes) (sym same.image) h.rings;
      masters = subst (KeepsUnits master_shape o.image) (sym same.image) h.masters;
      ahead = subst (IsAhead log pages) (sym same.image) h.ahead;
      replace = subst (λ (i : Image). ReplaceAll (opened o) (versions_on o.sizes i)) (sym same.image) h.replace;
      redone = subst (λ (i : Image). (page : ℕ) → page < o.sizes.pages → IsRedone (opened o) page (version_in (current pages i page))) (sym same.image) h.redone;
      known = subst (λ (i : Image). (page : ℕ) → page < o.sizes.pages → AreKnown front page (lsn_of (current pages i page))) (sym same.image) h.known;
      from = subst (λ (i : Image). (page : ℕ) → page < o.sizes.pages → IsFrom (opened o) front page (lsn_of (current pages i page))) (sym same.image) h.from;
    }

pub then_read : (o : Opening) (old mid new : State) → LeavesOnly old mid (LeavesOpened o old.told) → IsUnchanged mid new → LeavesOnly old new (LeavesOpened o old.told)
then_read o old mid new first same = unchanged_calm old mid new (Leaves (LeavesOpened o old.told)) first same
