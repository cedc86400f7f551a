-- A segment is saved first, where one is due, and a group is pushed behind it.
use Rattle.flash_cache.proofs.Names.{arith, ◌≡◌, inl, inr, ℕ, Bool, List, [], ◌++◌, sym, ap, subst, ◌∙◌, append_assoc, Ok, IsTrue, FrameHead, staged_pages, staged_contents, frames_pushed, changes_of_push, changes_before, changes_of_group, LeavesPush, LeavesPushBehind, Invariant, Matches, Represents, frames_on, version_on, FlashCache, Frame, group, frames_of, changes_add_up, Change, Reaches, IsReached, IsFrontOf, LeavesFront, segment_shape, Finds, Units, Ring, in_sequence, leaves_weaker, lengths_later, Preserves, Leaves, LeavesOnly, ChangesOnly, State, Image, Snapshot, IsQuiet, Geometry, Flash, HasStaged, changes_of, AreRings, is_due, changes_of_save, Stands, Saves}
use Rattle.flash_cache.proofs.Segments.{groups_are}
use Rattle.flash_cache.proofs.PushedImages.{keeps_by, saving_only}
use Rattle.std.proofs.lemmas.Grind.{common_steps}

-- What stands before the save, and the cache behind it.

pub stands_there : (cache : FlashCache) (groups : List (List Frame)) (site : State) → Invariant cache site → Matches cache site → (holds : Represents cache site.image groups)
    → Stands cache.geometry cache.ring cache.segments cache.directory.first groups holds.saved.segments site
stands_there cache groups site going fits holds = grind (arith, common_steps)

pub goes_on_saved : (cache : FlashCache) (segments : Ring) (ended : Bool) (old mid : State) → Invariant cache old → Preserves old mid → AreRings cache.geometry cache.ring segments mid → Invariant (record cache { segments = segments; ended = ended }) mid
goes_on_saved cache segments ended old mid going goes rings = record {
  limits = going.limits;
  lengths = lengths_later cache.geometry old mid goes going.lengths;
  rings = rings;
  next = going.next;
  few = going.few;
  sizes = going.sizes;
  exist = going.exist;
}

module _ (cache : FlashCache) (groups : List (List Frame)) (saved : List (List FrameHead)) (segments : Ring) (mid : State) (rings : AreRings cache.geometry cache.ring segments mid)
    (stands : Stands cache.geometry cache.ring segments cache.directory.first groups saved mid) where
  pub fits_saved : Matches (record cache { segments = segments }) mid
  fits_saved = grind (arith, common_steps)

  pub holds_saved : (old : Image) → Represents cache old groups → Represents (record cache { segments = segments }) mid.image groups
  holds_saved old holds = record { has = stands.has; saved = record { segments = saved; follow = stands.holds }; shown = holds.shown }

-- the cache fits behind it, whatever groups stand there

pub segments_found : (cache : FlashCache) (site : State) → cache.segments.shape ≡ segment_shape cache.geometry → Matches cache site → Finds cache.segments site
segments_found cache site shape fits = grind (arith, common_steps)

pub fits_behind : (cache : FlashCache) (segments : Ring) (mid : State) → AreRings cache.geometry cache.ring segments mid → IsTrue mid.honest → Finds cache.ring mid → Finds segments mid → Matches (record cache { segments = segments }) mid
fits_behind cache segments mid rings honest groups_found found = grind (arith, common_steps)

-- the disk and the groups are what they were, and so are the versions

pub disk_saved : (g : Geometry) (due : Bool) (groups : List (List Frame)) (old mid : Image) → Reaches g (changes_of_save due groups) old mid → mid.disk ≡ old.disk
disk_saved g due groups old mid h = grind (arith, common_steps)

frames_saved : (g : Geometry) (due : Bool) (groups : List (List Frame)) (old mid : Image) → Reaches g (changes_of_save due groups) old mid → frames_on g mid ≡ frames_on g old
frames_saved g due groups old mid reaches = ap (λ (u : Units). frames_of u.live) (keeps_by g [] (changes_of_save due groups) old mid (saving_only due groups []) reaches).units.units

pub versions_saved : (g : Geometry) (due : Bool) (groups : List (List Frame)) (old mid : Image) → Reaches g (changes_of_save due groups) old mid → version_on g mid ≡ version_on g old
versions_saved g due groups old mid reaches = grind (arith, common_steps, disk_saved, frames_saved)

pub pushed_saved : (cache : FlashCache) (due : Bool) (groups : List (List Frame)) (old mid : Image) (pages : List ℕ) (changed : List Bool) (contents : List (List ℕ)) → Reaches cache.geometry (changes_of_save due groups) old mid
    → frames_pushed cache mid pages changed contents ≡ frames_pushed cache old pages changed contents
pushed_saved cache due groups old mid pages changed contents reaches = grind (arith, common_steps, versions_saved)

-- The moments.

module _ (g : Geometry) (before : List Change) (pages : List ℕ) (contents : List (List ℕ)) (group : List ℕ) (old mid : State) (front : LeavesFront g before old mid) where
  pub saving_leaves : LeavesOnly old mid (LeavesPushBehind g before pages contents group old)
  saving_leaves = leaves_weaker old mid (IsReached g (IsFrontOf before) old) (LeavesPushBehind g before pages contents group old) (λ s is. record {
    told = is.told;
    either = inl (is.changes, (is.made.0 ++ changes_of pages, ap (λ (l : List Change). l ++ changes_of pages) is.made.1 ∙ append_assoc is.changes is.made.0 (changes_of pages)), is.reaches);
  }) front

  module _ (made : Reaches g before old.image mid.image) (told : mid.told ≡ old.told) (disk : mid.image.disk ≡ old.image.disk) where
    one : (s : Snapshot) → LeavesPush g pages contents group mid s → LeavesPushBehind g before pages contents group old s
    one s is = record {
      told = is.told ∙ told;
      either = elim is.either [
        | inl part ↦ inl (
          before ++ part.0,
          (part.1.0, ap (λ (l : List Change). before ++ l) part.1.1 ∙ sym (append_assoc before part.0 part.1.0)),
          changes_add_up g before part.0 old.image mid.image s.image made part.2,
        )
        | inr all ↦ inr (
          subst (λ (d : List ℕ). HasStaged pages contents d s.image.disk) disk all.0,
          changes_add_up g before (changes_of_push pages group) old.image mid.image s.image made all.1,
        )
      ];
    }

    pub pushing_leaves : (new : State) → LeavesOnly mid new (LeavesPush g pages contents group mid) → LeavesOnly old new (LeavesPushBehind g before pages contents group old)
    pushing_leaves new leaves =
        in_sequence old mid new (Leaves (LeavesPushBehind g before pages contents group old)) saving_leaves
        (leaves_weaker mid new (LeavesPush g pages contents group mid) (LeavesPushBehind g before pages contents group old) one leaves)

-- A push behind a save.

-- what stands behind the save
pub record IsBehind (cache : FlashCache) (groups : List (List Frame)) (segments : Ring) (old mid : State) : Type 0 where
  pub fits : Matches (record cache { segments = segments }) mid
  pub holds : Represents (record cache { segments = segments }) mid.image groups
  pub front : IsQuiet old → LeavesFront cache.geometry (changes_of_save (is_due cache.ring.hi cache.segments.hi) groups) old mid
  pub reaches : Reaches cache.geometry (changes_of_save (is_due cache.ring.hi cache.segments.hi) groups) old.image mid.image
  pub told : mid.told ≡ old.told

pub is_behind : (cache : FlashCache) (groups : List (List Frame)) (segments : Ring) (old mid : State) (holds : Represents cache old.image groups) → AreRings cache.geometry cache.ring segments mid → ChangesOnly Flash old mid
    → Saves cache.geometry cache.ring cache.segments segments cache.directory.first groups holds.saved.segments old mid (Ok tt) → IsBehind cache groups segments old mid
is_behind cache groups segments old mid holds rings changes saves = record {
  fits = fits_saved cache groups _ segments mid rings saves.stands;
  holds = holds_saved cache groups _ segments mid rings saves.stands old.image holds;
  front = saves.any_moment;
  reaches = saves.reaches;
  told = changes.only.now.told;
}

module _ (cache : FlashCache) (groups : List (List Frame)) (segments : Ring) (old mid : State) (holds : Represents cache old.image groups) (b : IsBehind cache groups segments old mid)
    (pages : List ℕ) (changed : List Bool) (contents : List (List ℕ)) where
  abbrev due : Bool
  due = is_due cache.ring.hi cache.segments.hi

  abbrev content : Image → List ℕ
  content image = group (frames_pushed cache image pages changed contents)

  same : frames_pushed cache mid.image pages changed contents ≡ frames_pushed cache old.image pages changed contents
  same = pushed_saved cache due groups old.image mid.image pages changed contents b.reaches

  -- these groups are read off the image
  as_read : (P : List Change → Type 0) → P (changes_of_save due groups) → P (changes_before cache old.image)
  as_read P is = subst (λ (gs : List (List Frame)). P (changes_of_save due gs)) (sym (groups_are cache.geometry cache.directory.first groups old.image holds.has)) is

  pub moment_behind : (new : State) → IsQuiet old → LeavesOnly mid new (LeavesPush cache.geometry (staged_pages cache) (staged_contents cache groups) (content mid.image) mid)
      → LeavesOnly old new (LeavesPushBehind cache.geometry (changes_before cache old.image) (staged_pages cache) (staged_contents cache groups) (content old.image) old)
  moment_behind new quiet leaves =
      as_read (λ l. LeavesOnly old new (LeavesPushBehind cache.geometry l (staged_pages cache) (staged_contents cache groups) (content old.image) old))
      (pushing_leaves cache.geometry (changes_of_save due groups) (staged_pages cache) (staged_contents cache groups) (content old.image) old mid (b.front quiet) b.reaches b.told
      (disk_saved cache.geometry due groups old.image mid.image b.reaches) new
      (subst (λ (fs : List Frame). LeavesOnly mid new (LeavesPush cache.geometry (staged_pages cache) (staged_contents cache groups) (group fs) mid)) same leaves))

  pub reaches_behind : (new : Image) → Reaches cache.geometry (changes_of_push (staged_pages cache) (content mid.image)) mid.image new → Reaches cache.geometry (changes_of_group cache old.image pages changed contents) old.image new
  reaches_behind new reaches =
      as_read (λ l. Reaches cache.geometry (l ++ changes_of_push (staged_pages cache) (content old.image)) old.image new)
      (changes_add_up cache.geometry (changes_of_save due groups) (changes_of_push (staged_pages cache) (content old.image)) old.image mid.image new b.reaches
      (subst (λ (fs : List Frame). Reaches cache.geometry (changes_of_push (staged_pages cache) (group fs)) mid.image new) same reaches))

  pub staged_behind : (new : Image) → HasStaged (staged_pages cache) (staged_contents cache groups) mid.image.disk new.disk → HasStaged (staged_pages cache) (staged_contents cache groups) old.image.disk new.disk
  staged_behind new staged = subst (λ (d : List ℕ). HasStaged (staged_pages cache) (staged_contents cache groups) d new.disk) (disk_saved cache.geometry due groups old.image mid.image b.reaches) staged

-- where the save fails
pub failed_moment : (cache : FlashCache) (groups : List (List Frame)) (old new : State) (group : List ℕ) (holds : Represents cache old.image groups)
    → LeavesFront cache.geometry (changes_of_save (is_due cache.ring.hi cache.segments.hi) groups) old new
    → LeavesOnly old new (LeavesPushBehind cache.geometry (changes_before cache old.image) (staged_pages cache) (staged_contents cache groups) group old)
failed_moment cache groups old new group holds front =
    saving_leaves cache.geometry (changes_before cache old.image) (staged_pages cache) (staged_contents cache groups) group old new
    (subst (λ (gs : List (List Frame)). LeavesFront cache.geometry (changes_of_save (is_due cache.ring.hi cache.segments.hi) gs) old new) (sym (groups_are cache.geometry cache.directory.first groups old.image holds.has)) front)
