-- Segments follow the groups at each moment of a push.
use Rattle.flash_cache.proofs.Names.{◌≡◌, ℕ, ◌+◌, ◌-◌, ◌*◌, ◌<◌, ◌≤◌, Bool, true, false, List, [], ◌∷◌, ◌++◌, length, map, arith, refl, ap, subst, ◌∙◌, eqb-true, eqb-false, AllByRecursion, spelling_of_all, pushed_groups, changes_of_push, HasFrames, HasGroups, AreSaved, AllTogether, Shows, groups_on, FlashCache, frames_are_in, Frame, group, reaches_parts, Change, RewritesPages, AppendsGroup, AppendsSegment, ReadsAs, Appends, Reaches, IsFrontOf, Groups, Segments, group_shape, segment_shape, KeepsUnits, Units, hi_of, HasLimits, Image, Geometry, changes_of, all_left, is_due, segment_of, changes_of_save}
use Rattle.frame_group.specs.Groups.{frames_in}
use Rattle.tail_rebuild.specs.Laws.{with_group}
use Rattle.tail_rebuild.proofs.Following.{groups_again, saved_again, segment_saved, group_pushed}
use Rattle.flash_cache.proofs.Queues.{together_length}
use Rattle.flash_cache.proofs.Pushing.{leaves_when, stays_when}
use Rattle.flash_cache.proofs.PushedImages.{made_as}
use Rattle.std.proofs.lemmas.Grind.{common_steps}

-- the groups that stand there are those that are read off the image

pub read_off : (g : Geometry) (groups : List (List Frame)) → AllByRecursion (λ frames. HasFrames g frames (group frames)) groups → map frames_in (map group groups) ≡ groups
read_off g [] all = refl
read_off g (frames ∷ groups) all = λ i. frames_are_in (group frames) frames all.0.is_group i ∷ read_off g groups all.1 i

pub groups_are : (g : Geometry) (first : ℕ) (groups : List (List Frame)) (image : Image) → HasGroups g first groups image → groups_on g image ≡ groups
groups_are g first groups image has = ap (map frames_in) has.live ∙ read_off g groups has.are_groups

-- the two rings of the flash have the same units
record SameUnits (g : Geometry) (old new : Image) : Type 0 where
  groups : KeepsUnits (group_shape g) old new
  segments : KeepsUnits (segment_shape g) old new

reads_same : (g : Geometry) (old new : Image) → ReadsAs g old new → SameUnits g old new
reads_same g old new same = record { groups = same.rings Groups; segments = same.rings Segments }

same_then : (g : Geometry) (a b c : Image) → SameUnits g a b → SameUnits g b c → SameUnits g a c
same_then g a b c first second = grind (arith, common_steps)

staged_same : (g : Geometry) (pages : List ℕ) (changes : List Change) (a b : Image) → AllByRecursion (λ change. change ≡ RewritesPages pages) changes → Reaches g changes a b → SameUnits g a b
staged_same g pages [] a b only reaches = reads_same g a b reaches
staged_same g pages (change ∷ changes) a b only reaches =
    let mid : Image = reaches.0 in
    let first = made_as g change (RewritesPages pages) a mid only.0 reaches.1 in
    same_then g a mid b (record { groups = first.rings Groups; segments = first.rings Segments }) (staged_same g pages changes mid b only.1 reaches.2)

stages : (pages : List ℕ) → AllByRecursion (λ change. change ≡ RewritesPages pages) (changes_of pages)
stages [] = tt
stages (page ∷ pages) = (refl, tt)

front_stages : (pages : List ℕ) (changes : List Change) → IsFrontOf (changes_of pages) changes → AllByRecursion (λ change. change ≡ RewritesPages pages) changes
front_stages pages changes is = all_left (λ change. change ≡ RewritesPages pages) changes is.0 (subst (AllByRecursion (λ change. change ≡ RewritesPages pages)) is.1 (stages pages))

first_same : (x y : Change) (xs ys : List Change) → x ∷ xs ≡ y ∷ ys → y ≡ x
first_same x y xs ys same = cc

later_same : (x y : Change) (xs ys : List Change) → x ∷ xs ≡ y ∷ ys → xs ≡ ys
later_same x y xs ys same = cc

-- groups stand there, with segments that follow them, and there is room for a group behind the segments
pub record StandsWithRoom (g : Geometry) (first : ℕ) (groups : List (List Frame)) (image : Image) : Type 0 where
  pub has : HasGroups g first groups image
  pub saved : AreSaved g groups image
  pub room : hi_of (group_shape g) image.flash < 4 * hi_of (segment_shape g) image.flash + 4

stays_with_room : (g : Geometry) (first : ℕ) (groups : List (List Frame)) (old new : Image) → SameUnits g old new → StandsWithRoom g first groups old → StandsWithRoom g first groups new
stays_with_room g first groups old new same stands = record {
  has = groups_again g first groups old new same.groups stands.has;
  saved = record { segments = stands.saved.segments; follow = saved_again g groups stands.saved.segments old new same.groups same.segments stands.saved.follow };
  room = let h = ap (λ (u : Units). u.hi) same.groups.units in let k = ap (λ (u : Units). u.hi) same.segments.units in let room = stands.room in omega (arith, h, k, room);
}

-- The save, and what comes behind it.

module _ (g : Geometry) (limits : HasLimits g) (first : ℕ) (groups : List (List Frame)) (old : Image) (has : HasGroups g first groups old) (saved : AreSaved g groups old)
    (h k : ℕ) (h_is : h ≡ hi_of (group_shape g) old.flash) (k_is : k ≡ hi_of (segment_shape g) old.flash) (high : h ≤ 4 * k + 4) where
  behind_segment : (new : Image) → is_due h k ≡ true → Appends g Segments (spelling_of_all (segment_of groups)) old new → StandsWithRoom g first groups new
  behind_segment new due appends =
      let is = eqb-true h (4 * k + 4) due in
      let both = segment_saved g first groups saved.segments old new limits (omega (arith, is, h_is, k_is)) appends has saved.follow in
      record {
        has = both.0;
        saved = record { segments = _; follow = both.1 };
        room =
            let next = both.0.next in
            let before = has.next in
            let more : hi_of (segment_shape g) new.flash ≡ hi_of (segment_shape g) old.flash + 1 = ap (λ (u : Units). u.hi) appends.units in
            omega (arith, next, before, more, is, h_is, k_is);
      }

  -- behind the save
  pub behind_save : (new : Image) (b : Bool) → is_due h k ≡ b → Reaches g (changes_of_save b groups) old new → StandsWithRoom g first groups new
  behind_save new true due reaches = stays_with_room g first groups reaches.0 new (reads_same g reaches.0 new reaches.2) (behind_segment reaches.0 due reaches.1)
  behind_save new false none reaches =
      let other = eqb-false h (4 * k + 4) none in
      stays_with_room g first groups old new (reads_same g old new reaches) (record { has = has; saved = saved; room = omega (arith, other, high, h_is, k_is) })

  -- while pages are staged
  pub saved_front : (pages : List ℕ) (changes : List Change) (new : Image) (b : Bool) → is_due h k ≡ b → IsFrontOf (changes_of_save b groups ++ changes_of pages) changes → Reaches g changes old new → AreSaved g groups new
  saved_front pages changes new false none front reaches =
      let same = staged_same g pages changes old new (front_stages pages changes front) reaches in
      record { segments = saved.segments; follow = saved_again g groups saved.segments old new same.groups same.segments saved.follow }
  saved_front pages [] new true due front reaches =
      let same = reads_same g old new reaches in
      record { segments = saved.segments; follow = saved_again g groups saved.segments old new same.groups same.segments saved.follow }
  saved_front pages (change ∷ changes) new true due front reaches =
      let mid : Image = reaches.0 in
      let segment = AppendsSegment (spelling_of_all (segment_of groups)) in
      let is : change ≡ segment = first_same segment change (changes_of pages) (changes ++ front.0) front.1 in
      let rest : IsFrontOf (changes_of pages) changes = (front.0, later_same segment change (changes_of pages) (changes ++ front.0) front.1) in
      (stays_with_room g first groups mid new (staged_same g pages changes mid new (front_stages pages changes rest) reaches.2)
      (behind_segment mid due (made_as g change segment old mid is reaches.1))).saved

  -- once the group is appended
  pub saved_behind : (pages : List ℕ) (frames : List Frame) (new : Image) (b : Bool) → is_due h k ≡ b → HasFrames g frames (group frames) → Reaches g (changes_of_save b groups ++ changes_of_push pages (group frames)) old new
      → AreSaved g (with_group g groups frames) new
  saved_behind pages frames new b is own reaches =
      let save = reaches_parts g (changes_of_save b groups) (changes_of_push pages (group frames)) old new reaches in
      let stage = reaches_parts g (changes_of pages) (AppendsGroup (group frames) ∷ []) save.0 new save.2 in
      let staged : Image = stage.0 in
      let stands = stays_with_room g first groups save.0 staged (staged_same g pages (changes_of pages) save.0 staged (stages pages) stage.1) (behind_save save.0 b is save.1) in
      let appended : Image = stage.2.0 in
      let both = group_pushed g first groups stands.saved.segments frames staged appended limits stands.room own stage.2.1 stands.has stands.saved.follow in
      let same = reads_same g appended new stage.2.2 in
      record { segments = stands.saved.segments; follow = saved_again g (with_group g groups frames) stands.saved.segments appended new same.groups same.segments both.1 }

-- the groups behind a push are those of the cache
pub with_pushed : (cache : FlashCache) (groups : List (List Frame)) (frames : List Frame) → AllTogether (AllTogether Shows) cache.directory.groups groups → length cache.directory.groups < cache.geometry.groups → 8 ≤ cache.geometry.groups
    → with_group cache.geometry groups frames ≡ pushed_groups cache groups frames
with_pushed cache groups frames shown few room = grind (arith, common_steps, together_length, leaves_when, stays_when)
