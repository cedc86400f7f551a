-- The frames that a push stages: what the disk has of them behind it.
use Rattle.flash_cache.proofs.Names.{◌≡◌, ℕ, zero, suc, ◌+◌, ◌<◌, ◌≤◌, List, [], ◌∷◌, length, get_or, Some, slice_get, arith, sym, ap, subst, ◌∙◌, length-append, get_or-append-add, get_or-map, length-map, same_Some, slice_get-get_or, slice_get_within, Mark, page_on, no_mark, HasFrameAt, HasLastStaged, IsOnDisk, SomeMoment, no_frame, staged_contents, staged_marks, staged_pages, AllTogether, HasGroups, Invariant, Represents, Shows, disk_on, group_on, FlashCache, frames_are_in, Frame, group, Staged, rules_of, staged_in_push, Placed, group_marks, front_marks, Known, settled_is, quiet_settled, Leaves, SameAt, State, Image, Moment, MayStand, loose_of, IsQuiet, Geometry, Flash, HasStaged, stands}
use Rattle.frame_group.specs.Groups.{frames_in}
use Rattle.flash_cache.proofs.Queues.{has_at, together_length}
use Rattle.flash_cache.proofs.StagedMarks.{staged_numbered}
use Rattle.flash_cache.proofs.StagedContents.{front_long, some_group}
use Rattle.flash_cache.proofs.SomeMoments.{some_weaker}
use Rattle.std.proofs.lemmas.Grind.{common_steps}

-- a mark of the front group is of the page of the frame that stands at its place

mark_shows : (known : List Known) (later : List (List Known)) (frames : List Frame) (i : ℕ) (mark : Mark) → AllTogether Shows known frames → slice_get (group_marks known later) i ≡ Some mark → (get_or frames i no_frame).page ≡ mark.page
mark_shows [] later frames i mark shown is = absurd cc
mark_shows (k ∷ ks) later [] i mark shown is = absurd shown
mark_shows (k ∷ ks) later (f ∷ fs) zero mark shown is = sym shown.0.page ∙ ap (λ (m : Mark). m.page) (same_Some _ mark is)
mark_shows (k ∷ ks) later (f ∷ fs) (suc i) mark shown is = mark_shows ks later fs i mark shown.1 is

front_shows : (known : List (List Known)) (groups : List (List Frame)) (i : ℕ) (mark : Mark) → AllTogether (AllTogether Shows) known groups → slice_get (front_marks known) i ≡ Some mark → (get_or (get_or groups 0 []) i no_frame).page ≡ mark.page
front_shows [] groups i mark shown is = absurd cc
front_shows (k ∷ ks) [] i mark shown is = absurd shown
front_shows (k ∷ ks) (f ∷ fs) i mark shown is = mark_shows k ks f i mark shown.0 is

-- groups stand where the flash has what it had
pub groups_same : (g : Geometry) (first : ℕ) (groups : List (List Frame)) (old new : Image) → new.flash ≡ old.flash → HasGroups g first groups old → HasGroups g first groups new
groups_same g first groups old new same has = grind (arith, common_steps)

-- a crash leaves them where flash is as it was, and nothing of it was loose
pub leaves_groups : (g : Geometry) (first : ℕ) (groups : List (List Frame)) (mid : State) → IsQuiet mid → HasGroups g first groups mid.image → (m : Moment) → SameAt Flash mid m → Leaves (λ s. HasGroups g first groups s.image) m
leaves_groups g first groups mid quiet has m same s left =
    let none : loose_of Flash m.loose ≡ [] = same.loose ∙ quiet_settled Flash mid quiet in
    let flash : s.image.flash ≡ m.image.flash = settled_is m.image.flash s.image.flash (subst (λ rs. MayStand rs m.image.flash s.image.flash) none (left.content Flash)) in
    groups_same g first groups mid.image s.image (flash ∙ same.content) has

module _ (cache : FlashCache) (old : State) (groups : List (List Frame)) (going : Invariant cache old) (holds : Represents cache old.image groups) where
  abbrev front : List Frame
  front = get_or groups 0 []

  abbrev named : Placed → Staged
  named f = record { group = cache.directory.first; index = f.0; page = f.1.page }

  frame_stands : (f : Placed) → slice_get (front_marks cache.directory.groups) f.0 ≡ Some f.1 → (image : Image) → HasGroups cache.geometry cache.directory.first groups image → HasFrameAt cache.geometry (named f) (get_or front f.0 no_frame).octets image
  frame_stands f is image has =
      let g = cache.geometry in
      let first = cache.directory.first in
      let frame : Frame = get_or front f.0 no_frame in
      let inside = slice_get_within (front_marks cache.directory.groups) f.0 f.1 is in
      let long = front_long cache.directory.groups groups holds.shown in
      let low : f.0 < length front = omega (arith, inside, long) in
      let some : 0 < length groups = some_group groups f.0 low in
      let at : first ≡ first + 0 = omega arith in
      let many : length cache.directory.groups ≡ length groups = together_length (AllTogether Shows) cache.directory.groups groups holds.shown in
      let few = going.few in
      let next = has.next in
      let frames : frames_in (group_on g image first) ≡ front =
      ap frames_in (stands g first groups image has first 0 at some) ∙ frames_are_in (group front) front (has_at g groups 0 has.are_groups some).is_group in
      record {
        live = record { below = omega (arith, next, some); near = omega (arith, next, few, many) };
        dirty = frame.dirty;
        is = ap (λ (l : List Frame). slice_get l f.0) frames ∙ slice_get-get_or front f.0 no_frame low
            ∙ ap (λ (page : ℕ). Some (record { page = page; dirty = frame.dirty; octets = frame.octets })) (front_shows cache.directory.groups groups f.0 f.1 holds.shown is);
      }

  pub staged_last : (new : State) → (1 ≤ length (staged_pages cache) → SomeMoment old new (Leaves (λ s. HasGroups cache.geometry cache.directory.first groups s.image))) →
      HasStaged (staged_pages cache) (staged_contents cache groups) old.image.disk new.image.disk → HasLastStaged cache.geometry (staged_in_push (rules_of 0 cache.geometry.groups) cache.directory) old new
  staged_last new shown has before later f is out =
      let marks = staged_marks cache in
      let none : Placed = (0, no_mark) in
      let k = length before + 0 in
      let long = ap length is in
      let both = length-append before (f ∷ later) in
      let same_long = length-map marks named in
      let low : k < length marks = omega (arith, long, both, same_long) in
      let m : Placed = get_or marks k none in
      let f_is : f ≡ named m =
      sym (get_or-append-add before (f ∷ later) 0 f) ∙ ap (λ (l : List Staged). get_or l k f) (sym is) ∙ get_or-map named marks k none f low in
      let pages_long = length-map marks (λ (x : Placed). x.1.page) in
      let within : k < length (staged_pages cache) = omega (arith, low, pages_long) in
      let octets : page_on m.1.page new.image.disk ≡ (get_or front m.0 no_frame).octets =
      ap (λ (p : ℕ). page_on p new.image.disk) (sym (get_or-map (λ (x : Placed). x.1.page) marks k none 0 low)) ∙ has.here k within
      ∙ get_or-map (λ (x : Placed). (get_or front x.0 no_frame).octets) marks k none [] low in
      let some = shown (omega (arith, within)) in
      subst (λ (x : Staged). IsOnDisk cache.geometry x old new) (sym f_is)
      (some_weaker old new (Leaves (λ s. HasGroups cache.geometry cache.directory.first groups s.image)) (Leaves (λ s. HasFrameAt cache.geometry (named m) (disk_on new.image m.1.page) s.image))
      (λ x leaves s left. subst (λ (o : List ℕ). HasFrameAt cache.geometry (named m) o s.image) (sym octets) (frame_stands m (staged_numbered cache k none low) s.image (leaves s left))) some)
