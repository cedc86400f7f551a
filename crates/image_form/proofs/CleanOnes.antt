-- Frames that aren't dirty, group by group.
use Rattle.image_form.proofs.Names.{◌≡◌, ℕ, zero, suc, ◌+◌, ◌*◌, ◌<◌, ◌≤◌, true, List, [], ◌∷◌, get_or, take, drop, None, refl, sym, ap, ◌∙◌, subst, arith, none-some, slice_get_within, slice_get-get_or, get_or_from_slice_get, AllByRecursion, Option, slice_get, present_are_first, blank, FrameHead, disk_on, frames_on, IsCleanOn, newest, place_in, heads_are_group, pages_stand, Frame, head_of, heads_of, frames_in, IsGroup, PAGE_LEN, HEADS_LEN, group_shape, IsCleanFrame, ShowsFrames, IsGroupOn, AreGroups, IsFrameOf, IsLive, hi_of, Queue, Image, Geometry, group_on}
use Rattle.std.proofs.Common.{Some}
use Rattle.frame_group.proofs.LastFrames.{last_is_of_page}
use Rattle.flash_directory.specs.declared.place.Place.{Place}
use Rattle.image_form.proofs.GroupsRead.{no_frame, head_is, frames_count}
use Rattle.image_form.proofs.NewestRead.{no_newest, stands_newest}

module _ (g : Geometry) (image : Image) (queue : Queue) (slots : 3 ≤ g.groups) (are : AreGroups g image) (shows : ShowsFrames g image queue) where
  -- where each frame is clean, all are
  pub clean_of_each : ((n : ℕ) → IsLive (group_shape g) (hi_of (group_shape g) image.flash) n → (i : ℕ) → IsCleanFrame image queue n (frames_in (group_on g image n)) i) → IsCleanOn g image
  clean_of_each clean page frame is calm = by (newest queue page) refl
    where
      of : frame.page ≡ page
      of = last_is_of_page page (frames_on g image) frame is

      by : (o : Option Place) → o ≡ newest queue page → frame.octets ≡ disk_on image page
      by None none = absurd (none-some frame (sym (no_newest g image queue page slots are shows none) ∙ is))
      by (Some place) here =
          let stands = stands_newest g image queue page slots are shows place here in
          let frames = frames_in (group_on g image place.group) in
          let there : slice_get frames place.index ≡ Some frame = slice_get-get_or frames place.index no_frame stands.within ∙ sym stands.last ∙ is in
          clean place.group stands.live place.index frame there calm (ap (newest queue) of ∙ sym here) ∙ ap (disk_on image) of

  -- and where all are, each is
  pub each_clean : IsCleanOn g image → (n i : ℕ) → IsCleanFrame image queue n (frames_in (group_on g image n)) i
  each_clean clean n i frame there calm is =
      let stands = stands_newest g image queue frame.page slots are shows (place_in n i) (sym is) in
      clean frame.page frame (stands.last ∙ ap Some (get_or_from_slice_get (frames_in (group_on g image n)) i frame no_frame there)) calm

-- One frame.

pub head_there : (frames : List Frame) (i : ℕ) (frame : Frame) → slice_get frames i ≡ Some frame → get_or (heads_of frames) i blank ≡ head_of frame
head_there frames i frame is = head_is frames i (slice_get_within frames i frame is) ∙ ap head_of (get_or_from_slice_get frames i frame no_frame is)

pub octets_there : (content : List ℕ) (frames : List Frame) (i : ℕ) (frame : Frame) → IsGroup content frames → slice_get frames i ≡ Some frame → take PAGE_LEN (drop (HEADS_LEN + PAGE_LEN * i) content) ≡ frame.octets
octets_there content frames i frame group is = pages_stand content frames i no_frame group (slice_get_within frames i frame is) ∙ ap (λ (f : Frame). f.octets) (get_or_from_slice_get frames i frame no_frame is)

all_there : (P : Frame → Type 0) (xs : List Frame) (i : ℕ) (frame : Frame) → slice_get xs i ≡ Some frame → AllByRecursion P xs → P frame
all_there P [] i frame is all = let less = slice_get_within [] i frame is in absurd (omega (arith, less))
all_there P (x ∷ xs) zero frame is all = let here : x ≡ frame = cc in subst P here all.0
all_there P (x ∷ xs) (suc i) frame is all = all_there P xs i frame is all.1

pub page_exists : (g : Geometry) (content : List ℕ) (frames : List Frame) (i : ℕ) (frame : Frame) → IsGroupOn g content frames → slice_get frames i ≡ Some frame → frame.page < g.pages
page_exists g content frames i frame on is = (all_there (IsFrameOf g) frames i frame is on.sound).exists

-- a head that is present is that of a frame
pub present_there : (g : Geometry) (content : List ℕ) (frames : List Frame) (heads : List FrameHead) (i : ℕ) → IsGroupOn g content frames → heads ≡ heads_of frames → i < 8 → (get_or heads i blank).present ≡ true →
    (frame : Frame) × (slice_get frames i ≡ Some frame)
present_there g content frames heads i on is less present =
    let group = on.group in
    let are = heads_are_group frames group.some group.room in
    let count = frames_count frames in
    let many = (present_are_first (heads_of frames) i are less).0 (sym (ap (λ (l : List FrameHead). (get_or l i blank).present) is) ∙ present) in
    (get_or frames i no_frame, slice_get-get_or frames i no_frame (omega (arith, many, count)))
