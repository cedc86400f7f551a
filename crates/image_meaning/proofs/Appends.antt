-- A group is appended.
use Rattle.image_meaning.proofs.Names.{◌≡◌, ℕ, ◌<◌, ◌≤◌, List, [], ◌∷◌, ◌++◌, length, take, drop, Some, None, refl, sym, ap, subst, ◌∙◌, arith, take-append-drop, length-append, drop-append-le, AllByRecursion, Master, frames_on, disk_on, version_on, IsCleanOn, frames_are_in, frames_more, all_last_frame, Frame, IsGroup, frames_in, frames_of, last_frame, version, CleanAsDisk, AppendsGroup, Makes, Masters, Blocks, group_shape, units_on, leaving, front_on, rest_on, MayAppend, PushedIsSound, PushedMeans, ReplaceAll, logical_image_under, IsFrameOf, AreGroups, IsSoundUnder, versions_on, version_in, Replaces, version_at, Means, LogRecord, blocks_stay, Content, Image, Geometry, all_append, all_right, all_drop}
use Rattle.std.specs.Prelude.{Option}
use Rattle.std.proofs.lemmas.Grind.{flat_map-append}
use Rattle.image_meaning.proofs.Versions.{length-versions, version_is, disk_stays}
use Rattle.image_meaning.proofs.OtherVersions.{versions_are_sound, versions_mean, version_replaces_itself}
use Rattle.image_meaning.proofs.Pushes.{pushed_clean, pushed_version, others_keep_versions}
use Rattle.image_meaning.proofs.UnchangedImages.{lengths_stay, newest_stays}
use Rattle.image_meaning.proofs.SegmentLaws.{segments_pushed}
use Rattle.slotted_page.specs.Layout as page

-- the frames that leave, and those that stay
pub frames_before : (g : Geometry) (image : Image) → frames_on g image ≡ front_on g image ++ rest_on g image
frames_before g image =
    let live = (units_on (group_shape g) image).live in
    ap frames_of (sym (take-append-drop (leaving g image) live)) ∙ flat_map-append frames_in (take (leaving g image) live) (drop (leaving g image) live)

module _ (newest : Option Master) (g : Geometry) (old new : Image) (blocks : List (List LogRecord)) (content : List ℕ) (frames : List Frame) (sound : IsSoundUnder newest g old blocks) (is_group : IsGroup content frames)
    (may : MayAppend newest g old blocks frames) (made : Makes g (AppendsGroup content) old new) where
  abbrev live : List (List ℕ)
  live = (units_on (group_shape g) old).live

  few : leaving g old ≤ length live
  few = let many = sound.octets.limits.groups in omega (arith, many)

  -- the groups that are live then
  live_now : (units_on (group_shape g) new).live ≡ drop (leaving g old) live ++ content ∷ []
  live_now = grind (arith, length-append, drop-append-le, few)

  frames_now : frames_on g new ≡ rest_on g old ++ frames
  frames_now = ap frames_of live_now ∙ frames_more (drop (leaving g old) live) content frames is_group

  disk_now : disk_on new ≡ disk_on old
  disk_now = disk_stays old new made.disk

  clean_before : CleanAsDisk (disk_on old) (front_on g old ++ rest_on g old)
  clean_before = subst (CleanAsDisk (disk_on old)) (frames_before g old) sound.octets.clean

  clean_now : IsCleanOn g new
  clean_now =
      subst (λ (d : ℕ → List ℕ). CleanAsDisk d (frames_on g new)) (sym disk_now)
      (subst (CleanAsDisk (disk_on old)) (sym frames_now) (pushed_clean (disk_on old) (front_on g old) (rest_on g old) frames clean_before may.pushed))

  groups_now : AreGroups g new
  groups_now = record {
    form = made.form;
    each = subst (AllByRecursion (λ c. IsGroup c (frames_in c))) (sym live_now)
        (all_append (λ c. IsGroup c (frames_in c)) (drop (leaving g old) live) (content ∷ [])
        (all_drop (λ c. IsGroup c (frames_in c)) (leaving g old) live sound.octets.groups.each)
        (subst (IsGroup content) (sym (frames_are_in content frames is_group)) is_group, tt));
    frames = subst (AllByRecursion (IsFrameOf g)) (sym frames_now)
        (all_append (IsFrameOf g) (rest_on g old) frames
        (all_right (IsFrameOf g) (front_on g old) (rest_on g old) (subst (AllByRecursion (IsFrameOf g)) (frames_before g old) sound.octets.groups.frames)) may.are_frames);
  }

  -- the versions after
  version_now : (number : ℕ) → version_on g new number ≡ version (disk_on old) (rest_on g old ++ frames) number
  version_now number = λ i. version (disk_now i) (frames_now i) number

  pub version_of_frame : (number : ℕ) (frame : Frame) → last_frame number frames ≡ Some frame → version_on g new number ≡ frame.octets
  version_of_frame number frame last = version_now number ∙ pushed_version (disk_on old) (rest_on g old) frames number frame last

  version_kept : (number : ℕ) → last_frame number frames ≡ None → version_on g new number ≡ version_on g old number
  version_kept number none =
      version_now number ∙ others_keep_versions (disk_on old) (front_on g old) (rest_on g old) frames number clean_before may.pushed none
      ∙ ap (λ (fs : List Frame). version (disk_on old) fs number) (sym (frames_before g old))

  pages_sound : (number : ℕ) → number < g.pages → page.IsSound (version_on g new number)
  pages_sound number within = by (last_frame number frames) refl
    where
      by : (o : Option Frame) → last_frame number frames ≡ o → page.IsSound (version_on g new number)
      by None last = subst page.IsSound (sym (version_kept number last)) (sound.octets.versions number within)
      by (Some frame) last = subst page.IsSound (sym (version_of_frame number frame last)) (all_last_frame (IsFrameOf g) number frames frame may.are_frames last).sound

  replace : ReplaceAll (logical_image_under newest g old blocks) (versions_on g new)
  replace = record {
    count = length-versions g new ∙ sym (length-versions g old);
    each = λ number within. each number (omega (arith, within, length-versions g old));
  }
    where
      each : (number : ℕ) → number < g.pages → Replaces (logical_image_under newest g old blocks) number (version_at (versions_on g new) number)
      each number within = by (last_frame number frames) refl
        where
          by : (o : Option Frame) → last_frame number frames ≡ o → Replaces (logical_image_under newest g old blocks) number (version_at (versions_on g new) number)
          by None last =
              subst (Replaces (logical_image_under newest g old blocks) number) (version_is g old number within ∙ ap version_in (sym (version_kept number last)) ∙ sym (version_is g new number within))
              (version_replaces_itself (logical_image_under newest g old blocks) number sound.records (omega (arith, within, length-versions g old)))
          by (Some frame) last =
              subst (Replaces (logical_image_under newest g old blocks) number) (ap version_in (sym (version_of_frame number frame last)) ∙ sym (version_is g new number within)) (may.replace number frame last)

  pub sound_pushed : IsSoundUnder newest g new blocks
  sound_pushed = record {
    octets = record {
      limits = sound.octets.limits;
      lengths = lengths_stay g old new made.sizes sound.octets.lengths;
      masters = newest_stays newest g old new (made.others Masters (λ h. cc)) sound.octets.masters;
      segments = segments_pushed g old new content frames sound.octets.limits sound.octets.groups sound.octets.segments is_group may.are_frames may.none_due made;
      groups = groups_now;
      versions = pages_sound;
      clean = clean_now;
    };
    held = blocks_stay g _ blocks old new sound.held (made.others Blocks (λ h. cc));
    records = versions_are_sound (logical_image_under newest g old blocks) (versions_on g new) sound.records replace;
  }

  pub means_pushed : (table : List Content) (count : ℕ) → Means (logical_image_under newest g old blocks) table count → Means (logical_image_under newest g new blocks) table count
  means_pushed = versions_mean (logical_image_under newest g old blocks) (versions_on g new) sound.records replace

pub pushed_is_sound : PushedIsSound
pushed_is_sound newest g old new blocks content frames sound is_group may made = sound_pushed newest g old new blocks content frames sound is_group may made

pub pushed_means : PushedMeans
pushed_means newest g old new blocks content frames sound is_group may made = means_pushed newest g old new blocks content frames sound is_group may made
