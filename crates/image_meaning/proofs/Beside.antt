-- Changes that keep the rings sound.
use Rattle.image_meaning.proofs.Names.{◌≡◌, ℕ, ◌≤◌, List, [], ◌∷◌, ◌++◌, length, drop, Option, sym, ap, subst, ◌∙◌, arith, length-append, drop-append-le, AllByRecursion, Master, frames_on, frames_are_in, frames_more, Frame, IsGroup, frames_in, frames_of, Change, SealsBlock, RewritesPages, AppendsGroup, AppendsSegment, AppendsMaster, SameSizes, Makes, Masters, Segments, Groups, shape_of, group_shape, units_on, KeepsUnits, leaving, front_on, rest_on, IsFrameOf, AreGroups, Image, Geometry, all_append, all_right, all_drop}
use Rattle.image_meaning.specs.Beside.{AreRingsSoundUnder, KeepsRings, RingsKeptUnder, RingsSaved}
use Rattle.image_meaning.proofs.UnchangedImages.{lengths_stay, newest_stays, groups_stay, segments_stay}
use Rattle.image_meaning.proofs.SegmentLaws.{segments_pushed, segments_saved}
use Rattle.image_meaning.proofs.Saves.{newest_appended}
use Rattle.image_meaning.proofs.Appends.{frames_before}

-- rings that keep their units
rings_stay : (newest : Option Master) (g : Geometry) (old new : Image) → SameSizes old new → KeepsUnits (shape_of g Masters) old new → KeepsUnits (shape_of g Segments) old new → KeepsUnits (group_shape g) old new → AreRingsSoundUnder newest g old → AreRingsSoundUnder newest g new
rings_stay newest g old new sizes masters segments groups sound = record {
  limits = sound.limits;
  lengths = lengths_stay g old new sizes sound.lengths;
  masters = newest_stays newest g old new masters sound.masters;
  segments = segments_stay g old new segments groups sound.segments;
  groups = groups_stay g old new groups sound.groups;
}

-- a group more
module _ (newest : Option Master) (g : Geometry) (old new : Image) (content : List ℕ) (frames : List Frame) (sound : AreRingsSoundUnder newest g old) (is_group : IsGroup content frames) (are_frames : AllByRecursion (IsFrameOf g) frames)
    (made : Makes g (AppendsGroup content) old new) where
  abbrev live : List (List ℕ)
  live = (units_on (group_shape g) old).live

  few : leaving g old ≤ length live
  few = let many = sound.limits.groups in omega (arith, many)

  live_now : (units_on (group_shape g) new).live ≡ drop (leaving g old) live ++ content ∷ []
  live_now = grind (arith, length-append, drop-append-le, few)

  frames_now : frames_on g new ≡ rest_on g old ++ frames
  frames_now = ap frames_of live_now ∙ frames_more (drop (leaving g old) live) content frames is_group

  pub groups_more : AreGroups g new
  groups_more = record {
    form = made.form;
    each = subst (AllByRecursion (λ c. IsGroup c (frames_in c))) (sym live_now)
        (all_append (λ c. IsGroup c (frames_in c)) (drop (leaving g old) live) (content ∷ [])
        (all_drop (λ c. IsGroup c (frames_in c)) (leaving g old) live sound.groups.each)
        (subst (IsGroup content) (sym (frames_are_in content frames is_group)) is_group, tt));
    frames = subst (AllByRecursion (IsFrameOf g)) (sym frames_now)
        (all_append (IsFrameOf g) (rest_on g old) frames
        (all_right (IsFrameOf g) (front_on g old) (rest_on g old) (subst (AllByRecursion (IsFrameOf g)) (frames_before g old) sound.groups.frames)) are_frames);
  }

one_kept : (newest : Option Master) (g : Geometry) (change : Change) (old new : Image) → AreRingsSoundUnder newest g old → KeepsRings g old change → Makes g change old new → AreRingsSoundUnder newest g new
one_kept newest g (SealsBlock records) old new sound keeps made = rings_stay newest g old new made.1.sizes (made.1.others Masters (λ h. cc)) (made.1.others Segments (λ h. cc)) (made.1.others Groups (λ h. cc)) sound
one_kept newest g (RewritesPages pages) old new sound keeps made = rings_stay newest g old new made.sizes (made.rings Masters) (made.rings Segments) (made.rings Groups) sound
one_kept newest g (AppendsGroup content) old new sound keeps made = record {
  limits = sound.limits;
  lengths = lengths_stay g old new made.sizes sound.lengths;
  masters = newest_stays newest g old new (made.others Masters (λ h. cc)) sound.masters;
  segments = segments_pushed g old new content keeps.1 sound.limits sound.groups sound.segments keeps.2 keeps.3 keeps.0 made;
  groups = groups_more newest g old new content keeps.1 sound keeps.2 keeps.3 made;
}
one_kept newest g (AppendsSegment content) old new sound keeps made = record {
  limits = sound.limits;
  lengths = lengths_stay g old new made.sizes sound.lengths;
  masters = newest_stays newest g old new (made.others Masters (λ h. cc)) sound.masters;
  segments = segments_saved g old new content sound.limits sound.groups sound.segments keeps made;
  groups = groups_stay g old new (made.others Groups (λ h. cc)) sound.groups;
}
one_kept newest g (AppendsMaster content) old new sound keeps made = absurd keeps

pub rings_kept : (newest : Option Master) → RingsKeptUnder newest
rings_kept newest g [] old new sound all reads = rings_stay newest g old new reads.sizes (reads.rings Masters) (reads.rings Segments) (reads.rings Groups) sound
rings_kept newest g (change ∷ changes) old new sound all reached =
    rings_kept newest g changes reached.0 new (one_kept newest g change old reached.0 sound all.0 reached.1) (all.1 reached.0 reached.1) reached.2

-- a master unit more
pub rings_saved : RingsSaved
rings_saved newest g content old new sound unit made = record {
  limits = sound.limits;
  lengths = lengths_stay g old new made.sizes sound.lengths;
  masters = newest_appended g old new content unit made;
  segments = segments_stay g old new (made.others Segments (λ h. cc)) (made.others Groups (λ h. cc)) sound.segments;
  groups = groups_stay g old new (made.others Groups (λ h. cc)) sound.groups;
}
