-- Segments that are saved, and groups that are pushed behind them.
use Rattle.image_meaning.proofs.Names.{ℕ, ◌-◌, ◌<◌, List, length, sym, subst, AllByRecursion, HasFrames, groups_on, Frame, IsGroup, group, AppendsGroup, AppendsSegment, Appends, Makes, Masters, Blocks, Groups, Segments, group_shape, units_on, NoSegmentIsDue, MaySaveSegment, SegmentIsSound, SegmentMeans, IsFrameOf, AreGroups, AreSegments, LogicalImage, Means, blocks_stay, HasLimits, Image, Geometry, all_weaker, group_pushed, segment_saved}
use Rattle.image_meaning.proofs.Versions.{versions_same, version_stays}
use Rattle.image_meaning.proofs.Reading.{groups_are_there, segments_are_read}
use Rattle.image_meaning.proofs.UnchangedImages.{newest_stays, octets_beside, same_logical_image}
use Rattle.log_records.specs.Sound as lists

-- the number of the oldest live group
abbrev oldest : Geometry → Image → ℕ
oldest g image = (units_on (group_shape g) image).hi - length (units_on (group_shape g) image).live

-- A segment that is due is saved.
pub segments_saved : (g : Geometry) (old new : Image) (content : List ℕ) → HasLimits g → AreGroups g old → AreSegments g old → MaySaveSegment g old content → Makes g (AppendsSegment content) old new → AreSegments g new
segments_saved g old new content limits groups segments may made =
    let spelled = subst (λ (bytes : List ℕ). Appends g Segments bytes old new) may.heads made in
    let now = segment_saved g (oldest g old) (groups_on g old) segments.segments old new limits may.due spelled (groups_are_there g old groups) segments.follow in
    segments_are_read g (oldest g old) (groups_on g old) new now.0 (record { segments = _; follow = now.1 })

-- A group is pushed while none is.
pub segments_pushed : (g : Geometry) (old new : Image) (content : List ℕ) (frames : List Frame) → HasLimits g → AreGroups g old → AreSegments g old → IsGroup content frames → AllByRecursion (IsFrameOf g) frames → NoSegmentIsDue g old
    → Makes g (AppendsGroup content) old new → AreSegments g new
segments_pushed g old new content frames limits groups segments is_group are_frames none_due made =
    let spelled = subst (λ (bytes : List ℕ). Appends g Groups bytes old new) is_group.spelled made in
    let own : HasFrames g frames (group frames) = record {
      is_group = subst (λ (c : List ℕ). IsGroup c frames) is_group.spelled is_group;
      exist = all_weaker (IsFrameOf g) (λ frame. frame.page < g.pages) (λ frame is. is.exists) frames are_frames;
    } in
    let now = group_pushed g (oldest g old) (groups_on g old) segments.segments frames old new limits none_due own spelled (groups_are_there g old groups) segments.follow in
    segments_are_read g _ _ new now.0 (record { segments = segments.segments; follow = now.1 })

-- The image is sound still, and stands for the same.

pub segment_is_sound : SegmentIsSound
segment_is_sound newest g old new blocks content sound may made =
    let groups = made.others Groups (λ h. cc) in
    let versions = versions_same g old new (version_stays g old new groups made.disk) in record {
      octets = octets_beside newest newest g old new made.sizes (newest_stays newest g old new (made.others Masters (λ h. cc)) sound.octets.masters)
          (segments_saved g old new content sound.octets.limits sound.octets.groups sound.octets.segments may made) groups made.disk sound.octets;
      held = blocks_stay g _ blocks old new sound.held (made.others Blocks (λ h. cc));
      records = subst lists.IsSound (sym (same_logical_image newest g old new blocks versions)) sound.records;
    }

pub segment_means : SegmentMeans
segment_means newest g old new blocks content made table count means =
    subst (λ (p : LogicalImage). Means p table count) (sym (same_logical_image newest g old new blocks (versions_same g old new (version_stays g old new (made.others Groups (λ h. cc)) made.disk)))) means
