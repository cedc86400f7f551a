-- Changes that may be made, one after the other.
use Rattle.image_meaning.proofs.Names.{◌≡◌, ℕ, ◌+◌, List, [], ◌∷◌, length, ap, refl, ◌∙◌, cons_option, AllByRecursion, filter_map, Master, SealsBlock, RewritesPages, AppendsGroup, AppendsSegment, AppendsMaster, Makes, Change, Reaches, newest_after, blocks_after, MayMake, SealsNoCommit, MayMakeAll, blocks_after_all, newest_after_all, IsSoundUnder, logical_image_under, entries_from, commit_number_by, commit_numbers, Means, spelling, LogRecord, Content, Image, Geometry}
use Rattle.image_meaning.proofs.UnchangedImages.{same_is_sound, same_means}
use Rattle.image_meaning.proofs.Seals.{sealed_image_is_sound, sealed_without_commit}
use Rattle.image_meaning.proofs.Stages.{sound_staged, means_staged}
use Rattle.image_meaning.proofs.Appends.{pushed_is_sound, pushed_means}
use Rattle.image_meaning.proofs.SegmentLaws.{segment_is_sound, segment_means}
use Rattle.image_meaning.proofs.Saves.{sound_saved, means_saved}
use Rattle.std.specs.Prelude.{Option, ◌++◌}

-- the commits of a block's records
numbers_of : (lsn : ℕ) (records : List LogRecord) → commit_numbers (entries_from lsn records) ≡ filter_map commit_number_by records
numbers_of lsn [] = refl
numbers_of lsn (rec ∷ records) = ap (cons_option (commit_number_by rec)) (numbers_of (lsn + length (spelling rec)) records)

-- each of them keeps an image sound
pub change_keeps_sound : (newest : Option Master) (g : Geometry) (old new : Image) (blocks : List (List LogRecord)) (change : Change) → IsSoundUnder newest g old blocks → MayMake newest g old blocks change → Makes g change old new → IsSoundUnder (newest_after newest change) g new (blocks_after newest blocks change)
change_keeps_sound newest g old new blocks (SealsBlock records) sound may made = sealed_image_is_sound newest g old new blocks records sound may made
change_keeps_sound newest g old new blocks (RewritesPages pages) sound may made = sound_staged newest g old new blocks pages sound may made
change_keeps_sound newest g old new blocks (AppendsGroup content) sound may made = pushed_is_sound newest g old new blocks content may.0 sound may.1 may.2 made
change_keeps_sound newest g old new blocks (AppendsSegment content) sound may made = segment_is_sound newest g old new blocks content sound may made
change_keeps_sound newest g old new blocks (AppendsMaster content) sound may made = sound_saved newest g old new blocks content sound may made

-- and what it stands for, where it seals no Commit
pub change_keeps_meaning : (newest : Option Master) (g : Geometry) (old new : Image) (blocks : List (List LogRecord)) (change : Change) → IsSoundUnder newest g old blocks → MayMake newest g old blocks change → SealsNoCommit change → Makes g change old new → (table : List Content) (count : ℕ) → Means (logical_image_under newest g old blocks) table count → Means (logical_image_under (newest_after newest change) g new (blocks_after newest blocks change)) table count
change_keeps_meaning newest g old new blocks (SealsBlock records) sound may none made table count means =
    sealed_without_commit newest g old new blocks records sound may made (numbers_of _ records ∙ none) table count means
change_keeps_meaning newest g old new blocks (RewritesPages pages) sound may none made table count means =
    means_staged newest g old new blocks pages sound may made table count means
change_keeps_meaning newest g old new blocks (AppendsGroup content) sound may none made table count means =
    pushed_means newest g old new blocks content may.0 sound may.1 may.2 made table count means
change_keeps_meaning newest g old new blocks (AppendsSegment content) sound may none made table count means =
    segment_means newest g old new blocks content made table count means
change_keeps_meaning newest g old new blocks (AppendsMaster content) sound may none made table count means =
    means_saved newest g old new blocks content sound may made table count means

-- so do the first ones of a list
pub front_keeps_sound : (newest : Option Master) (g : Geometry) (old new : Image) (blocks : List (List LogRecord)) (front left : List Change) → IsSoundUnder newest g old blocks → MayMakeAll newest g old blocks (front ++ left) → Reaches g front old new → IsSoundUnder (newest_after_all newest front) g new (blocks_after_all newest blocks front)
front_keeps_sound newest g old new blocks [] left sound may reads = same_is_sound newest g old new blocks sound reads
front_keeps_sound newest g old new blocks (change ∷ front) left sound may reaches =
    front_keeps_sound (newest_after newest change) g reaches.0 new (blocks_after newest blocks change) front left
    (change_keeps_sound newest g old reaches.0 blocks change sound may.0 reaches.1) (may.1 reaches.0 reaches.1) reaches.2

-- and where none of them seals a Commit the image stands for the same
pub front_keeps_meaning : (newest : Option Master) (g : Geometry) (old new : Image) (blocks : List (List LogRecord)) (front left : List Change) → IsSoundUnder newest g old blocks → MayMakeAll newest g old blocks (front ++ left) → AllByRecursion SealsNoCommit front → Reaches g front old new → (table : List Content) (count : ℕ) → Means (logical_image_under newest g old blocks) table count → Means (logical_image_under (newest_after_all newest front) g new (blocks_after_all newest blocks front)) table count
front_keeps_meaning newest g old new blocks [] left sound may none reads table count means = same_means newest g old new blocks reads table count means
front_keeps_meaning newest g old new blocks (change ∷ front) left sound may none reaches table count means =
    front_keeps_meaning (newest_after newest change) g reaches.0 new (blocks_after newest blocks change) front left
    (change_keeps_sound newest g old reaches.0 blocks change sound may.0 reaches.1) (may.1 reaches.0 reaches.1) none.1 reaches.2 table count
    (change_keeps_meaning newest g old reaches.0 blocks change sound may.0 none.0 reaches.1 table count means)
