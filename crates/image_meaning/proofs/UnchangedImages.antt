-- What stays of an image whose groups and disk stay.
use Rattle.image_meaning.proofs.Names.{◌≡◌, ℕ, ◌+◌, List, length, map, refl, arith, Option, Some, None, sym, ap, subst, ◌∙◌, Master, frames_on, groups_on, disk_on, frames_in, CleanAsDisk, SameSizes, ReadsAs, RingName, Masters, Blocks, Groups, Segments, shape_of, group_shape, segment_shape, KeepsUnits, with_versions, kept_by, next_block_under, logical_image_under, IsUnused, HasNewest, AreGroups, AreSegments, AreOctetsSoundUnder, versions_on, IsSoundUnder, LogicalImage, Means, LogRecord, blocks_stay, Content, Units, HasLengths, Image, Geometry, Log, Flash, Disk, saved_again}
use Rattle.image_meaning.proofs.Versions.{versions_same, version_stays, frames_stay, disk_stays}
use Rattle.log_records.specs.Sound as lists
use Rattle.slotted_page.specs.Layout as page

pub next_block_is : (newest : Option Master) (blocks : List (List LogRecord)) → next_block_under newest blocks ≡ kept_by newest + length blocks
next_block_is None blocks = omega arith
next_block_is (Some m) blocks = refl

pub lengths_stay : (g : Geometry) (old new : Image) → SameSizes old new → HasLengths g old → HasLengths g new
lengths_stay g old new same lengths = record { log = same Log ∙ lengths.log; flash = same Flash ∙ lengths.flash; disk = same Disk ∙ lengths.disk }

pub unused_stays : (g : Geometry) (ring : RingName) (old new : Image) → KeepsUnits (shape_of g ring) old new → IsUnused g ring old → IsUnused g ring new
unused_stays g ring old new keeps unused = record { form = keeps.form unused.form; none = ap (λ (u : Units). u.hi) keeps.units ∙ unused.none }

pub newest_stays : (newest : Option Master) (g : Geometry) (old new : Image) → KeepsUnits (shape_of g Masters) old new → HasNewest newest g old → HasNewest newest g new
newest_stays x0 g old new keeps unused = grind (arith, unused_stays)

pub groups_stay : (g : Geometry) (old new : Image) → KeepsUnits (group_shape g) old new → AreGroups g old → AreGroups g new
groups_stay g old new keeps groups = grind (arith, frames_stay)

-- Segments that follow the groups follow them still.
pub same_groups : (g : Geometry) (old new : Image) → KeepsUnits (group_shape g) old new → groups_on g new ≡ groups_on g old
same_groups g old new keeps = ap (λ (u : Units). map frames_in u.live) keeps.units

pub segments_stay : (g : Geometry) (old new : Image) → KeepsUnits (segment_shape g) old new → KeepsUnits (group_shape g) old new → AreSegments g old → AreSegments g new
segments_stay g old new there here segments = grind (arith, same_groups, saved_again)

-- The octets of an image whose groups and disk stay, and whose segments follow, are sound still, under whatever master is the newest then.
pub octets_beside : (before after : Option Master) (g : Geometry) (old new : Image) → SameSizes old new → HasNewest after g new → AreSegments g new → KeepsUnits (group_shape g) old new →
    new.disk ≡ old.disk → AreOctetsSoundUnder before g old → AreOctetsSoundUnder after g new
octets_beside before after g old new sizes masters segments groups disk sound = record {
  limits = sound.limits;
  lengths = lengths_stay g old new sizes sound.lengths;
  masters = masters;
  segments = segments;
  groups = groups_stay g old new groups sound.groups;
  versions = λ number within. subst page.IsSound (sym (version_stays g old new groups disk number)) (sound.versions number within);
  clean = subst (λ (d : ℕ → List ℕ). CleanAsDisk d (frames_on g new)) (sym (disk_stays old new disk)) (subst (CleanAsDisk (disk_on old)) (sym (frames_stay g old new groups)) sound.clean);
}

pub octets_stay : (newest : Option Master) (g : Geometry) (old new : Image) → SameSizes old new → KeepsUnits (shape_of g Masters) old new → KeepsUnits (shape_of g Segments) old new → KeepsUnits (group_shape g) old new →
    new.disk ≡ old.disk → AreOctetsSoundUnder newest g old → AreOctetsSoundUnder newest g new
octets_stay newest g old new sizes masters segments groups disk sound =
    octets_beside newest newest g old new sizes (newest_stays newest g old new masters sound.masters) (segments_stay g old new segments groups sound.segments) groups disk sound

-- What reads the same.

pub same_logical_image : (newest : Option Master) (g : Geometry) (old new : Image) (blocks : List (List LogRecord)) → versions_on g new ≡ versions_on g old → logical_image_under newest g new blocks ≡ logical_image_under newest g old blocks
same_logical_image newest g old new blocks same = ap (with_versions (logical_image_under newest g old blocks)) same

-- what reads the same is sound too, and stands for the same
pub same_is_sound : (newest : Option Master) (g : Geometry) (old new : Image) (blocks : List (List LogRecord)) → IsSoundUnder newest g old blocks → ReadsAs g old new → IsSoundUnder newest g new blocks
same_is_sound newest g old new blocks sound reads =
    let versions = versions_same g old new (version_stays g old new (reads.rings Groups) reads.disk) in
    record {
      octets = octets_stay newest g old new reads.sizes (reads.rings Masters) (reads.rings Segments) (reads.rings Groups) reads.disk sound.octets;
      held = blocks_stay g _ blocks old new sound.held (reads.rings Blocks);
      records = subst lists.IsSound (sym (same_logical_image newest g old new blocks versions)) sound.records;
    }

pub same_means : (newest : Option Master) (g : Geometry) (old new : Image) (blocks : List (List LogRecord)) → ReadsAs g old new → (table : List Content) (count : ℕ) → Means (logical_image_under newest g old blocks) table count → Means (logical_image_under newest g new blocks) table count
same_means newest g old new blocks reads table count means =
    let versions = versions_same g old new (version_stays g old new (reads.rings Groups) reads.disk) in
    subst (λ (p : LogicalImage). Means p table count) (sym (same_logical_image newest g old new blocks versions)) means
