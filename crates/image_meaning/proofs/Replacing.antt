-- New versions of the pages of an image.
use Rattle.image_meaning.proofs.Names.{ℕ, ◌<◌, List, Option, subst, arith, Master, version_on, ReplacedIsSound, ReplacedMeans, VersionReplaces, ReplaceAll, logical_image_under, version_in, versions_on, Replaces, LogRecord, Image, Geometry}
use Rattle.image_meaning.proofs.Versions.{length-versions, version_is}
use Rattle.image_meaning.proofs.OtherVersions.{versions_are_sound, versions_mean, version_replaces_itself}

pub replace_all : (newest : Option Master) (g : Geometry) (old new : Image) (blocks : List (List LogRecord)) → ((number : ℕ) → number < g.pages → Replaces (logical_image_under newest g old blocks) number (version_in (version_on g new number))) →
    ReplaceAll (logical_image_under newest g old blocks) (versions_on g new)
replace_all newest g old new blocks replace = grind (arith, length-versions, version_is)

pub version_replaces : VersionReplaces
version_replaces newest g image blocks number sound within =
    subst (Replaces (logical_image_under newest g image blocks) number) (version_is g image number within) (version_replaces_itself (logical_image_under newest g image blocks) number sound.records (omega (arith, within, length-versions g image)))

pub replaced_is_sound : ReplacedIsSound
replaced_is_sound newest g old new blocks sound octets held replace = record {
  octets = octets;
  held = held;
  records = versions_are_sound (logical_image_under newest g old blocks) (versions_on g new) sound.records (replace_all newest g old new blocks replace);
}

pub replaced_means : ReplacedMeans
replaced_means newest g old new blocks sound replace table count means = versions_mean (logical_image_under newest g old blocks) (versions_on g new) sound.records (replace_all newest g old new blocks replace) table count means
