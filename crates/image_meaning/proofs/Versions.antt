-- The versions of an image's pages.
use Rattle.image_meaning.proofs.Names.{◌≡◌, ℕ, ◌<◌, length, map, ap, arith, range_with_len, page_on, frames_on, disk_on, version_on, version, frames_of, group_shape, KeepsUnits, version_in, versions_on, version_at, blank_version, Units, Image, Geometry}
use Rattle.std.proofs.lemmas.List.FromFn.{length-map-range_with_len, get_or-map-range_with_len}

pub length-versions : (g : Geometry) (image : Image) → length (versions_on g image) ≡ g.pages
length-versions g image = length-map-range_with_len (λ number. version_in (version_on g image number)) 0 g.pages

pub version_is : (g : Geometry) (image : Image) (number : ℕ) → number < g.pages → version_at (versions_on g image) number ≡ version_in (version_on g image number)
version_is g image number within = get_or-map-range_with_len (λ number. version_in (version_on g image number)) 0 g.pages number number blank_version within (omega arith)

-- equal versions of each page are equal lists of versions
pub versions_same : (g : Geometry) (old new : Image) → ((number : ℕ) → version_on g new number ≡ version_on g old number) → versions_on g new ≡ versions_on g old
versions_same g old new same = λ i. map (λ number. version_in (same number i)) (range_with_len 0 g.pages)

-- Where the ring of groups has the same units, the image has the same frames.
pub frames_stay : (g : Geometry) (old new : Image) → KeepsUnits (group_shape g) old new → frames_on g new ≡ frames_on g old
frames_stay g old new keeps = ap (λ (u : Units). frames_of u.live) keeps.units

pub disk_stays : (old new : Image) → new.disk ≡ old.disk → disk_on new ≡ disk_on old
disk_stays old new same = λ i number. page_on number (same i)

-- and the disk too: the same versions
pub version_stays : (g : Geometry) (old new : Image) → KeepsUnits (group_shape g) old new → new.disk ≡ old.disk → (number : ℕ) → version_on g new number ≡ version_on g old number
version_stays g old new keeps disk number = λ i. version (disk_stays old new disk i) (frames_stay g old new keeps i) number
