-- A block that goes on is sealed.
use Rattle.image_meaning.proofs.Names.{◌≡◌, ℕ, ◌+◌, List, [], ◌∷◌, ◌++◌, Option, sym, ap, subst, ◌∙◌, arith, Master, SealsBlock, Makes, Masters, Groups, Segments, KeepsUnits, shape_of, logical_image_under, IsSoundUnder, versions_on, GoesOn, sealed, writes_in, LogicalImage, Means, LogRecord, blocks_more, Content, table_with, Image, Geometry}
use Rattle.std.proofs.Common.{length-append}
use Rattle.log_laws.proofs.Tails.{log_from-append}
use Rattle.log_laws.proofs.Seals.{sealed_is_sound}
use Rattle.log_laws.proofs.Commits.{means_without_commit, means_with_commit}
use Rattle.image_meaning.proofs.Versions.{versions_same, version_stays}
use Rattle.image_meaning.proofs.UnchangedImages.{next_block_is, octets_stay, same_logical_image}
use Rattle.log_records.specs.Sound as lists
use Rattle.image_meaning.specs.Laws as laws

-- the logical image of an image with one more block
pub blocks_sealed : (newest : Option Master) (g : Geometry) (image : Image) (blocks : List (List LogRecord)) (records : List LogRecord) →
    logical_image_under newest g image (blocks ++ records ∷ []) ≡ sealed (logical_image_under newest g image blocks) records
blocks_sealed newest g image blocks records = grind (arith, next_block_is, log_from-append, length-append)

module _ (newest : Option Master) (g : Geometry) (old new : Image) (blocks : List (List LogRecord)) (records : List LogRecord) (made : Makes g (SealsBlock records) old new) where
  masters : KeepsUnits (shape_of g Masters) old new
  masters = made.1.others Masters (λ h. cc)

  groups : KeepsUnits (shape_of g Groups) old new
  groups = made.1.others Groups (λ h. cc)

  segments : KeepsUnits (shape_of g Segments) old new
  segments = made.1.others Segments (λ h. cc)

  versions : versions_on g new ≡ versions_on g old
  versions = versions_same g old new (version_stays g old new groups made.1.disk)

  -- the logical image of the new image is that of the old one with the block sealed
  pub sealed_logical_image : logical_image_under newest g new (blocks ++ records ∷ []) ≡ sealed (logical_image_under newest g old blocks) records
  sealed_logical_image = blocks_sealed newest g new blocks records ∙ ap (λ (p : LogicalImage). sealed p records) (same_logical_image newest g old new blocks versions)

  pub sound_sealed : IsSoundUnder newest g old blocks → GoesOn (logical_image_under newest g old blocks) records → IsSoundUnder newest g new (blocks ++ records ∷ [])
  sound_sealed sound goes = record {
    octets = octets_stay newest g old new made.1.sizes masters segments groups made.1.disk sound.octets;
    held = blocks_more g _ blocks records old new sound.held (let room = goes.room in omega (arith, room, next_block_is newest blocks)) goes.are_block made.1.form made.1.units;
    records = subst lists.IsSound (sym sealed_logical_image) (sealed_is_sound (logical_image_under newest g old blocks) records sound.records goes);
  }

  pub means_sealed : (table : List Content) (count : ℕ) → Means (sealed (logical_image_under newest g old blocks) records) table count → Means (logical_image_under newest g new (blocks ++ records ∷ [])) table count
  means_sealed table count means = subst (λ (p : LogicalImage). Means p table count) (sym sealed_logical_image) means

pub sealed_image_is_sound : laws.SealedIsSound
sealed_image_is_sound newest g old new blocks records sound goes made = sound_sealed newest g old new blocks records made sound goes

pub sealed_without_commit : laws.SealedWithoutCommit
sealed_without_commit newest g old new blocks records sound goes made none table count means =
    means_sealed newest g old new blocks records made table count (means_without_commit (logical_image_under newest g old blocks) records sound.records goes table count means none)

pub sealed_with_commit : laws.SealedWithCommit
sealed_with_commit newest g old new blocks records sound goes made before after lsn t number parts none none' table count means =
    means_sealed newest g old new blocks records made (table_with table (writes_in t ((logical_image_under newest g old blocks).log ++ before))) (count + 1)
    (means_with_commit (logical_image_under newest g old blocks) records sound.records goes table count means before after lsn t number parts none none')
