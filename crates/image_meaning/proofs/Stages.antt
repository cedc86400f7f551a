-- Valid dirty frames are staged.
use Rattle.image_meaning.proofs.Names.{◌≡◌, inl, inr, ℕ, ◌+◌, ◌*◌, ◌<◌, ◌≤◌, false, true≢false, List, [], take, Option, Some, None, sym, ap, subst, ◌∙◌, arith, cases_lt, cases_order, Contains, Master, page_on, frames_on, disk_on, version_on, IsCleanOn, staging_keeps_versions, staging_keeps_clean, Frame, last_frame, version, CleanAsDisk, RewritesPages, Makes, Masters, Blocks, Groups, Segments, MayStage, logical_image_under, IsSoundUnder, versions_on, LogicalImage, Means, LogRecord, blocks_stay, Content, IsBeside, Image, Geometry, Disk}
use Rattle.std.proofs.Math.ListN.{drop_of_length-le}
use Rattle.disk_pages.proofs.PageLaws.{page_stays}
use Rattle.image_meaning.proofs.Versions.{versions_same, frames_stay}
use Rattle.image_meaning.proofs.UnchangedImages.{lengths_stay, newest_stays, groups_stay, segments_stay, same_logical_image}
use Rattle.log_records.specs.Sound as lists
use Rattle.slotted_page.specs.Layout as page

-- no octet of a page is one of another page
apart : (number other place : ℕ) → (number ≡ other → ⊥) → 4096 * number ≤ place → place < 4096 * number + 4096 → IsBeside (4096 * other) 4096 place
apart number other place ne from below = grind (arith, cases_order)

module _ (newest : Option Master) (g : Geometry) (old new : Image) (blocks : List (List LogRecord)) (pages : List ℕ) (sound : IsSoundUnder newest g old blocks)
    (may : MayStage g old pages) (made : Makes g (RewritesPages pages) old new) where
  -- a page that isn't rewritten is as it was
  pub page_kept : (number : ℕ) → (Contains pages number → ⊥) → disk_on new number ≡ disk_on old number
  page_kept number none =
      let long = sound.octets.lengths.disk in
      let size = made.sizes Disk in
      elim (cases_lt number g.pages) [
        | inl within ↦ page_stays number old.disk new.disk (omega (arith, within, long)) size
            (λ place from below. made.others place (λ other listed. apart number other place (λ same. none (subst (Contains pages) (sym same) listed)) from below))
        | inr past ↦
            let before : page_on number old.disk ≡ take 4096 [] = ap (take {A = ℕ} 4096) (drop_of_length-le old.disk {i = 4096 * number} (omega (arith, past, long))) in
            let after : page_on number new.disk ≡ take 4096 [] = ap (take {A = ℕ} 4096) (drop_of_length-le new.disk {i = 4096 * number} (omega (arith, past, long, size))) in
            after ∙ sym before
      ]

  -- none is rewritten that has no frame, or a clean one
  unlisted : (number : ℕ) → last_frame number (frames_on g old) ≡ None → Contains pages number → ⊥
  unlisted number none listed = let found = may number listed in cc (sym none ∙ found.1)

  dirty_of : (a b : Frame) → Some a ≡ Some b → a.dirty ≡ b.dirty
  dirty_of a b same = cc

  clean_unlisted : (number : ℕ) (frame : Frame) → last_frame number (frames_on g old) ≡ Some frame → frame.dirty ≡ false → Contains pages number → ⊥
  clean_unlisted number frame last clean listed =
      let found = may number listed in true≢false (sym found.2 ∙ dirty_of found.0 frame (sym found.1 ∙ last) ∙ clean)

  same_frames : frames_on g new ≡ frames_on g old
  same_frames = frames_stay g old new (made.rings Groups)

  pub version_kept : (number : ℕ) → version_on g new number ≡ version_on g old number
  version_kept number =
      ap (λ (fs : List Frame). version (disk_on new) fs number) same_frames
      ∙ staging_keeps_versions (disk_on old) (disk_on new) (frames_on g old) (λ other none. page_kept other (unlisted other none)) number

  clean : IsCleanOn g new
  clean =
      subst (CleanAsDisk (disk_on new)) (sym same_frames)
      (staging_keeps_clean (disk_on old) (disk_on new) (frames_on g old) (λ other frame last not_dirty. page_kept other (clean_unlisted other frame last not_dirty)) sound.octets.clean)

  pub same_versions : versions_on g new ≡ versions_on g old
  same_versions = versions_same g old new version_kept

  pub sound_staged : IsSoundUnder newest g new blocks
  sound_staged = record {
    octets = record {
      limits = sound.octets.limits;
      lengths = lengths_stay g old new made.sizes sound.octets.lengths;
      masters = newest_stays newest g old new (made.rings Masters) sound.octets.masters;
      segments = segments_stay g old new (made.rings Segments) (made.rings Groups) sound.octets.segments;
      groups = groups_stay g old new (made.rings Groups) sound.octets.groups;
      versions = λ number within. subst page.IsSound (sym (version_kept number)) (sound.octets.versions number within);
      clean = clean;
    };
    held = blocks_stay g _ blocks old new sound.held (made.rings Blocks);
    records = subst lists.IsSound (sym (same_logical_image newest g old new blocks same_versions)) sound.records;
  }

  pub means_staged : (table : List Content) (count : ℕ) → Means (logical_image_under newest g old blocks) table count → Means (logical_image_under newest g new blocks) table count
  means_staged table count means = subst (λ (p : LogicalImage). Means p table count) (sym (same_logical_image newest g old new blocks same_versions)) means
