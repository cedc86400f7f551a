-- Other versions of the pages keep a logical image sound, and what it stands for.
use Rattle.image_meaning.proofs.Names.{◌≡◌, ℕ, ◌+◌, ◌*◌, ◌/◌, ◌%◌, ◌<◌, ◌≤◌, List, ◌∷◌, length, None, sym, ap, ◌∙◌, arith, le-max_right, mod_below, max, with_versions, ReplaceAll, total_within, Replaces, page_and_slot, Version, slot_at, last_on, shown, shown_by, version_at, longest, open_length, put_back, LogicalImage, IsSound, IsInTable, Means, FitsLog, HasRoomInPage, last_known, redone, Content, content_at, length_of, all_weaker}
use Rattle.image_meaning.proofs.Redos.{none_known, redone_replaces, slot_of_page, version_is_redone}
use Rattle.log_laws.proofs.Versions.{table_same}

-- a slot without records is as it was
pub slot_same : (p : LogicalImage) (versions : List Version) → ReplaceAll p versions → (number : ℕ) → number < 32 * length p.pages → last_on p.log number ≡ None → slot_at versions number ≡ slot_at p.pages number
slot_same p versions r number within none =
    let v = version_at versions (number / 32) in
    let known = λ (lsn : ℕ). none_known p.log (32 * (number / 32) + number % 32) lsn (ap (last_on p.log) (page_and_slot number) ∙ none) in
    ap (shown_by (content_at v.slots (number % 32))) (sym (known v.lsn))
    ∙ (r.each (number / 32) (omega (arith, within, page_and_slot number))).as_before v.lsn (number % 32) (omega arith) (mod_below number 32 (omega arith))
    ∙ ap (shown_by (slot_at p.pages (32 * (number / 32) + number % 32))) (known (max v.lsn (version_at p.pages (number / 32)).lsn))
    ∙ ap (slot_at p.pages) (page_and_slot number)

no_more : {a b : Content} → a ≡ b → length_of a ≤ length_of b
no_more {a} {b} same = let e = ap length_of same in omega (arith, e)

pub same_first : {a b : Content} (contents : List Content) → a ≡ b → longest (a ∷ contents) ≤ longest (b ∷ contents)
same_first {a} {b} contents same = let e = ap (λ (c : Content). longest (c ∷ contents)) same in omega (arith, e)

module _ (p : LogicalImage) (versions : List Version) (sound : IsSound p) (r : ReplaceAll p versions) where
  fits_still : (page : ℕ) (v : Version) → FitsLog p page v → FitsLog (with_versions p versions) page v
  fits_still page v f = record { logged = f.logged; shows = f.shows; knows = f.knows }

  shown_same : (number : ℕ) → number < 32 * length p.pages → shown p.log versions number ≡ shown p.log p.pages number
  shown_same number within = grind (arith, slot_same)

  -- what is redone over the others was redone over these
  room_still : (page : ℕ) → page < length p.pages → HasRoomInPage (with_versions p versions) page
  room_still page exists = record {
    redone_fits = λ lsn later.
        let until = max lsn (version_at p.pages page).lsn in
        let same = total_within page (λ number. length_of (redone (with_versions p versions) lsn number)) (λ number. length_of (redone p until number))
        (λ slot less. no_more
        (ap (λ (c : Content). shown_by c (last_known p.log lsn (32 * page + slot))) (slot_of_page versions page slot less)
        ∙ (r.each page exists).as_before lsn slot later less)) in
        let old = (sound.room_in_pages page exists).redone_fits until (le-max_right lsn (version_at p.pages page).lsn) in
        omega (arith, same, old);
    open_fits =
        let same = total_within page (open_length p.log versions) (open_length p.log p.pages)
        (λ slot less. same_first (put_back p.log (32 * page + slot)) (shown_same (32 * page + slot) (omega (arith, exists, less)))) in
        let old = (sound.room_in_pages page exists).open_fits in
        omega (arith, same, old);
  }

  pub sound_with : IsSound (with_versions p versions)
  sound_with =
      let count = r.count in
      record {
        kept_before_redo = sound.kept_before_redo;
        redo_before_end = sound.redo_before_end;
        kept_is_live = sound.kept_is_live;
        in_order = sound.in_order;
        in_table = all_weaker (IsInTable p.pages) (IsInTable versions) (λ e within number on. let w = within number on in omega (arith, w, count)) p.log sound.in_table;
        open_transactions = sound.open_transactions;
        begun = sound.begun;
        losers_can_be_undone = sound.losers_can_be_undone;
        losers_hold_others_off = sound.losers_hold_others_off;
        versions_fit = λ page exists. fits_still page (version_at versions page) (r.each page (omega (arith, exists, count))).fits;
        room_for_undo = sound.room_for_undo;
        master_names_the_active = sound.master_names_the_active;
        commits = record { before_redo = sound.commits.before_redo; run_on = sound.commits.run_on; fit = sound.commits.fit };
        room_in_pages = λ page exists. room_still page (omega (arith, exists, count));
      }

  pub means_with : (table : List Content) (count : ℕ) → Means p table count → Means (with_versions p versions) table count
  means_with table count means = grind (arith, table_same, slot_same)

-- they keep a logical image sound
pub versions_are_sound : (p : LogicalImage) (versions : List Version) → IsSound p → ReplaceAll p versions → IsSound (with_versions p versions)
versions_are_sound p versions sound r = sound_with p versions sound r

-- and what it stands for
pub versions_mean : (p : LogicalImage) (versions : List Version) → IsSound p → ReplaceAll p versions → (table : List Content) (count : ℕ) → Means p table count → Means (with_versions p versions) table count
versions_mean p versions sound r table count means = means_with p versions sound r table count means

-- the version that a page has replaces itself
pub version_replaces_itself : (p : LogicalImage) (page : ℕ) → IsSound p → page < length p.pages → Replaces p page (version_at p.pages page)
version_replaces_itself p page sound within = redone_replaces p page (version_at p.pages page) sound within (version_is_redone p page sound within)
