-- Blank devices.
use Rattle.image_meaning.proofs.Names.{◌≡◌, ℕ, suc, ◌-◌, ◌+◌, ◌*◌, ◌/◌, ◌%◌, ◌<◌, List, [], length, map, get_or, take, drop, replicate, None, refl, sym, ap, subst, ◌∙◌, arith, max-le, ext_get_or, length-replicate, get_or-replicate, take-replicate, drop-replicate, mod_below, AllByRecursion, slice_index, frames_on, disk_on, version_on, Frame, IsGroup, frames_in, frames_of, version, CleanAsDisk, RingName, Masters, Groups, Segments, shape_of, octets_of, group_shape, segment_shape, units_on, BlankStands, IsUnused, IsFrameOf, AreSegments, AreOctetsSoundUnder, IsSoundUnder, logical_image, versions_on, total_few, page_and_slot, length_table_of, content_of_table, Version, version_at, slot_at, table_of, open_length, FitsLog, HasRoomInPage, Means, redone, Content, content_at, length_of, IsRing, Units, hi_of, HasLimits, HasLengths, log_length, flash_length, disk_length, blank_image, Geometry}
use Rattle.sealed_ring.specs.Laws.{BlankIsRing}
use Rattle.sealed_ring.proofs.Examples.{blank_is_ring}
use Rattle.slotted_page.specs.Laws.{IsBlank}
use Rattle.slotted_page.proofs.Blank.{blank}
use Rattle.image_changes.proofs.AppendLaws.{ring_fits}
use Rattle.meta_segments.specs.Following.{Follow}
use Rattle.meta_segments.proofs.Numbers.{none_follow}
use Rattle.tail_rebuild.specs.Standing.{HasSaved}
use Rattle.image_meaning.proofs.Versions.{length-versions, version_is}
use Rattle.log_store.proofs.Standing.{blank_has_no_blocks}
use Rattle.log_records.specs.Sound as lists

pub zero_at : (n p : ℕ) → slice_index (replicate n 0) p ≡ 0
zero_at (suc n) (suc p) = zero_at n p
zero_at _ _ = refl

abbrev zeros : ℕ → List ℕ
zeros n = replicate n 0

-- a page of zeros
page_of_zeros : (len number pages : ℕ) → len ≡ 4096 → number < pages → IsBlank (take len (drop (len * number) (zeros (len * pages))))
page_of_zeros len number pages size within =
    let before : len * number ≡ 4096 * number = ap (λ (n : ℕ). n * number) size in
    let all : len * pages ≡ 4096 * pages = ap (λ (n : ℕ). n * pages) size in
    let part : take len (drop (len * number) (zeros (len * pages))) ≡ zeros len =
    ap (take {A = ℕ} len) (drop-replicate (len * number) (len * pages) 0) ∙ take-replicate len (len * pages - len * number) 0 (omega (arith, before, all, size, within)) in
    subst IsBlank (sym part) (blank len size)

module _ (ring_of_zeros : BlankIsRing) (g : Geometry) (limits : HasLimits g) where
  pub lengths : HasLengths g (blank_image g)
  lengths = record { log = length-replicate (log_length g) 0; flash = length-replicate (flash_length g) 0; disk = length-replicate (disk_length g) 0 }

  octets_zero : (ring : RingName) (p : ℕ) → slice_index (octets_of (shape_of g ring) (blank_image g)) p ≡ 0
  octets_zero Groups p = zero_at (flash_length g) p
  octets_zero Segments p = zero_at (flash_length g) p
  octets_zero _ p = zero_at (log_length g) p

  ring_blank : (ring : RingName) → IsRing (shape_of g ring) (octets_of (shape_of g ring) (blank_image g)) × (units_on (shape_of g ring) (blank_image g) ≡ record { hi = 0; live = [] })
  ring_blank ring = ring_of_zeros (shape_of g ring) (octets_of (shape_of g ring) (blank_image g)) (ring_fits g (blank_image g) ring limits lengths) (octets_zero ring)

  pub unused : (ring : RingName) → IsUnused g ring (blank_image g)
  unused ring = record { form = (ring_blank ring).0; none = ap (λ (u : Units). u.hi) (ring_blank ring).1 }

  pub no_live : (units_on (group_shape g) (blank_image g)).live ≡ []
  no_live = ap (λ (u : Units). u.live) (ring_blank Groups).1

  no_segments : AreSegments g (blank_image g)
  no_segments = record {
    segments = [];
    follow = subst (λ (live : List (List ℕ)). HasSaved g (map frames_in live) [] (blank_image g)) (sym no_live) (record {
      has = record { form = (ring_blank Segments).0; are_segments = tt; exist = tt; live = ap (λ (u : Units). u.live) (ring_blank Segments).1 };
      follow = subst (λ (h : ℕ). Follow (hi_of (segment_shape g) (blank_image g).flash) [] h []) (sym (unused Groups).none) (subst (λ (k : ℕ). Follow k [] 0 []) (sym (unused Segments).none) none_follow);
    });
  }

  no_frames : frames_on g (blank_image g) ≡ []
  no_frames = ap frames_of no_live

  pub blank_page : (number : ℕ) → number < g.pages → IsBlank (version_on g (blank_image g) number)
  blank_page number within =
      let there : version_on g (blank_image g) number ≡ disk_on (blank_image g) number = ap (λ (fs : List Frame). version (disk_on (blank_image g)) fs number) no_frames in
      subst IsBlank (sym there) (page_of_zeros 4096 number g.pages refl within)

  pub octets : AreOctetsSoundUnder None g (blank_image g)
  octets = record {
    limits = limits;
    lengths = lengths;
    masters = unused Masters;
    segments = no_segments;
    groups = record {
      form = (ring_blank Groups).0;
      each = subst (AllByRecursion (λ content. IsGroup content (frames_in content))) (sym no_live) tt;
      frames = subst (AllByRecursion (IsFrameOf g)) (sym no_frames) tt;
    };
    versions = λ number within. (blank_page number within).sound;
    clean = subst (CleanAsDisk (disk_on (blank_image g))) (sym no_frames) (λ number frame last. cc);
  }

  fits : (number : ℕ) → number < g.pages → FitsLog (logical_image g (blank_image g) []) number (version_at (versions_on g (blank_image g)) number)
  fits number within = grind (arith, version_is, blank_page)

  -- no slot has a value
  pub slot_blank : (number : ℕ) → number < 32 * g.pages → slot_at (versions_on g (blank_image g)) number ≡ None
  slot_blank number within =
      let here : number / 32 < g.pages = omega (arith, within, page_and_slot number) in
      ap (λ (v : Version). content_at v.slots (number % 32)) (version_is g (blank_image g) (number / 32) here)
      ∙ ap (λ (slots : List Content). content_at slots (number % 32)) (blank_page (number / 32) here).slots
      ∙ get_or-replicate 32 (number % 32) None None (mod_below number 32 (omega arith))

  room : (page : ℕ) → page < length (versions_on g (blank_image g)) → HasRoomInPage (logical_image g (blank_image g) []) page
  room page exists = record {
    redone_fits = λ lsn later.
        let none = total_few page 0 (λ number. length_of (redone (logical_image g (blank_image g) []) lsn number)) (λ slot less. let e = nothing slot less in omega (arith, e)) in
        omega (arith, none);
    open_fits =
        let none = total_few page 0 (open_length [] (versions_on g (blank_image g))) (λ slot less. max-le {a = length_of (slot_at (versions_on g (blank_image g)) (32 * page + slot))} {b = 0} {k = 0} (let e = nothing slot less in omega (arith, e)) (omega arith)) in
        omega (arith, none);
  }
    where
      nothing : (slot : ℕ) → slot < 32 → length_of (slot_at (versions_on g (blank_image g)) (32 * page + slot)) ≡ 0
      nothing slot less = ap length_of (slot_blank (32 * page + slot) (omega (arith, exists, less, length-versions g (blank_image g))))

  records : lists.IsSound (logical_image g (blank_image g) [])
  records = record {
    kept_before_redo = omega arith;
    redo_before_end = omega arith;
    kept_is_live = omega arith;
    in_order = omega arith;
    in_table = tt;
    open_transactions = tt;
    begun = tt;
    losers_can_be_undone = λ t loser. absurd (grind arith);
    losers_hold_others_off = tt;
    versions_fit = λ page exists. fits page (omega (arith, exists, length-versions g (blank_image g)));
    room_for_undo = grind arith;
    master_names_the_active = refl;
    commits = grind arith;
    room_in_pages = room;
  }

  pub sound_blank : IsSoundUnder None g (blank_image g) []
  sound_blank = record { octets = octets; held = blank_has_no_blocks g limits; records = records }

  pub means_blank : Means (logical_image g (blank_image g) []) (replicate (32 * g.pages) None) 0
  means_blank = record {
    table_is =
        ext_get_or None (replicate (32 * g.pages) None) (table_of [] (versions_on g (blank_image g)))
        (length-replicate (32 * g.pages) None ∙ ap (λ (n : ℕ). 32 * n) (sym (length-versions g (blank_image g))) ∙ sym (length_table_of [] (versions_on g (blank_image g))))
        (λ number within. each number (omega (arith, within, length-replicate {A = Content} (32 * g.pages) None)));
    count_is = refl;
  }
    where
      each : (number : ℕ) → number < 32 * g.pages → get_or (replicate {A = Content} (32 * g.pages) None) number None ≡ content_at (table_of [] (versions_on g (blank_image g))) number
      each number within =
          get_or-replicate (32 * g.pages) number None None within
          ∙ sym (content_of_table [] (versions_on g (blank_image g)) number (omega (arith, within, length-versions g (blank_image g))) ∙ slot_blank number within)

pub blank_stands : BlankStands
blank_stands g limits = record { blocks = []; sound = sound_blank blank_is_ring g limits; means = means_blank blank_is_ring g limits }
