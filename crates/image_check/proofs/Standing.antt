-- Sound by the rules, and standing for a table, are one.
use Rattle.std.proofs.lemmas.Grind.{common_steps}
use Rattle.image_check.proofs.Names.{◌≡◌, inl, inr, ℕ, suc, ◌+◌, ◌-◌, ◌*◌, ◌≤◌, ◌<◌, List, [], ◌∷◌, length, get_or, refl, sym, ap, ◌∙◌, subst, arith, cases_eq, AllByRecursion, is_some, count_by, HasMaster, IsOf, newest_of, blank, seen, Master, PagesExist, master_shape, log_shape, group_shape, segment_shape, units_on, SoundStands, StandingIsSound, JudgedStands, StandingIsJudged, one_block, log_in_table, blocks_on_pages, log_in_order, IsGroupOn, AreBlocks, SegmentsAreFormed, IsFormed, IsOnPage, IsSegmentOn, Reading, Reads, HoldBefore, logical_image_of, length-versions, IsNewest, HasNewest, IsFrameOf, AreOctetsSoundUnder, IsSoundUnder, StandsUnder, StandsFor, logical_image_under, versions_on, kept_by, log_from, table_of, LogicalImage, Means, LogRecord, HasBlocks, block_on, Content, IsRing, hi_of, live, IsLive, Image, Geometry, all_append, all_at, all_left, all_right}
use Rattle.std.specs.Prelude.{Option, Some, None, map}
use Rattle.byte_fields.specs.declared.frame_head.FrameHead.{FrameHead}
use Rattle.byte_fields.specs.FrameHeads.{spelling_of_all}
use Rattle.meta_segments.specs.Segments.{IsSegment}
use Rattle.frame_group.specs.Groups.{Frame, IsGroup, frames_in}
use Rattle.frame_group.specs.Versions.{frames_of}
use Rattle.frame_group.proofs.Contents.{frames_are_in}
use Rattle.log_store.specs.LogList.{LogList}
use Rattle.log_store.proofs.Standing.{stands_there}
use Rattle.image_form.proofs.LiveUnits.{all_live, each_live}
use Rattle.log_records.specs.Sound as lists
use Rattle.image_meaning.specs.Meaning as meaning

-- Groups.

abbrev HasGroup : Geometry → List ℕ → Type 0
HasGroup g content = (frames : List Frame) × IsGroupOn g content frames

groups_of_form : (g : Geometry) (contents : List (List ℕ)) → AllByRecursion (HasGroup g) contents → AllByRecursion (λ content. IsGroup content (frames_in content)) contents
groups_of_form g [] all = tt
groups_of_form g (content ∷ contents) all =
    (subst (IsGroup content) (sym (frames_are_in content all.0.0 all.0.1.group)) all.0.1.group, groups_of_form g contents all.1)

frames_of_pages : (g : Geometry) (contents : List (List ℕ)) → AllByRecursion (HasGroup g) contents → AllByRecursion (IsFrameOf g) (frames_of contents)
frames_of_pages g [] all = tt
frames_of_pages g (content ∷ contents) all =
    all_append (IsFrameOf g) (frames_in content) (frames_of contents) (subst (AllByRecursion (IsFrameOf g)) (sym (frames_are_in content all.0.0 all.0.1.group)) all.0.1.sound) (frames_of_pages g contents all.1)

have_groups : (g : Geometry) (contents : List (List ℕ)) → AllByRecursion (λ content. IsGroup content (frames_in content)) contents → AllByRecursion (IsFrameOf g) (frames_of contents) → AllByRecursion (HasGroup g) contents
have_groups g [] are frames = grind (arith, common_steps)
have_groups g (content ∷ contents) are frames = grind (arith, common_steps, all_left, all_right, (have_groups g contents are.1 (all_right (IsFrameOf g) (frames_in content) (frames_of contents) frames)))

-- Blocks.

indexed_all : (P : List LogRecord → Type 0) (xs : List (List LogRecord)) → ((i : ℕ) → i < length xs → P (get_or xs i [])) → AllByRecursion P xs
indexed_all P [] each = tt
indexed_all P (x ∷ xs) each = (each 0 (omega arith), indexed_all P xs (λ i less. each (suc i) (omega (arith, less))))

-- the blocks of a reading, one by one
module _ (g : Geometry) (first : ℕ) (blocks : List (List LogRecord)) (image : Image) (has : HasBlocks g first blocks image) (some : 16 ≤ g.blocks) where
  abbrev log : LogList
  log = record { first = first; blocks = blocks; tail = [] }

  pub pages_of_blocks : AreBlocks g first image → AllByRecursion (AllByRecursion (IsOnPage g.pages)) blocks
  pages_of_blocks formed = indexed_all (AllByRecursion (IsOnPage g.pages)) blocks (λ i less.
      let n : ℕ = first + i in
      let next = has.next in
      let few = has.few in
      let lives : IsLive (log_shape g) (hi_of (log_shape g) image.log) n = record { below = omega (arith, next, less); near = omega (arith, next, few, some) } in
      let found = formed n lives (omega arith) in
      let there = stands_there g log image n has (omega arith) (omega (arith, less)) in
      let same = one_block (block_on g image n) found.0 (get_or blocks (n - first) []) found.1.block there in
      let at : n - first ≡ i = omega arith in
      subst (λ (k : ℕ). AllByRecursion (IsOnPage g.pages) (get_or blocks k [])) at (subst (AllByRecursion (IsOnPage g.pages)) same found.1.exist))

  pub blocks_of_pages : AllByRecursion (AllByRecursion (IsOnPage g.pages)) blocks → AreBlocks g first image
  blocks_of_pages on n lives from =
      let next = has.next in
      let below = lives.below in (
        get_or blocks (n - first) [],
        record {
          block = stands_there g log image n has from (omega (arith, next, below));
          exist = all_at (AllByRecursion (IsOnPage g.pages)) blocks (n - first) [] on (omega (arith, next, below, from));
        },
      )

-- The newest master.

newest_none : (image : Image) (m : Master) → hi_of master_shape image.log ≡ 0 → HasMaster image m → m ≡ blank
newest_none image m none has = subst (λ (h : ℕ). IsOf (newest_of (live master_shape h image.log)) m) none has

none_newest : (image : Image) → hi_of master_shape image.log ≡ 0 → HasMaster image blank
none_newest image none = subst (λ (h : ℕ). IsOf (newest_of (live master_shape h image.log)) blank) (sym none) refl

-- Logical images.

abbrev logical_image_with : Geometry → Master → Image → List (List LogRecord) → ℕ → LogicalImage
logical_image_with g m image blocks hi = record {
  master = seen m;
  log = log_from m.kept blocks;
  hi = hi;
  blocks = g.blocks;
  pages = versions_on g image;
}

-- By the rules.

module _ (r : Reading) (image : Image) (reads : Reads r image) (rules : HoldBefore 13 r image) where
  formed : IsFormed r.g r.master image
  formed = reads.formed

  lists_sound : lists.IsSound (logical_image_of r image)
  lists_sound =
      let next = reads.blocks.next in
      let three = (rules 3 (omega arith)).third refl in
      let some = formed.sizes.limits.blocks in
      record {
        kept_before_redo = reads.live.kept_before_redo;
        redo_before_end = reads.live.redo_before_end;
        kept_is_live = reads.live.kept_is_live;
        in_order = log_in_order r.master.kept r.blocks (512 * hi_of (log_shape r.g) image.log) reads.blocks.are_blocks (omega (arith, next));
        in_table =
            log_in_table (versions_on r.g image) r.master.kept r.blocks
            (subst (λ (n : ℕ). AllByRecursion (AllByRecursion (IsOnPage n)) r.blocks) (sym (length-versions r.g image)) (pages_of_blocks r.g r.master.kept r.blocks image reads.blocks some formed.blocks))
            reads.blocks.are_blocks;
        open_transactions = three.open_transactions;
        begun = three.begun;
        losers_can_be_undone = (rules 4 (omega arith)).fourth refl;
        losers_hold_others_off = (rules 5 (omega arith)).fifth refl;
        versions_fit = (rules 6 (omega arith)).sixth refl;
        room_for_undo = (rules 9 (omega arith)).ninth refl;
        master_names_the_active = (rules 10 (omega arith)).tenth refl;
        commits = (rules 11 (omega arith)).eleventh refl;
        room_in_pages = (rules 12 (omega arith)).twelfth refl;
      }

  groups_sound : meaning.AreGroups r.g image
  groups_sound =
      let few = formed.sizes.limits.groups in
      let all : AllByRecursion (HasGroup r.g) (units_on (group_shape r.g) image).live = all_live (HasGroup r.g) (group_shape r.g) image (omega (arith, few)) formed.groups in
      record {
        form = formed.rings.groups;
        each = groups_of_form r.g (units_on (group_shape r.g) image).live all;
        frames = frames_of_pages r.g (units_on (group_shape r.g) image).live all;
      }

  octets_sound : (newest : Option Master) → HasNewest newest r.g image → AreOctetsSoundUnder newest r.g image
  octets_sound newest has = record {
    limits = formed.sizes.limits;
    lengths = formed.sizes.lengths;
    masters = has;
    segments = (rules 8 (omega arith)).eighth refl;
    groups = groups_sound;
    versions = formed.versions;
    clean = (rules 7 (omega arith)).seventh refl;
  }

-- A logical image under a newest master is that of a reading.

stands_under : (newest : Option Master) (m : Master) (g : Geometry) (image : Image) (blocks : List (List LogRecord)) (hi : ℕ) (table : List Content) (commits : ℕ) → m ≡ meaning.saved_by newest →
    hi ≡ meaning.next_block_under newest blocks → AreOctetsSoundUnder newest g image → HasBlocks g m.kept blocks image → lists.IsSound (logical_image_with g m image blocks hi) → Means (logical_image_with g m image blocks hi) table commits →
    StandsUnder newest g image table commits
stands_under newest m g image blocks hi table commits is end octets has sound means =
    let same : logical_image_with g m image blocks hi ≡ logical_image_under newest g image blocks = (λ i. logical_image_with g (is i) image blocks (end i)) in record {
      blocks = blocks;
      sound = record {
        octets = octets;
        held = subst (λ (x : Master). HasBlocks g x.kept blocks image) is has;
        records = subst lists.IsSound same sound;
      };
      means = subst (λ (p : LogicalImage). Means p table commits) same means;
    }

pub sound_stands : SoundStands
sound_stands r image table commits reads rules means =
    let hi : ℕ = hi_of (log_shape r.g) image.log in
    let next = reads.blocks.next in
    elim (cases_eq (hi_of master_shape image.log) 0) [
      | inl none ↦
          let is : r.master ≡ blank = newest_none image r.master none reads.formed.master in
          let nothing : r.master.kept ≡ 0 = ap (λ (x : Master). x.kept) is in
          let has : HasNewest None r.g image = record { form = reads.formed.rings.masters; none = none } in
          record {
            newest = None;
            stands = stands_under None r.master r.g image r.blocks hi table commits is (omega (arith, next, nothing)) (octets_sound r image reads rules None has) reads.blocks (lists_sound r image reads rules) means;
          }
      | inr other ↦
          let has : HasNewest (Some r.master) r.g image = record { form = reads.formed.rings.masters; some = omega (arith, other); master = reads.formed.master } in
          record {
            newest = Some r.master;
            stands = stands_under (Some r.master) r.master r.g image r.blocks hi table commits refl (omega (arith, next)) (octets_sound r image reads rules (Some r.master) has) reads.blocks (lists_sound r image reads rules) means;
          }
    ]

-- And by the soundness of images.

end_under : (newest : Option Master) (g : Geometry) (image : Image) (blocks : List (List LogRecord)) → HasBlocks g (kept_by newest) blocks image → meaning.next_block_under newest blocks ≡ hi_of (log_shape g) image.log
end_under None g image blocks has = let next = has.next in omega (arith, next)
end_under (Some m) g image blocks has = has.next

masters_under : (newest : Option Master) (g : Geometry) (image : Image) → HasNewest newest g image → IsRing master_shape image.log × HasMaster image (meaning.saved_by newest)
masters_under None g image has = (has.form, none_newest image has.none)
masters_under (Some m) g image has = (has.form, has.master)

abbrev HasSegment : Geometry → List ℕ → Type 0
HasSegment g content = (heads : List FrameHead) × IsSegmentOn g.pages content heads

have_segments : (g : Geometry) (segments : List (List FrameHead)) → AllByRecursion (λ heads. IsSegment (spelling_of_all heads) heads) segments → AllByRecursion (PagesExist g.pages) segments →
    AllByRecursion (HasSegment g) (map spelling_of_all segments)
have_segments g [] are exist = tt
have_segments g (heads ∷ segments) are exist = ((heads, record { segment = are.0; exist = exist.0 }), have_segments g segments are.1 exist.1)

-- segments that follow the groups are of the form
following_formed : (g : Geometry) (image : Image) → 3 ≤ (segment_shape g).slots → meaning.AreSegments g image → SegmentsAreFormed g image
following_formed g image slots saved =
    let has = saved.follow.has in
    each_live (HasSegment g) (segment_shape g) image slots
    (subst (AllByRecursion (HasSegment g)) (sym has.live) (have_segments g saved.segments has.are_segments has.exist))

pub standing_is_sound : StandingIsSound
standing_is_sound g image table commits stands =
    let newest : Option Master = stands.newest in
    let m : Master = meaning.saved_by newest in
    let blocks = stands.stands.blocks in
    let sound = stands.stands.sound in
    let octets = sound.octets in
    let held = sound.held in
    let hi : ℕ = hi_of (log_shape g) image.log in
    let same : logical_image_under newest g image blocks ≡ logical_image_with g m image blocks hi = (λ i. logical_image_with g m image blocks (end_under newest g image blocks held i)) in
    let records : lists.IsSound (logical_image_with g m image blocks hi) = subst lists.IsSound same sound.records in
    let masters = masters_under newest g image octets.masters in
    let few = octets.limits.groups in
    let some = octets.limits.blocks in
    let r : Reading = record { g = g; master = m; blocks = blocks } in
    let on = subst (λ (n : ℕ). AllByRecursion (AllByRecursion (IsOnPage n)) blocks) (length-versions g image) (blocks_on_pages (versions_on g image) m.kept blocks records.in_table) in
    record {
      reading = r;
      sizes = refl;
      reads = record {
        formed = record {
          sizes = record { limits = octets.limits; lengths = octets.lengths };
          rings = record { masters = masters.0; blocks = held.form; groups = octets.groups.form; segments = octets.segments.follow.has.form };
          master = masters.1;
          blocks = blocks_of_pages g m.kept blocks image held some on;
          groups = each_live (HasGroup g) (group_shape g) image (omega (arith, few)) (have_groups g (units_on (group_shape g) image).live octets.groups.each octets.groups.frames);
          segments = following_formed g image (omega arith) octets.segments;
          versions = octets.versions;
        };
        live = record { kept_before_redo = records.kept_before_redo; redo_before_end = records.redo_before_end; kept_is_live = records.kept_is_live };
        blocks = held;
      };
      rules = λ j below. record {
        third = λ is. record { open_transactions = records.open_transactions; begun = records.begun };
        fourth = λ is. records.losers_can_be_undone;
        fifth = λ is. records.losers_hold_others_off;
        sixth = λ is. records.versions_fit;
        seventh = λ is. octets.clean;
        eighth = λ is. octets.segments;
        ninth = λ is. records.room_for_undo;
        tenth = λ is. records.master_names_the_active;
        eleventh = λ is. records.commits;
        twelfth = λ is. records.room_in_pages;
      };
      means = subst (λ (p : LogicalImage). Means p table commits) same stands.stands.means;
    }

-- Judged sound.

pub judged_stands : JudgedStands
judged_stands image records commits sound =
    let r = sound.reading in
    let p : LogicalImage = logical_image_of r image in
    record {
      sizes = r.g;
      table = table_of p.log p.pages;
      stands = sound_stands r image (table_of p.log p.pages) commits sound.reads sound.rules (record { table_is = refl; count_is = sound.count });
      values = sound.values;
    }

pub standing_is_judged : StandingIsJudged
standing_is_judged image records commits opens =
    let read = standing_is_sound opens.sizes image opens.table commits opens.stands in
    record {
      reading = read.reading;
      reads = read.reads;
      rules = read.rules;
      values = opens.values ∙ ap (count_by is_some) read.means.table_is;
      count = read.means.count_is;
    }
