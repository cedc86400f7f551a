-- The segments that stand on flash, what was read of one, and which groups it has.
use Rattle.tail_rebuild.proofs.Names.{◌≡◌, ℕ, ◌+◌, ◌-◌, ◌*◌, ◌/◌, ◌%◌, ◌<◌, ◌≤◌, min, max, List, [], length, get_or, map, take, drop, refl, arith, sym, ap, subst, ◌∙◌, length-map, get_or-map, spelling_of_all, FrameHead, Frame, heads_of, group_shape, segment_shape, units_on, heads_of_group, IsSegment, live_count, IsNear, region, units_in, RingFits, hi_of, units_of, unit_at, IsLive, Ring, Shape, State, Image, Geometry, all_at, GoesOnWith, HoldSegments, RowGoesOn, AreRings, HasGroups, HasSegments, HasSaved, PagesExist, segment_on}
use Rattle.sealed_ring.specs.Row.{HaveContents}
use Rattle.meta_segments.specs.Following.{IsLive as Live, heads_with}
use Rattle.tail_rebuild.proofs.Standing.{first_is, heads_at_exist}

-- all live segments are listed
pub segment_count : (g : Geometry) (segments : List (List FrameHead)) (image : Image) → HasSegments g segments image → length segments ≡ min (hi_of (segment_shape g) image.flash) (g.groups / 4 + 2)
segment_count g segments image has = grind (arith, length-map, live_count)

-- the content of a live segment
segment_is : (g : Geometry) (ring : Ring) (site : State) (n : ℕ) (segments : List (List FrameHead)) (content : List ℕ) → ring.shape ≡ segment_shape g → RingFits ring site → IsLive ring.shape ring.hi n
    → HasSegments g segments site.image → content ≡ unit_at ring.shape (units_in ring.shape site) n → IsSegment content (heads_with ring.hi segments n)
segment_is g ring site n segments content shape fits live has read =
    let slots : ring.shape.slots ≡ g.groups / 4 + 3 = ap (λ (s : Shape). s.slots) shape in
    let hi : ring.hi ≡ hi_of (segment_shape g) site.image.flash = fits ∙ ap (λ (s : Shape). hi_of s (region s site)) shape in
    let all = segment_count g segments site.image has in
    let below = live.below in
    let near = live.near in
    let at : n - (hi_of (segment_shape g) site.image.flash - (g.groups / 4 + 3 - 1)) ≡ n + length segments - ring.hi = omega (arith, slots, hi, all, below, near) in
    let less : n + length segments - ring.hi < length segments = omega (arith, slots, hi, all, below, near) in
    let heads = heads_with ring.hi segments n in
    let is : IsSegment (spelling_of_all heads) heads = all_at (λ hs. IsSegment (spelling_of_all hs) hs) segments (n + length segments - ring.hi) [] has.are_segments less in
    let there : segment_on g site.image n ≡ spelling_of_all heads =
    ap (λ (i : ℕ). get_or (units_on (segment_shape g) site.image).live i []) at ∙ ap (λ (l : List (List ℕ)). get_or l (n + length segments - ring.hi) []) has.live
    ∙ get_or-map spelling_of_all segments (n + length segments - ring.hi) [] [] less in
    let own : content ≡ spelling_of_all heads = read ∙ ap (λ (s : Shape). unit_at s (units_of s (region s site)) n) shape ∙ there in
    subst (λ (l : List ℕ). IsSegment l heads) (sym own) is

-- live segments, as their slots were read
module _ (g : Geometry) (ring : Ring) (site : State) (n count : ℕ) (segments : List (List FrameHead)) (shape : ring.shape ≡ segment_shape g) (fits : RingFits ring site) (live : IsLive ring.shape ring.hi n) (most : n + count ≤ ring.hi)
    (has : HasSegments g segments site.image) where
  lives : (i : ℕ) → i < count → IsLive ring.shape ring.hi (n + i)
  lives i less = let near = live.near in record { below = omega (arith, less, most); near = omega (arith, near) }

  pub hold_segments : (slots : List ℕ) → HaveContents ring.shape (units_in ring.shape site) n count slots → HoldSegments slots count (λ i. heads_with ring.hi segments (n + i))
  hold_segments slots have i less =
      segment_is g ring site (n + i) segments (take 512 (drop (i * 1024 + 9) slots)) shape fits (lives i less) has
      (sym (ap (λ (s : Shape). take s.room (drop (i * s.stride + 9) slots)) shape) ∙ have i less)

-- the list of live heads goes on with those of a live segment
pub goes_on : (g : Geometry) (first : ℕ) (stand : List (List Frame)) (saved : List (List FrameHead)) (image : Image) (s at : ℕ) → HasGroups g first stand image → HasSaved g stand saved image
    → first / 4 ≤ s → s < hi_of (segment_shape g) image.flash → first + at ≡ max first (4 * s) → GoesOnWith (heads_with (hi_of (segment_shape g) image.flash) saved s) (first - 4 * s) (map heads_of stand) at
goes_on g first stand saved image s at has holds least below is =
    let k = hi_of (segment_shape g) image.flash in
    let h = hi_of (group_shape g) image.flash in
    let all = map heads_of stand in
    let size : length all ≡ length stand = length-map stand heads_of in
    let next = has.next in
    let low = holds.follow.low in
    record {
      inside = omega (arith, size, next, low, below, is, least);
      same = λ i less.
          let m = first + at + i in
          let live : Live h all m = record { not_before = omega (arith, size, next); before = omega (arith, next, low, below, is, least, less) } in
          let saves : m < 4 * k = omega (arith, below, is, least, less) in
          let row : m / 4 ≡ s = omega (arith, is, least, less) in
          let column : m % 4 ≡ first - 4 * s + i = omega (arith, is, least, less) in
          let place : m + length all - h ≡ at + i = omega (arith, size, next) in
          sym (ap (λ (n : ℕ). get_or all n []) place) ∙ sym (holds.follow.same m live (holds.follow.saved m live saves))
          ∙ (λ j. heads_of_group (heads_with k saved (row j)) (column j));
    }

-- its heads are of pages that exist
pub saved_exist : (g : Geometry) (first : ℕ) (stand : List (List Frame)) (image : Image) (heads : List FrameHead) (skip at group : ℕ) → HasGroups g first stand image → GoesOnWith heads skip (map heads_of stand) at
    → skip ≤ group → group < 4 → PagesExist g.pages (heads_of_group heads group)
saved_exist g first stand image heads skip at group has goes least below =
    let size : length (map heads_of stand) ≡ length stand = length-map stand heads_of in
    let inside = goes.inside in
    let back : skip + (group - skip) ≡ group = omega (arith, least) in
    subst (PagesExist g.pages) (goes.same (group - skip) (omega (arith, least, below)) ∙ ap (heads_of_group heads) back)
    (heads_at_exist g first stand image (at + (group - skip)) has (omega (arith, size, inside, least, below)))

-- the same by what the two rings know
pub lists_on : (g : Geometry) (groups segments : Ring) (site : State) (first own s at skip : ℕ) (heads : List FrameHead) (stand : List (List Frame)) (saved : List (List FrameHead)) → AreRings g groups segments site
    → RingFits groups site → RingFits segments site → HasGroups g first stand site.image → HasSaved g stand saved site.image
    → own ≡ groups.hi - (groups.shape.slots - 1) → own / 4 ≤ s → s < segments.hi → own + at ≡ max own (4 * s) → skip ≡ own - 4 * s → heads ≡ heads_with segments.hi saved s
    → GoesOnWith heads skip (map heads_of stand) at
lists_on g groups segments site first own s at skip heads stand saved rings groups_fit segments_fit has holds oldest least below is skipped read =
    let slots : groups.shape.slots ≡ g.groups = ap (λ (t : Shape). t.slots) rings.groups_shape in
    let hi : groups.hi ≡ hi_of (group_shape g) site.image.flash = groups_fit ∙ ap (λ (t : Shape). hi_of t (region t site)) rings.groups_shape in
    let next : segments.hi ≡ hi_of (segment_shape g) site.image.flash = segments_fit ∙ ap (λ (t : Shape). hi_of t (region t site)) rings.segments_shape in
    let start = first_is g first stand site.image has in
    let same : own ≡ first = omega (arith, slots, hi, start, oldest) in
    let goes = goes_on g first stand saved site.image s at has holds (omega (arith, same, least)) (omega (arith, next, below)) (omega (arith, same, is)) in
    let apart : first - 4 * s ≡ skip = omega (arith, same, skipped) in
    let other : heads_with (hi_of (segment_shape g) site.image.flash) saved s ≡ heads = sym (read ∙ ap (λ (n : ℕ). heads_with n saved s) next) in
    subst (λ (n : ℕ). GoesOnWith heads n (map heads_of stand) at) apart (subst (λ (l : List FrameHead). GoesOnWith l (first - 4 * s) (map heads_of stand) at) other goes)

-- and the same for segments that follow each other
module _ (g : Geometry) (groups segments : Ring) (site : State) (first own segment count : ℕ) (stand : List (List Frame)) (saved : List (List FrameHead)) (rings : AreRings g groups segments site)
    (groups_fit : RingFits groups site) (segments_fit : RingFits segments site) (has : HasGroups g first stand site.image) (holds : HasSaved g stand saved site.image)
    (oldest : own ≡ groups.hi - (groups.shape.slots - 1)) (least : own / 4 ≤ segment) (most : segment + count ≤ segments.hi) where
  pub row_goes_on : RowGoesOn (λ i. heads_with segments.hi saved (segment + i)) count own segment (map heads_of stand)
  row_goes_on i less =
      lists_on g groups segments site first own (segment + i) (max own (4 * (segment + i)) - own) (own - 4 * (segment + i)) (heads_with segments.hi saved (segment + i)) stand saved
      rings groups_fit segments_fit has holds oldest (omega (arith, least)) (omega (arith, less, most)) (omega arith) refl refl

  pub row_exists : (i : ℕ) → i < count → (group : ℕ) → own - 4 * (segment + i) ≤ group → group < 4 → PagesExist g.pages (heads_of_group (heads_with segments.hi saved (segment + i)) group)
  row_exists i less group skipped below =
      saved_exist g first stand site.image (heads_with segments.hi saved (segment + i)) (own - 4 * (segment + i)) (max own (4 * (segment + i)) - own) group has (row_goes_on i less) skipped below

-- the ring of groups is near the number that the segments tell
pub near_segments : (g : Geometry) (segments : Ring) (site : State) (first : ℕ) (stand : List (List Frame)) (saved : List (List FrameHead)) (shape : Shape) → shape ≡ group_shape g → segments.shape ≡ segment_shape g → RingFits segments site
    → HasGroups g first stand site.image → HasSaved g stand saved site.image → IsNear shape (region shape site) (4 * segments.hi)
near_segments g segments site first stand saved shape is segments_shape fits has holds = grind arith
