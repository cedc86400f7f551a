-- The cache behind an append of a group.
use Rattle.flash_cache.proofs.Names.{◌≡◌, ℕ, ◌+◌, ◌-◌, ◌*◌, ◌<◌, ◌≤◌, Bool, true, false, List, length, arith, refl, sym, ap, subst, ◌∙◌, leb-true, leb-false, le-leb, eqb-false, AllByRecursion, IsTrue, ◌↔◌, AreGroupHeads, FrameHead, front_leaves, pushed_queue, Invariant, Matches, PagesExist, FlashCache, size_of_heads, frames_in, append_done, Appends, Groups, Segments, group_shape, usable_later, region, units_in, IsUsable, IsReady, Finds, Units, FitsIn, IsRing, SameOutside, hi_of, appended, Ring, Shape, Queue, pushed, Known, lengths_later, Preserves, OnlyDevice, State, Flash, all_push, all_drop, is_due}
use Rattle.std.proofs.lemmas.List.{length-append}
use Rattle.flash_cache.proofs.Standing.{rings_later, exist_in}
use Rattle.std.proofs.lemmas.Grind.{common_steps}

-- nothing but counts of the ring's device changed, as far as the cache knows
pub goes_on_same : (cache : FlashCache) (ring : Ring) (queue : Queue) (old new : State) → Invariant cache old → Preserves old new → ring.shape ≡ cache.ring.shape → ring.hi ≡ cache.ring.hi → queue ≡ cache.directory
    → Invariant (record cache { ring = ring; directory = queue }) new
goes_on_same cache ring queue old new going goes shape hi is =
    let rings = rings_later cache.geometry cache.ring cache.segments old new goes going.rings in
    let usable = rings.groups_usable in
    let bounded = usable.bounded in
    let next = going.next in
    let low = rings.low in
    let high = rings.high in
    subst (λ (q : Queue). Invariant (record cache { ring = ring; directory = q }) new) (sym is) (record {
      limits = going.limits;
      lengths = lengths_later cache.geometry old new goes going.lengths;
      rings = record {
        groups_usable = record { fits = subst (λ (s : Shape). FitsIn s (length (region s new))) (sym shape) usable.fits; bounded = omega (arith, bounded, hi) };
        segments_usable = rings.segments_usable;
        groups_shape = shape ∙ rings.groups_shape;
        segments_shape = rings.segments_shape;
        low = omega (arith, low, hi);
        high = omega (arith, high, hi);
      };
      next = omega (arith, next, hi);
      few = going.few;
      sizes = going.sizes;
      exist = going.exist;
    })

-- whether the front group leaves, by the number of groups

pub leaves_when : (cache : FlashCache) → front_leaves cache ≡ true → cache.geometry.groups - 1 ≤ length cache.directory.groups
leaves_when cache is = leb-true (cache.geometry.groups - 1) (length cache.directory.groups) is

pub stays_when : (cache : FlashCache) → front_leaves cache ≡ false → length cache.directory.groups < cache.geometry.groups - 1
stays_when cache is = leb-false (cache.geometry.groups - 1) (length cache.directory.groups) is

pub full_is : (cache : FlashCache) (full : Bool) → length cache.directory.groups < cache.geometry.groups → (IsTrue full ↔ (length cache.directory.groups + 1 ≡ cache.geometry.groups)) → full ≡ front_leaves cache
full_is cache full h h2 = grind (arith, common_steps, le-leb, leaves_when)

-- what a push makes of the queue

module _ (cache : FlashCache) (group : List Known) (few : length cache.directory.groups < cache.geometry.groups) (room : 8 ≤ cache.geometry.groups) where
  abbrev queue : Bool → Queue
  queue b = pushed b group cache.directory

  pub pushed_next : (b : Bool) → front_leaves cache ≡ b → (queue b).first + length (queue b).groups ≡ cache.directory.first + length cache.directory.groups + 1
  pushed_next b h = grind (arith, common_steps, leaves_when, length-append)

  pub pushed_few : (b : Bool) → front_leaves cache ≡ b → length (queue b).groups < cache.geometry.groups
  pushed_few b h = grind (arith, common_steps, leaves_when, length-append, stays_when)

  pub pushed_all : (P : List Known → Type 0) (b : Bool) → AllByRecursion P cache.directory.groups → P group → AllByRecursion P (queue b).groups
  pushed_all P b h h2 = grind (arith, common_steps, all_push, all_drop)

-- where no segment is due there is room for a group behind the segments
pub none_is_due : (cache : FlashCache) → is_due cache.ring.hi cache.segments.hi ≡ false → cache.ring.hi ≤ 4 * cache.segments.hi + 4 → cache.ring.hi < 4 * cache.segments.hi + 4
none_is_due cache none high = let other = eqb-false cache.ring.hi (4 * cache.segments.hi + 4) none in omega (arith, high, other)

pub goes_on_pushed : (cache : FlashCache) (heads : List FrameHead) (ring : Ring) (queue : Queue) (old new : State) → Invariant cache old → Preserves old new → AreGroupHeads heads → PagesExist cache.geometry.pages heads
    → ring.shape ≡ cache.ring.shape → ring.hi ≡ cache.ring.hi + 1 → IsUsable ring new → queue ≡ pushed_queue cache (frames_in heads)
    → is_due cache.ring.hi cache.segments.hi ≡ false → Invariant (record cache { ring = ring; directory = queue }) new
goes_on_pushed cache heads ring queue old new going goes are exist shape hi usable is none =
    let group = frames_in heads in
    let room = going.limits.groups in
    let next = going.next in
    let then = pushed_next cache group going.few room (front_leaves cache) refl in
    subst (λ (q : Queue). Invariant (record cache { ring = ring; directory = q }) new) (sym is) (record {
      limits = going.limits;
      lengths = lengths_later cache.geometry old new goes going.lengths;
      rings = record {
        groups_usable = usable;
        segments_usable = usable_later cache.segments old new goes going.rings.segments_usable;
        groups_shape = shape ∙ going.rings.groups_shape;
        segments_shape = going.rings.segments_shape;
        low = let low = going.rings.low in omega (arith, low, hi);
        high = let below = none_is_due cache none going.rings.high in omega (arith, below, hi);
      };
      next = omega (arith, then, next, hi);
      few = pushed_few cache group going.few room (front_leaves cache) refl;
      sizes = pushed_all cache group going.few room (λ frames. (1 ≤ length frames) × (length frames ≤ 8)) (front_leaves cache) going.sizes (size_of_heads heads are);
      exist = pushed_all cache group going.few room (λ frames. AllByRecursion (λ frame. frame.page < cache.geometry.pages) frames) (front_leaves cache) going.exist (exist_in cache.geometry.pages heads exist);
    })

-- the ring of a cache that fits

pub ring_found : (cache : FlashCache) (site : State) → cache.ring.shape ≡ group_shape cache.geometry → Matches cache site → Finds cache.ring site
ring_found cache site shape fits = grind (arith, common_steps)

-- what an append to it has done
pub append_is : (cache : FlashCache) (ring : Ring) (content : List ℕ) (old new : State) → Invariant cache old → length content ≡ 32896 → Preserves old new → ring.shape ≡ cache.ring.shape → IsReady ring new
    → SameOutside cache.ring.shape (region cache.ring.shape old) (region cache.ring.shape new) → OnlyDevice cache.ring.shape.dev old new
    → units_in cache.ring.shape new ≡ appended cache.ring.shape (units_in cache.ring.shape old) content
    → Appends cache.geometry Groups content old.image new.image
append_is cache ring content old new going room goes same ready outside only more =
    let shape = going.rings.groups_shape in
    append_done cache.geometry Groups content old new going.limits going.lengths room (goes.sizes Flash)
    (subst (λ (s : Shape). IsRing s (region s new)) (same ∙ shape) ready.form)
    (subst (λ (s : Shape). SameOutside s (region s old) (region s new)) shape outside)
    (subst (λ (s : Shape). OnlyDevice s.dev old new) shape only)
    (subst (λ (s : Shape). units_in s new ≡ appended s (units_in s old) content) shape more)

-- the cache fits again behind it
pub fits_again : (cache : FlashCache) (ring : Ring) (queue : Queue) (content : List ℕ) (old new : State) → ring.shape ≡ group_shape cache.geometry → IsTrue new.honest → IsReady ring new
    → Appends cache.geometry Groups content old.image new.image → Matches cache old → Matches (record cache { ring = ring; directory = queue }) new
fits_again cache ring queue content old new shape honest ready appends fits =
    let segments = appends.others Segments (λ same. cc) in
    record {
      honest = honest;
      form = subst (λ (s : Shape). IsRing s (region s new)) shape ready.form;
      hi = ready.hi ∙ ap (λ (s : Shape). hi_of s (region s new)) shape;
      segments_form = segments.form fits.segments_form;
      segments_hi = fits.segments_hi ∙ ap (λ (u : Units). u.hi) (sym segments.units);
    }
