-- Segments follow groups where the octets of heads are the same.
use Rattle.std.proofs.lemmas.Grind.{common_steps}
use Rattle.image_form.proofs.Names.{◌≡◌, ℕ, zero, suc, ◌+◌, ◌-◌, ◌*◌, ◌/◌, ◌%◌, ◌≤◌, ◌<◌, min, List, [], ◌∷◌, ◌++◌, length, get_or, map, take, drop, refl, sym, ap, ◌∙◌, subst, arith, take-take, take_all, length-map, get_or-map, AllByRecursion, have_form, spelling_of_all, FrameHead, groups_on, frames_are_in, begins_with_heads, one_heads, Frame, heads_of, frames_in, HasHeads, IsGroup, group_shape, segment_shape, units_on, AreHeadsSaved, IsSegmentOn, IsFormed, SegmentsFollowGroups, live_count, IsLive, hi_of, Image, Geometry, all_at, HasSegments, segment_on, group_on, PagesExist}
use Rattle.std.proofs.Math.Seq.{take-append-add, drop-append-add}
use Rattle.byte_fields.specs.FrameHeads.{spelling}
use Rattle.byte_fields.proofs.HeadParts.{length_spelling}
use Rattle.meta_segments.specs.Segments.{heads_of_group, IsSegment}
use Rattle.meta_segments.specs.Following.{IsLive as Live, heads_with}
use Rattle.checkpoint.specs.declared.master.Master.{Master}
use Rattle.tail_rebuild.proofs.Saved.{segment_count}
use Rattle.image_form.proofs.LiveUnits.{all_live}

-- A part of the octets of heads.

take_spelled : (k : ℕ) (heads : List FrameHead) → take (16 * k) (spelling_of_all heads) ≡ spelling_of_all (take k heads)
take_spelled zero heads = refl
take_spelled (suc k) [] = take_all (16 * suc k) [] (omega arith)
take_spelled (suc k) (head ∷ heads) =
    let size = length_spelling head in
    let next : 16 * suc k ≡ length (spelling head) + 16 * k = omega (arith, size) in
    ap (λ (n : ℕ). take n (spelling head ++ spelling_of_all heads)) next
    ∙ take-append-add (spelling head) (spelling_of_all heads) (16 * k)
    ∙ ap (λ (l : List ℕ). spelling head ++ l) (take_spelled k heads)

none_dropped : (n : ℕ) → drop n (spelling_of_all []) ≡ []
none_dropped zero = refl
none_dropped (suc n) = refl

drop_spelled : (k : ℕ) (heads : List FrameHead) → drop (16 * k) (spelling_of_all heads) ≡ spelling_of_all (drop k heads)
drop_spelled zero heads = grind (arith, common_steps)
drop_spelled (suc k) [] = grind (arith, common_steps, none_dropped)
drop_spelled (suc k) (head ∷ heads) = grind (arith, common_steps, length_spelling, drop-append-add, (drop_spelled k heads))

all_taken : (P : FrameHead → Type 0) (n : ℕ) (xs : List FrameHead) → AllByRecursion P xs → AllByRecursion P (take n xs)
all_taken P zero xs all = tt
all_taken P (suc n) [] all = tt
all_taken P (suc n) (x ∷ xs) all = (all.0, all_taken P n xs all.1)

all_dropped : (P : FrameHead → Type 0) (n : ℕ) (xs : List FrameHead) → AllByRecursion P xs → AllByRecursion P (drop n xs)
all_dropped P zero xs all = all
all_dropped P (suc n) [] all = tt
all_dropped P (suc n) (x ∷ xs) all = all_dropped P n xs all.1

-- octets that heads of a group fill
fill : (octets : List ℕ) (heads : List FrameHead) → length heads ≡ 8 → octets ≡ spelling_of_all heads → take (16 * length heads) octets ≡ spelling_of_all heads
fill octets heads eight is = grind (arith, common_steps, take_all, take_spelled)

-- the heads of a group stand at their place in a segment's content
part_of : (content : List ℕ) (heads : List FrameHead) (i : ℕ) → i < 4 → IsSegment content heads → take 128 (drop (128 * i) content) ≡ spelling_of_all (heads_of_group heads i)
part_of content heads i less is =
    let at : 128 * i ≡ 16 * (8 * i) = omega arith in
    ap (λ (l : List ℕ). take 128 (drop (128 * i) l)) is.spelled
    ∙ ap (λ (n : ℕ). take 128 (drop n (spelling_of_all heads))) at
    ∙ ap (take 128) (drop_spelled (8 * i) heads)
    ∙ take_spelled 8 (drop (8 * i) heads)

has_part : (content : List ℕ) (heads : List FrameHead) (i : ℕ) → i < 4 → IsSegment content heads → HasHeads (take 128 (drop (128 * i) content)) (heads_of_group heads i)
has_part content heads i less is = grind (arith, common_steps, fill, part_of, have_form, all_taken, all_dropped)

-- the heads of a group stand in front of its content
pub heads_in_front : (octets : List ℕ) (heads : List FrameHead) → HasHeads octets heads → HasHeads (take 128 octets) heads
heads_in_front octets heads has = grind (arith, take-take, have_form)

spelled_in_front : (octets : List ℕ) (heads : List FrameHead) → HasHeads octets heads → take 128 octets ≡ spelling_of_all heads
spelled_in_front octets heads has = grind (arith, common_steps)

-- Segments that stand.

module _ (g : Geometry) (segments : List (List FrameHead)) (image : Image) (has : HasSegments g segments image) where
  segment_of : (n : ℕ) → IsLive (segment_shape g) (hi_of (segment_shape g) image.flash) n → IsSegment (segment_on g image n) (heads_with (hi_of (segment_shape g) image.flash) segments n)
  segment_of n live =
      let k : ℕ = hi_of (segment_shape g) image.flash in
      let all = segment_count g segments image has in
      let below = live.below in
      let near = live.near in
      let at : n - (k - (g.groups / 4 + 3 - 1)) ≡ n + length segments - k = omega (arith, all, below, near) in
      let less : n + length segments - k < length segments = omega (arith, all, below, near) in
      let heads = heads_with k segments n in
      let there : segment_on g image n ≡ spelling_of_all heads =
      ap (λ (i : ℕ). get_or (units_on (segment_shape g) image).live i []) at
      ∙ ap (λ (l : List (List ℕ)). get_or l (n + length segments - k) []) has.live
      ∙ get_or-map spelling_of_all segments (n + length segments - k) [] [] less in
      subst (λ (l : List ℕ). IsSegment l heads) (sym there) (all_at (λ hs. IsSegment (spelling_of_all hs) hs) segments (n + length segments - k) [] has.are_segments less)

-- their heads
listed : (g : Geometry) (contents : List (List ℕ)) → AllByRecursion (λ content. (heads : List FrameHead) × IsSegmentOn g.pages content heads) contents →
    (segments : List (List FrameHead)) × AllByRecursion (λ heads. IsSegment (spelling_of_all heads) heads) segments × AllByRecursion (PagesExist g.pages) segments × (contents ≡ map spelling_of_all segments)
listed g [] all = ([], tt, tt, refl)
listed g (content ∷ contents) all =
    let later = listed g contents all.1 in
    let heads = all.0.0 in
    let is = all.0.1.segment in (
      heads ∷ later.0,
      (subst (λ (l : List ℕ). IsSegment l heads) is.spelled is, later.1),
      (all.0.1.exist, later.2),
      (λ i. is.spelled i ∷ later.3 i),
    )

-- The two lists.

module _ (g : Geometry) (m : Master) (image : Image) (formed : IsFormed g m image) where
  abbrev h : ℕ
  h = hi_of (group_shape g) image.flash

  abbrev k : ℕ
  k = hi_of (segment_shape g) image.flash

  abbrev groups : List (List FrameHead)
  groups = map heads_of (groups_on g image)

  listed_count : length (groups_on g image) ≡ min h (g.groups - 1)
  listed_count = length-map (units_on (group_shape g) image).live frames_in ∙ live_count (group_shape g) image.flash

  count : length groups ≡ min h (g.groups - 1)
  count = length-map (groups_on g image) heads_of ∙ listed_count

  own : (n : ℕ) → IsLive (group_shape g) h n → HasHeads (group_on g image n) (heads_with h groups n)
  own n live =
      let found = formed.groups n live in
      let some = formed.sizes.limits.groups in
      let all = count in
      let all' = listed_count in
      let all'' = live_count (group_shape g) image.flash in
      let below = live.below in
      let near = live.near in
      let j : ℕ = n - (h - (g.groups - 1)) in
      let place : n + length groups - h ≡ j = omega (arith, all, below, near, some) in
      let is : heads_with h groups n ≡ heads_of found.0 =
      ap (λ (i : ℕ). get_or groups i []) place
      ∙ get_or-map heads_of (groups_on g image) j [] [] (omega (arith, all', below, near, some))
      ∙ ap heads_of (get_or-map frames_in (units_on (group_shape g) image).live j [] [] (omega (arith, all'', below, near, some)))
      ∙ ap heads_of (frames_are_in (group_on g image n) found.0 found.1.group) in
      subst (HasHeads (group_on g image n)) (sym is) (begins_with_heads (group_on g image n) found.0 found.1.group)

  pub follows : 4 * k ≤ h → h ≤ 4 * k + 4 → ((n : ℕ) → IsLive (group_shape g) h n → n < 4 * k → AreHeadsSaved g image n) → SegmentsFollowGroups g image
  follows low high each =
      let some = formed.sizes.limits.groups in
      let fours = formed.sizes.limits.fours in
      let made = listed g (units_on (segment_shape g) image).live (all_live (λ content. (heads : List FrameHead) × IsSegmentOn g.pages content heads) (segment_shape g) image (omega arith) formed.segments) in
      let has : HasSegments g made.0 image = record { form = formed.rings.segments; are_segments = made.1; exist = made.2; live = made.3 } in
      let all = count in
      let saved = segment_count g made.0 image has in
      record {
        segments = made.0;
        follow = record {
          has = has;
          follow = record {
            low = low;
            high = high;
            same = λ n live there.
                let after = live.not_before in
                let before = live.before in
                let after' = there.not_before in
                let before' = there.before in
                let here : IsLive (group_shape g) h n = record { below = before; near = omega (arith, after, before, all, some) } in
                let segment : IsLive (segment_shape g) k (n / 4) = record { below = before'; near = omega (arith, after', before', saved) } in
                let x = take 128 (drop (128 * (n % 4)) (segment_on g image (n / 4))) in
                one_heads x (heads_of_group (heads_with k made.0 (n / 4)) (n % 4)) (heads_with h groups n)
                (has_part (segment_on g image (n / 4)) (heads_with k made.0 (n / 4)) (n % 4) (omega arith) (segment_of g made.0 image has (n / 4) segment))
                (subst (λ (l : List ℕ). HasHeads l (heads_with h groups n)) (each n here (omega (arith, before'))) (heads_in_front (group_on g image n) (heads_with h groups n) (own n here)));
            saved = λ n live less.
                let after = live.not_before in
                record { not_before = omega (arith, after, less, all, saved, low, high, fours, some); before = omega (arith, less) };
          };
        };
      }

  pub saved : SegmentsFollowGroups g image → (4 * k ≤ h) × (h ≤ 4 * k + 4) × ((n : ℕ) → IsLive (group_shape g) h n → n < 4 * k → AreHeadsSaved g image n)
  saved rule =
      let some = formed.sizes.limits.groups in
      let follow = rule.follow.follow in
      let has = rule.follow.has in
      let all = count in
      let kept = segment_count g rule.segments image has in (
        follow.low,
        follow.high,
        λ n here less.
            let below = here.below in
            let near = here.near in
            let live : Live h groups n = record { not_before = omega (arith, below, near, all, some); before = below } in
            let there = follow.saved n live less in
            let after' = there.not_before in
            let before' = there.before in
            let segment : IsLive (segment_shape g) k (n / 4) = record { below = before'; near = omega (arith, after', before', kept) } in
            spelled_in_front (group_on g image n) (heads_with h groups n) (own n here)
            ∙ ap spelling_of_all (sym (follow.same n live there))
            ∙ sym (part_of (segment_on g image (n / 4)) (heads_with k rule.segments (n / 4)) (n % 4) (omega arith) (segment_of g rule.segments image has (n / 4) segment)),
      )

-- the heads that the front of a group's content has
pub heads_of_part : (content octets : List ℕ) (frames : List Frame) (heads : List FrameHead) → octets ≡ take 128 (drop 0 content) → IsGroup content frames → HasHeads octets heads → heads ≡ heads_of frames
heads_of_part content octets frames heads is group has =
    one_heads octets heads (heads_of frames) has (subst (λ (o : List ℕ). HasHeads o (heads_of frames)) (sym is) (heads_in_front content (heads_of frames) (begins_with_heads content frames group)))

pub no_heads_of_part : (content octets : List ℕ) (frames : List Frame) → octets ≡ take 128 (drop 0 content) → IsGroup content frames → ((heads : List FrameHead) → HasHeads octets heads → ⊥) → ⊥
no_heads_of_part content octets frames is group none =
    none (heads_of frames) (subst (λ (o : List ℕ). HasHeads o (heads_of frames)) (sym is) (heads_in_front content (heads_of frames) (begins_with_heads content frames group)))
