-- Groups and segments when one more comes.
use Rattle.tail_rebuild.proofs.Names.{◌≡◌, ◌⊎◌, inl, inr, ℕ, zero, suc, ◌+◌, ◌-◌, ◌*◌, ◌/◌, ◌<◌, ◌≤◌, List, [], ◌∷◌, ◌++◌, length, get_or, map, drop, refl, sym, ap, subst, ◌∙◌, arith, cases_lt, length-map, length-append, length-drop, map-append, drop-map, get_or-drop, get_or-map, AllByRecursion, flat_map, spelling_of_all, FitsFields, AreGroupHeads, FrameHead, heads_are_group, begins_with_heads, Frame, group, heads_of, Groups, Segments, group_shape, segment_shape, KeepsUnits, heads_of_group, IsSegment, Units, hi_of, last_of, Image, Geometry, all_push, all_drop, all_at, segment_of, with_segment, HasFrames, HasGroups, HasSegments, HasSaved, PagesExist}
use Rattle.meta_segments.specs.Following.{IsLive, heads_with, Follow}
use Rattle.meta_segments.proofs.Numbers.{group_follows, segment_follows}
use Rattle.tail_rebuild.specs.Laws.{StandsAgain, SegmentSaved, GroupPushed, with_group}
use Rattle.tail_rebuild.proofs.Fours.{group_of_flat, length_flat, all_flat}
use Rattle.tail_rebuild.proofs.Standing.{count, group_exists}
use Rattle.tail_rebuild.proofs.Saved.{segment_count}

-- A ring that has the same units.

pub groups_again : (g : Geometry) (first : ℕ) (groups : List (List Frame)) (old new : Image) → KeepsUnits (group_shape g) old new → HasGroups g first groups old → HasGroups g first groups new
groups_again g first groups old new keeps has = grind arith

segments_again : (g : Geometry) (segments : List (List FrameHead)) (old new : Image) → KeepsUnits (segment_shape g) old new → HasSegments g segments old → HasSegments g segments new
segments_again g segments old new keeps has = grind arith

pub saved_again : (g : Geometry) (groups : List (List Frame)) (segments : List (List FrameHead)) (old new : Image) → KeepsUnits (group_shape g) old new → KeepsUnits (segment_shape g) old new
    → HasSaved g groups segments old → HasSaved g groups segments new
saved_again g groups segments old new here there holds = grind (arith, segments_again)

pub stands_again : StandsAgain
stands_again g first groups segments old new same has holds =
    (groups_again g first groups old new (same.rings Groups) has, saved_again g groups segments old new (same.rings Groups) (same.rings Segments) holds)

-- Lists of units with one more.

-- as many live as can
live_more : {X : Type 0} (f : X → List ℕ) (xs : List X) (x : X) (m n : ℕ) → m ≡ n → last_of m (map f xs ++ f x ∷ []) ≡ map f (drop (length xs + 1 - n) (xs ++ x ∷ []))
live_more f xs x m n same =
    let all : map f xs ++ f x ∷ [] ≡ map f (xs ++ x ∷ []) = sym (map-append f xs (x ∷ [])) in
    let long : length (map f xs ++ f x ∷ []) - m ≡ length xs + 1 - n = let mapped = length-map xs f in let more = length-append (map f xs) (f x ∷ []) in omega (arith, mapped, more, same) in
    (λ i. drop (long i) (all i)) ∙ drop-map f (length xs + 1 - n) (xs ++ x ∷ [])

-- the heads of the groups of a segment

frames_eight : (g : Geometry) (frames : List Frame) → HasFrames g frames (group frames) → length (heads_of frames) ≡ 8
frames_eight g frames has = (heads_are_group frames has.is_group.some has.is_group.room).eight

last_four : (g : Geometry) (groups : List (List Frame)) → AllByRecursion (λ frames. HasFrames g frames (group frames)) groups → 4 ≤ length groups → (i : ℕ) → i < 4
    → heads_of_group (segment_of groups) i ≡ heads_of (get_or groups (length groups - 4 + i) [])
last_four g groups all four i less = grind (arith, length-drop, group_of_flat, frames_eight, all_drop, get_or-drop)

pub are_segment : (g : Geometry) (groups : List (List Frame)) → AllByRecursion (λ frames. HasFrames g frames (group frames)) groups → 4 ≤ length groups → IsSegment (spelling_of_all (segment_of groups)) (segment_of groups)
are_segment g groups all four =
    let n = length groups - 4 in
    let long = length-drop n groups in
    let last = all_drop (λ frames. HasFrames g frames (group frames)) n groups all in
    record {
      spelled = refl;
      are_heads = record {
        size = let each = length_flat heads_of (λ frames. HasFrames g frames (group frames)) (drop n groups) (λ frames has. frames_eight g frames has) last in omega (arith, each, long, four);
        groups = λ i less.
            let own = all_at (λ frames. HasFrames g frames (group frames)) groups (n + i) [] all (omega (arith, four, less)) in
            subst AreGroupHeads (sym (last_four g groups all four i less)) (heads_are_group (get_or groups (n + i) []) own.is_group.some own.is_group.room);
      };
      fit_fields = all_flat heads_of (λ frames. HasFrames g frames (group frames)) FitsFields (drop n groups) (λ frames has. (begins_with_heads (group frames) frames has.is_group).at_front.fit_fields) last;
    }

exist_both : (pages : ℕ) (xs ys : List FrameHead) → PagesExist pages xs → PagesExist pages ys → PagesExist pages (xs ++ ys)
exist_both pages [] ys first second k d lt = second k d lt
exist_both pages (x ∷ xs) ys first second zero d lt = first zero d (omega arith)
exist_both pages (x ∷ xs) ys first second (suc k) d lt = exist_both pages xs ys (λ i e less. first (suc i) e (omega (arith, less))) second k d (omega (arith, lt))

exist_flat : (g : Geometry) (groups : List (List Frame)) → AllByRecursion (λ frames. HasFrames g frames (group frames)) groups → PagesExist g.pages (flat_map heads_of groups)
exist_flat g [] all k d lt = absurd (omega (arith, lt))
exist_flat g (frames ∷ groups) all k d lt = exist_both g.pages (heads_of frames) (flat_map heads_of groups) (group_exists g frames (group frames) all.0) (exist_flat g groups all.1) k d lt

pages_exist : (g : Geometry) (groups : List (List Frame)) → AllByRecursion (λ frames. HasFrames g frames (group frames)) groups → PagesExist g.pages (segment_of groups)
pages_exist g groups all = exist_flat g (drop (length groups - 4) groups) (all_drop (λ frames. HasFrames g frames (group frames)) (length groups - 4) groups all)

-- A segment that is due is saved.

pub segment_saved : SegmentSaved
segment_saved g first groups segments old new limits due appends has holds =
    let k = hi_of (segment_shape g) old.flash in
    let h = hi_of (group_shape g) old.flash in
    let all = map heads_of groups in
    let heads = segment_of groups in
    let gone = length segments + 1 - (g.groups / 4 + 2) in
    let many = count g first groups old has in
    let few = segment_count g segments old holds.has in
    let eight = limits.groups in
    let fours = limits.fours in
    let size = length-map groups heads_of in
    let four : 4 ≤ length groups = omega (arith, many, due, eight) in
    let here = appends.others Groups (λ h. cc) in
    let next : hi_of (segment_shape g) new.flash ≡ k + 1 = ap (λ (u : Units). u.hi) appends.units in
    let same : hi_of (group_shape g) new.flash ≡ h = ap (λ (u : Units). u.hi) here.units in
    let long = length-drop gone (segments ++ heads ∷ []) in
    let more = length-append segments (heads ∷ []) in
    let room : (gone ≡ 0) ⊎ (length all ≤ 4 * length (drop gone (segments ++ heads ∷ []))) = elim (cases_lt (g.groups / 4 + 2) (length segments + 1)) [
      | inl over ↦ inr (omega (arith, over, long, more, size, many, fours))
      | inr under ↦ inl (omega (arith, under))
    ] in
    let own : (i : ℕ) → i < 4 → IsLive h all (4 * k + i) → heads_of_group heads i ≡ heads_with h all (4 * k + i) = λ i less live.
    let place : 4 * k + i + length all - h ≡ length groups - 4 + i = omega (arith, size, due, four) in
    last_four g groups has.are_groups four i less ∙ sym (get_or-map heads_of groups (length groups - 4 + i) [] [] (omega (arith, four, less))) ∙ sym (ap (λ (n : ℕ). get_or all n []) place) in
    let follow = segment_follows k h gone segments all heads holds.follow due own room in (
      groups_again g first groups old new here has,
      record {
        has = record {
          form = appends.form;
          are_segments = all_drop (λ hs. IsSegment (spelling_of_all hs) hs) gone (segments ++ heads ∷ [])
              (all_push (λ hs. IsSegment (spelling_of_all hs) hs) segments heads holds.has.are_segments (are_segment g groups has.are_groups four));
          exist = all_drop (PagesExist g.pages) gone (segments ++ heads ∷ [])
              (all_push (PagesExist g.pages) segments heads holds.has.exist (pages_exist g groups has.are_groups));
          live = ap (λ (u : Units). u.live) appends.units ∙ ap (λ (l : List (List ℕ)). last_of (g.groups / 4 + 3 - 1) (l ++ spelling_of_all heads ∷ [])) holds.has.live
              ∙ live_more spelling_of_all segments heads (g.groups / 4 + 3 - 1) (g.groups / 4 + 2) (omega arith);
        };
        follow = subst (λ (n : ℕ). Follow (hi_of (segment_shape g) new.flash) (with_segment g segments heads) n all) (sym same)
            (subst (λ (n : ℕ). Follow n (with_segment g segments heads) h all) (sym next) follow);
      },
    )

-- A group is pushed while no segment is due.

pub group_pushed : GroupPushed
group_pushed g first groups segments frames old new limits room own appends has holds =
    let k = hi_of (segment_shape g) old.flash in
    let h = hi_of (group_shape g) old.flash in
    let gone = length groups + 1 - (g.groups - 1) in
    let there = appends.others Segments (λ h. cc) in
    let next : hi_of (group_shape g) new.flash ≡ h + 1 = ap (λ (u : Units). u.hi) appends.units in
    let same : hi_of (segment_shape g) new.flash ≡ k = ap (λ (u : Units). u.hi) there.units in
    let long = length-drop gone (groups ++ frames ∷ []) in
    let more = length-append groups (frames ∷ []) in
    let eight = limits.groups in
    let before = has.next in
    let heads : drop gone (map heads_of groups ++ heads_of frames ∷ []) ≡ map heads_of (with_group g groups frames) =
    ap (drop gone) (sym (map-append heads_of groups (frames ∷ []))) ∙ drop-map heads_of gone (groups ++ frames ∷ []) in
    let follow = group_follows k h gone segments (map heads_of groups) (heads_of frames) holds.follow room in (
      record {
        form = appends.form;
        next = omega (arith, long, more, next, before, eight);
        are_groups = all_drop (λ fs. HasFrames g fs (group fs)) gone (groups ++ frames ∷ []) (all_push (λ fs. HasFrames g fs (group fs)) groups frames has.are_groups own);
        live = ap (λ (u : Units). u.live) appends.units ∙ ap (λ (l : List (List ℕ)). last_of (g.groups - 1) (l ++ group frames ∷ [])) has.live
            ∙ live_more group groups frames (g.groups - 1) (g.groups - 1) refl;
      },
      record {
        has = segments_again g segments old new there holds.has;
        follow = subst (λ (l : List (List FrameHead)). Follow (hi_of (segment_shape g) new.flash) segments (hi_of (group_shape g) new.flash) l) heads
            (subst (λ (n : ℕ). Follow (hi_of (segment_shape g) new.flash) segments n (drop gone (map heads_of groups ++ heads_of frames ∷ []))) (sym next)
            (subst (λ (n : ℕ). Follow n segments (h + 1) (drop gone (map heads_of groups ++ heads_of frames ∷ []))) (sym same) follow));
      },
    )
