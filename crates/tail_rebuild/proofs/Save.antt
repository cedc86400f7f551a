-- A segment is appended, where one is due.
use Rattle.tail_rebuild.proofs.Names.{◌≡◌, ◌⊎◌, inl, inr, ℕ, ◌+◌, ◌*◌, Bool, true, false, List, [], ◌∷◌, length, refl, sym, ap, subst, ◌∙◌, arith, Ok, Err, slice_index, spelling_of_all, FrameHead, Frame, Groups, Segments, group_shape, segment_shape, octets_of, region, units_in, IsReady, Finds, LeavesOldOrNew, Units, IsRing, SameOutside, appended, hi_of, Ring, Shape, in_sequence, holds_now, leaves_weaker, quiet_leaves, unchanged, unchanged_calm, no_call, quiet_settled, HasLimits, HasLengths, Leaves, LeavesOnly, OnlyDevice, SameBut, ChangesOnly, State, Snapshot, IsQuiet, Geometry, Flash, Stop, AreRings, is_due, segment_of, changes_of_save, saved_after, Stands, Saves, IsInNoSlot, LeavesGaps}
use Rattle.std.specs.Prelude.{IsTrue}
use Rattle.site.specs.declared.outside.Dev.{Dev}
use Rattle.site.specs.Calls.{Preserves, IsUnchanged}
use Rattle.image_changes.specs.Changes.{Change, AppendsSegment, ReadsAs, Appends, Reaches}
use Rattle.image_changes.specs.Reached.{IsReached, IsFrontOf, LeavesFront}
use Rattle.image_changes.specs.Laws.{KeepsOrAppends}
use Rattle.image_changes.proofs.AppendLaws.{append_makes, append_done}
use Rattle.image_changes.proofs.Adding.{none_made, fronts_add_up}
use Rattle.image_changes.proofs.Sequence.{reads_itself}
use Rattle.tail_rebuild.proofs.Following.{segment_saved}
use Rattle.tail_rebuild.proofs.Standing.{fits_again}

-- The octets between the slots.

-- while nothing is written
pub gaps_unchanged : (g : Geometry) (old new : State) → IsQuiet old → IsUnchanged old new → LeavesGaps g old new
gaps_unchanged g old new quiet same =
    let P = λ (s : Snapshot). (p : ℕ) → IsInNoSlot (group_shape g) p → IsInNoSlot (segment_shape g) p → slice_index s.image.flash p ≡ slice_index old.image.flash p in
    unchanged_calm old old new (Leaves P) (no_call old (Leaves P) (λ s left. subst P (sym (quiet_leaves old s quiet left)) (λ p groups segments. refl))) same

-- calls one after the other
pub gaps_then : (g : Geometry) (old mid new : State) → LeavesGaps g old mid → LeavesGaps g mid new → LeavesGaps g old new
gaps_then g old mid new first later =
    let P = λ (c : List ℕ) (s : Snapshot). (p : ℕ) → IsInNoSlot (group_shape g) p → IsInNoSlot (segment_shape g) p → slice_index s.image.flash p ≡ slice_index c p in
    in_sequence old mid new (Leaves (P old.image.flash)) first
    (leaves_weaker mid new (P mid.image.flash) (P old.image.flash) (λ s is p groups segments. is p groups segments ∙ holds_now old mid (P old.image.flash) first p groups segments) later)

-- an append to one of the two rings
pub gaps_appended : (g : Geometry) (content : List ℕ) (old new : State) → LeavesOnly old new (LeavesOldOrNew (group_shape g) old.image.flash content) ⊎ LeavesOnly old new (LeavesOldOrNew (segment_shape g) old.image.flash content) → LeavesGaps g old new
gaps_appended g content old new (inl leaves) = leaves_weaker old new (LeavesOldOrNew (group_shape g) old.image.flash content) _ (λ s is p groups segments. is.outside p groups) leaves
gaps_appended g content old new (inr leaves) = leaves_weaker old new (LeavesOldOrNew (segment_shape g) old.image.flash content) _ (λ s is p groups segments. is.outside p segments) leaves

-- where no segment is due nothing is called
pub none_saved : (g : Geometry) (groups segments : Ring) (first : ℕ) (stand : List (List Frame)) (saved : List (List FrameHead)) (site : State) → is_due groups.hi segments.hi ≡ false
    → Stands g groups segments first stand saved site → Saves g groups segments segments first stand saved site site (Ok tt)
none_saved g groups segments first stand saved site none stands = record {
  any_moment = λ quiet. subst (λ (b : Bool). LeavesFront g (changes_of_save b stand) site site) (sym none) (none_made g (IsFrontOf []) site site quiet ([], refl) (unchanged site));
  gaps = λ quiet. gaps_unchanged g site site quiet (unchanged site);
  reaches = subst (λ (b : Bool). Reaches g (changes_of_save b stand) site.image site.image) (sym none) (reads_itself g site.image);
  stands = subst (λ (b : Bool). Stands g groups segments first stand (saved_after b g stand saved) site) (sym none) stands;
}

-- where a head can't be read no change is made
pub read_failed : (g : Geometry) (groups segments : Ring) (first : ℕ) (stand : List (List Frame)) (saved : List (List FrameHead)) (old new : State) (stop : Stop) → IsUnchanged old new
    → Saves g groups segments segments first stand saved old new (Err stop)
read_failed g groups segments first stand saved old new stop same = record {
  any_moment = λ quiet. none_made g (IsFrontOf (changes_of_save (is_due groups.hi segments.hi) stand)) old new quiet (changes_of_save (is_due groups.hi segments.hi) stand, refl) same;
  gaps = λ quiet. gaps_unchanged g old new quiet same;
  reaches = tt;
  stands = tt;
}

-- an append of a segment leaves none or all of its change
append_front : (g : Geometry) (bytes : List ℕ) (old new : State) → HasLimits g → HasLengths g old.image → IsQuiet old → length bytes ≡ 512
    → LeavesOnly old new (LeavesOldOrNew (segment_shape g) (octets_of (segment_shape g) old.image) bytes) → OnlyDevice Flash old new → LeavesFront g (AppendsSegment bytes ∷ []) old new
append_front g bytes old new limits lengths quiet size leaves only =
    leaves_weaker old new (KeepsOrAppends g Segments bytes old) (IsReached g (IsFrontOf (AppendsSegment bytes ∷ [])) old) (λ snapshot k. reached snapshot k k.either)
    (append_makes g Segments bytes old new limits lengths quiet size leaves only)
  where
    reached : (snapshot : Snapshot) → KeepsOrAppends g Segments bytes old snapshot → ReadsAs g old.image snapshot.image ⊎ Appends g Segments bytes old.image snapshot.image →
        IsReached g (IsFrontOf (AppendsSegment bytes ∷ [])) old snapshot
    reached snapshot k (inl reads) = record { told = k.told; changes = []; made = (AppendsSegment bytes ∷ [], refl); reaches = reads }
    reached snapshot k (inr appends) = record { told = k.told; changes = AppendsSegment bytes ∷ []; made = ([], refl); reaches = (snapshot.image, appends, reads_itself g snapshot.image) }

-- behind calls that changed nothing
front_behind : (g : Geometry) (changes : List Change) (a b c : State) → IsQuiet a → IsUnchanged a b → LeavesFront g changes b c → LeavesFront g changes a c
front_behind g changes a b c quiet same later =
    fronts_add_up g [] changes a b c (none_made g (IsFrontOf []) a b quiet ([], refl) same) (subst (Reaches g [] a.image) (sym same.image) (reads_itself g a.image)) same.told later

-- The heads of the last four groups were read, and are appended.
module _ (g : Geometry) (groups segments : Ring) (first : ℕ) (stand : List (List Frame)) (saved : List (List FrameHead)) (old mid : State) (limits : HasLimits g) (lengths : HasLengths g old.image)
    (rings : AreRings g groups segments old) (due : is_due groups.hi segments.hi ≡ true) (same : IsUnchanged old mid) (stands : Stands g groups segments first stand saved old) where
  abbrev bytes : List ℕ
  bytes = spelling_of_all (segment_of stand)

  -- the ring of segments, where it is to be appended to
  pub finds_mid : Finds segments mid
  finds_mid = grind (arith, fits_again)

  pub ready_mid : IsQuiet old → IsReady segments mid
  ready_mid quiet = record { settled = quiet_settled segments.shape.dev mid (same.loose ∙ quiet); form = finds_mid.form; hi = finds_mid.hi }

  pub moments : (new : State) (content : List ℕ) → content ≡ bytes → length content ≡ 512 → LeavesOnly mid new (LeavesOldOrNew segments.shape (region segments.shape mid) content) → OnlyDevice segments.shape.dev mid new
      → IsQuiet old → LeavesFront g (changes_of_save (is_due groups.hi segments.hi) stand) old new
  moments new content is size leaves only quiet =
      subst (λ (b : Bool). LeavesFront g (changes_of_save b stand) old new) (sym due)
      (subst (λ (l : List ℕ). LeavesFront g (AppendsSegment l ∷ []) old new) is
      (front_behind g (AppendsSegment content ∷ []) old mid new quiet same
      (append_front g content mid new limits (subst (HasLengths g) (sym same.image) lengths) (same.loose ∙ quiet) size
      (subst (λ (s : Shape). LeavesOnly mid new (LeavesOldOrNew s (region s mid) content)) rings.segments_shape leaves)
      (subst (λ (s : Shape). OnlyDevice s.dev mid new) rings.segments_shape only))))

  pub save_gaps : (new : State) (content : List ℕ) → LeavesOnly mid new (LeavesOldOrNew segments.shape (region segments.shape mid) content) → IsQuiet old → LeavesGaps g old new
  save_gaps new content leaves quiet =
      let moved = subst (λ (s : Shape). LeavesOnly mid new (LeavesOldOrNew s (region s mid) content)) rings.segments_shape leaves in
      gaps_then g old mid new (gaps_unchanged g old mid quiet same) (gaps_appended g content mid new (inr moved))

  module _ (new : State) (ring : Ring) (content : List ℕ) (is : content ≡ bytes) (size : length content ≡ 512) (goes : Preserves mid new) (shape : ring.shape ≡ segments.shape) (ready : IsReady ring new)
      (outside : SameOutside segments.shape (region segments.shape mid) (region segments.shape new)) (only : OnlyDevice segments.shape.dev mid new)
      (units : units_in segments.shape new ≡ appended segments.shape (units_in segments.shape mid) content) (honest : IsTrue new.honest) where
    appends : Appends g Segments bytes old.image new.image
    appends =
        subst (λ (l : List ℕ). Appends g Segments l old.image new.image) is (subst (λ i. Appends g Segments content i new.image) same.image
        (append_done g Segments content mid new limits (subst (HasLengths g) (sym same.image) lengths) size (goes.sizes Flash)
        (subst (λ (s : Shape). IsRing s (region s new)) (shape ∙ rings.segments_shape) ready.form)
        (subst (λ (s : Shape). SameOutside s (region s mid) (region s new)) rings.segments_shape outside)
        (subst (λ (s : Shape). OnlyDevice s.dev mid new) rings.segments_shape only)
        (subst (λ (s : Shape). units_in s new ≡ appended s (units_in s mid) content) rings.segments_shape units)))

    pub reached : Reaches g (changes_of_save (is_due groups.hi segments.hi) stand) old.image new.image
    reached = subst (λ (b : Bool). Reaches g (changes_of_save b stand) old.image new.image) (sym due) (new.image, appends, reads_itself g new.image)

    pub stands_behind : groups.hi ≡ 4 * segments.hi + 4 → Stands g groups ring first stand (saved_after (is_due groups.hi segments.hi) g stand saved) new
    stands_behind is_next =
        let groups_hi : groups.hi ≡ hi_of (group_shape g) old.image.flash = stands.groups_fit ∙ ap (λ (s : Shape). hi_of s (region s old)) rings.groups_shape in
        let segments_hi : segments.hi ≡ hi_of (segment_shape g) old.image.flash = stands.segments_fit ∙ ap (λ (s : Shape). hi_of s (region s old)) rings.segments_shape in
        let both = segment_saved g first stand saved old.image new.image limits (omega (arith, groups_hi, segments_hi, is_next)) appends stands.has stands.holds in
        let next = both.0.next in
        let before = stands.has.next in
        let again : groups.hi ≡ hi_of (group_shape g) new.image.flash = omega (arith, groups_hi, next, before) in
        subst (λ (b : Bool). Stands g groups ring first stand (saved_after b g stand saved) new) (sym due) (record {
          honest = honest;
          groups_fit = again ∙ ap (λ (s : Shape). hi_of s (region s new)) (sym rings.groups_shape);
          segments_fit = ready.hi;
          has = both.0;
          holds = both.1;
        })

-- calls that changed nothing changed no other device
pub unchanged_changes : (dev : Dev) (old new : State) → IsUnchanged old new → ChangesOnly dev old new
unchanged_changes dev old new same = record {
  only = unchanged_calm old old new (SameBut dev old) (no_call old (SameBut dev old) (record { told = refl; telling = refl; content = λ d ne. refl; loose = λ d ne. refl })) same;
  left = same.left;
}

-- rings that were found are there still, where only counts changed
pub finds_later : (ring : Ring) (old mid : State) → mid.image ≡ old.image → Finds ring old → Finds ring mid
finds_later ring old mid same finds = grind (arith, fits_again)

-- both rings are found behind an append to that of the segments
pub both_found : (g : Geometry) (groups segments ring : Ring) (mid new : State) (content : List ℕ) → HasLimits g → HasLengths g mid.image → groups.shape ≡ group_shape g → segments.shape ≡ segment_shape g → length content ≡ 512 → Preserves mid new
    → ring.shape ≡ segments.shape → IsReady ring new → SameOutside segments.shape (region segments.shape mid) (region segments.shape new) → OnlyDevice segments.shape.dev mid new
    → units_in segments.shape new ≡ appended segments.shape (units_in segments.shape mid) content → Finds groups mid → Finds groups new × Finds ring new
both_found g groups segments ring mid new content limits lengths groups_shape segments_shape size goes shape ready outside only units finds =
    let appends : Appends g Segments content mid.image new.image =
    append_done g Segments content mid new limits lengths size (goes.sizes Flash)
    (subst (λ (s : Shape). IsRing s (region s new)) (shape ∙ segments_shape) ready.form)
    (subst (λ (s : Shape). SameOutside s (region s mid) (region s new)) segments_shape outside)
    (subst (λ (s : Shape). OnlyDevice s.dev mid new) segments_shape only)
    (subst (λ (s : Shape). units_in s new ≡ appended s (units_in s mid) content) segments_shape units) in
    let here = appends.others Groups (λ same. cc) in (
      record {
        form = subst (λ (s : Shape). IsRing s (region s new)) (sym groups_shape) (here.form (subst (λ (s : Shape). IsRing s (region s mid)) groups_shape finds.form));
        hi = finds.hi ∙ ap (λ (s : Shape). hi_of s (region s mid)) groups_shape ∙ ap (λ (u : Units). u.hi) (sym here.units) ∙ ap (λ (s : Shape). hi_of s (region s new)) (sym groups_shape);
      },
      record { form = ready.form; hi = ready.hi },
    )
