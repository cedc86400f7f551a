-- Segments follow the groups, when one more comes.
use Rattle.std.proofs.lemmas.Grind.{common_steps}
use Rattle.std.proofs.Common.{◌≡◌, ℕ, ◌+◌, ◌-◌, ◌*◌, ◌/◌, ◌%◌, ◌<◌, ◌≤◌, ◌⊎◌, inl, inr, ⊎_elim, List, [], ◌∷◌, ◌++◌, length, get_or, drop, ap, sym, ◌∙◌, arith, subst, length-append}
use Rattle.std.proofs.lemmas.Bool.{cases_lt}
use Rattle.std.proofs.lemmas.List.{get_or-drop, get_or_append_left, get_or_push, length-drop}
use Rattle.byte_fields.specs.declared.frame_head.FrameHead.{FrameHead}
use Rattle.meta_segments.specs.Segments.{heads_of_group}
use Rattle.meta_segments.specs.Following.{IsLive, heads_with, Follow}
use Rattle.meta_segments.specs.Laws.{NoneFollow, GroupFollows, SegmentFollows}

abbrev Heads : Type 0
Heads = List FrameHead

size_more : (gone : ℕ) (live : List Heads) (heads : Heads) → length (drop gone (live ++ heads ∷ [])) ≡ length live + 1 - gone
size_more gone live heads = length-drop gone (live ++ heads ∷ []) ∙ ap (λ n. n - gone) (length-append live (heads ∷ []))

-- what was live before, and still is, is the same
pub older_same : (next gone n : ℕ) (live : List Heads) (heads : Heads) → IsLive (next + 1) (drop gone (live ++ heads ∷ [])) n → n < next →
    IsLive next live n × (heads_with (next + 1) (drop gone (live ++ heads ∷ [])) n ≡ heads_with next live n)
older_same next gone n live heads is less = grind (arith, size_more, get_or-drop, get_or, get_or_append_left)

-- the new one
pub newest_is : (next gone : ℕ) (live : List Heads) (heads : Heads) → IsLive (next + 1) (drop gone (live ++ heads ∷ [])) next →
    heads_with (next + 1) (drop gone (live ++ heads ∷ [])) next ≡ heads
newest_is next gone live heads is = grind (arith, size_more, get_or-drop, get_or, get_or_push)

pub none_follow : NoneFollow
none_follow = grind arith

pub group_follows : GroupFollows
group_follows k h gone segments groups heads follow room = grind (arith, common_steps, older_same)

reach : (k h gone n : ℕ) (segments groups : List Heads) (heads : Heads) → Follow k segments h groups → h ≡ 4 * k + 4 → IsLive h groups n →
    (gone ≡ 0) ⊎ (length groups ≤ 4 * length (drop gone (segments ++ heads ∷ []))) → k + 1 ≤ n / 4 + length (drop gone (segments ++ heads ∷ []))
reach k h gone n segments groups heads follow due group (inl none) = grind (arith, size_more, cases_lt)
reach k h gone n segments groups heads follow due group (inr room) = omega (arith, group.not_before, due, room)

pub segment_follows : SegmentFollows
segment_follows k h gone segments groups heads follow due new room = record {
  low = omega (arith, due);
  high = omega (arith, due);
  same = λ n group segment. ⊎_elim
      (λ less. let old = older_same k gone (n / 4) segments heads segment less in
      ap (λ (s : Heads). heads_of_group s (n % 4)) old.1 ∙ follow.same n group old.0)
      (λ le. let last : n / 4 ≡ k = omega (arith, le, segment.before) in
      let here : 4 * k + n % 4 ≡ n = omega (arith, last) in
      ap (λ (s : ℕ). heads_of_group (heads_with (k + 1) (drop gone (segments ++ heads ∷ [])) s) (n % 4)) last
      ∙ ap (λ (s : Heads). heads_of_group s (n % 4)) (newest_is k gone segments heads (subst (IsLive (k + 1) (drop gone (segments ++ heads ∷ []))) last segment))
      ∙ new (n % 4) (omega arith) (subst (IsLive h groups) (sym here) group) ∙ ap (heads_with h groups) here)
      (cases_lt (n / 4) k);
  saved = λ n group less. record { not_before = reach k h gone n segments groups heads follow due group room; before = omega (arith, less) };
}
