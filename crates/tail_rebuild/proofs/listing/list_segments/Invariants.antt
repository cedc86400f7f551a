use Rattle.tail_rebuild.proofs.Names.{◌≡◌, ℕ, ◌+◌, ◌-◌, ◌*◌, ◌/◌, ◌≤◌, max, List, length, map, IsTrue, All, Ok, FrameHead, Frame, heads_of, RingFits, AreHeadsIn, IsFront, ReadsFlash, HasGroups, HasSaved}
use Rattle.tail_rebuild.proofs.listing.list_segments.Given as goal

abbrev pub invariant-loop-segment : goal.invariant-loop-segment
invariant-loop-segment g l =
    let old = g.S.Site.state l.fn.site in
    let now = g.S.Site.state l.site in
    record {
      least : l.first / 4 ≤ l.segment;
      most : l.segment ≤ max (l.first / 4) l.segments.hi;
      listed : All (AreHeadsIn l.geometry.pages) l.list.items;
      count : l.first + length l.list.items ≡ max l.first (4 * l.segment);
      front : IsTrue old.honest → RingFits l.segments old → RingFits l.groups old → (first : ℕ) (stand : List (List Frame)) (saved : List (List FrameHead))
          → HasGroups l.geometry first stand old.image → HasSaved l.geometry stand saved old.image → IsFront (map heads_of stand) l.list.items;
      reads : ReadsFlash {T = Unit {0}} (Ok tt) (l.segment - l.first / 4) old now;
    }

abbrev pub decreases-loop-segment : goal.decreases-loop-segment
decreases-loop-segment g l = l.segments.hi - l.segment
