use Rattle.tail_rebuild.proofs.Names.{◌≡◌, ℕ, ◌+◌, ◌-◌, ◌≤◌, List, length, map, IsTrue, All, Ok, Frame, heads_of, RingFits, AreHeadsIn, IsFront, ReadsFlash, HasGroups}
use Rattle.tail_rebuild.proofs.listing.list_tail.Given as goal

abbrev pub invariant-loop-group : goal.invariant-loop-group
invariant-loop-group g l =
    let old = g.S.Site.state l.fn.site in
    let now = g.S.Site.state l.site in
    record {
      least : length l.fn.list.items ≤ length l.list.items;
      count : (l.groups.hi - (l.groups.shape.slots - 1)) + length l.list.items ≡ l.group;
      listed : All (AreHeadsIn l.geometry.pages) l.list.items;
      front : IsTrue old.honest → RingFits l.groups old → (first : ℕ) (stand : List (List Frame)) → HasGroups l.geometry first stand old.image
          → IsFront (map heads_of stand) l.fn.list.items → IsFront (map heads_of stand) l.list.items;
      reads : ReadsFlash {T = Unit {0}} (Ok tt) (length l.list.items - length l.fn.list.items) old now;
    }
