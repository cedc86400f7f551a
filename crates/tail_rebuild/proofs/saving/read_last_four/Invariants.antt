use Rattle.tail_rebuild.proofs.Names.{◌≡◌, ℕ, ◌-◌, ◌*◌, ◌<◌, ◌≤◌, List, length, take, drop, IsTrue, flat_map, Ok, AreGroupHeads, Frame, heads_of, heads_of_group, RingFits, ReadsFlash, HasGroups}
use Rattle.tail_rebuild.proofs.saving.read_last_four.Given as goal

abbrev pub invariant-loop-place : goal.invariant-loop-place
invariant-loop-place g l =
    let old = g.S.Site.state l.fn.site in
    let now = g.S.Site.state l.site in
    record {
      most : l.place ≤ 4;
      size : length l.heads ≡ 32;
      groups : (i : ℕ) → i < l.place → AreGroupHeads (heads_of_group l.heads i);
      front : IsTrue old.honest → RingFits l.groups old → (first : ℕ) (stand : List (List Frame)) → HasGroups l.geometry first stand old.image
          → take (8 * l.place) l.heads ≡ flat_map heads_of (take l.place (drop (length stand - 4) stand));
      reads : ReadsFlash {T = Unit {0}} (Ok tt) l.place old now;
    }
