use Rattle.flash_cache.proofs.Names.{◌≡◌, length, map, take, Ok, page_at, units_in, RingFits, unit_at, Flash}
use Rattle.std.proofs.Common.{IsTrue}
use Rattle.sealed_ring.specs.Reading.{ReadsFrom}
use Rattle.flash_cache.proofs.leaving.contents_at.Given as goal

abbrev pub invariant-loop-index : goal.invariant-loop-index
invariant-loop-index g l =
    let old = g.S.Site.state l.fn.site in
    let now = g.S.Site.state l.site in
    record {
      contents : IsTrue old.honest → RingFits l.ring old → l.contents.items ≡ map (page_at (unit_at l.ring.shape (units_in l.ring.shape old) l.group)) (take l.index l.places);
      count : length l.contents.items ≡ l.index;
      reads : ReadsFrom {T = Unit {0}} (Ok tt) Flash l.index old now;
    }
