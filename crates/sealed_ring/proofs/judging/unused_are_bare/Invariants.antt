use Rattle.sealed_ring.proofs.Names.{◌≢◌, ◌+◌, ◌-◌, ◌%◌, ℕ, ◌≤◌, ◌<◌, length, IsTrue, Ok, ReadsFrom, region, FitsIn}
use Rattle.sealed_ring.specs.Ring.{number}
use Rattle.sealed_ring.proofs.judging.unused_are_bare.Given as goal

abbrev pub invariant-loop-slot : goal.invariant-loop-slot
invariant-loop-slot g l =
    let old = g.S.Site.state l.fn.site in
    let now = g.S.Site.state l.site in
    record {
      fits : FitsIn l.shape (length (region l.shape now));
      bare : IsTrue old.honest → (j : ℕ) → l.hi < j → j < l.slot → number l.shape (region l.shape old) j % l.shape.slots ≢ j;
      within : l.slot - (l.hi + 1) ≤ l.shape.slots - (l.hi + 1);
      reads : ReadsFrom {T = Unit {0}} (Ok tt) l.shape.dev (l.slot - (l.hi + 1)) old now;
    }
