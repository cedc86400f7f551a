use Rattle.sealed_ring.proofs.Names.{ℕ, ◌-◌, ◌<◌, ◌≤◌, ◌^◌, length, IsTrue, Ok, ReadsFrom, region, FitsIn}
use Rattle.sealed_ring.specs.Near.{IsThere}
use Rattle.sealed_ring.proofs.ring.Ring.scan_near.Given as goal

abbrev pub invariant-loop-hi : goal.invariant-loop-hi
invariant-loop-hi g l =
    let old = g.S.Site.state l.fn.site in
    let now = g.S.Site.state l.site in
    record {
      fits : FitsIn l.shape (length (region l.shape now));
      least : l.first ≤ l.hi;
      bounded : l.hi ≤ 2 ^ 40;
      there : IsTrue old.honest → (n : ℕ) → l.first ≤ n → n < l.hi → IsThere l.shape (region l.shape old) n;
      reads : ReadsFrom {T = Unit {0}} (Ok tt) l.shape.dev (l.hi - l.first) old now;
    }
