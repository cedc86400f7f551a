use Rattle.sealed_ring.proofs.Names.{ℕ, ◌-◌, ◌<◌, length, IsTrue, Ok, ReadsFrom, region, FitsIn, IsLive}
use Rattle.sealed_ring.specs.Judged.{StandsIn}
use Rattle.sealed_ring.proofs.judging.live_stand.Given as goal

abbrev pub invariant-loop-n : goal.invariant-loop-n
invariant-loop-n g l =
    let old = g.S.Site.state l.fn.site in
    let now = g.S.Site.state l.site in
    record {
      fits : FitsIn l.shape (length (region l.shape now));
      stand : IsTrue old.honest → (n : ℕ) → IsLive l.shape l.hi n → n < l.n → StandsIn l.shape l.hi (region l.shape old) n;
      reads : ReadsFrom {T = Unit {0}} (Ok tt) l.shape.dev (l.n - (l.hi - (l.shape.slots - 1))) old now;
    }
