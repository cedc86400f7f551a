use Rattle.std.proofs.Common.{arith, ap}
use Rattle.site.specs.declared.geometry.Geometry.{Geometry}
use Rattle.redo_undo_tests.proofs.tests.committed.Goals as goal

pub returns-clause-may : goal.returns-clause-may
returns-clause-may c =
    let works = c.in_ok-commit.ensures.works in
    let sizes = ap (λ (g : Geometry). g.blocks) works.sizes in
    record {
      going = works.going;
      room = omega (arith, works.blocks, works.kept, sizes, c.in_ok-store.ensures.room);
      few = omega (arith, works.made, c.in_ok-store.ensures.made);
    }
