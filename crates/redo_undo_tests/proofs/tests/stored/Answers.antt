use Rattle.std.proofs.Common.{arith, ap}
use Rattle.site.specs.declared.geometry.Geometry.{Geometry}
use Rattle.mem_site.specs.MemState.{state_of}
use Rattle.redo_laws.proofs.CallsInSequence.{going_still}
use Rattle.redo_undo_tests.proofs.tests.stored.Goals as goal

pub returns-clause-may : goal.returns-clause-may
returns-clause-may c =
    let sixteen = ap (λ (g : Geometry). g.blocks) c.requires.sizes in
    let sizes = ap (λ (g : Geometry). g.blocks) c.requires.going.sizes in
    record {
      going = record {
        both = going_still c.args.log c.args.pages (state_of c.args.site.now) (state_of c.newest.new.site) c.newest.ensures.reads.preserves c.requires.going;
        blocks = omega (arith, sixteen, c.requires.room);
        bounded = omega arith;
        masters = c.in_ok-masters.ensures.usable;
        shape = c.in_ok-masters.ensures.shape;
      };
      room = omega (arith, sixteen, sizes, c.requires.room);
      few = omega arith;
    }
