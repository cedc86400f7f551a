use Rattle.flash_directory.proofs.Names.{nat_eq, arith, get}
use Rattle.flash_directory.proofs.Keeping.{entered_more}
use Rattle.flash_directory.proofs.places.enter_group.Goals as goal

pub loop-index-preserved : goal.loop-index-preserved
loop-index-preserved c = record {
  entered = λ n. entered_more c.args.number c.as_slice-frame-items.result.now c.loop-index.index _ n (get nat_eq c.args.places.now n) (get nat_eq c.loop-index.places n)
      (get nat_eq c.insert.new.self n) c.loop-index-test.true (c.loop-index.invariant.entered n) (c.in-Ok.ensures.updates.0 n);
  room = omega (arith, c.loop-index.invariant.room, c.insert.ensures.spare);
}
