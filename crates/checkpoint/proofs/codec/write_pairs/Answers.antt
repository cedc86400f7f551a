use Rattle.checkpoint.proofs.Names.{◌*◌, ◌+◌, arith, refl, Pair}
use Rattle.std.proofs.lemmas.Option.{get_or_from_slice_get}
use Rattle.checkpoint.proofs.Texts.{nothing_written}
use Rattle.checkpoint.proofs.PairLists.{writes_more, fit_more}
use Rattle.checkpoint.proofs.codec.write_pairs.Goals as goal

pub loop-place-init : goal.loop-place-init
loop-place-init c = record { written = nothing_written c.args.content.now 25 (omega (arith, c.requires)); fit = tt }

pub loop-place-preserved : goal.loop-place-preserved
loop-place-preserved c =
    let pair : Pair = record { begin = c.at-begin.result.0; last = c.at-begin.result.1 } in
    let is = get_or_from_slice_get c.args.active.now c.loop-place.place pair pair c.at-begin.ensures in
    record {
      written = writes_more c.args.content.now c.loop-place.content c.put_u64.new.bytes c.put_u64-in-loop-place.new.bytes c.args.active.now c.loop-place.place (25 + 16 * c.loop-place.place) pair
          (omega arith) is refl (omega arith) c.requires c.loop-place.invariant.written c.put_u64.ensures.written c.put_u64-in-loop-place.ensures.written;
      fit = fit_more c.args.active.now c.loop-place.place pair (omega arith) is c.loop-place.invariant.fit (omega arith, omega arith);
    }
