use Rattle.std.specs.Prelude.{max}
use Rattle.std.proofs.Common.{◌≡◌, ◌*◌, ◌+◌, ◌%◌, arith, sym, ◌∙◌}
use Rattle.std.proofs.lemmas.List.{length-set}
use Rattle.shell_text.proofs.Pairs.{pair_read, all_read}
use Rattle.shell_text.proofs.grammar.read_pairs.Goals as goal

pub loop-place-preserved : goal.loop-place-preserved
loop-place-preserved c =
    let octets = c.loop-place.octets in
    let place = c.loop-place.place in
    let set = length-set octets place ((c.digit_value-high.result * 16 % 256 + c.digit_value-low.result) % 256) in
    let long = c.loop-place.invariant.long in
    let inside = c.loop-place-test.true in
    let same = c.loop-place.invariant.same in
    let first : c.max.result ≡ max c.loop-place.greatest c.digit_value-high.result = c.max.ensures in
    let second : c.max-greatest.result ≡ max c.max.result c.digit_value-low.result = c.max-greatest.ensures in
    let high = c.digit_value-high.ensures in
    let low = c.digit_value-low.ensures in
    record {
      long = omega (arith, long, set);
      same = set ∙ same;
      read = pair_read c.args.digits.now octets place c.loop-place.greatest _ _ (omega (arith, long, inside, same)) (omega (arith, inside, same)) (omega (arith, first, second, high, low)) (omega (arith, high, low)) c.loop-place.invariant.read;
    }

pub returns : goal.returns
returns c =
    let ended = c.loop-place-test.false in
    let same = c.loop-place.invariant.same in
    all_read c.args.digits.now c.loop-place.octets c.loop-place.place c.loop-place.greatest c.loop-place.invariant.long (omega (arith, ended, same)) c.loop-place.invariant.read
