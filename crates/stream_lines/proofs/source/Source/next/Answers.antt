use Rattle.std.proofs.Common.{◌+◌, [], length, refl, false, true, sym, ◌∙◌, ap, arith}
use Rattle.site.proofs.Laws.{stays_honest, goes_in_sequence}
use Rattle.stream_lines.specs.Lines.{to_hear, pending}
use Rattle.stream_lines.proofs.LineOctets.{line_heard, last_heard, long_heard, part_more, part_is, none_left, some_octets, then_rest, cut_off, hears_then, over, is_long, is_short}
use Rattle.stream_lines.proofs.Takes.{takes_then}
use Rattle.stream_lines.proofs.source.Source.next.Goals as goal

pub returns-in-Ok-false-clause-heard : goal.returns-in-Ok-false-clause-heard
returns-in-Ok-false-clause-heard g c honest ended =
    let old = g.S.Site.state c.args.site.now in
    let now = g.S.Site.state c.loop-piece.site in
    let honest-now = stays_honest old now c.loop-piece.invariant.preserves honest in
    let end = c.in-Ok-false.ensures.none c.in-Ok-false.field-0-test in
    let left = c.in-Ok-false.ensures.end honest-now (c.loop-piece.invariant.still honest ended) c.in-Ok-false.field-0-test in
    let none = none_left c.fill.new.self (g.S.Site.state c.fill.new.site) end.0 left in
    let some = some_octets c.loop-piece.line.items (sym c.is_empty.ensures ∙ c.if-is_empty.false) in
    last_heard _ c.loop-piece.line.items c.loop-piece._piece _ _ _
    (then_rest _ _ [] c.loop-piece.line.items c.loop-piece._piece (c.loop-piece.invariant.so_far honest ended) (sym (c.in-Ok-false.ensures.all honest-now) ∙ none)) c.loop-piece.invariant.room none some end.1
    (c.loop-piece.invariant.going honest ended some)

pub returns-then-is_full-clause-heard : goal.returns-then-is_full-clause-heard
returns-then-is_full-clause-heard g c honest ended =
    let old = g.S.Site.state c.args.site.now in
    let now = g.S.Site.state c.loop-piece.site in
    let honest-now = stays_honest old now c.loop-piece.invariant.preserves honest in
    let some = c.in-Ok-true.ensures.some c.in-Ok-true.field-0-test in
    let left = (g.S.Site.state c.fill.new.site).input.left in
    long_heard _ _ c.gather-whole.new.line.items c.loop-piece._piece _
    (part_more _ (pending c.fill.new.self) (pending c.gather-whole.new.self) c.loop-piece.line.items c.gather-whole.new.line.items left c.gather-whole.result c.loop-piece._piece c.loop-piece._piece
    (then_rest _ _ _ c.loop-piece.line.items c.loop-piece._piece (c.loop-piece.invariant.so_far honest ended) (sym (c.in-Ok-true.ensures.all honest-now))) c.gather-whole.ensures.part (omega arith))
    (is_long _ _ c.is_full.ensures.value c.if-is_full.true)
    (sym (c.loop-piece.invariant.same_end honest ended) ∙ some.1)

pub returns-then-whole-clause-heard : goal.returns-then-whole-clause-heard
returns-then-whole-clause-heard g c honest ended =
    let old = g.S.Site.state c.args.site.now in
    let now = g.S.Site.state c.loop-piece.site in
    let honest-now = stays_honest old now c.loop-piece.invariant.preserves honest in
    let some = c.in-Ok-true.ensures.some c.in-Ok-true.field-0-test in
    let left = (g.S.Site.state c.fill.new.site).input.left in
    let part = part_is _ true _ _ _ _ c.gather-whole.ensures.part c.if-whole.true in
    line_heard _ (to_hear c.gather-whole.new.self (g.S.Site.state c.fill.new.site)) c.gather-whole.new.line.items c.loop-piece._piece _ _
    (part_more _ (pending c.fill.new.self) (pending c.gather-whole.new.self) c.loop-piece.line.items c.gather-whole.new.line.items left true c.loop-piece._piece c.loop-piece._piece
    (then_rest _ _ _ c.loop-piece.line.items c.loop-piece._piece (c.loop-piece.invariant.so_far honest ended) (sym (c.in-Ok-true.ensures.all honest-now))) part (omega arith))
    (is_short _ _ c.is_full.ensures.value c.if-is_full.false c.is_full.ensures.fits)
    (sym (c.loop-piece.invariant.same_end honest ended) ∙ some.1)

pub loop-piece-preserved : goal.loop-piece-preserved
loop-piece-preserved g c =
    let old = g.S.Site.state c.args.site.now in
    let now = g.S.Site.state c.loop-piece.site in
    let new = g.S.Site.state c.fill.new.site in
    let some = c.in-Ok-true.ensures.some c.in-Ok-true.field-0-test in
    record {
      preserves = goes_in_sequence _ _ _ c.loop-piece.invariant.preserves c.fill.ensures.preserves;
      faults = c.in-Ok-true.ensures.faults ∙ c.loop-piece.invariant.faults;
      source = c.gather-whole.ensures.source;
      room = is_short _ _ c.is_full.ensures.value c.if-is_full.false c.is_full.ensures.fits;
      same = λ honest. hears_then old now new (c.loop-piece.invariant.same honest) (c.fill.ensures.same (stays_honest old now c.loop-piece.invariant.preserves honest));
      takes = λ honest ended. takes_then _ _ old now new _ _ (c.loop-piece.invariant.so_far honest ended) c.loop-piece.invariant.room (c.loop-piece.invariant.same honest).told (c.loop-piece.invariant.same_end honest ended) (c.loop-piece.invariant.takes honest ended) (c.fill.ensures.takes (stays_honest old now c.loop-piece.invariant.preserves honest));
      count = λ honest. ap (λ n. n + length new.input.left) c.gather-whole.ensures.taken ∙ c.in-Ok-true.ensures.count (stays_honest old now c.loop-piece.invariant.preserves honest) ∙ c.loop-piece.invariant.count honest;
      still = λ honest ended over. absurd (cc (sym over ∙ c.gather-whole.ensures.ended ∙ some.2));
      going = λ honest ended _. sym (c.loop-piece.invariant.same_end honest ended) ∙ some.1;
      same_end = λ honest ended. c.gather-whole.ensures.ended ∙ some.2 ∙ sym some.1 ∙ c.loop-piece.invariant.same_end honest ended;
      so_far = λ honest ended.
          let part = part_is _ false _ _ _ _ c.gather-whole.ensures.part c.if-whole.false in
          let many = part.some refl in
          part_more _ (pending c.fill.new.self) (pending c.gather-whole.new.self) c.loop-piece.line.items c.gather-whole.new.line.items new.input.left false c.loop-piece._piece (c.loop-piece._piece + 1)
          (then_rest _ _ _ c.loop-piece.line.items c.loop-piece._piece (c.loop-piece.invariant.so_far honest ended) (sym (c.in-Ok-true.ensures.all (stays_honest old now c.loop-piece.invariant.preserves honest)))) part (omega (arith, many));
    }

pub returns-in-Err-clause-cut_off : goal.returns-in-Err-clause-cut_off
returns-in-Err-clause-cut_off g c honest ended =
    let old = g.S.Site.state c.args.site.now in
    let now = g.S.Site.state c.loop-piece.site in
    cut_off c.in-Err.fault _ _ _ _ _ _ c.loop-piece.line.items c.loop-piece._piece (c.loop-piece.invariant.so_far honest ended) (c.loop-piece.invariant.count honest) (c.in-Err.ensures.cut_off (stays_honest old now c.loop-piece.invariant.preserves honest))
    (sym (c.loop-piece.invariant.same_end honest ended) ∙ c.in-Err.ensures.going)

pub returns-clause-cut_off : goal.returns-clause-cut_off
returns-clause-cut_off g c honest ended =
    let old = g.S.Site.state c.args.site.now in
    let now = g.S.Site.state c.loop-piece.site in
    let few = over c.args.self.now c.loop-piece.self old now c.loop-piece.line.items c.loop-piece._piece c.requires c.loop-piece.invariant.source (c.loop-piece.invariant.so_far honest ended) (c.loop-piece.invariant.count honest) in
    absurd (omega (arith, few, c.loop-piece-test.false))

pub returns-in-Ok-false-clause-takes : goal.returns-in-Ok-false-clause-takes
returns-in-Ok-false-clause-takes g c honest ended =
    let old = g.S.Site.state c.args.site.now in
    let now = g.S.Site.state c.loop-piece.site in
    takes_then _ _ old now (g.S.Site.state c.fill.new.site) _ _ (c.loop-piece.invariant.so_far honest ended) c.loop-piece.invariant.room (c.loop-piece.invariant.same honest).told (c.loop-piece.invariant.same_end honest ended) (c.loop-piece.invariant.takes honest ended) (c.fill.ensures.takes (stays_honest old now c.loop-piece.invariant.preserves honest))

pub returns-then-whole-clause-takes : goal.returns-then-whole-clause-takes
returns-then-whole-clause-takes g c honest ended =
    let old = g.S.Site.state c.args.site.now in
    let now = g.S.Site.state c.loop-piece.site in
    takes_then _ _ old now (g.S.Site.state c.fill.new.site) _ _ (c.loop-piece.invariant.so_far honest ended) c.loop-piece.invariant.room (c.loop-piece.invariant.same honest).told (c.loop-piece.invariant.same_end honest ended) (c.loop-piece.invariant.takes honest ended) (c.fill.ensures.takes (stays_honest old now c.loop-piece.invariant.preserves honest))

pub returns-then-is_full-clause-takes : goal.returns-then-is_full-clause-takes
returns-then-is_full-clause-takes g c honest ended =
    let old = g.S.Site.state c.args.site.now in
    let now = g.S.Site.state c.loop-piece.site in
    takes_then _ _ old now (g.S.Site.state c.fill.new.site) _ _ (c.loop-piece.invariant.so_far honest ended) c.loop-piece.invariant.room (c.loop-piece.invariant.same honest).told (c.loop-piece.invariant.same_end honest ended) (c.loop-piece.invariant.takes honest ended) (c.fill.ensures.takes (stays_honest old now c.loop-piece.invariant.preserves honest))

pub returns-in-Err-clause-takes : goal.returns-in-Err-clause-takes
returns-in-Err-clause-takes g c honest ended =
    let old = g.S.Site.state c.args.site.now in
    let now = g.S.Site.state c.loop-piece.site in
    takes_then _ _ old now (g.S.Site.state c.fill.new.site) _ _ (c.loop-piece.invariant.so_far honest ended) c.loop-piece.invariant.room (c.loop-piece.invariant.same honest).told (c.loop-piece.invariant.same_end honest ended) (c.loop-piece.invariant.takes honest ended) (c.fill.ensures.takes (stays_honest old now c.loop-piece.invariant.preserves honest))

pub returns-then-is_empty-clause-takes : goal.returns-then-is_empty-clause-takes
returns-then-is_empty-clause-takes g c honest ended =
    let old = g.S.Site.state c.args.site.now in
    let now = g.S.Site.state c.loop-piece.site in
    takes_then _ _ old now (g.S.Site.state c.fill.new.site) _ _ (c.loop-piece.invariant.so_far honest ended) c.loop-piece.invariant.room (c.loop-piece.invariant.same honest).told (c.loop-piece.invariant.same_end honest ended) (c.loop-piece.invariant.takes honest ended) (c.fill.ensures.takes (stays_honest old now c.loop-piece.invariant.preserves honest))
