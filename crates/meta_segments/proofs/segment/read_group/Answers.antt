use Rattle.std.proofs.Common.{arith, subst, sym, ◌∙◌, ◌*◌, get_or, true≢false}
use Rattle.std.proofs.lemmas.List.{take_all}
use Rattle.byte_fields.specs.FrameHeads.{blank, AreHeads}
use Rattle.std_lemmas.proofs.Results.{on_err}
use Rattle.byte_fields.proofs.HeadLists.{head_at}
use Rattle.meta_segments.proofs.Reading.{group_of_front, blank_read, not_blank, present_read, no_more, gap_read}
use Rattle.meta_segments.proofs.segment.read_group.Goals as goal
use Rattle.meta_segments.proofs.segment.read_group.Goals.{then-not-is_blank+in_ok-head+else-frames-place, else-not-is_blank}

pub returns-in_err-head-clause-bad : goal.returns-in_err-head-clause-bad
returns-in_err-head-clause-bad c =
    let place = c.loop-place.place in
    on_err c.from_residual.result _ (λ other are group.
    c.in_err-head.ensures.bad (get_or other place blank) (head_at c.args.octets.now other place are (omega (arith, group.eight, c.loop-place-test.true))))

pub returns-then-frames-place-clause-bad : goal.returns-then-frames-place-clause-bad
returns-then-frames-place-clause-bad c = λ other are group.
    let octets = c.args.octets.now in
    let place = c.loop-place.place in
    let is = c.in_ok-head.ensures.found in
    let present = not_blank octets c.in_ok-head.head (16 * place) is (λ none. true≢false (sym (c.is_blank.ensures.1 none) ∙ c.if-not-is_blank.true)) in
    gap_read octets c.loop-place.heads other c.in_ok-head.head place c.loop-place.frames
    c.loop-place.invariant c.if-frames-place.true c.loop-place-test.true is present are group

pub loop-place-preserved : goal.loop-place-preserved
loop-place-preserved c =
    let octets = c.args.octets.now in
    let place = c.loop-place.place in
    let read = c.loop-place.invariant in
    let less = c.loop-place-test.true in
    elim c.if-not-is_blank.branch [
      | then-not-is_blank+in_ok-head+else-frames-place w ↦
          let is = w.in_ok-head.ensures.found in
          let present = not_blank octets w.in_ok-head.head (16 * place) is (λ none. true≢false (sym (c.is_blank.ensures.1 none) ∙ w.if-not-is_blank.true)) in
          rw (w.heads-is, w.frames-is)
          (present_read octets c.loop-place.heads w.in_ok-head.head place c.loop-place.frames read less is present (omega (arith, w.if-frames-place.false)))
      | else-not-is_blank w ↦ rw (w.heads-is, w.frames-is) (blank_read octets c.loop-place.heads place c.loop-place.frames read less (c.is_blank.ensures.0 w.if-not-is_blank.false))
    ]

pub returns-then-frames-gt0-clause-found : goal.returns-then-frames-gt0-clause-found
returns-then-frames-gt0-clause-found c =
    let heads = c.loop-place.heads in
    let read = c.loop-place.invariant in (
      subst (AreHeads c.args.octets.now) (take_all c.loop-place.place heads (omega (arith, read.size, c.loop-place-test.false))) read.are,
      group_of_front heads c.loop-place.frames read.size c.if-frames-gt0.true read.front,
    )

pub returns-else-frames-gt0-clause-bad : goal.returns-else-frames-gt0-clause-bad
returns-else-frames-gt0-clause-bad c = λ other are group.
    let frames = c.loop-place.frames in
    let none = c.if-frames-gt0.false in
    no_more c.args.octets.now c.loop-place.heads other c.loop-place.place frames c.loop-place.invariant
    (omega (arith, none, c.loop-place-test.false)) (omega (arith, none)) are group (omega (arith, none, group.some))
