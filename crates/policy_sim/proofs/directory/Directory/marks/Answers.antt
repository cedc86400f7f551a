use Rattle.policy_sim.proofs.Names.{◌≡◌, ◌+◌, ◌↔◌, IsTrue, false, ℕ, List, Some, get_or, set, take, drop, arith, sym, ap, subst, ◌∙◌, valid_at, newest, place_in, Queue, mark_of, group_marks, Frame}
use Rattle.std.proofs.Math.ListN.{length-set}
use Rattle.flash_directory.proofs.Marked.{marks_more, marks_at, marks_all}
use Rattle.policy_sim.proofs.directory.Directory.marks.Goals as goal

blank : Frame
blank = record { page = 0; dirty = false; referenced = false }

pub loop-index-preserved : goal.loop-index-preserved
unfolding blank
loop-index-preserved c =
    let i : ℕ = c.loop-index.index in
    let q : Queue = c.args.self.now in
    let d : List Frame = c.index.result.now in
    let frames : List Frame = c.as_slice-frames.result.now in
    let later : List (List Frame) = drop (c.args.place + 1) q.groups in
    let frame : Frame = get_or frames i blank in
    let frames_are : frames ≡ get_or q.groups c.args.place d =
    c.as_slice-frames.ensures.frames ∙ c.index.ensures ∙ ap (λ (k : Queue). get_or k.groups c.args.place d) c.self.view_is in
    record {
      marks = ap (λ v. take (i + 1) (set c.loop-index.into i (mark_of v frame)))
          (valid_at q c.args.place i d frames blank c.is_newest.result frames_are c.requires c.loop-index-test.true
          (subst (λ (k : Queue). IsTrue c.is_newest.result ↔ (newest q frame.page ≡ Some (place_in (k.first + c.args.place) i))) c.self.view_is c.is_newest.ensures))
          ∙ marks_more c.loop-index.into frames later i blank c.loop-index-test.true (omega (arith, c.loop-index-test.true, c.as_slice-frames.ensures.few, c.loop-index.invariant.len)) c.loop-index.invariant.marks;
      len = length-set c.loop-index.into i _ ∙ c.loop-index.invariant.len;
    }

pub returns-clause-marks : goal.returns-clause-marks
returns-clause-marks c =
    let q : Queue = c.args.self.now in
    let d : List Frame = c.index.result.now in
    let frames_are : c.as_slice-frames.result.now ≡ get_or q.groups c.args.place d =
    c.as_slice-frames.ensures.frames ∙ c.index.ensures ∙ ap (λ (k : Queue). get_or k.groups c.args.place d) c.self.view_is in
    marks_at q.groups c.args.place d c.requires
    ∙ ap (λ f. Some (group_marks f (drop (c.args.place + 1) q.groups))) (sym frames_are)
    ∙ ap Some (marks_all c.loop-index.into c.as_slice-frames.result.now (drop (c.args.place + 1) q.groups) c.loop-index.index (omega arith) c.loop-index.invariant.marks)
