use Rattle.std.proofs.Common.{◌≡◌, ℕ, ◌+◌, ◌-◌, ◌*◌, List, take, drop, arith, refl, subst}
use Rattle.byte_fields.specs.declared.frame_head.FrameHead.{FrameHead}
use Rattle.byte_fields.specs.FrameHeads.{AreHeads}
use Rattle.std_lemmas.proofs.Results.{on_err}
use Rattle.meta_segments.specs.Segments.{heads_of_group}
use Rattle.meta_segments.proofs.Reading.{no_groups, group_read, segment_read, segment_has_group}
use Rattle.meta_segments.proofs.segment.segment_heads.Goals as goal

pub loop-group-init : goal.loop-group-init
loop-group-init c = no_groups c.args.content.now 32 refl

-- a group's octets, as a range of the content has them
same_octets : (content : List ℕ) (heads : List FrameHead) (group n : ℕ) → n ≡ 128 → AreHeads (take n (drop (128 * group) content)) heads → AreHeads (take 128 (drop (128 * group) content)) heads
same_octets content heads group n e = subst (λ (k : ℕ). AreHeads (take k (drop (128 * group) content)) heads) e

pub returns-in_err-read_group-clause-bad : goal.returns-in_err-read_group-clause-bad
returns-in_err-read_group-clause-bad c =
    let content = c.args.content.now in
    let group = c.loop-group.group in
    let room : 128 ≡ 128 * group + 128 - 128 * group = omega arith in
    on_err c.from_residual.result _ (λ heads is.
    let has = segment_has_group content heads group is (omega (arith, c.loop-group-test.true)) in
    c.in_err-read_group.ensures.bad (heads_of_group heads group)
    (subst (λ (k : ℕ). AreHeads (take k (drop (128 * group) content)) (heads_of_group heads group)) room has.0) has.1)

pub loop-group-preserved : goal.loop-group-preserved
loop-group-preserved c =
    let content = c.args.content.now in
    let group = c.loop-group.group in
    let new = c.read_group.new.heads in
    let found = c.in_ok-read_group.ensures.found in
    group_read content c.loop-group.heads new group (8 * group) (8 * group + 8 - 8 * group) c.loop-group.invariant (omega (arith, c.loop-group-test.true)) refl (omega arith)
    (same_octets content new group (128 * group + 128 - 128 * group) (omega arith) found.0) found.1

pub returns-clause-found : goal.returns-clause-found
returns-clause-found c = segment_read c.args.content.now c.loop-group.heads c.loop-group.group c.loop-group.invariant c.requires c.loop-group-test.false
