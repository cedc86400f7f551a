use Rattle.image_form.proofs.Names.{◌≡◌, ◌+◌, ◌*◌, inl, inr, ℕ, List, true≢false, refl, sym, ◌∙◌, subst, arith, cases_eq, cases_lt, none-some, same_Some, slice_get_within, Option, Some, Ok, FrameHead, Frame, heads_of, IsCleanFrame, IsGroupOn, stays_honest, looks_then, looks_answered, State, Image, group_on}
use Rattle.image_form.proofs.Counts.{few_then}
use Rattle.image_form.proofs.Lasting.{found_later, may_read_later}
use Rattle.image_form.proofs.clean.is_clean_group.Goals as goal

-- the heads that were read are those of its frames
own : (found : Option (List FrameHead)) (heads : List FrameHead) (frames : List Frame) → found ≡ Some heads → found ≡ Some (heads_of frames) → heads ≡ heads_of frames
own found heads frames is says = same_Some heads (heads_of frames) (sym is ∙ says)

pub returns-in-Ok-None-clause-clean : goal.returns-in-Ok-None-clause-clean
returns-in-Ok-None-clause-clean g c frames honest found on =
    absurd (none-some (heads_of frames) (sym c.in-Ok-None.field-0-is ∙ c.in-Ok-None.ensures.heads c.args.geometry.now frames c.requires.may_read honest found on.group))

pub loop-index-init : goal.loop-index-init
loop-index-init g c = record {
  may_read = may_read_later c.args.geometry.now c.args.rings.now (g.S.Site.state c.args.site.now) (g.S.Site.state c.heads_at.new.site) c.in-Ok-Some.ensures.reads.preserves c.requires.may_read;
  stand = λ frames honest found on i below. absurd (omega (arith, below));
  looks = c.in-Ok-Some.ensures.looks;
  reads = looks_answered c.in-Ok-Some.field-0 tt _ _ c.in-Ok-Some.ensures.reads;
}

pub returns-then-not-clean-clause-clean : goal.returns-then-not-clean-clause-clean
returns-then-not-clean-clause-clean g c frames honest found on =
    let old : State = g.S.Site.state c.args.site.now in
    let now : State = g.S.Site.state c.loop-index.site in
    let reads = c.loop-index.invariant.reads in
    let same : now.image ≡ old.image = (reads.same honest).image in
    let geometry = c.args.geometry.now in
    let heads = own c.in-Ok-Some.field-0 c.in-Ok-Some.heads frames c.in-Ok-Some.field-0-is (c.in-Ok-Some.ensures.heads geometry frames c.requires.may_read honest found on.group) in
    let says = c.in-Ok.ensures.clean frames (stays_honest old now reads.preserves honest) (found_later c.args.rings.now old now same found)
    (subst (λ (image : Image). IsGroupOn geometry (group_on geometry image c.args.group) frames) (sym same) on) heads in (
      λ wrong. absurd (true≢false (sym wrong)),
      λ all. absurd (true≢false (sym (says.1 (subst (λ (image : Image). IsCleanFrame image c.args.frames.now c.args.group frames c.loop-index.index) (sym same) (all c.loop-index.index))) ∙ c.if-not-clean.true)),
    )

pub loop-index-preserved : goal.loop-index-preserved
loop-index-preserved g c =
    let old : State = g.S.Site.state c.args.site.now in
    let now : State = g.S.Site.state c.loop-index.site in
    let new : State = g.S.Site.state c.is_clean_frame.new.site in
    let reads = c.loop-index.invariant.reads in
    let at : ℕ = c.loop-index.index in
    let geometry = c.args.geometry.now in
    record {
      may_read = may_read_later geometry c.args.rings.now now new c.in-Ok.ensures.reads.preserves c.loop-index.invariant.may_read;
      stand = λ frames honest found on i below. elim (cases_eq i at) [
        | inl here ↦
            let same : now.image ≡ old.image = (reads.same honest).image in
            let heads = own c.in-Ok-Some.field-0 c.in-Ok-Some.heads frames c.in-Ok-Some.field-0-is (c.in-Ok-Some.ensures.heads geometry frames c.requires.may_read honest found on.group) in
            let says = c.in-Ok.ensures.clean frames (stays_honest old now reads.preserves honest) (found_later c.args.rings.now old now same found)
            (subst (λ (image : Image). IsGroupOn geometry (group_on geometry image c.args.group) frames) (sym same) on) heads in
            let clean : IsCleanFrame old.image c.args.frames.now c.args.group frames at = subst (λ (image : Image). IsCleanFrame image c.args.frames.now c.args.group frames at) same (says.0 c.if-not-clean.false) in
            subst (λ (k : ℕ). IsCleanFrame old.image c.args.frames.now c.args.group frames k) (sym here) clean
        | inr other ↦ c.loop-index.invariant.stand frames honest found on i (omega (arith, below, other))
      ];
      looks = few_then 0 (1 + 2 * at) 0 2 0 (1 + 2 * (at + 1)) old now new (omega arith) (omega arith) c.loop-index.invariant.looks c.in-Ok.ensures.looks;
      reads = looks_then tt (Ok tt) old now new reads (looks_answered c.in-Ok.clean tt now new c.in-Ok.ensures.reads);
    }

pub returns-clause-clean : goal.returns-clause-clean
returns-clause-clean g c frames honest found on = (
  λ yes i. elim (cases_lt i 8) [
    | inl below ↦ c.loop-index.invariant.stand frames honest found on i (omega (arith, below, c.loop-index-test.false))
    | inr past ↦ λ frame there calm newest. absurd (let less = slice_get_within frames i frame there in let few = on.group.room in omega (arith, less, few, past))
  ],
  λ all. refl,
)
