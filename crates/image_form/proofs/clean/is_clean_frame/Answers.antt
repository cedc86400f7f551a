use Rattle.image_form.proofs.Names.{◌≡◌, ℕ, List, false, true≢false, get_or, refl, sym, ap, ◌∙◌, arith, not-true, not-false, slice_get, blank, FrameHead, disk_on, newest, Frame, head_of, heads_of, State, group_on}
use Rattle.std.proofs.Common.{Some}
use Rattle.image_form.proofs.CleanOnes.{head_there, octets_there, page_exists, present_there}
use Rattle.image_form.proofs.clean.is_clean_frame.Goals as goal

-- the head that was read is that of a frame there
own : (heads : List FrameHead) (frames : List Frame) (i : ℕ) (frame : Frame) → heads ≡ heads_of frames → slice_get frames i ≡ Some frame → get_or heads i blank ≡ head_of frame
own heads frames i frame is there = ap (λ (l : List FrameHead). get_or l i blank) is ∙ head_there frames i frame there

pub returns-then-not-head-clause-clean : goal.returns-then-not-head-clause-clean
returns-then-not-head-clause-clean g c frames honest found on is = (
  λ yes frame there calm newest. absurd (true≢false (sym (ap (λ (h : FrameHead). h.present) (own c.args.heads.now frames c.args.index frame is there)) ∙ not-true _ c.if-not-head.true)),
  λ clean. refl,
)

pub returns-then-head-clause-clean : goal.returns-then-head-clause-clean
returns-then-head-clause-clean g c frames honest found on is = (
  λ yes frame there calm newest. absurd (true≢false (sym c.if-head.true ∙ ap (λ (h : FrameHead). h.dirty) (own c.args.heads.now frames c.args.index frame is there) ∙ calm)),
  λ clean. refl,
)

pub returns-then-head-geometry-clause-clean : goal.returns-then-head-geometry-clause-clean
returns-then-head-geometry-clause-clean g c frames honest found on is =
    let frame = present_there c.args.geometry.now _ frames c.args.heads.now c.args.index on is c.requires.index (not-false _ c.if-not-head.false) in
    let exists = page_exists c.args.geometry.now _ frames c.args.index frame.0 on frame.1 in
    let page : (get_or c.args.heads.now c.args.index blank).page ≡ frame.0.page = ap (λ (h : FrameHead). h.page) (own c.args.heads.now frames c.args.index frame.0 is frame.1) in
    absurd (omega (arith, exists, page, c.if-head-geometry.true))

pub returns-then-not-is_newest-clause-clean : goal.returns-then-not-is_newest-clause-clean
returns-then-not-is_newest-clause-clean g c frames honest found on is = (
  λ yes frame there calm here.
      let page : (get_or c.args.heads.now c.args.index blank).page ≡ frame.page = ap (λ (h : FrameHead). h.page) (own c.args.heads.now frames c.args.index frame is there) in
      absurd (true≢false (sym (c.is_newest.ensures.1 (ap (newest c.args.frames.now) page ∙ here)) ∙ c.if-not-is_newest.true)),
  λ clean. refl,
)

pub returns-in-Ok-clause-clean : goal.returns-in-Ok-clause-clean
returns-in-Ok-clause-clean g c frames honest found on is =
    let old : State = g.S.Site.state c.args.site.now in
    let head : FrameHead = get_or c.args.heads.now c.args.index blank in
    let says = c.in-Ok.ensures.same c.args.geometry.now c.requires.may_read honest found in (
      λ yes frame there calm here.
          let page : head.page ≡ frame.page = ap (λ (h : FrameHead). h.page) (own c.args.heads.now frames c.args.index frame is there) in
          sym (octets_there (group_on c.args.geometry.now old.image c.args.group) frames c.args.index frame on.group there) ∙ says.0 yes ∙ ap (disk_on old.image) page,
      λ clean.
          let f = present_there c.args.geometry.now _ frames c.args.heads.now c.args.index on is c.requires.index (not-false _ c.if-not-head.false) in
          let mine = own c.args.heads.now frames c.args.index f.0 is f.1 in
          let page : head.page ≡ f.0.page = ap (λ (h : FrameHead). h.page) mine in
          let calm : f.0.dirty ≡ false = sym (ap (λ (h : FrameHead). h.dirty) mine) ∙ c.if-head.false in
          let octets = clean f.0 f.1 calm (ap (newest c.args.frames.now) (sym page) ∙ c.is_newest.ensures.0 c.if-not-is_newest.false) in
          says.1 (octets_there (group_on c.args.geometry.now old.image c.args.group) frames c.args.index f.0 on.group f.1 ∙ octets ∙ ap (disk_on old.image) (sym page)),
    )
