use Rattle.tail_rebuild.proofs.Names.{◌≡◌, inl, inr, ℕ, ◌+◌, ◌-◌, ◌*◌, ◌<◌, ◌≤◌, List, [], ◌++◌, length, get_or, map, take, drop, add-one, sym, ◌∙◌, ap, subst, arith, cases_eq, take_all, length-drop, get_or-drop, get_or-map, flat_map, AreGroupHeads, FrameHead, heads_of, group_shape, heads_of_group, region, hi_of, Shape, stays_honest, err_again, HasGroups}
use Rattle.tail_rebuild.proofs.Calling.{reads_then, reads_answered}
use Rattle.tail_rebuild.proofs.Fours.{put_own, put_before, put_front, flat_more}
use Rattle.tail_rebuild.proofs.Standing.{fits_again, first_is, count}
use Rattle.tail_rebuild.proofs.saving.read_last_four.Goals as goal

pub returns-in-Err-clause-foreign : goal.returns-in-Err-clause-foreign
returns-in-Err-clause-foreign g c says honest fits first stand has =
    let old = g.S.Site.state c.args.site.now in
    let mid = g.S.Site.state c.loop-place.site in
    let same = c.loop-place.invariant.reads.same honest in
    c.in-Err.ensures.foreign (err_again _ _ says) (stays_honest old mid c.loop-place.invariant.reads.preserves honest) (fits_again c.args.groups.now old mid same.image fits)
    first stand (subst (HasGroups c.args.geometry.now first stand) (sym same.image) has)

pub loop-place-preserved : goal.loop-place-preserved
loop-place-preserved g c =
    let old = g.S.Site.state c.args.site.now in
    let mid = g.S.Site.state c.loop-place.site in
    let new = g.S.Site.state c.read_group.new.site in
    let inv = c.loop-place.invariant in
    let heads = c.loop-place.heads in
    let place = c.loop-place.place in
    let eight = c.in-Ok.eight in
    let rest = drop (8 * place + 8) heads in
    let ring = c.args.groups.now in
    let geometry = c.args.geometry.now in
    let are = c.in-Ok.ensures.are_heads.are_heads in
    let fits : 8 * place ≤ length heads = omega (arith, inv.size, inv.most) in
    record {
      most = omega (arith, c.loop-place-test.true);
      size = c.put_heads.array_long;
      groups = λ i less. elim (cases_eq i place) [
        | inl here ↦ subst AreGroupHeads (sym (ap (λ (n : ℕ). heads_of_group c.put_heads.new.heads n) here ∙ ap (λ (l : List FrameHead). heads_of_group l place) c.put_heads.ensures ∙ put_own heads eight rest place fits are.eight)) are
        | inr other ↦ subst AreGroupHeads (sym (ap (λ (l : List FrameHead). heads_of_group l i) c.put_heads.ensures ∙ put_before heads eight rest place fits are.eight i (omega (arith, less, other))))
            (inv.groups i (omega (arith, less, other)))
      ];
      front = λ honest groups_fit first stand has.
          let same = inv.reads.same honest in
          let slots : ring.shape.slots ≡ geometry.groups = ap (λ (s : Shape). s.slots) c.requires.shape in
          let hi : ring.hi ≡ hi_of (group_shape geometry) old.image.flash = groups_fit ∙ ap (λ (s : Shape). hi_of s (region s old)) c.requires.shape in
          let own = first_is geometry first stand old.image has in
          let many = count geometry first stand old.image has in
          let next = has.next in
          let live = c.loop-place-test.true in
          let room = c.requires.limits.groups in
          let four = c.requires.four in
          let number = c.hi-from.ensures in
          let at : (c.hi-from.result - 4) + place - first ≡ length stand - 4 + place = omega (arith, hi, own, next, four, number, many, room) in
          let less : length stand - 4 + place < length stand = omega (arith, live, hi, four, many, room) in
          let long = length-drop (length stand - 4) stand in
          let read = c.in-Ok.ensures.heads (stays_honest old mid inv.reads.preserves honest) (fits_again ring old mid same.image groups_fit) first stand (subst (HasGroups geometry first stand) (sym same.image) has) in
          let is : eight ≡ heads_of (get_or (drop (length stand - 4) stand) place []) =
          read ∙ ap (λ (k : ℕ). get_or (map heads_of stand) k []) at ∙ get_or-map heads_of stand (length stand - 4 + place) [] [] less ∙ sym (ap heads_of (get_or-drop (length stand - 4) stand place [])) in
          ap (take (8 * (place + 1))) c.put_heads.ensures ∙ put_front heads eight rest place fits are.eight
          ∙ (λ i. inv.front honest groups_fit first stand has i ++ is i)
          ∙ sym (flat_more heads_of (drop (length stand - 4) stand) place [] (omega (arith, long, live, less)))
          ∙ ap (λ (n : ℕ). flat_map heads_of (take n (drop (length stand - 4) stand))) (sym (add-one place));
      reads = reads_answered eight tt (place + 1) _ old new (omega arith) (reads_then tt _ place 1 (place + 1) old mid new (omega arith) inv.reads c.in-Ok.ensures.reads);
    }

pub returns-clause-heads : goal.returns-clause-heads
returns-clause-heads g c honest fits first stand has =
    let inv = c.loop-place.invariant in
    let long = length-drop (length stand - 4) stand in
    let whole = take_all (8 * c.loop-place.place) c.loop-place.heads (omega (arith, inv.size, inv.most, c.loop-place-test.false)) in
    sym whole ∙ inv.front honest fits first stand has
    ∙ ap (flat_map heads_of) (take_all c.loop-place.place (drop (length stand - 4) stand) (omega (arith, long, inv.most, c.loop-place-test.false)))
