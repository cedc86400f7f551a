use Rattle.std.proofs.Common.{◌∙◌, refl, arith}
use Rattle.std.proofs.lemmas.List.{take_rest}
use Rattle.site.proofs.Laws.{stays_honest, goes_in_sequence, one_call_more}
use Rattle.site.proofs.Tells.{hands_more, one_tell, some_left, told_more, tell_no_work}
use Rattle.site.proofs.telling.tell_all.Goals as goal

pub returns-in-Err-clause-any_moment : goal.returns-in-Err-clause-any_moment
returns-in-Err-clause-any_moment g c honest =
    let old = g.S.Site.state c.args.site.now in
    let mid = g.S.Site.state c.loop-at.site in
    let new = g.S.Site.state c.tell.new.self in
    let i = c.loop-at.invariant in
    one_tell c.args.piece.now c.loop-at.at _ _ old mid new c.tell.result refl (i.same honest) (i.told honest) (i.any_moment honest) (c.tell.ensures.told (stays_honest old mid i.preserves honest))

pub returns-in-Err-clause-hands : goal.returns-in-Err-clause-hands
returns-in-Err-clause-hands g c honest =
    let old = g.S.Site.state c.args.site.now in
    let mid = g.S.Site.state c.loop-at.site in
    let i = c.loop-at.invariant in
    hands_more c.args.piece.now c.loop-at.at _ old mid (g.S.Site.state c.tell.new.self) (take_rest c.args.piece.now c.loop-at.at) (i.told honest) (i.hands honest) (c.tell.ensures.told (stays_honest old mid i.preserves honest)).past

pub loop-at-preserved : goal.loop-at-preserved
loop-at-preserved g c =
    let old = g.S.Site.state c.args.site.now in
    let mid = g.S.Site.state c.loop-at.site in
    let new = g.S.Site.state c.tell.new.self in
    let i = c.loop-at.invariant in
    record {
      at = omega (arith, c.in-Ok.ensures.at_most);
      preserves = goes_in_sequence old mid new i.preserves c.tell.ensures.preserves;
      reads = λ dev. c.tell.ensures.reads dev ∙ i.reads dev;
      faults = c.in-Ok.ensures.faults ∙ i.faults;
      same = λ honest. let t = c.tell.ensures.told (stays_honest old mid i.preserves honest) in record { image = t.image ∙ (i.same honest).image; loose = t.loose ∙ (i.same honest).loose; left = t.left ∙ (i.same honest).left };
      told = λ honest. told_more c.args.piece.now c.loop-at.at _ _ old mid new c.in-Ok.count refl c.in-Ok.ensures.at_most (i.told honest) (c.in-Ok.ensures.told (stays_honest old mid i.preserves honest)).told;
      tells_only = λ honest.
          let adds = (c.in-Ok.ensures.told (stays_honest old mid i.preserves honest)).past_ok in
          let more = one_call_more _ mid new adds in
          record {
            calls = let few = (i.tells_only honest).calls in omega (arith, more, few, c.in-Ok.ensures.at_least);
            works = tell_no_work _ mid new (some_left c.args.piece.now c.loop-at.at _ _ refl (omega (arith, c.loop-at-test.true)) (omega (arith, c.loop-at-test.true))) adds ∙ (i.tells_only honest).works;
          };
      any_moment = λ honest. one_tell c.args.piece.now c.loop-at.at _ _ old mid new c.tell.result refl (i.same honest) (i.told honest) (i.any_moment honest) (c.tell.ensures.told (stays_honest old mid i.preserves honest));
      hands = λ honest. hands_more c.args.piece.now c.loop-at.at _ old mid new (take_rest c.args.piece.now c.loop-at.at) (i.told honest) (i.hands honest) (c.tell.ensures.told (stays_honest old mid i.preserves honest)).past;
    }
