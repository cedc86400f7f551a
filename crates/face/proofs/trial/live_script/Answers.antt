use Rattle.face.proofs.Names.{◌∙◌, ◌++◌, ◌+◌, ℕ, List, refl, sym, ap, subst, arith, add-one, ◌<◌, length, IsFront, life_line, stays_honest, lives_in}
use Rattle.face.proofs.Trials.{few_lives, goes_on, keeps_still, keeps_then, more_lives, none_yet, some_lives, told_in_part, told_last}
use Rattle.face.proofs.trial.live_script.Goals as goal

pub loop-place-init : goal.loop-place-init
loop-place-init g c = record {
  keeps = keeps_still (g.S.Site.state c.args.site.now);
  left = λ honest. refl;
  faults = refl;
  there = some_lives c.args.script.now;
  lives = λ geometry new honest. none_yet c.blank_stands.ensures geometry c.args.pool c.args.script.now (g.S.Site.state c.args.site.now) c.args.inner new;
}

pub unreachable-requires-2 : goal.unreachable-requires-2
unreachable-requires-2 g c = let there = c.loop-place.invariant.there in let few = few_lives c.args.script.now in let end = c.loop-place-test.false in omega (arith, there, few, end)

pub loop-place-preserved : goal.loop-place-preserved
loop-place-preserved g c =
    let old = g.S.Site.state c.args.site.now in
    let mid = g.S.Site.state c.loop-place.site in
    let new = g.S.Site.state c.tell_life.new.site in
    let inv = c.loop-place.invariant in
    let life = c.in-Some.life in
    let is_life = sym c.in-Some.ensures.life in
    record {
      keeps = keeps_then old mid new inv.keeps c.tell_life.ensures.keeps;
      left = λ honest. c.tell_life.ensures.left (stays_honest old mid inv.keeps.preserves honest) ∙ inv.left honest;
      faults = c.in-Ok.ensures.faults ∙ inv.faults;
      there = subst (λ (n : ℕ). n < length (lives_in c.args.script.now)) (sym (add-one c.loop-place.place)) (more_lives c.args.script.now c.loop-place.place life _ is_life c.in-Some-stop.is);
      lives = λ geometry is_new honest.
          let r = inv.lives geometry is_new honest in
          goes_on geometry c.args.pool c.args.script.now c.loop-place.place old mid c.loop-place.inner c.live.new.inner r c.live.ensures.lives life is_life c.in-Some-live.status
          (c.in-Some-live.ensures.life geometry r.before r.ready) (c.in-Some-live.ensures.lived geometry r.before r.ready) c.in-Some-live.ensures.status _ c.in-Some-stop.is c.crash-inner.result
          c.crash-inner.ensures.state c.crash-inner.ensures.fresh c.crash-inner.ensures.left c.crash-inner.ensures.lives new
          (c.in-Ok.ensures.told (stays_honest old mid inv.keeps.preserves honest) ∙ ap (λ (l : List ℕ). mid.told ++ (l ++ life_line (c.loop-place.place + 1) c.in-Some-live.status)) c.told.ensures);
    }

pub returns-in_default-tell_life-clause-keeps : goal.returns-in_default-tell_life-clause-keeps
returns-in_default-tell_life-clause-keeps g c = keeps_then _ _ _ c.loop-place.invariant.keeps c.tell_life.ensures.keeps

pub returns-in_default-stop-clause-keeps : goal.returns-in_default-stop-clause-keeps
returns-in_default-stop-clause-keeps g c = keeps_then _ _ _ c.loop-place.invariant.keeps c.tell_life.ensures.keeps

pub returns-in_default-tell_life-clause-lives : goal.returns-in_default-tell_life-clause-lives
returns-in_default-tell_life-clause-lives g c geometry is_new honest =
    let old = g.S.Site.state c.args.site.now in
    let mid = g.S.Site.state c.loop-place.site in
    let r = c.loop-place.invariant.lives geometry is_new honest in
    let part = c.in_default-tell_life.ensures.part (stays_honest old mid c.loop-place.invariant.keeps.preserves honest) in
    told_in_part geometry c.args.pool c.args.script.now c.loop-place.place old mid c.loop-place.inner c.live.new.inner r c.live.ensures.lives c.in-Some.life (sym c.in-Some.ensures.life) c.in-Some-live.status
    (c.in-Some-live.ensures.life geometry r.before r.ready) (c.in-Some-live.ensures.lived geometry r.before r.ready) c.in-Some-live.ensures.status (g.S.Site.state c.tell_life.new.site) part.0 part.1
    (subst (λ (l : List ℕ). IsFront part.0 (l ++ life_line (c.loop-place.place + 1) c.in-Some-live.status)) c.told.ensures part.2)

pub returns-in_default-stop-clause-lives : goal.returns-in_default-stop-clause-lives
returns-in_default-stop-clause-lives g c geometry is_new honest =
    let old = g.S.Site.state c.args.site.now in
    let mid = g.S.Site.state c.loop-place.site in
    let r = c.loop-place.invariant.lives geometry is_new honest in
    told_last geometry c.args.pool c.args.script.now c.loop-place.place old mid c.loop-place.inner c.live.new.inner r c.live.ensures.lives c.in-Some.life (sym c.in-Some.ensures.life) c.in-Some-live.status
    (c.in-Some-live.ensures.life geometry r.before r.ready) (c.in-Some-live.ensures.lived geometry r.before r.ready) c.in-Some-live.ensures.status (g.S.Site.state c.tell_life.new.site)
    (c.in-Ok.ensures.told (stays_honest old mid c.loop-place.invariant.keeps.preserves honest) ∙ ap (λ (l : List ℕ). mid.told ++ (l ++ life_line (c.loop-place.place + 1) c.in-Some-live.status)) c.told.ensures)
    c.in_default-stop.is
