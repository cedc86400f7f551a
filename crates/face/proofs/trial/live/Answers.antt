use Rattle.face.proofs.Names.{ℕ, ap, HasLivedOne, IsLived, state_of, Site}
use Rattle.face.proofs.Livings.{begun_so, fed_site, lived_one, with_status}
use Rattle.face.proofs.trial.live.Goals as goal

pub returns-clause-life : goal.returns-clause-life
returns-clause-life c g before ready =
    let fed = state_of c.feed.new.self in
    let new = state_of c.serve-status.new.site in
    let told = ap (λ (s : Site). s.told) ready.state in
    let left = ap (λ (s : Site). s.input.left) ready.state in
    let is = fed_site g before (state_of c.args.inner.now) (state_of c.light_fuse.new.inner) fed _ c.args.lines.now c.light_fuse.ensures.state c.in-Ok.ensures.ok ready.finds told left in
    with_status _ (λ (n : ℕ). HasLivedOne g before c.args.lines.now n new) c.status_of_life.result c.serve-status.result c.status_of_life.ensures
    (lived_one c.what_is_left_opens.ensures g before c.args.lines.now fed new c.serve-status.result is.1 is.2 ((c.serve-status.ensures.run.headline g _ is.0).durability))

pub returns-clause-lived : goal.returns-clause-lived
returns-clause-lived c g before ready =
    with_status _ (λ (n : ℕ). IsLived c.args.pool c.args.lines.now c.args.stop before n (state_of c.serve-status.new.site)) c.status_of_life.result c.serve-status.result c.status_of_life.ensures (record {
      begun = state_of c.feed.new.self;
      begins = begun_so c.args.stop before c.args.lines.now c.args.inner.now (state_of c.light_fuse.new.inner) (state_of c.feed.new.self) ready.state c.light_fuse.ensures.state (c.light_fuse.ensures.fuse ready.fresh) c.in-Ok.ensures.ok;
      runs = c.serve-status.ensures.run;
      keeps = c.serve-status.ensures.preserves;
    })
