use Rattle.sealed_ring.proofs.Names.{arith, rules, region, stays_honest, ok_as}
use Rattle.sealed_ring.proofs.Runs.{changes_in_sequence}
use Rattle.sealed_ring.proofs.Sealed.{is_staged, stages_keeps}
use Rattle.sealed_ring.proofs.Whole.{half, all_of_it}
use Rattle.sealed_ring.proofs.Outcome.{seals_ok, form_ok, stands_ok}
use Rattle.sealed_ring.proofs.sealing.seal.Goals as goal

pub returns-in_err-stage-clause-sealed : goal.returns-in_err-stage-clause-sealed
returns-in_err-stage-clause-sealed g c honest =
    let s = c.args.shape in
    let old = g.S.Site.state c.args.site.now in
    let mid = g.S.Site.state c.stage.new.site in
    let staged = c.stage.ensures.staged honest in
    record {
      any_moment = λ rest. half s c.args.hi c.args.content.now old c.requires.fits.slots rest mid (staged.any_moment rest);
      changes = staged.changes;
      seals = search rules;
      settled = search rules;
      form = λ form. search rules;
      stands = λ form. search rules;
      device_calls = search rules;
    }

pub returns-clause-sealed : goal.returns-clause-sealed
returns-clause-sealed g c honest =
    let s = c.args.shape in
    let bytes = c.args.content.now in
    let old = g.S.Site.state c.args.site.now in
    let mid = g.S.Site.state c.stage.new.site in
    let new = g.S.Site.state c.open.new.site in
    let honest-mid = stays_honest old mid c.stage.ensures.writes.preserves honest in
    let staged = c.stage.ensures.staged honest in
    let stages = (c.in_ok-stage.ensures.staged honest).stages in
    let settled = (c.in_ok-stage.ensures.staged honest).settled in
    let opens = c.open.ensures.opens honest-mid in
    record {
      any_moment = λ rest.
          let kept = stages_keeps s c.args.hi bytes (region s old) c.requires.fits (region s mid) rest.form stages in
          all_of_it s c.args.hi bytes old c.requires.fits.slots rest mid new (staged.any_moment rest) kept stages.content
          (c.open.ensures.any_moment honest-mid settled (is_staged s c.args.hi bytes (region s old) c.requires.fits (region s mid) rest.form stages));
      changes = changes_in_sequence s.dev old mid new staged.changes (c.open.ensures.changes honest-mid);
      seals = seals_ok s c.args.hi bytes (region s old) (region s mid) (region s new) c.requires.fits stages c.open.result opens;
      settled = c.open.ensures.settled honest-mid;
      form = λ form. form_ok s c.args.hi bytes (region s old) (region s mid) (region s new) c.requires.fits c.requires.bounded stages form c.open.result opens;
      stands = λ form. stands_ok s c.args.hi bytes (region s old) (region s mid) (region s new) c.requires.fits c.requires.bounded stages form c.open.result opens;
      device_calls =
          let before = (c.in_ok-stage.ensures.staged honest).device_calls in
          ok_as c.open.result _ _ (λ opened. omega (arith, before, opened)) (c.open.ensures.device_calls honest-mid);
    }
