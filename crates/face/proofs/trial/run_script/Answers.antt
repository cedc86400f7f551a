use Rattle.face.proofs.Names.{◌∙◌, List, ℕ, subst, Ends, numbers_of, stays_honest}
use Rattle.face.proofs.Trials.{ends_since, keeps_heard, keeps_then}
use Rattle.face.proofs.trial.run_script.Goals as goal

pub returns-in-Ok-clause-keeps : goal.returns-in-Ok-clause-keeps
returns-in-Ok-clause-keeps g c =
    let script = c.read_script.ensures in
    keeps_then (g.S.Site.state c.args.site.now) (g.S.Site.state c.read_script.new.site) (g.S.Site.state c.live_script.new.site) (keeps_heard _ _ script.same script.reads script.preserves) c.live_script.ensures.keeps

pub returns-in-Err-clause-keeps : goal.returns-in-Err-clause-keeps
returns-in-Err-clause-keeps g c = keeps_heard (g.S.Site.state c.args.site.now) (g.S.Site.state c.read_script.new.site) c.read_script.ensures.same c.read_script.ensures.reads c.read_script.ensures.preserves

pub returns-in-Ok-clause-lives : goal.returns-in-Ok-clause-lives
returns-in-Ok-clause-lives g c geometry is_new honest =
    let old = g.S.Site.state c.args.site.now in
    let mid = g.S.Site.state c.read_script.new.site in
    let new = g.S.Site.state c.live_script.new.site in
    let read = c.read_script.ensures in
    subst (λ (s : List ℕ). Ends geometry c.args.pool s c.live_script.result.0 old new (numbers_of c.live_script.result.1)) (c.as_slice.ensures.value ∙ c.in-Ok.ensures.script honest)
    (ends_since geometry c.args.pool c.as_slice.result.now c.live_script.result.0 old mid new (numbers_of c.live_script.result.1) (read.same honest).told (c.live_script.ensures.lives geometry is_new (stays_honest old mid read.preserves honest)))
