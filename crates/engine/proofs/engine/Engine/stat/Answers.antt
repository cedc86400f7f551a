use Rattle.engine.proofs.Names.{◌≡◌, ◌∙◌, arith, used}
use Rattle.engine.proofs.Replies.{owed_same}
use Rattle.engine.proofs.Stats.{active_same}
use Rattle.record_model.specs.declared.words.Reply.TheVariants as reply
use Rattle.engine.proofs.engine.Engine.stat.Goals as goal

pub returns : goal.returns
returns c s site fits =
    let engine = c.args.self.now in
    let used_is : engine.store.made ≡ used s = omega (arith, fits.counts.made) in
    let owed_is = c.owed.ensures ∙ owed_same engine site s fits c.len.ensures.table in
    let active_is = c.len.ensures.len ∙ active_same engine site s fits c.len.ensures.table in
    λ i. reply.Stat (record { commits = fits.counts.commits i; used = used_is i; owed = owed_is i; cap = fits.counts.cap i; active = active_is i })
