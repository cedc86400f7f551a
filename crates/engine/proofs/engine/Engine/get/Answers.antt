use Rattle.engine.proofs.Names.{refl, arith, performs_as}
use Rattle.engine.proofs.Calling.{answered, does_nothing, does_failed, asks_rest, still}
use Rattle.engine.proofs.Performing.{performs_rest}
use Rattle.engine.proofs.engine.Engine.get.Goals as goal

pub returns-in-Some-clause-answers : goal.returns-in-Some-clause-answers
returns-in-Some-clause-answers g c s fits =
    answered (c.in-Some.ensures.refused s (g.S.Site.state c.args.site.now) fits) (does_nothing fits c.requires.going (still fits c.requires.going)) refl asks_rest

pub returns-in-Ok-clause-answers : goal.returns-in-Ok-clause-answers
returns-in-Ok-clause-answers g c s fits =
    answered (c.in_default.ensures.accepted s (g.S.Site.state c.args.site.now) fits) (c.in-Ok.ensures.does s fits) (c.in-Ok.ensures.reply s fits) c.in-Ok.ensures.asks

pub returns-in-Err-clause-answers : goal.returns-in-Err-clause-answers
returns-in-Err-clause-answers g c s fits =
    answered (c.in_default.ensures.accepted s (g.S.Site.state c.args.site.now) fits) (does_failed (omega arith) (c.in-Err.ensures.does s fits)) tt c.in-Err.ensures.asks

pub returns-in-Some-clause-performs : goal.returns-in-Some-clause-performs
returns-in-Some-clause-performs g c s fits = performs_rest (c.in-Some.ensures.refused s (g.S.Site.state c.args.site.now) fits).1.1

pub returns-in-Ok-clause-performs : goal.returns-in-Ok-clause-performs
returns-in-Ok-clause-performs g c s fits = performs_as (c.in_default.ensures.accepted s (g.S.Site.state c.args.site.now) fits).1.1 (c.in-Ok.ensures.performs s fits)

pub returns-in-Err-clause-performs : goal.returns-in-Err-clause-performs
returns-in-Err-clause-performs g c s fits = performs_as (c.in_default.ensures.accepted s (g.S.Site.state c.args.site.now) fits).1.1 (c.in-Err.ensures.performs s fits)
