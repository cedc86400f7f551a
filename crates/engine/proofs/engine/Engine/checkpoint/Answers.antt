use Rattle.engine.proofs.Names.{refl, arith, asks_ok, asks_err, performs_answered, performs_failed}
use Rattle.engine.proofs.Calling.{does_answered, does_failed}
use Rattle.engine.proofs.engine.Engine.checkpoint.Goals as goal

pub returns-in-Ok-clause-answers : goal.returns-in-Ok-clause-answers
returns-in-Ok-clause-answers g c s fits = record { reply = refl; asks = asks_ok c.in-Ok.field-0 _ _ _ _ _ _ c.in-Ok.ensures.asks; does = does_answered (c.in-Ok.ensures.does s fits) }

pub returns-in-Err-clause-answers : goal.returns-in-Err-clause-answers
returns-in-Err-clause-answers g c s fits = record { reply = tt; asks = asks_err c.in-Err.stop _ _ _ _ _ c.in-Err.ensures.asks; does = does_failed (omega arith) (c.in-Err.ensures.does s fits) }

pub returns-in-Ok-clause-performs : goal.returns-in-Ok-clause-performs
returns-in-Ok-clause-performs g c s fits = performs_answered (c.in-Ok.ensures.performs s fits)

pub returns-in-Err-clause-performs : goal.returns-in-Err-clause-performs
returns-in-Err-clause-performs g c s fits = performs_failed (c.in-Err.ensures.performs s fits)
