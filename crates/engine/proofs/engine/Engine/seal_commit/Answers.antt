use Rattle.engine.proofs.Names.{keeps_answered, keeps_failed, performs_answered, performs_failed, Log}
use Rattle.engine.proofs.engine.Engine.seal_commit.Goals as goal

pub returns-in-Ok-clause-holds : goal.returns-in-Ok-clause-holds
returns-in-Ok-clause-holds g c newest records table commits h may = (c.in-Ok.field-0, c.in-Ok.ensures.holds newest records table commits h may)

pub returns-in-Ok-clause-keeps : goal.returns-in-Ok-clause-keeps
returns-in-Ok-clause-keeps g c newest records table commits h may = keeps_answered (c.in-Ok.ensures.keeps newest records table commits h may)

pub returns-in-Err-clause-keeps : goal.returns-in-Err-clause-keeps
returns-in-Err-clause-keeps g c newest records table commits h may = keeps_failed (c.in-Err.ensures.keeps newest records table commits h may)

pub returns-in-Ok-clause-log_reads : goal.returns-in-Ok-clause-log_reads
returns-in-Ok-clause-log_reads g c = c.commit.ensures.reads Log

pub returns-in-Err-clause-log_reads : goal.returns-in-Err-clause-log_reads
returns-in-Err-clause-log_reads g c = c.commit.ensures.reads Log

pub returns-in-Ok-clause-performs : goal.returns-in-Ok-clause-performs
returns-in-Ok-clause-performs g c newest records table commits h = performs_answered (c.in-Ok.ensures.performs newest records table commits h)

pub returns-in-Err-clause-performs : goal.returns-in-Err-clause-performs
returns-in-Err-clause-performs g c newest records table commits h = performs_failed (c.in-Err.ensures.performs newest records table commits h)
