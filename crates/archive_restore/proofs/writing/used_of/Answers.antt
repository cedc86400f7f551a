use Rattle.archive_restore.proofs.writing.used_of.Goals as goal

pub returns : goal.returns
returns c s site fits = c.used_in.ensures _ (c.stat.ensures s site fits)
