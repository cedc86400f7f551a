use Rattle.log_archive.proofs.Blocks.{archive_is_the_log, blank_agrees, whole_archive}
use Rattle.log_archive.proofs.laws.archive_is_the_log.Goals as goal

pub returns-clause-tables : goal.returns-clause-tables
returns-clause-tables c = archive_is_the_log

pub returns-clause-blank : goal.returns-clause-blank
returns-clause-blank c = blank_agrees

pub returns-clause-whole : goal.returns-clause-whole
returns-clause-whole c = whole_archive
