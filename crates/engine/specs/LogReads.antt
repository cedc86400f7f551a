-- How often the log is read.
use Rattle.std.specs.Prelude.{ℕ, ◌+◌, ◌-◌, List, length, Option, Some, None}
use Rattle.site.specs.declared.geometry.Geometry.{Geometry}
use Rattle.record_model.specs.State.{Session, State, session_at}
use Rattle.record_model.specs.Step.{dropped}
use Rattle.record_model.specs.declared.words.Command.{Command}
use Rattle.record_model.specs.declared.words.Command.TheVariants.{Begin, Read, Write, Erase, Scan, Commit, Abort, Get}
use Rattle.record_model.specs.declared.words.Command.TheVariants.{Set, Checkpoint, Cache, Stat, Quit, Mark, Back}
use Rattle.log_records.specs.declared.log_record.LogRecord.{LogRecord}
use Rattle.log_records.specs.Unfinished.{pending}
use Rattle.checkpoint.specs.declared.master.Master.{Master}
use Rattle.engine.specs.Image.{log_under}

-- undoing a session reads the log at most once for each write that it ever made, dropped ones too, and once more
abbrev pub undo_reads : Option Session → ℕ
undo_reads None = 0
undo_reads (Some session) = length session.wrote + 1

-- going back at most once for each write that is dropped now, and for each that was dropped before
abbrev pub back_reads : Option ℕ → Option Session → ℕ
back_reads standing None = 0
back_reads standing (Some session) =
    length (dropped standing (Some session)) + (length session.wrote - length session.writes)

-- how often a command reads the log at most: an abort undoes its session, and a back a part of it
abbrev pub log_reads_by : State → Command → ℕ
log_reads_by s (Begin n) = 0
log_reads_by s (Read n number) = 0
log_reads_by s (Write n number value) = 0
log_reads_by s (Erase n number) = 0
log_reads_by s (Scan n number count) = 0
log_reads_by s (Commit n) = 0
log_reads_by s (Abort n) = undo_reads (session_at s n)
log_reads_by s (Mark n) = 0
log_reads_by s (Back n standing) = back_reads standing (session_at s n)
log_reads_by s (Get number) = 0
log_reads_by s (Set number value) = 0
log_reads_by s Checkpoint = 0
log_reads_by s Cache = 0
log_reads_by s Stat = 0
log_reads_by s Quit = 0

-- A restart over these kept blocks finds the rings on the log's device by one read of each slot of the log's ring and
-- six more, reads each of the blocks once, and once more the record of each Update that remains to be undone.
abbrev pub restart_log_reads : Geometry → Option Master → List (List LogRecord) → ℕ
restart_log_reads g newest blocks = g.blocks + 6 + length blocks + length (pending (log_under newest blocks))
