-- The stream that an archive goes on from behind a log.
use Rattle.std.specs.Prelude.{ℕ, List, [], ◌∷◌, map, None}
use Rattle.record_model.specs.State.{Write}
use Rattle.log_records.specs.declared.log_record.LogRecord.{LogRecord}
use Rattle.log_records.specs.declared.log_record.LogRecord.TheVariants.{Update}
use Rattle.log_records.specs.Log.{Entry, entries_of}
use Rattle.log_records.specs.Unfinished.{left_open, losers}
use Rattle.log_records.specs.Sound.{LogicalImage, commit_count, last_lsn}
use Rattle.log_laws.specs.Follow.{shown_table, writes_in}
use Rattle.log_archive.specs.Accepted.{Standing, Stream, Unclosed, put_in}

-- an Update as one that stands
abbrev pub standing_by : LogRecord → Standing
standing_by (Update txn prev page slot before after) =
    record { prev = prev; page = page; slot = slot; before = before }
standing_by _ = record { prev = 0; page = 0; slot = 0; before = None }

-- a net with more writes, each of which replaces what is there of its record
abbrev pub put_all : List Write → List Write → List Write
put_all net [] = net
put_all net (write ∷ writes) = put_all (put_in write net) writes

-- What a log has of a transaction: its last record, the Updates that no CLR has compensated, and what it has left last
-- on each record.
abbrev pub unclosed_at : List Entry → ℕ → Unclosed
unclosed_at log t = record {
  begin = t;
  last = last_lsn (entries_of t log);
  standing = map (λ u. standing_by u.rec) (left_open log t);
  net = put_all [] (writes_in t log);
}

-- the unfinished transactions of a log
abbrev pub unclosed_in : List Entry → List Unclosed
unclosed_in log = map (unclosed_at log) (losers log)

-- The stream behind the log of a logical image: its next block, its commits and its unfinished transactions; the table
-- is what shows once all of its records are redone.
abbrev pub base_stream : LogicalImage → Stream
base_stream p = record {
  next = p.hi;
  shown = shown_table p.log p.pages;
  before = commit_count p;
  nets = [];
  unclosed = unclosed_in p.log;
}
