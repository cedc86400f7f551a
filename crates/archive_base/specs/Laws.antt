-- Of a sound logical image.
use Rattle.std.specs.Prelude.{◌≡◌, ◌+◌, ◌*◌, flat_map}
use Rattle.record_model.specs.State.{table_with}
use Rattle.log_records.specs.Log.{table_of}
use Rattle.log_records.specs.Sound.{IsSound, LogicalImage}
use Rattle.log_archive.specs.Values.{Agrees}
use Rattle.log_replay.specs.Opened.{AreOpen}
use Rattle.log_replay.specs.declared.transactions.Transactions.{Transactions}
use Rattle.archive_base.specs.Base.{base_stream, unclosed_in}
use Rattle.archive_base.specs.Opening.{HasHeard, HaveClaimed}

-- Its stream stands for its log: so whatever goes on from there is an archive of that log's (`archive_is_the_log`).
abbrev pub BaseAgrees : Type 0
BaseAgrees = (p : LogicalImage) → IsSound p → Agrees p.log p.pages (base_stream p)

-- what shows is its table, with what the unfinished transactions have left
abbrev pub BaseShows : Type 0
BaseShows = (p : LogicalImage) → IsSound p
    → (base_stream p).shown ≡ table_with (table_of p.log p.pages) (flat_map (λ t. t.net) (unclosed_in p.log))

-- what was heard of its log is open behind it
abbrev pub HeardAreOpen : Type 0
HeardAreOpen = (p : LogicalImage) (kept : Transactions) → IsSound p → HasHeard p.log kept → HaveClaimed kept
    → AreOpen (512 * p.hi + 2) (unclosed_in p.log) kept
