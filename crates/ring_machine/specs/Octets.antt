-- How many octets a log record has.
use Rattle.std.specs.Prelude.{ℕ, ◌+◌, length, Some, None}
use Rattle.record_model.specs.State.{Content}
use Rattle.log_records.specs.declared.log_record.LogRecord.{LogRecord}
use Rattle.log_records.specs.declared.log_record.LogRecord.TheVariants.{Begin, Update, Clr, Commit, End}

-- of a content: its length, or none, in one octet, and its value
abbrev pub content_octets : Content → ℕ
content_octets None = 1
content_octets (Some value) = length value + 1

abbrev pub update_octets : Content → Content → ℕ
update_octets before after = 22 + content_octets before + content_octets after

abbrev pub clr_octets : Content → ℕ
clr_octets after = 30 + content_octets after

abbrev pub octets_of : LogRecord → ℕ
octets_of Begin = 1
octets_of (Update txn prev page slot before after) = update_octets before after
octets_of (Clr txn prev undo_next page slot after) = clr_octets after
octets_of (Commit txn number) = 17
octets_of (End txn) = 9
