-- Tables: what a log and versions of pages make of the values.
use Rattle.std.proofs.Common.{◌≡◌, ℕ, ◌+◌, ◌*◌, ◌/◌, ◌%◌, ◌<◌, List, length, None, arith}
use Rattle.std.proofs.lemmas.List.FromFn.{length-map-range_with_len, get_or-map-range_with_len}
use Rattle.record_model.specs.State.{content_at}
use Rattle.log_records.specs.Log.{Entry, Version, value_of, table_of}

pub page_and_slot : (n : ℕ) → 32 * (n / 32) + n % 32 ≡ n
page_and_slot n = omega arith

pub content_of_table : (log : List Entry) (versions : List Version) (number : ℕ) → number < 32 * length versions → content_at (table_of log versions) number ≡ value_of log versions number
content_of_table log versions number h = get_or-map-range_with_len (value_of log versions) 0 (32 * length versions) number number None h (omega arith)

pub length_table_of : (log : List Entry) (versions : List Version) → length (table_of log versions) ≡ 32 * length versions
length_table_of log versions = length-map-range_with_len (value_of log versions) 0 (32 * length versions)
