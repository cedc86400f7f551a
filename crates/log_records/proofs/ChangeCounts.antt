-- How many Updates and CLRs a log of so many blocks has at most.
use Rattle.std.proofs.Common.{◌≡◌, ℕ, ◌+◌, ◌*◌, ◌≤◌, Bool, cond, List, [], ◌∷◌, ◌++◌, length, filter, flat_map, Some, None, arith}
use Rattle.std.specs.Prelude.{is_some}
use Rattle.std.specs.List.{AllByRecursion}
use Rattle.std.proofs.lemmas.List.{length-append}
use Rattle.log_records.specs.declared.log_record.LogRecord.{LogRecord}
use Rattle.log_records.specs.declared.log_record.LogRecord.TheVariants.{Update}
use Rattle.log_records.specs.Log.{Entry, entries_from, log_from, number_of}
use Rattle.log_records.specs.Spelling.{AreBlock, content_spelling, spelling}
use Rattle.record_model.specs.State.{Content}

-- whether a record is an Update or a CLR, as a number; and how many are
abbrev pub is_change : LogRecord → ℕ
is_change rec = cond (is_some (number_of rec)) 1 0

abbrev pub changes_in : List Entry → ℕ
changes_in [] = 0
changes_in (e ∷ log) = is_change e.rec + changes_in log

pub changes_join : (xs ys : List Entry) → changes_in (xs ++ ys) ≡ changes_in xs + changes_in ys
changes_join [] ys = omega arith
changes_join (e ∷ xs) ys = omega (arith, changes_join xs ys)

pub changes_filter : (test : Entry → Bool) (xs : List Entry) → changes_in (filter test xs) ≤ changes_in xs
changes_filter test [] = omega arith
changes_filter test (e ∷ xs) = grind (arith, (changes_filter test xs))

content_long : (content : Content) → 1 ≤ length (content_spelling content)
content_long None = omega arith
content_long (Some value) = omega arith

-- an Update has 24 octets at least, and a CLR 31
change_long : (rec : LogRecord) → 24 * is_change rec ≤ length (spelling rec)
unfolding spelling
change_long (Update txn prev page slot before after) = omega (arith, content_long before, content_long after, length-append (content_spelling before) (content_spelling after))
change_long _ = omega arith

entries_long : (lsn : ℕ) (records : List LogRecord) → 24 * changes_in (entries_from lsn records) ≤ length (flat_map spelling records)
entries_long lsn [] = omega arith
entries_long lsn (rec ∷ records) = grind (arith, change_long, length-append, flat_map, (entries_long (lsn + length (spelling rec)) records))

-- so a block has twenty of them at most
block_few : (lsn : ℕ) (records : List LogRecord) → AreBlock records → changes_in (entries_from lsn records) ≤ 20
block_few lsn records are = let room = are.room in omega (arith, entries_long lsn records, room)

pub changes_few : (first : ℕ) (blocks : List (List LogRecord)) → AllByRecursion AreBlock blocks → changes_in (log_from first blocks) ≤ 20 * length blocks
changes_few first [] all = omega arith
changes_few first (records ∷ blocks) all = grind (arith, block_few, changes_join, (changes_few (first + 1) blocks all.1))
