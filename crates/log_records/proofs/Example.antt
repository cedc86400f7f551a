-- A block, and the meaning of small logs, computed.
use Rattle.std.specs.Prelude.{◌≡◌, true, false, List, [], ◌∷◌, map, replicate, slice_set, Some, None, refl}
use Rattle.log_records.specs.declared.log_record.LogRecord.{LogRecord}
use Rattle.log_records.specs.declared.log_record.LogRecord.TheVariants.{Begin, Update, Clr, Commit, End}
use Rattle.log_records.specs.Spelling.{spelling, block, used_by}
use Rattle.log_records.specs.Log.{Entry, Version, blank_versions, is_loser, log_from, value_of, table_of}

-- record 5 of the table, which has no value, is set to 0a0b by the first transaction of a log
abbrev first_set : List LogRecord
first_set = Begin ∷ Update 2 2 0 5 None (Some (0x0a ∷ 0x0b ∷ [])) ∷ Commit 2 1 ∷ []

pub example_used : used_by first_set ≡ 46
unfolding spelling
example_used = refl

pub example_block : block first_set
    ≡ 0x00 ∷ 0x2e
    ∷ 0x01
    ∷ 0x02 ∷ 0x00 ∷ 0x00 ∷ 0x00 ∷ 0x00 ∷ 0x00 ∷ 0x00 ∷ 0x00 ∷ 0x02 ∷ 0x00 ∷ 0x00 ∷ 0x00 ∷ 0x00 ∷ 0x00 ∷ 0x00 ∷ 0x00 ∷ 0x02 ∷ 0x00 ∷ 0x00 ∷ 0x00 ∷ 0x00 ∷ 0x05 ∷ 0x00 ∷ 0x03 ∷ 0x0a ∷ 0x0b
    ∷ 0x04 ∷ 0x00 ∷ 0x00 ∷ 0x00 ∷ 0x00 ∷ 0x00 ∷ 0x00 ∷ 0x00 ∷ 0x02 ∷ 0x00 ∷ 0x00 ∷ 0x00 ∷ 0x00 ∷ 0x00 ∷ 0x00 ∷ 0x00 ∷ 0x01
    ∷ replicate 457 0
unfolding spelling block
example_block = refl

pub example_lsns : map (λ e. e.lsn) (log_from 0 (first_set ∷ [])) ≡ 2 ∷ 3 ∷ 29 ∷ []
unfolding spelling
example_lsns = refl

-- A second block: a transaction writes record 5 twice and record 33, and undoes the last of these.
abbrev loser : List LogRecord
loser =
    Begin
    ∷ Update 514 514 0 5 (Some (0x0a ∷ 0x0b ∷ [])) (Some (0x01 ∷ []))
    ∷ Update 514 515 0 5 (Some (0x01 ∷ [])) None
    ∷ Update 514 542 1 1 None (Some [])
    ∷ Clr 514 567 542 1 1 None
    ∷ []

abbrev log : List Entry
log = log_from 0 (first_set ∷ loser ∷ [])

abbrev versions : List Version
versions = blank_versions 2

pub loser_lsns : map (λ e. e.lsn) log ≡ 2 ∷ 3 ∷ 29 ∷ 514 ∷ 515 ∷ 542 ∷ 567 ∷ 591 ∷ []
unfolding spelling
loser_lsns = refl

-- the committed transaction is none, nor is one that the log doesn't know
pub is_the_loser : is_loser log 514 ≡ true
unfolding spelling
is_the_loser = refl

pub committed_is_none : is_loser log 2 ≡ false
unfolding spelling
committed_is_none = refl

pub unknown_is_none : is_loser log 3 ≡ false
unfolding spelling
unknown_is_none = refl

-- what the loser has written counts as undone
pub the_table : table_of log versions ≡ slice_set (replicate 64 None) 5 (Some (0x0a ∷ 0x0b ∷ []))
unfolding spelling
the_table = refl

-- Once it has committed, its last records on 5 and 33 count.
abbrev committed : List Entry
committed = log_from 0 (first_set ∷ loser ∷ (Commit 514 2 ∷ []) ∷ [])

pub none_left : table_of committed versions ≡ replicate 64 None
unfolding spelling
none_left = refl

-- and after it has ended all is as before
abbrev ended : List Entry
ended = log_from 0 (first_set ∷ loser ∷ (Clr 514 591 515 0 5 (Some (0x01 ∷ [])) ∷ Clr 514 1026 514 0 5 (Some (0x0a ∷ 0x0b ∷ [])) ∷ End 514 ∷ []) ∷ [])

pub undone : table_of ended versions ≡ slice_set (replicate 64 None) 5 (Some (0x0a ∷ 0x0b ∷ []))
unfolding spelling
undone = refl

-- A third block: it writes on behind its CLR, 33 and 34, undoes the latter and writes 33 once more. All counts as undone.
abbrev second_try : List LogRecord
second_try =
    Update 514 591 1 1 None (Some (0x02 ∷ []))
    ∷ Update 514 1026 1 2 None (Some (0x03 ∷ []))
    ∷ Clr 514 1051 1026 1 2 None
    ∷ Update 514 1076 1 1 (Some (0x02 ∷ [])) (Some (0x04 ∷ []))
    ∷ []

pub still_undone : table_of (log_from 0 (first_set ∷ loser ∷ second_try ∷ [])) versions ≡ slice_set (replicate 64 None) 5 (Some (0x0a ∷ 0x0b ∷ []))
unfolding spelling
still_undone = refl

pub the_last_counts : table_of (log_from 0 (first_set ∷ loser ∷ second_try ∷ (Commit 514 2 ∷ []) ∷ [])) versions ≡ slice_set (replicate 64 None) 33 (Some (0x04 ∷ []))
unfolding spelling
the_last_counts = refl

-- and so once undoing has gone back over both CLRs
abbrev all_undone : List LogRecord
all_undone =
    Clr 514 1107 1076 1 1 (Some (0x02 ∷ []))
    ∷ Clr 514 1538 591 1 1 None
    ∷ Clr 514 1570 515 0 5 (Some (0x01 ∷ []))
    ∷ Clr 514 1601 514 0 5 (Some (0x0a ∷ 0x0b ∷ []))
    ∷ End 514
    ∷ []

pub ended_twice : table_of (log_from 0 (first_set ∷ loser ∷ second_try ∷ all_undone ∷ [])) versions ≡ slice_set (replicate 64 None) 5 (Some (0x0a ∷ 0x0b ∷ []))
unfolding spelling
ended_twice = refl

-- A slot counts only where the log has no record on it.
abbrev older : List Version
older = record { lsn = 3; slots = None ∷ Some (0x07 ∷ []) ∷ None ∷ None ∷ None ∷ Some (0x08 ∷ []) ∷ [] } ∷ []

pub shown_slot : value_of log older 1 ≡ Some (0x07 ∷ [])
unfolding spelling
shown_slot = refl

pub hidden_slot : value_of log older 5 ≡ Some (0x0a ∷ 0x0b ∷ [])
unfolding spelling
hidden_slot = refl
