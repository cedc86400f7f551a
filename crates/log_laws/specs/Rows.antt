-- Three logs, and what is said of them.
use Rattle.std.specs.Prelude.{◌≡◌, ℕ, ◌==◌, true, false, List, [], ◌∷◌, length, map, find, replicate, slice_set, Some}
use Rattle.std.specs.Prelude.{None, unwrap_or}
use Rattle.log_records.specs.declared.log_record.LogRecord.{LogRecord}
use Rattle.log_records.specs.declared.log_record.LogRecord.TheVariants.{Begin, Update, Clr, Commit}
use Rattle.log_records.specs.Log.{Entry, log_from, is_loser, entries_of, table_of}
use Rattle.log_records.specs.Unfinished.{pending, losers, left_open, owed}
use Rattle.log_records.specs.Room.{open_length}
use Rattle.log_records.specs.Log.{blank_versions}
use Rattle.log_records.specs.Sound.{Master, IsLoserChain, IsOfOpenTransaction, InTurn, AreOrderly, active_in}
use Rattle.log_records.specs.Sound.{before_block, from_block, commit_numbers, last_known}
use Rattle.record_model.specs.Touches.{touch, flush}
use Rattle.log_records.specs.Restart.{restart_touches}
use Rattle.log_laws.specs.Follow.{shown_table, writes_in}
use Rattle.log_laws.specs.UndoLaws.{IsUndoChain}

-- Block 0 is a transaction that sets record 5. Block 1 is one that writes record 5 twice and record 33, and undoes the
-- last of these.
abbrev pub first_set : List LogRecord
first_set = Begin ∷ Update 2 2 0 5 None (Some (10 ∷ 11 ∷ [])) ∷ Commit 2 1 ∷ []

abbrev pub loser : List LogRecord
loser = Begin ∷ Update 514 514 0 5 (Some (10 ∷ 11 ∷ [])) (Some (1 ∷ [])) ∷ Update 514 515 0 5 (Some (1 ∷ [])) None
    ∷ Update 514 542 1 1 None (Some []) ∷ Clr 514 567 542 1 1 None ∷ []

abbrev pub log : List Entry
log = log_from 0 (first_set ∷ loser ∷ [])

abbrev pub blank_master : Master
blank_master = record { redo = 0; kept = 0; commits = 0; active = [] }

-- the entry at an LSN
abbrev pub entry_at : List Entry → ℕ → Entry
entry_at entries lsn = unwrap_or (find (λ e. e.lsn == lsn) entries) (record { lsn = lsn; rec = Begin })

-- what the second transaction leaves
pub record OfTheLoser : Type 0 where
  pub lsns : map (λ e. e.lsn) log ≡ 2 ∷ 3 ∷ 29 ∷ 514 ∷ 515 ∷ 542 ∷ 567 ∷ 591 ∷ []
  pub unfinished : losers log ≡ 514 ∷ []
  pub left : map (λ e. e.lsn) (left_open log 514) ≡ 542 ∷ 515 ∷ []
  pub to_undo : map (λ e. e.lsn) (pending log) ≡ 515 ∷ 542 ∷ []
  pub blocks : owed log ≡ 3
  pub active : active_in log ≡ record { begin = 514; last = 591 } ∷ []
  pub written : writes_in 514 log ≡ (5, Some (1 ∷ [])) ∷ (5, None) ∷ (33, Some []) ∷ (33, None) ∷ []
  pub chain : IsLoserChain 514 (entries_of 514 log)
  pub of_open : InTurn (IsOfOpenTransaction blank_master) [] log
  pub orderly : AreOrderly log
  -- what is shown, and what counts
  pub shows : shown_table log (blank_versions 2) ≡ replicate 64 None
  pub counts : table_of log (blank_versions 2) ≡ slice_set (replicate 64 None) 5 (Some (10 ∷ 11 ∷ []))
  -- restart touches the pages of the Updates and the CLR, and those of the Updates that it undoes
  pub touches : restart_touches (record {
    master = blank_master;
    log = log;
    hi = 2;
    blocks = 16;
    pages = blank_versions 2;
  })
      ≡ touch 0 true ∷ touch 0 true ∷ touch 0 true ∷ touch 1 true ∷ touch 1 true ∷ touch 0 true ∷ touch 0 true
      ∷ flush ∷ []
  -- with a redo block of 1 the master has counted the commit, and with one of 2 it names the second transaction
  pub counted : length (commit_numbers (before_block 1 log)) ≡ 1
  pub named : active_in (before_block 2 log) ≡ record { begin = 514; last = 591 } ∷ []
  -- the last record on 5 that a version with the LSN 3 knows of
  pub known : last_known log 3 5 ≡ Some (record { lsn = 3; rec = Update 2 2 0 5 None (Some (10 ∷ 11 ∷ [])) })
  pub unknown : last_known log 2 5 ≡ None
  -- undo may put 10 and 11 back on 5; on 33 nothing is left to be undone
  pub needs : open_length log (blank_versions 2) 5 ≡ 2
  pub needs_none : open_length log (blank_versions 2) 33 ≡ 0

-- Block 2 is behind these: the second transaction writes on. It writes record 33 again, and 34, undoes the latter, and
-- writes 33 once more, behind a CLR on the same page.
abbrev pub second_try : List LogRecord
second_try = Update 514 591 1 1 None (Some (2 ∷ [])) ∷ Update 514 1026 1 2 None (Some (3 ∷ []))
    ∷ Clr 514 1051 1026 1 2 None ∷ Update 514 1076 1 1 (Some (2 ∷ [])) (Some (4 ∷ [])) ∷ []

abbrev pub longer : List Entry
longer = log_from 0 (first_set ∷ loser ∷ second_try ∷ [])

-- and the same where its first Update there begins with what its CLR in block 1 has taken back
abbrev pub taken_back : List Entry
taken_back = log_from 0 (first_set ∷ loser ∷ (Update 514 591 1 1 (Some []) (Some (2 ∷ [])) ∷ []) ∷ [])

pub record OfTheSecondTry : Type 0 where
  pub lsns : map (λ e. e.lsn) (entries_of 514 longer)
      ≡ 514 ∷ 515 ∷ 542 ∷ 567 ∷ 591 ∷ 1026 ∷ 1051 ∷ 1076 ∷ 1107 ∷ []
  pub left : map (λ e. e.lsn) (left_open longer 514) ≡ 1107 ∷ 1026 ∷ 542 ∷ 515 ∷ []
  pub to_undo : map (λ e. e.lsn) (pending longer) ≡ 515 ∷ 542 ∷ 1026 ∷ 1107 ∷ []
  pub blocks : owed longer ≡ 5
  pub needs : open_length longer (blank_versions 2) 33 ≡ 1
  pub chain : IsLoserChain 514 (entries_of 514 longer)
  -- undoing reads two CLRs between its Updates, from the last record as from the last Update that is left
  pub reads : IsUndoChain longer 514 1107 (entry_at longer 1107 ∷ entry_at longer 1076 ∷ entry_at longer 1026
      ∷ entry_at longer 591 ∷ entry_at longer 542 ∷ entry_at longer 515 ∷ [])
  pub of_open : InTurn (IsOfOpenTransaction blank_master) [] longer
  pub orderly : AreOrderly longer
  pub shows : shown_table longer (blank_versions 2) ≡ slice_set (replicate 64 None) 33 (Some (4 ∷ []))
  pub counts : table_of longer (blank_versions 2) ≡ slice_set (replicate 64 None) 5 (Some (10 ∷ 11 ∷ []))
  pub refused : IsLoserChain 514 (entries_of 514 taken_back) → ⊥

-- A log that isn't orderly: behind the Commit of transaction 2 stands an Update of it. With a redo block of 2 no rule
-- on the records from there on speaks of it. Kept from block 1 on, the log has a loser without a Begin.
abbrev pub stray : List Entry
stray = log_from 0 ((Begin ∷ Commit 2 1 ∷ []) ∷ (Update 2 2 0 5 None None ∷ Begin ∷ []) ∷ [])

pub record OfTheStray : Type 0 where
  pub passes : InTurn (IsOfOpenTransaction (record {
    redo = 2;
    kept = 0;
    commits = 1;
    active = record { begin = 538; last = 538 } ∷ [];
  })) [] stray
  pub not_orderly : AreOrderly stray → ⊥
  pub closed : is_loser stray 2 ≡ false
  pub unfinished : is_loser (from_block 1 stray) 2 ≡ true
  pub begun : losers (from_block 1 stray) ≡ 538 ∷ []
