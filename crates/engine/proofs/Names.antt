-- The names that most proofs of this crate cite, passed on from one place. Declares nothing.
pub use Rattle.std.proofs.Common.{arith, ◌≡◌, ap, refl, sym, ◌∙◌, ℕ, Some, subst, List, None, [], ◌+◌, Option, ◌∷◌, ◌≤◌, length, ◌<◌, false, ◌++◌, true, Bool, ◌*◌, rules, ⊎_elim, ◌-◌, ◌/◌, ◌==◌, map, true≢false, suc, zero, IsTrue, cond, get_or-set_other, get_or-set_same, ◌&&◌, ◌||◌, ◌≢◌, find, not, take, inl, inr, ◌%◌, length-set, append_assoc, drop, ◌^◌, flat_map, max, min, reverse, ◌⊎◌, append-nil, fold, get_or, replicate, sum_by, All, Contains, add-one, filter, ltb-false, slice_get}
pub use Rattle.std.proofs.Math.Bool.{and-true, and-false, or-false}
pub use Rattle.std.proofs.Math.Nat.{div-add-mod, min-le_left, le-max_left, min-eq_left, min-le_right, zero-add}
pub use Rattle.std.proofs.lemmas.Bool.{cases_eq, eq-eqb, ne_eqb, cases_lt, eqb-true, le-ltb, lt-ltb, and_from, lt-leb, or_parts, and_right, cond-true, false_from_ne_true, le-leb, not_from_false, or_from, or_left, or_right}
pub use Rattle.std.proofs.lemmas.List.{length-map, map-append, get_or-map, length-drop, length-take-le, length-append, reverse-append, set-get_or, take-append-drop}
pub use Rattle.std.proofs.lemmas.List.Elements.{filter_map-append, All-from_recursion, filter-append}
pub use Rattle.std.proofs.lemmas.List.Sums.{sum_by-cons}
pub use Rattle.std.proofs.lemmas.Option.{none-some, same_Some}
pub use Rattle.std.specs.List.{range_with_len, list_any, AllByRecursion, cons_option, reduce}
pub use Rattle.std.specs.Option.{option_map_or, option_or}
pub use Rattle.std.specs.Prelude.{Ok, slice_index_or, Err, Result, option_map, slice_set, unwrap_or, if◌then◌else◌, OnOk, filter_map, IfOk, is_some, nat_le, IsSome, is_none, nat_lt, IfNone, IsErrOf, ⊤}
pub use Rattle.std.specs.Result.{result_ok}
pub use Rattle.analysis.specs.Open.{owed_for}
pub use Rattle.analysis.specs.Table.{listed}
pub use Rattle.buffer_pool.specs.Frames.{front_of, frame_of}
pub use Rattle.checkpoint.specs.Actives.{Ascend, no_pair}
pub use Rattle.checkpoint.specs.declared.master.Master.{Master}
pub use Rattle.checkpoint.specs.declared.pairs.Pair.{Pair}
pub use Rattle.engine.specs.Calls.{CommandEffect, Ends, CommandContract, KeepsUnread, KeepsEngine}
pub use Rattle.engine.specs.Image.{IsSound, Stands, log_under, Opens}
pub use Rattle.engine.specs.Invariant.{sizes_of, Invariant}
pub use Rattle.engine.specs.Judged.{read_of, IsLegible}
pub use Rattle.engine.specs.Leaves.{LeavesTable, LeavesEither}
pub use Rattle.engine.specs.LogReads.{back_reads, undo_reads}
pub use Rattle.engine.specs.Numbers.{CountsOn, RestartsWithin, checkpoints_by}
pub use Rattle.engine.specs.OneWrite.{HasOneWrite}
pub use Rattle.engine.specs.PageTests.{AreLocked, full_for, FootprintsAre, work_by, AreTakenBack, touches_by, write_by, footprint_of, footprints_of, tested}
pub use Rattle.engine.specs.Paging.{cache_on, AsksFrom, HasStagedFrom, WritesFrom, restart_works}
pub use Rattle.engine.specs.Permits.{MayWrite}
pub use Rattle.engine.specs.Representation.{Matches, SessionIs, SessionsAre, LocksAre, checkpointed_if, updated, IsCarriedOut, run, with_reads, IsRefusedWith, IsUnderWay, with_read, with_write, IsFull, IsTested, with_mark}
pub use Rattle.engine.specs.Restarting.{IsReady, RestartedAs, LeavesNext, Restarts, found_store}
pub use Rattle.engine.specs.RingWork.{found_machine, machine_on}
pub use Rattle.engine.specs.Scans.{items_seen, first_busy, items_of}
pub use Rattle.engine.specs.declared.engine.Engine.{Engine}
pub use Rattle.engine.specs.declared.restart.Opened.{Opened}
pub use Rattle.engine.specs.declared.restart.Restarted.{Restarted}
pub use Rattle.flash_cache.specs.Representation.{groups_on, version_on, AllTogether, HasFrames, HasGroups, Shows, start_reads}
pub use Rattle.footprints.specs.Longest.{of_session, lengths_on, IsOnlyOf, lengths, Drops, need_in}
pub use Rattle.footprints.specs.declared.footprint.Footprint.{Footprint}
pub use Rattle.frame_group.specs.Groups.{frames_in, Frame, group}
pub use Rattle.image_changes.specs.Rings.{log_shape, master_shape, group_shape, units_on, Masters, segment_shape}
pub use Rattle.image_meaning.proofs.Leaving.{under_leaves_for}
pub use Rattle.image_meaning.proofs.UnchangedImages.{next_block_is}
pub use Rattle.image_meaning.proofs.Versions.{length-versions, version_is as version_at_is}
pub use Rattle.image_meaning.specs.Flushed.{first_block}
pub use Rattle.image_meaning.specs.Meaning.{versions_on, master_of, logical_image_under, kept_by, saved_by, AreGroups, AreOctetsSoundUnder, HasNewest, IsUnused, next_block_under, version_in}
pub use Rattle.lock_table.specs.Locks.{ReleasesAll, AddsLock, busy_read, busy_write, has_written, has_read}
pub use Rattle.lock_table.specs.declared.lock.Lock.{Lock}
pub use Rattle.log_laws.proofs.Appends.{fresh_entries, has_written_is, begin_follows}
pub use Rattle.log_laws.proofs.Chains.{RunsFrom, none_any}
pub use Rattle.log_laws.proofs.Follow.{undoable_behind}
pub use Rattle.log_laws.proofs.Lists.{all_find, some_or_none}
pub use Rattle.log_laws.proofs.Losers.{entries_own, active_begun, active_may_write, active_owes, active_writes, entries_other, loser_is_closed, loser_stays, active_stays, any_of_those, left_keep}
pub use Rattle.log_laws.proofs.Owing.{owed_update, owed_begin, owed_closing, left_push, owed_none}
pub use Rattle.log_laws.proofs.Rooms.{total_within, IsNoLonger, IsWithin, all_left_of, room_behind, room_is_within, within_is_room}
pub use Rattle.log_laws.proofs.Shown.{shown_is_value, shown_push, writer_is_loser}
pub use Rattle.log_laws.proofs.Standing.{writes_more, last_standing, left_are_updates, standing_count, standing_taken, writes_dropped}
pub use Rattle.log_laws.proofs.StandingTables.{shown_stands, table_stands, left_begin_there, written_is}
pub use Rattle.log_laws.proofs.Tables.{content_of_table}
pub use Rattle.log_laws.proofs.Tails.{tail_without_commit, whole_in_order, whole_in_table, whole_is_undoable}
pub use Rattle.log_laws.proofs.Values.{with, closed_same, last_is_own, open_before, update_of}
pub use Rattle.log_laws.specs.Follow.{IsActive, IsUndoable, IsFree, IsFreeFor, IsFresh, write_of, writes_in, CanBeUndone, Follows, standing_in}
pub use Rattle.log_records.specs.Log.{Entry, entries_of, is_loser, Version, is_closed, is_of, is_on, number_of, shown, is_number, table_of, txn_of, before_of, value_of, after_of, is_closing, is_update, last_where, slot_at, updates_in}
pub use Rattle.log_records.specs.Room.{HasOpenRoom, open_length, longest, put_back}
pub use Rattle.log_records.specs.Sound.{LogicalImage, Means, from_block, AreOrderly, InTurn, IsInTable, IsLoserChain, commit_count, commit_numbers, last_lsn}
pub use Rattle.log_records.specs.Unfinished.{owed, left_open, pending, losers}
pub use Rattle.log_records.specs.declared.log_record.LogRecord.{LogRecord}
pub use Rattle.log_records.specs.declared.log_record.LogRecord.TheVariants.{Begin, Update, Commit, Clr, End}
pub use Rattle.log_store.specs.Representation.{end_of, has_tail}
pub use Rattle.log_store.specs.declared.store.LogStore.{LogStore}
pub use Rattle.page_store.proofs.StagingLaws.{stages_err, stages_ok, fits_queue, last_after_reads, stages_none, still_leaves}
pub use Rattle.page_store.specs.Representation.{IsStore, content_by, current}
pub use Rattle.page_store.specs.Stopping.{MayStop}
pub use Rattle.page_store.specs.declared.store.PageStore.{PageStore}
pub use Rattle.record_model.specs.State.{State, session_at, Content, Session, writes_of, content_at, Write, seen, wrote_of, table_with, last_write, reads_of, length_of, footprint, kept_by_checkpoint, longest_write, page_room, used, active_sessions, footprint_with, greatest, is_due, need, page_of, standing_writes}
pub use Rattle.record_model.specs.Step.{first_refusal, effect, making, fills_page, may_read, wants_record, with_session, Outcome, lacks_room, may_write, refusal, refuse_if, asks_for_checkpoint, committed, going_back, having_written, wants_short, dropped, found, having_read, outcome, ready, wants_page_room, carried_through, full, having_marked, item, makes_checkpoint, wants_active, wants_standing}
pub use Rattle.record_model.specs.Touches.{CacheOp, record_touches, command_touches, read_touch, flush, takes_back_touches, tested_touches, write_touch}
pub use Rattle.record_model.specs.declared.words.Command.{Command}
pub use Rattle.record_model.specs.declared.words.Command.TheVariants.{Set, Back, Abort, Erase, Get, Mark, Read, Scan}
pub use Rattle.record_model.specs.declared.words.Reply.{Reply}
pub use Rattle.record_model.specs.declared.words.Why.TheVariants.{BadSession, BadMark, NoRecord, TooLong}
pub use Rattle.redo_laws.proofs.Appended.{if_ok_one, if_ok_two}
pub use Rattle.redo_laws.proofs.Asking.{asks_ok, asks_err, asks_same, asks_then, asks_stopped, asks_fails, asks_nothing, no_asks}
pub use Rattle.redo_laws.proofs.AskingUndo.{change_made, change_stopped}
pub use Rattle.redo_laws.proofs.CallsInSequence.{nothing_happens, only_read}
pub use Rattle.redo_laws.proofs.Costs.{numbers_rise}
pub use Rattle.redo_laws.proofs.Endings.{ends_failed, ends_answered, ends_leaving, ends_no_memory, ends_ok, ends_behind, leaves_late}
pub use Rattle.redo_laws.proofs.Forced.{none_now}
pub use Rattle.redo_laws.proofs.RingNumbers.{skips_on, then_skips, hi_on, leaves_more, leaves_unchanged, skips_answered, skips_nothing}
pub use Rattle.redo_laws.proofs.Touched.{tail_blocks}
pub use Rattle.redo_laws.specs.Checkpointing.{MayBeMade, begins_of, AreUnfinished, KeepUnfinished}
pub use Rattle.redo_laws.specs.Committing.{MayCommit}
pub use Rattle.redo_laws.specs.Holding.{blocks_to, IsSpent}
pub use Rattle.redo_laws.specs.MachineSteps.{StepsMachine, one_touch, checkpoint_works, one_change, NumbersRise, redo_works, undo_works}
pub use Rattle.redo_laws.specs.Numbers.{SkipsNone, HasNumbers}
pub use Rattle.redo_undo.proofs.NextUnits.{next_answered, next_then, next_failed, next_nothing, next_refused, store_next}
pub use Rattle.redo_undo.proofs.Saved.{finds_kept, log_still}
pub use Rattle.redo_undo.proofs.StoreCalling.{keeps_failed, keeps_answered, works_answered, keeps_both, keeps_no_memory, keeps_weaker, works_then, keeps_then, where_two}
pub use Rattle.redo_undo.specs.Fitting.{FitsFront}
pub use Rattle.redo_undo.specs.Mirroring.{Mirrors, MirrorsStore, PerformsStore, updates, clrs_for, resting, undo_one_work}
pub use Rattle.redo_undo.specs.Redoing.{AsksAtRest, IsReadable, Opening}
pub use Rattle.redo_undo.specs.StoreCalls.{Keeps, KeepsNext, AreNext, KeepsInvariant}
pub use Rattle.redo_undo.specs.StoreRollback.{ConcernsOnly, GoesBack, RollsBack}
pub use Rattle.redo_undo.specs.Stores.{Represents, shown_in, HasCheckpoint, MayGrow, MayWork, IsInFront, update_by}
pub use Rattle.redo_undo.specs.declared.store.TransactionStore.{TransactionStore}
pub use Rattle.ring_machine.proofs.Performing.{performs_as, performs_answered, performs_failed, performs_refused, performs_stopped, performs_by, performs_then, performs_from, performs_nothing, performs_with}
pub use Rattle.ring_machine.specs.Commands.{reads, command_work, record_work, saves, goes_back, begins, changes, commits, stands_at, undoes, ends, page_work, stood_before, takes_back, writes}
pub use Rattle.ring_machine.specs.Machine.{RingOp, cached, Machine, after_all, logged}
pub use Rattle.ring_machine.specs.Performing.{Performs}
pub use Rattle.ring_machine.specs.Restart.{clr_work, undo_work, clr_on, only_ends, redo_work, restart_work, undoing_one, undoing_work}
pub use Rattle.sealed_ring.specs.Ready.{Finds, region}
pub use Rattle.sealed_ring.specs.Ring.{hi_of, IsRing, live}
pub use Rattle.sealed_ring.specs.declared.ring.Ring.{Ring}
pub use Rattle.second_chance.specs.Machine.{Rules, Cache, after_works, is_changed, rules_of, staged_by_works, unread}
pub use Rattle.second_chance.specs.Queue.{frame_of as known_of}
pub use Rattle.site.proofs.Laws.{stays_honest, goes_in_sequence, in_sequence, holds_now, fault_since, leaves_weaker, no_call, quiet_leaves, unchanged_calm, unchanged_in_sequence}
pub use Rattle.site.proofs.Working.{calls_answered, calls_failed, err_again, calls_refused, calls_then, no_error, ok_as, calls_nothing}
pub use Rattle.site.specs.Calls.{IsUnchanged, Preserves, FaultRose, SameReads}
pub use Rattle.site.specs.Moments.{LeavesOnly, Leaves}
pub use Rattle.site.specs.State.{State as Site, Image, IsQuiet, Snapshot}
pub use Rattle.site.specs.Work.{Calls}
pub use Rattle.site.specs.declared.geometry.Geometry.{Geometry}
pub use Rattle.site.specs.declared.outside.Dev.{Dev}
pub use Rattle.site.specs.declared.outside.Dev.TheVariants.{Log, Flash, Disk}
pub use Rattle.site.specs.declared.outside.Stop.{Stop}
pub use Rattle.site.specs.declared.outside.Stop.TheVariants.{Memory, Worn, Foreign, Device}
pub use Rattle.slotted_page.specs.Layout.{content_length, slots_of, total_length}
pub use Rattle.txn_table.proofs.BySession.{entry_of-at, entry_of-Contains, sum-by_session}
pub use Rattle.txn_table.proofs.DistinctBegins.{AreApart, apart_wrote, below_wrote}
pub use Rattle.txn_table.proofs.Owing.{entry_is, owed_at, owed_one, owed_changes, owes, owed_is}
pub use Rattle.txn_table.specs.Entries.{entry_of, IsTable, ChangesOnly, after_mark, after_undone, after_write, counted_from, IsLeast}
pub use Rattle.txn_table.specs.declared.active.Active.{Active}
