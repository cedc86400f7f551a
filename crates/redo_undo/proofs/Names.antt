-- The names that most proofs of this crate cite, passed on from one place. Declares nothing.
pub use Rattle.std.proofs.Common.{arith, sym, ◌≡◌, ℕ, List, refl, ◌∙◌, [], ◌+◌, ap, subst, ◌∷◌, ◌≤◌, ◌++◌, length, ◌*◌, true, ◌-◌, ◌<◌, Bool, false, Option, append-nil, true≢false, Some, inr, inl, take, ◌⊎◌, drop, ◌≢◌, append_assoc, suc, ◌/◌, map, nat_lt, ◌==◌, ◌^◌, ◌%◌, ◌||◌, None, cond, not, reverse, ◌&&◌, min, nat_eq, zero, eqb-true, get_or, replicate, add-one, get_or-set_other, get_or-set_same, ⊎_elim}
pub use Rattle.std.proofs.Math.Nat.{div-add-mod, le-max_left, min-le_right}
pub use Rattle.std.proofs.lemmas.Bool.{ne_eqb, eq-eqb, cond-true, lt-ltb, and_from, and_right, cases_eq, cond-false, le-leb, lt-leb, and_parts, le-ltb, ltb-false, ltb-true, or_from, or_left, or_parts}
pub use Rattle.std.proofs.lemmas.List.{length-append, length-map, drop_all, drop_more, length-reverse, map-append, take-append-drop}
pub use Rattle.std.proofs.lemmas.List.Elements.{filter_map-append, filter-append}
pub use Rattle.std.proofs.lemmas.List.Sums.{sum_by-cons}
pub use Rattle.std.proofs.lemmas.Option.{same_Some, none-some}
pub use Rattle.std.proofs.lemmas.Result.{IfOk-weaker}
pub use Rattle.std.specs.List.{list_any, AllByRecursion, range_with_len}
pub use Rattle.std.specs.Prelude.{Ok, Result, if◌then◌else◌, Err, IsTrue, OnOk, ⊤, IsErrOf, IfErr, filter, option_map, IfOk, find, option_copied, flat_map, nat_le, sum_by, IfNone, filter_map, max, slice_get, slice_set}
pub use Rattle.analysis.specs.Laws.{ActiveIsUnfinished, OneTable, TableOfUnfinished}
pub use Rattle.analysis.specs.Open.{owed_for, Open, found_in, LeavesSame, Remains, TakesOut, AscendFrom, DropsOne, IsTop, Replaces, left_in, owed_one, updates_of}
pub use Rattle.analysis.specs.Order.{IsOrder, Descend}
pub use Rattle.analysis.specs.Read.{IsTable, open_at, IsAnalysis, loser_of, is_active}
pub use Rattle.analysis.specs.Table.{listed}
pub use Rattle.analysis.specs.Taken.{is_taken, Steps, StepsOn, TakenTable, is_named, taken}
pub use Rattle.analysis.specs.declared.analysis.Analysis.{Analysis}
pub use Rattle.analysis.specs.declared.analysis.Loser.{Loser}
pub use Rattle.buffer_pool.specs.Frames.{front_of, frame_of}
pub use Rattle.buffer_pool.specs.declared.frame.Frame.{Frame}
pub use Rattle.checkpoint.specs.Newest.{seen}
pub use Rattle.checkpoint.specs.Units.{unit, IsUnit, master_in}
pub use Rattle.checkpoint.specs.declared.master.Master.{Master}
pub use Rattle.flash_cache.proofs.Given.{all_append}
pub use Rattle.flash_cache.specs.Representation.{version_on, IsCleanOn}
pub use Rattle.flash_cache.specs.declared.cache.FlashCache.{FlashCache}
pub use Rattle.image_changes.proofs.Sequence.{ring_kept}
pub use Rattle.image_changes.specs.Changes.{AppendsMaster, Makes, Reaches, ReadsAs}
pub use Rattle.image_changes.specs.Reached.{LeavesFront}
pub use Rattle.image_changes.specs.Rings.{master_shape, KeepsUnits, Masters, log_shape, Blocks, segment_shape}
pub use Rattle.image_meaning.proofs.Leaving.{under_leaves_for}
pub use Rattle.image_meaning.proofs.Redos.{next_is_redone, redone_is_current, version_is_redone, redone_replaces}
pub use Rattle.image_meaning.proofs.UnchangedImages.{next_block_is}
pub use Rattle.image_meaning.proofs.Versions.{length-versions, version_is}
pub use Rattle.image_meaning.specs.Beside.{AreRingsSoundUnder}
pub use Rattle.image_meaning.specs.Flushed.{first_block, IsFlushed, IsMasterOf, oldest_needed}
pub use Rattle.image_meaning.specs.Meaning.{kept_by, logical_image_under, versions_on, master_of, saved_by, version_in, next_block_under, IsSoundUnder, StandsFor, StandsUnder}
pub use Rattle.image_meaning.specs.Moments.{LeavesFor, LeavesTableUnder, LeavesEitherFor}
pub use Rattle.image_meaning.specs.Redone.{AreKnown, IsRedone, Redoes, ShowsAll}
pub use Rattle.log_judge.specs.Judging.{HasHeard, IsOfSizes}
pub use Rattle.log_judge.specs.declared.judge.Sizes.{Sizes}
pub use Rattle.log_laws.proofs.BlockRecords.{IsPast, past_none, next_of_log, none_there, past_all, past_one}
pub use Rattle.log_laws.proofs.Listing.{listed_is_loser, loser_is_listed}
pub use Rattle.log_laws.proofs.LogBlocks.{block_of, log_split, log_take, take_whole}
pub use Rattle.log_laws.proofs.Losers.{loser_is_not_closed, loser_stays, active_stays, entries_other, entries_own, last_number_of, loser_is_closed, open_more}
pub use Rattle.log_laws.proofs.OpenUpdates.{left_after_clr, Fall, left_falls}
pub use Rattle.log_laws.proofs.Owing.{owed_closing, owed_clr, owed_none}
pub use Rattle.log_laws.proofs.Parts.{in_order_filter}
pub use Rattle.log_laws.proofs.Shown.{shown_push}
pub use Rattle.log_laws.proofs.Tails.{whole_is_undoable, whole_in_order, carries_nothing}
pub use Rattle.log_laws.proofs.Undoing.{top_stands, found_by_lsn, unfinished_from_top}
pub use Rattle.log_laws.proofs.UndoingSteps.{first_read, update_is_last, clr_is_read, undo_end, active_is_unfinished, chain_ends, chain_goes_on, clr_is_written, next_is_late, undo_step}
pub use Rattle.log_laws.specs.Analysis.{IsUnfinished, Unfinished, past_clr, after_clr}
pub use Rattle.log_laws.specs.Follow.{IsUndoable, Follows, IsActive, writes_in}
pub use Rattle.log_laws.specs.Tail.{next_lsn, whole}
pub use Rattle.log_laws.specs.UndoLaws.{IsLink, top_lsn, IsUndoChain, goes_back}
pub use Rattle.log_records.proofs.Blocks.{some_octet, one_spelled}
pub use Rattle.log_records.proofs.Entries.{in_order_left, in_order_from, in_order_least}
pub use Rattle.log_records.specs.Log.{Entry, log_from, is_update, number_of, txn_of, updates_in, entries_of, is_of, entries_from, Version, is_loser, after_of, is_closed, shown, version_at, before_of, last_where, is_closing, txn_by}
pub use Rattle.log_records.specs.Restart.{undo_touch, redo_touch}
pub use Rattle.log_records.specs.Sound.{IsInOrder, AreOrderly, LogicalImage, IsLoserChain, last_lsn, IsSound, Master as Fields, before_block, from_block, last_number, Active, InTurn, IsInTable, IsOpen, Means, active_in, is_known, redone}
pub use Rattle.log_records.specs.Spelling.{used_by, IsBlock, spelling, AreBlock, HasForm, block_len}
pub use Rattle.log_records.specs.Unfinished.{left_open, owed, is_clr, pending, losers, owed_by, open_updates}
pub use Rattle.log_records.specs.declared.log_record.LogRecord.{LogRecord}
pub use Rattle.log_records.specs.declared.log_record.LogRecord.TheVariants.{End, Clr, Begin, Commit, Update}
pub use Rattle.log_store.specs.LogList.{LogList, changes_if, sealed_if, at_lsn, entries, sealed_block}
pub use Rattle.log_store.specs.Representation.{end_of, has_tail, HasBlocks, overflows}
pub use Rattle.log_store.specs.declared.store.LogStore.{LogStore}
pub use Rattle.page_store.proofs.Beside.{fits_beside, versions_beside}
pub use Rattle.page_store.proofs.Fitting.{front_exists}
pub use Rattle.page_store.proofs.NextUnits.{next_logged, next_answered, next_then, next_failed, next_nothing, next_read, next_refused, next_with}
pub use Rattle.page_store.proofs.PushLaws.{log_fits}
pub use Rattle.page_store.proofs.StagingLaws.{stages_err, stages_ok, stages_as, stages_between, stages_beside, stages_none, stages_then}
pub use Rattle.page_store.specs.Ahead.{AreLogged, pushed_by_touch, IsAhead, AreSealed, evicted, sealed_end}
pub use Rattle.page_store.specs.Caching.{rules, cache_of, pool_page, with_change, next_group, pushes, changed_front}
pub use Rattle.page_store.specs.Costs.{CallsForUnits}
pub use Rattle.page_store.specs.Leaves.{AreReady, LeavesPages, KeepsCurrent, LeavesRings}
pub use Rattle.page_store.specs.Representation.{current, IsStore, IsPage, Matches, content_by}
pub use Rattle.page_store.specs.Stopping.{MayStop}
pub use Rattle.page_store.specs.declared.store.PageStore.{PageStore}
pub use Rattle.record_model.specs.State.{Content, Write, content_at, length_of, page_room, table_with}
pub use Rattle.record_model.specs.Touches.{touch, CacheOp, flush, write_touch, page_of}
pub use Rattle.redo_laws.proofs.Appended.{current_same, if_ok_one, append_leaves, more_sealed, IsAppended, IsNumbered, appended, ends_with, if_ok_four, if_ok_three, if_ok_two, most_blocks, ok_by, rings_now, versions_same}
pub use Rattle.redo_laws.proofs.Asking.{stages_log, asks_nothing, asks_ok, asks_err, asks_same, asks_stopped, asks_then, stages_read, asks_fails, change_reads, change_stages, no_asks, touch_reads}
pub use Rattle.redo_laws.proofs.AskingFlush.{never_worn_flash, asks_around, flush_then}
pub use Rattle.redo_laws.proofs.AskingUndo.{asks_refused, change_stopped, log_alone, works_are, asks_later, change_made, not_worn_either, not_worn_flash, page_is, work_is}
pub use Rattle.redo_laws.proofs.CallsInSequence.{some_group, going_still, nothing_happens, nothing_lost, only_read, units_then, and_then, found_now, holds_still, leaves_still, opened_holds, sound_there}
pub use Rattle.redo_laws.proofs.Changed.{front_is_current, front_shows, holds_off, holds_on, known_more, other_pages}
pub use Rattle.redo_laws.proofs.Costs.{touched_next, touch_then_change}
pub use Rattle.redo_laws.proofs.Endings.{ends_answered, ends_behind, ends_by_pages, ends_failed, ends_leaving, ends_ok, ends_no_memory, leaves_late}
pub use Rattle.redo_laws.proofs.Forced.{seals_only, quiet_stops, forced_holds, rests, ok_five, some_now}
pub use Rattle.redo_laws.proofs.LeftNumbers.{ready_next, log_calls, log_skips, pages_skip, same_at_most, masters_same, save_calls, save_skips, skips_not_saved}
pub use Rattle.redo_laws.proofs.Names.{actives, named_at}
pub use Rattle.redo_laws.proofs.Orderlies.{ends_orderly}
pub use Rattle.redo_laws.proofs.RingNumbers.{skips_on, then_skips, hi_on, skips_again, skips_answered, skips_weaker, unchanged, skips_nothing, skips_refused, skips_still}
pub use Rattle.redo_laws.proofs.Touched.{forced_tail, leaves_settled, leaves_table, touched_holds, hi_is}
pub use Rattle.redo_laws.proofs.UndoneWrites.{active_is_undone_by, last_are_undone_by}
pub use Rattle.redo_laws.proofs.WornLogs.{log_at_end, masters_at_end, sealed_hi}
pub use Rattle.redo_laws.specs.Calls.{KeepsInvariant, Keeps, KeepsInvariantBeside, ReadsOne, KeepsBeside, LogsNothing}
pub use Rattle.redo_laws.specs.Checkpointing.{MayBeMade, begins_of, AreUnfinished, IsSaved, KeepUnfinished}
pub use Rattle.redo_laws.specs.Committing.{EndsWith, MayCommit}
pub use Rattle.redo_laws.specs.Holding.{Represents, blocks_to, MayGrow, Invariant, RepresentsIn, IsOnPage, IsLogWorn, IsSpent, RepresentsLog, ShowRecords}
pub use Rattle.redo_laws.specs.MachineSteps.{StepsMachine, one_change, one_touch, undo_one_works, undo_works, checkpoint_works}
pub use Rattle.redo_laws.specs.Numbers.{SkipsNone, HasNumbers}
pub use Rattle.redo_laws.specs.Running.{History, settled}
pub use Rattle.redo_laws.specs.Waiting.{LeavesSome, LeavesSomeUnder}
pub use Rattle.redo_laws.specs.UndoWorks.{works_of, UndoesUpdates, IsLastAt}
pub use Rattle.redo_laws.specs.UndoingAll.{IsUndoing, Remain, HasNone, IsOf, AreUpTo, IsGreatest, IsNextUndo, UndoesAll, UndoesSome}
pub use Rattle.redo_undo.specs.Mirroring.{clrs_for, Mirrors, none_remains, ends_for, MirrorsStore, PerformsAtRest, PerformsOn, PerformsStore, flush_work, force_work, resting, touch_work, undo_one_work, updates}
pub use Rattle.redo_undo.specs.Redoing.{Opening, opened, IsRedoing, HasTaken, IsReading, asked_of, AsksAtRest, IsOpened, IsFrom, LeavesOpened, heard_of, IsReadable, touches_of}
pub use Rattle.redo_undo.specs.Rollback.{AreClrsOf, Compensates, UndoesLast, CompensatesUpTo}
pub use Rattle.redo_undo.specs.StoreCalls.{KeepsNext, AreNext}
pub use Rattle.redo_undo.specs.StoreRollback.{RollsBackOver, ConcernsOnly, GoesBackOver}
pub use Rattle.redo_undo.specs.Stores.{sizes_of, shown_in, update_by, MayWork}
pub use Rattle.redo_undo.specs.UndoCalls.{UndoesWork, taken_by}
pub use Rattle.redo_undo.specs.Undoing.{IsAt, IsStepOf, Undone, Passed, IsWanted, clrs_logged}
pub use Rattle.redo_undo.specs.declared.redo_pass.Redone.{Redone}
pub use Rattle.redo_undo.specs.declared.store.TransactionStore.{TransactionStore}
pub use Rattle.redo_undo.specs.declared.undo.Step.TheVariants.{Compensate, Pass}
pub use Rattle.redo_undo.specs.declared.undo.UndoCursor.{UndoCursor}
pub use Rattle.ring_machine.proofs.Ends.{never_past, flash_past, clr_saves_none, log_past, masters_past, masters_stay, saves_one, sealed_next, sealed_used}
pub use Rattle.ring_machine.proofs.Performing.{performs_stopped, performs_then, performs_answered, performs_as, performs_by, performs_refused, performs_failed, performs_nothing, performs_from, performs_with}
pub use Rattle.ring_machine.proofs.Works.{first_of_one}
pub use Rattle.ring_machine.specs.Commands.{ends, takes_back}
pub use Rattle.ring_machine.specs.Machine.{RingOp, cached, changed, logged, Machine, pushed_by, apply_op, force, past_end, save, first_worn, front_changed, pushed_with}
pub use Rattle.ring_machine.specs.Octets.{clr_octets, octets_of}
pub use Rattle.ring_machine.specs.Performing.{Performs}
pub use Rattle.ring_machine.specs.Restart.{clr_work, undo_work, undoing_work, undoing_one, clr_on, is_empty, only_ends}
pub use Rattle.sealed_ring.specs.Ready.{Finds, IsReady, region}
pub use Rattle.sealed_ring.specs.Ring.{hi_of, IsRing, FitsIn, Units}
pub use Rattle.sealed_ring.specs.declared.ring.Ring.{Ring}
pub use Rattle.sealed_ring.specs.declared.slots.Shape.{Shape}
pub use Rattle.second_chance.specs.Machine.{rules_of, Cache, Rules, PoolPage, staged_by, touched, wants_flush, flushed, lacks_room, pool_mark}
pub use Rattle.site.proofs.Laws.{stays_honest, changes_in_sequence, holds_now, leaves_weaker, no_call, each_both, each_weaker, in_sequence, quiet_leaves, quiet_settled, unchanged_calm}
pub use Rattle.site.proofs.Working.{no_error, ok_as, of_error, err_again, calls_then, err_as, ok_always, calls_answered, calls_failed, calls_nothing, calls_refused, err_always}
pub use Rattle.site.specs.Calls.{IsUnchanged, Preserves, FaultRose}
pub use Rattle.site.specs.Moments.{LeavesOnly, ChangesOnly, Leaves, SameBut}
pub use Rattle.site.specs.State.{State, Image, IsQuiet, Snapshot, IsSettled, content_of, reads_of, snapshot_of}
pub use Rattle.site.specs.declared.geometry.Geometry.{Geometry}
pub use Rattle.site.specs.declared.outside.Dev.{Dev}
pub use Rattle.site.specs.declared.outside.Dev.TheVariants.{Log, Disk, Flash}
pub use Rattle.site.specs.declared.outside.Stop.{Stop}
pub use Rattle.site.specs.declared.outside.Stop.TheVariants.{Worn, Device, Foreign, Memory}
pub use Rattle.slotted_page.specs.Layout.{lsn_of, content_length, slots_of, total_length}
pub use Rattle.std_lemmas.proofs.AllOf.{all_both, all_between, all_filter, all_left, all_member, all_reverse, all_right, all_take, all_weaker, each_member}
pub use Rattle.std_lemmas.proofs.Lists.{any_map, any_reverse, map_map, map_reverse_aux}
pub use Rattle.std_lemmas.proofs.Results.{ok_both}
pub use Rattle.write_ahead.specs.Forcing.{end_forced, forces, IsLogged, end_now, is_unsealed}
