-- The names that most proofs of this crate cite, passed on from one place. Declares nothing.
pub use Rattle.std.proofs.Common.{arith, ◌≡◌, List, ℕ, [], sym, ap, ◌∙◌, ◌∷◌, refl, subst, ◌++◌, ◌≤◌, ◌+◌, ◌<◌, true, Bool, false, inl, ◌*◌, inr, ◌⊎◌, Some, None, append-nil, length, map, nat_lt, ◌==◌, ◌||◌, IsTrue, append_assoc, suc, true≢false, zero, drop, not, take, ◌&&◌, ◌-◌, ◌/◌, ◌^◌}
pub use Rattle.std.proofs.lemmas.Bool.{lt-ltb, eq-eqb, ne_eqb, and_parts, cases_eq}
pub use Rattle.std.proofs.lemmas.List.{length-append, map-append, reverse-append}
pub use Rattle.std.proofs.lemmas.Option.{none-some, same_Some}
pub use Rattle.std.specs.List.{AllByRecursion, Contains, cons_option, list_any, range_with_len}
pub use Rattle.std.specs.Prelude.{Err, Ok, Result, OnOk, Option, if◌then◌else◌, IsErrOf, IfErr, ⊤, ◌≢◌, IfOk, option_map, reverse, slice_get}
pub use Rattle.buffer_pool.specs.Frames.{frame_of, front_of}
pub use Rattle.buffer_pool.specs.declared.frame.Frame.{Frame}
pub use Rattle.checkpoint.specs.declared.master.Master.{Master}
pub use Rattle.checkpoint.specs.declared.pairs.Pair.{Pair}
pub use Rattle.flash_cache.specs.Representation.{version_on, IsCleanOn}
pub use Rattle.image_changes.proofs.Sequence.{ring_kept}
pub use Rattle.image_changes.specs.Changes.{Reaches, Change, ring_of, AppendsMaster}
pub use Rattle.image_changes.specs.Reached.{LeavesFront, IsFrontOf, IsReached}
pub use Rattle.image_changes.specs.Rings.{master_shape, log_shape, KeepsUnits, Masters, Blocks}
pub use Rattle.image_meaning.proofs.Behind.{carries_still, sealed_page_replaces, shown_stays}
pub use Rattle.image_meaning.proofs.OtherVersions.{version_replaces_itself, versions_mean}
pub use Rattle.image_meaning.proofs.UnchangedImages.{next_block_is}
pub use Rattle.image_meaning.proofs.Versions.{length-versions, version_is}
pub use Rattle.image_meaning.specs.Beside.{AreRingsSoundUnder, KeepsRingsAll}
pub use Rattle.image_meaning.specs.LogicalImages.{ReplaceAll}
pub use Rattle.image_meaning.specs.Meaning.{versions_on, logical_image_under, kept_by, version_in, master_of, next_block_under, StandsUnder, IsSoundUnder}
pub use Rattle.image_meaning.specs.Moments.{LeavesTableUnder, LeavesEitherUnder}
pub use Rattle.image_meaning.specs.Redone.{ShowsAll, AreKnown, Redoes}
pub use Rattle.log_laws.proofs.Tails.{carries_more, carries_nothing, whole_more, sealed_tail, whole_sealed, InTurn-left, commits_more, commits_stay, sealed_tail_means, whole_stays_orderly}
pub use Rattle.log_laws.specs.Follow.{sealed, Follows, next_entries, IsActive, writes_in}
pub use Rattle.log_laws.specs.Tail.{next_lsn, whole, Carries}
pub use Rattle.log_records.specs.Log.{Entry, Version, log_from, number_of, shown, is_loser, is_number, is_on}
pub use Rattle.log_records.specs.Sound.{LogicalImage, HasRoom, Active, commit_numbers, AreOrderly, IsOrderly, Means, commit_count, commit_number}
pub use Rattle.log_records.specs.Spelling.{AreBlock, block_len}
pub use Rattle.log_records.specs.Unfinished.{left_open, owed, owed_by}
pub use Rattle.log_records.specs.declared.log_record.LogRecord.{LogRecord}
pub use Rattle.log_store.specs.LogList.{LogList, changes_if, sealed_if, with_record}
pub use Rattle.log_store.specs.Representation.{has_tail, end_of, HasBlocks, LeavesLog, Finds}
pub use Rattle.log_store.specs.declared.store.LogStore.{LogStore}
pub use Rattle.page_store.proofs.Beside.{fits_beside, leaves_beside, sealed_beside, versions_beside}
pub use Rattle.page_store.proofs.Counting.{calls_logged, calls_then, calls_unchanged, cost_reached, paid, unsynced_logged}
pub use Rattle.page_store.proofs.StagingLaws.{stages_as, stages_then, stages_err, among_first, counted_none, last_none, log_leaves, queue_same, stages_beside, stages_none, stages_ok, stages_still, stages_weaker}
pub use Rattle.page_store.specs.Ahead.{AreSealed, IsAhead, LeavesSealed, sealed_end}
pub use Rattle.page_store.specs.Caching.{rules, cache_of, pushes, with_change}
pub use Rattle.page_store.specs.Leaves.{AreReady, LeavesPages, LeavesRings, KeepsCurrent}
pub use Rattle.page_store.specs.Representation.{current, IsStore, content_by, IsPage, Matches}
pub use Rattle.page_store.specs.Staging.{Stages, HasQueueOn, pages_staged}
pub use Rattle.page_store.specs.declared.store.PageStore.{PageStore}
pub use Rattle.record_model.specs.State.{Content, Write, content_at, table_with}
pub use Rattle.record_model.specs.Touches.{CacheOp, touch, write_touch, flush, page_of}
pub use Rattle.redo_laws.specs.Calls.{Ends, KeepsInvariantBeside}
pub use Rattle.redo_laws.specs.Committing.{EndsWith, MayCommit}
pub use Rattle.redo_laws.specs.Holding.{Represents, blocks_to, RepresentsIn, KeepsPages, RepresentsLog, Invariant, IsLogWorn, MayGrow, ShowRecords}
pub use Rattle.redo_laws.specs.MachineSteps.{next_group, ReadsFor, StepsMachine, StagesFor, one_change, one_touch, NumbersRise, finds_in, misses_in, undo_one_works}
pub use Rattle.redo_laws.specs.Numbers.{HasNumbers, SkipsNone}
pub use Rattle.redo_laws.specs.Running.{History, settled, RunsOn}
pub use Rattle.redo_laws.specs.Waiting.{LeavesSome, LeavesSomeUnder}
pub use Rattle.redo_laws.specs.UndoWorks.{works_of}
pub use Rattle.sealed_ring.specs.Ring.{hi_of, Units}
pub use Rattle.second_chance.specs.Machine.{staged_by_works, Cache, Rules, after_works, touched, Staged, apply_op, finds, misses, with_room}
pub use Rattle.site.proofs.Laws.{leaves_weaker, in_sequence, each_both, each_weaker, holds_now, no_call, quiet_leaves, stays_honest, unchanged_calm}
pub use Rattle.site.proofs.Working.{ok_as, ok_always, err_again, no_error}
pub use Rattle.site.specs.Calls.{Preserves, IsUnchanged, SameReads}
pub use Rattle.site.specs.Moments.{LeavesOnly, ChangesOnly, Leaves}
pub use Rattle.site.specs.State.{State, IsQuiet, Image, Snapshot, snapshot_of, content_of, reads_of}
pub use Rattle.site.specs.declared.geometry.Geometry.{Geometry}
pub use Rattle.site.specs.declared.outside.Dev.{Dev}
pub use Rattle.site.specs.declared.outside.Dev.TheVariants.{Log, Disk, Flash}
pub use Rattle.site.specs.declared.outside.Stop.{Stop}
pub use Rattle.site.specs.declared.outside.Stop.TheVariants.{Device, Worn, Foreign, Memory}
pub use Rattle.slotted_page.specs.Layout.{lsn_of, slots_of}
pub use Rattle.write_ahead.specs.Forcing.{end_forced, IsLogged, forces}
