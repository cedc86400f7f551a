-- The names that most proofs of this crate cite, passed on from one place. Declares nothing.
pub use Rattle.std.proofs.Common.{◌≡◌, ap, ◌∙◌, ℕ, List, arith, sym, [], refl, subst, false, map, true, ◌++◌, ◌∷◌, length, Bool, take, ◌+◌, ◌≤◌, ◌<◌, cond, Some, ◌≢◌, None, reverse, suc, ◌||◌, get_or, not, rules, zero, ◌*◌, ◌&&◌, ◌==◌, Option, drop, inl, append_assoc, filter, inr, is_some, append-nil, length-append, true≢false, ◌-◌, ◌⊎◌, IsTrue, take_all, option_map, replicate, min, ⊎_elim}
pub use Rattle.std.proofs.Math.Bool.{or-false, or-true}
pub use Rattle.std.proofs.lemmas.Bool.{eqb-true, ne_eqb, eqb-false, eq-eqb, cases_eq, or_right, or_left, or_parts, and_left, and_parts, cases_lt, leb-false, leb-true}
pub use Rattle.std.proofs.lemmas.Bool.Decides.{nat_tests}
pub use Rattle.std.proofs.lemmas.List.{length-map, reverse-append, length-take, map-append, take_more, get_or_default, length-take-le, take-map, drop-append-le, length-reverse, reverse-reverse, take-take}
pub use Rattle.std.proofs.lemmas.List.Elements.{Contains-append_left, Contains-append_right, filter-append}
pub use Rattle.std.proofs.lemmas.List.Sums.{count_by-le-length, length-filter}
pub use Rattle.std.proofs.lemmas.Option.{none-some, get_or_from_slice_get, slice_get-get_or, slice_get_within}
pub use Rattle.std.proofs.lemmas.Simd.{map-map}
pub use Rattle.std.specs.List.{AllByRecursion, list_any, enumerate_from}
pub use Rattle.std.specs.Prelude.{Ok, IsSome, Result, OnOk, if◌then◌else◌, Err, nat_le, All, AllPairs, IsErrOf, OnErr, nat_lt, slice_get, Contains, IfErr, slice_index, ◌^◌}
pub use Rattle.buffer_pool.proofs.Order.{absent, frame_page, page-cleared_at}
pub use Rattle.buffer_pool.proofs.Walks.{changed_more}
pub use Rattle.buffer_pool.specs.Frames.{frame_of, State as Pool, AreDistinct, Knows, IsPool, cleared, front_of, coldest_movable, mark_of, ChangesFront, KnowsSame, clear, cleared_at, is_framed, is_movable}
pub use Rattle.buffer_pool.specs.Laws.{ClearedKeepsFrames, WithoutTakesOne, ChangesOne, IsLast, TouchKeepsFrames}
pub use Rattle.buffer_pool.specs.declared.frame.Frame.{Frame}
pub use Rattle.byte_fields.specs.declared.frame_head.Mark.{Mark}
pub use Rattle.disk_pages.specs.Pages.{page_on}
pub use Rattle.flash_cache.proofs.Written.{sum_joined, front_rewritten, front_sum, groups_by, push_calls as group_calls, push_groups, push_rewrites, push_segments, rewritten, save_groups, save_rewrites, save_segments, segments_by, wrote}
pub use Rattle.flash_cache.specs.Kept.{AreCleanGiven, GivesVersions, LeavesClean}
pub use Rattle.flash_cache.specs.Pushed.{pushed_queue, chance_marks, changes_of_group, known_given, known_pushed, changes_of_push, frames_pushed, staged_pages, sum_of, calls_by, frames_given, front_leaves, pushed_groups, chance_given, pages_pushed, staged_marks}
pub use Rattle.flash_cache.specs.Representation.{version_on, IsCleanOn, AreSaved, HasGroups, IsWorn, disk_on, groups_on}
pub use Rattle.flash_cache.specs.declared.cache.FlashCache.{FlashCache}
pub use Rattle.frame_group.specs.Groups.{Frame as Stored, group, IsGroup}
pub use Rattle.image_changes.proofs.Sequence.{units_then, reads_itself, ring_kept}
pub use Rattle.image_changes.specs.Changes.{Change, Reaches, AppendsGroup, AppendsSegment, Makes, ring_of, AppendsMaster, ReadsAs, RewritesPages, SealsBlock}
pub use Rattle.image_changes.specs.Laws.{RingKept, ChangesAddUp, FrontsAddUp}
pub use Rattle.image_changes.specs.Reached.{IsFrontOf, IsReached, LeavesFront}
pub use Rattle.image_changes.specs.Rings.{group_shape, segment_shape, Groups, Segments, master_shape, KeepsUnits, Masters, log_shape, units_on, Blocks, RingName}
pub use Rattle.image_meaning.specs.Beside.{AreRingsSoundUnder, KeepsRingsAll, RingsKeptUnder}
pub use Rattle.log_store.specs.LogList.{LogList, sealed_if, changes_if}
pub use Rattle.log_store.specs.Representation.{HasBlocks, has_tail, LeavesLog, HasRoom}
pub use Rattle.log_store.specs.declared.store.LogStore.{LogStore}
pub use Rattle.page_store.specs.Ahead.{AreSealed, AreLogged, LeavesSealed, evicted, pushed_for_room, sealed_end, pushed_by_touch, IsAhead}
pub use Rattle.page_store.specs.Caching.{rules as rules_for, pool_page, cache_of, next_group, is_pushed, is_full, first_pushed, pushes, with_way}
pub use Rattle.page_store.specs.Calls.{Stands, MayWork, Pushes, Keeps, StandsGiven, StopsAtEnd, KeepsGiven, KeepsInvariant, KeepsNext}
pub use Rattle.page_store.specs.Changing.{eviction_changes, given_changes, push_changes, standing, room_changes, Standing, after_push, flush_changes, group_at, pushes_changes, touch_changes, cache_at, changes_if_any, is_due_at, is_forced, next_saved, save_changes, staged_at, stored}
pub use Rattle.page_store.specs.Costs.{CallsForUnits, CallsForStaged, staging_calls, cost_of}
pub use Rattle.page_store.specs.Flushing.{cleared_all, changed_frames, saved_next, flushed_first, content_in, flushed_contents}
pub use Rattle.page_store.specs.Leaves.{AreReady, LeavesPages, Gives, KeepsCurrent, AreGiven, AreChanged, LeavesRings, HasQueue, PutsIn}
pub use Rattle.page_store.specs.Pulling.{room_for_pages, mark_for, pulled, without_all, movable, LeavesOut, candidates, evicted_frames, movable_mark, evicted_of, pulled_frames}
pub use Rattle.page_store.specs.Representation.{Matches, Invariant, AreTold, IsPage, content_by, IsStore, current, IsTold}
pub use Rattle.page_store.specs.Rooms.{BringsIn}
pub use Rattle.page_store.specs.Staging.{staged_by_eviction, HasQueueOn, Stages, SavesBefore, WritesOnly, pages_staged}
pub use Rattle.page_store.specs.Taking.{Has}
pub use Rattle.page_store.specs.Telling.{TellsOf, is_marked, is_named}
pub use Rattle.page_store.specs.declared.store.PageStore.{PageStore}
pub use Rattle.record_model.specs.Touches.{touch, flush}
pub use Rattle.record_model.specs.declared.words.CacheLine.{CacheLine}
pub use Rattle.sealed_ring.specs.Ring.{hi_of, Units, IsRing, appended, units_of}
pub use Rattle.second_chance.proofs.GroupCounts.{changed_next, evicted_next}
pub use Rattle.second_chance.specs.Laws.{changed_count, FlushGoesOn, FlushEnds}
pub use Rattle.second_chance.specs.Machine.{Cache, Rules, must_be_pushed, wants_flush, chance_frame, PoolPage, evict_coldest, group_lines, in_front, leaving, push_changed, rules_of, Staged, flushed, is_pulled, staged_by, staged_in_push, without, after_eviction, evict_first, finds, frame_lines, holds, is_full as queue_is_full, misses, pool_frame, saved, touched, with_room, flushed_by, is_changed, lacks_room, pool_mark, pool_marks, push_evicted, saved_page, staged_in_eviction}
pub use Rattle.second_chance.specs.Plans.{Placed, chances_of, chances_given, pulled_at_eviction, group_size, pages_pulled, staged_of}
pub use Rattle.second_chance.specs.Queue.{Queue, has_frame, frame_of as known_of, marks, with_read, front_marks, group_marks, in_group, in_groups, marks_of_groups, pushed}
pub use Rattle.second_chance.specs.declared.frame.Frame.{Frame as Known}
pub use Rattle.second_chance.specs.declared.plan.PoolMark.{PoolMark}
pub use Rattle.site.proofs.Laws.{leaves_weaker, stays_honest, each_weaker, in_sequence, quiet_settled, holds_now, no_call, quiet_leaves, each_both, others_untouched, settled_is, unchanged_calm, untouched_leaves, leaves_others_too, unchanged, unchanged_in_sequence}
pub use Rattle.site.proofs.Working.{ok_as, no_error, ok_always, calls_nothing, calls_then, calls_failed, err_again, err_always, works_join, works_rise}
pub use Rattle.site.specs.Calls.{IsUnchanged, Preserves}
pub use Rattle.site.specs.Moments.{Leaves, LeavesOnly, ChangesOnly, EachMoment, SameBut, since, Untouched, works_in}
pub use Rattle.site.specs.State.{State, Image, IsQuiet, snapshot_of, IsSettled, Snapshot, MayStand, Moment, content_of, loose_of, MayLeave, now_of}
pub use Rattle.site.specs.Work.{Calls}
pub use Rattle.site.specs.declared.geometry.Geometry.{Geometry}
pub use Rattle.site.specs.declared.outside.Dev.{Dev}
pub use Rattle.site.specs.declared.outside.Dev.TheVariants.{Log, Disk, Flash}
pub use Rattle.site.specs.declared.outside.Stop.{Stop}
pub use Rattle.site.specs.declared.outside.Stop.TheVariants.{Foreign, Worn}
pub use Rattle.slotted_page.specs.Layout.{IsSound}
pub use Rattle.stage_out.specs.Staged.{unsynced_in, calls_of, changes_of, is_unsynced}
pub use Rattle.std_lemmas.proofs.AllOf.{all_at, all_both, all_map, all_filter, all_reverse, all_take, all_weaker, all_passed, all_each, all_left}
pub use Rattle.std_lemmas.proofs.Bools.{eq_turned, or_assoc, and_false, or_false, or_true}
pub use Rattle.std_lemmas.proofs.Lists.{any_reverse, filter_all, take_next}
pub use Rattle.std_lemmas.proofs.Results.{ok_both}
pub use Rattle.tail_rebuild.specs.Saving.{changes_of_save, is_due, IsInNoSlot, LeavesGaps}
pub use Rattle.write_ahead.specs.Forcing.{forces, IsLogged, end_forced, IsLogAtEnd, Forces, end_now, is_unsealed}
