-- The names that most proofs of this crate cite, passed on from one place. Declares nothing.
pub use Rattle.std.proofs.Common.{◌≡◌, ap, List, ◌∙◌, ℕ, [], arith, sym, length, subst, refl, ◌∷◌, ◌++◌, ◌<◌, map, ◌+◌, Bool, get_or, false, ◌≤◌, true, Some, suc, take, zero, append_assoc, inl, rules, None, Option, cond, ◌*◌, ◌-◌, drop, length-append, ◌≢◌, inr, append-nil, replicate, slice_get, ◌==◌, add-one, option_map, true≢false, ◌⊎◌, filter, is_some, not, ◌&&◌, ◌||◌}
pub use Rattle.std.proofs.lemmas.Bool.{eqb-false, eqb-true, and_parts, cases_order, eq-eqb, le-leb, leb-false, leb-true, ne_eqb}
pub use Rattle.std.proofs.lemmas.List.{get_or_default, map-append, get_or-map, length-map, get_or-take, length-replicate, length-take, length-take-le, same_lists, take_all, take_more, drop_at, get_or-append-add, get_or-drop, length-drop}
pub use Rattle.std.proofs.lemmas.List.Elements.{recursion_from_All, All-from_recursion, All-map, Contains-append_left, Contains-append_right}
pub use Rattle.std.proofs.lemmas.Option.{same_Some, slice_get_within, none-some, cond_some, get_or_from_slice_get, slice_get-get_or}
pub use Rattle.std.proofs.lemmas.Result.{on_ok_weaker}
pub use Rattle.std.specs.List.{AllByRecursion, All, Contains, AllPairs, enumerate_from, prefix_len, take_while}
pub use Rattle.std.specs.Option.{option_or}
pub use Rattle.std.specs.Prelude.{Ok, IsTrue, IsErrOf, Result, slice_set, Err, ◌^◌, OnOk, if◌then◌else◌, slice_index, ◌↔◌}
pub use Rattle.byte_fields.specs.FrameHeads.{AreGroupHeads, blank, spelling_of_all}
pub use Rattle.byte_fields.specs.declared.frame_head.FrameHead.{FrameHead}
pub use Rattle.byte_fields.specs.declared.frame_head.Mark.{Mark}
pub use Rattle.disk_pages.specs.Laws.{IsBesidePage}
pub use Rattle.disk_pages.specs.Pages.{page_on}
pub use Rattle.flash_cache.specs.Leaving.{frames_with, IsMadeOf, page_at, again, mark_at, no_mark, AreAt}
pub use Rattle.flash_cache.specs.OnDisk.{HasLastStaged, SomeMoment, HasFrameAt, IsOnDisk}
pub use Rattle.flash_cache.specs.Pushed.{changes_of_push, frames_given, no_frame, staged_pages, frames_pushed, LeavesPush, front_leaves, staged_contents, staged_marks, LeavesPushBehind, chance_given, chance_marks, known_given, pushed_queue, IsPlan, changes_before, changes_of_group, known_pushed, pushed_groups, ChangesPages, calls_by, pages_pushed, sum_of}
pub use Rattle.flash_cache.specs.Representation.{Invariant, AllTogether, Shows, Represents, HasFrames, HasGroups, Matches, AreSaved, disk_on, version_on, PagesExist, frames_on, group_on, IsCleanOn, IsNext, IsSpent, KeepsNext, groups_on}
pub use Rattle.flash_cache.specs.declared.cache.FlashCache.{FlashCache}
pub use Rattle.flash_cache.specs.declared.cache.PushPlan.{PushPlan}
pub use Rattle.flash_cache.specs.declared.leaving.DepartingFrames.{DepartingFrames}
pub use Rattle.flash_directory.proofs.Opened.{size_of_heads}
pub use Rattle.flash_directory.specs.Heads.{frames_in, last_place, in_first, in_next, last_in, newest}
pub use Rattle.frame_group.proofs.Contents.{frames_are_in}
pub use Rattle.frame_group.proofs.Front.{heads_are_group, length_heads}
pub use Rattle.frame_group.proofs.LastFrames.{last_of_both, last_is_of_page, push_keeps_clean, drop_keeps_clean, drop_keeps_version, last_by_index, new_version, none_by_index, other_versions}
pub use Rattle.frame_group.proofs.Pages.{pages_stand, zeros_have_no_frames}
pub use Rattle.frame_group.specs.Groups.{Frame, group, heads_of, IsFrame, frame_of, head_of}
pub use Rattle.frame_group.specs.Versions.{last_frame, frames_of, version, version_by, CleanAsDisk}
pub use Rattle.image_changes.proofs.AppendLaws.{append_done, append_makes, ring_fits}
pub use Rattle.image_changes.proofs.Sequence.{changes_add_up, reads_itself, reaches_parts}
pub use Rattle.image_changes.specs.Changes.{Reaches, AppendsGroup, Change, Appends, AppendsSegment, RewritesPages, Makes, AppendsMaster, ReadsAs, SealsBlock}
pub use Rattle.image_changes.specs.Reached.{IsFrontOf, IsReached, LeavesFront}
pub use Rattle.image_changes.specs.Rings.{Groups, group_shape, segment_shape, Segments, KeepsUnits, shape_of, units_on, RingName, octets_of}
pub use Rattle.sealed_ring.proofs.Stays.{usable_later}
pub use Rattle.sealed_ring.specs.Ready.{Matches as RingFits, region, units_in, Finds, IsReady, IsUsable, LeavesOldOrNew}
pub use Rattle.sealed_ring.specs.Ring.{hi_of, Units, unit_at, IsRing, SameOutside, appended, FitsIn, IsLive, last_of, units_of}
pub use Rattle.sealed_ring.specs.declared.ring.Ring.{Ring}
pub use Rattle.sealed_ring.specs.declared.slots.Shape.{Shape}
pub use Rattle.second_chance.proofs.DistinctStaged.{staged_stand_in, staged_apart}
pub use Rattle.second_chance.specs.Machine.{rules_of, chance_frame, staged_in_push, Staged, leaving}
pub use Rattle.second_chance.specs.Plans.{Placed, staged_of, chances_given, chances_of, is_among}
pub use Rattle.second_chance.specs.Queue.{Queue, front_marks, group_marks, frame_of as known_of, pushed, group_read, groups_read, has_frame, in_group, in_groups, is_last, mark_of, with_read}
pub use Rattle.second_chance.specs.declared.frame.Frame.{Frame as Known}
pub use Rattle.site.proofs.Laws.{stays_honest, leaves_weaker, others_untouched, untouched_in_sequence, in_sequence, quiet_settled, settled_is, each_weaker, no_call, quiet_leaves, unchanged_calm, untouched_leaves}
pub use Rattle.site.proofs.Working.{lengths_later, no_error, err_again, ok_always, ok_as}
pub use Rattle.site.specs.Calls.{Preserves, IsUnchanged}
pub use Rattle.site.specs.Geometry.{HasLimits, HasLengths}
pub use Rattle.site.specs.Moments.{Leaves, LeavesOnly, SameAt, OnlyDevice, ChangesOnly, EachMoment, Untouched, SameBut, since}
pub use Rattle.site.specs.State.{State, Image, IsQuiet, Snapshot, Moment, MayStand, Loose, loose_of}
pub use Rattle.site.specs.declared.geometry.Geometry.{Geometry}
pub use Rattle.site.specs.declared.outside.Dev.TheVariants.{Flash, Disk, Log}
pub use Rattle.site.specs.declared.outside.Stop.{Stop}
pub use Rattle.site.specs.declared.outside.Stop.TheVariants.{Foreign, Worn}
pub use Rattle.stage_out.proofs.Unsynced.{unsynced_untouched}
pub use Rattle.stage_out.specs.Staged.{changes_of, HasStaged, calls_of, IsBesideAll, unsynced_in}
pub use Rattle.std_lemmas.proofs.AllOf.{all_push, all_append, all_left, all_drop}
pub use Rattle.std_lemmas.proofs.Lists.{map_map, map_same}
pub use Rattle.std_lemmas.proofs.Results.{ok_both, on_ok}
pub use Rattle.tail_rebuild.proofs.Save.{gaps_then, gaps_appended, gaps_unchanged}
pub use Rattle.tail_rebuild.proofs.Standing.{stands, first_is, group_exists}
pub use Rattle.tail_rebuild.specs.Rebuilt.{AreRings}
pub use Rattle.tail_rebuild.specs.Saving.{changes_of_save, is_due, LeavesGaps, Saves, Stands, segment_of}
