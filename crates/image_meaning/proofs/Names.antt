-- The names that most proofs of this crate cite, passed on from one place. Declares nothing.
pub use Rattle.std.proofs.Common.{ℕ, List, arith, ◌≡◌, [], ap, subst, sym, ◌∙◌, ◌∷◌, length, ◌<◌, ◌+◌, refl, Option, None, Some, ◌*◌, ◌≤◌, ◌++◌, drop, inl, inr, take, false, map, ◌/◌, suc, ◌-◌, true, ◌%◌, ◌⊎◌, replicate, zero, ◌==◌, ◌||◌, Bool, append_assoc, flat_map, get_or, take-append-drop, true≢false, ⊎_elim}
pub use Rattle.std.proofs.Math.Nat.{max-le, le-max_left, le-max_right}
pub use Rattle.std.proofs.lemmas.Bool.{cases_Bool, le-leb, lt-leb, and_right, cases_lt, cases_order, eq-eqb, eqb-true, or_cases, or_left, or_right}
pub use Rattle.std.proofs.lemmas.Bool.Decides.{nat_tests}
pub use Rattle.std.proofs.lemmas.List.{drop-append-le, length-append, drop-replicate, ext_get_or, get_or-replicate, get_or_default, length-drop, length-map, length-replicate, take-replicate}
pub use Rattle.std.proofs.lemmas.Nat.{mod_below, div-add-mod', div-mul-add, mod-mul-add}
pub use Rattle.std.proofs.lemmas.Option.{none-some, same_Some}
pub use Rattle.std.specs.List.{AllByRecursion, cons_option, list_any, range_with_len}
pub use Rattle.std.specs.Option.{option_or}
pub use Rattle.std.specs.Prelude.{Contains, IsTrue, max, nat_le, nat_lt, not, slice_index, ◌&&◌, filter_map, if◌then◌else◌, slice_index_or, ◌↔◌}
pub use Rattle.checkpoint.proofs.Standing.{appended_is, one_newest}
pub use Rattle.checkpoint.specs.Newest.{seen, IsOf, blank, newest_of}
pub use Rattle.checkpoint.specs.declared.master.Master.{Master}
pub use Rattle.disk_pages.specs.Pages.{page_on}
pub use Rattle.flash_cache.specs.Pushed.{LeavesPush, changes_of_push}
pub use Rattle.flash_cache.specs.Representation.{frames_on, disk_on, version_on, groups_on, HasFrames, IsCleanOn, AreSaved, HasGroups}
pub use Rattle.frame_group.proofs.Contents.{frames_are_in, frames_more}
pub use Rattle.frame_group.proofs.LastFrames.{all_last_frame, drop_keeps_clean, drop_keeps_version, last_of_both, new_version, other_versions, push_keeps_clean, staging_keeps_clean, staging_keeps_versions}
pub use Rattle.frame_group.specs.Groups.{Frame, IsGroup, frames_in, group}
pub use Rattle.frame_group.specs.Versions.{frames_of, CleanAsDisk, version, last_frame}
pub use Rattle.image_changes.specs.Changes.{Makes, AppendsGroup, AppendsMaster, RewritesPages, AppendsSegment, Change, SealsBlock, Reaches, ReadsAs, SameSizes, Appends, Rewrites}
pub use Rattle.image_changes.specs.Reached.{IsFrontOf, IsReached, LeavesFront}
pub use Rattle.image_changes.specs.Rings.{Groups, Segments, group_shape, Masters, units_on, Blocks, KeepsUnits, shape_of, segment_shape, RingName, master_shape, log_shape, octets_of}
pub use Rattle.image_meaning.specs.Changes.{front_on, rest_on, MayAppend, MayMakeAll, MaySave, MayStage, SealsNoCommit, blocks_after, blocks_after_all, leaving, newest_after, newest_after_all, MayMake, MaySaveSegment, NoSegmentIsDue, SavesNoMaster, next_block_lsn}
pub use Rattle.image_meaning.specs.Flushed.{IsFlushed, IsMasterOf, oldest_needed, first_block}
pub use Rattle.image_meaning.specs.Laws.{BlankStands, NewestIsRead, OneMasterStands, OneMeaningFor, PushedIsSound, PushedMeans, ReadIsNewest, ReplacedIsSound, ReplacedMeans, SegmentIsSound, SegmentMeans, VersionReplaces}
pub use Rattle.image_meaning.specs.LogicalImages.{ReplaceAll, with_versions}
pub use Rattle.image_meaning.specs.Meaning.{IsSoundUnder, logical_image_under, versions_on, AreGroups, IsFrameOf, AreSegments, kept_by, version_in, AreOctetsSoundUnder, HasNewest, IsUnused, StandsUnder, next_block_under, IsNewest, logical_image, saved_by}
pub use Rattle.image_meaning.specs.Moments.{LeavesFor, CommitStands, FrontStands, FrontStandsFor, LeavesEitherFor, LeavesEitherUnder, LeavesTableUnder, PushStands}
pub use Rattle.image_meaning.specs.Redone.{AreKnown, IsCurrent, IsLogged, IsRedone, Redoes, ShowsAll}
pub use Rattle.log_laws.proofs.Listing.{Ascends, above, losers_ascend, listed_is_loser, loser_is_listed}
pub use Rattle.log_laws.proofs.Lists.{or_is_none}
pub use Rattle.log_laws.proofs.Orders.{all_from, entries_in_order, none_passes, filter_none}
pub use Rattle.log_laws.proofs.Parts.{all_below}
pub use Rattle.log_laws.proofs.Rooms.{total_within, total_few}
pub use Rattle.log_laws.proofs.Values.{is_number-Some}
pub use Rattle.log_laws.specs.Follow.{writes_in, Follows, GoesOn, next_entries, sealed}
pub use Rattle.log_laws.specs.NewImage.{Replaces, MayCheckpoint, with_master}
pub use Rattle.log_records.proofs.Lists.{last_where-append}
pub use Rattle.log_records.proofs.Values.{page_and_slot, content_of_table, length_table_of}
pub use Rattle.log_records.specs.Log.{version_at, Entry, Version, entries_from, last_on, number_of, slot_at, is_closed, is_on, log_from, shown, shown_by, table_of, blank_version, entries_of, is_loser, last_where}
pub use Rattle.log_records.specs.Room.{open_length, put_back, HasOpenRoom, longest}
pub use Rattle.log_records.specs.Sound.{LogicalImage, Means, IsSound, redone, FitsLog, HasRoomInPage, IsInTable, commit_numbers, last_known, Active, AreOrderly, InTurn, IsInOrder, ShowsLast, active_in, before_block, commit_count, commit_number_by, from_block, last_lsn}
pub use Rattle.log_records.specs.Spelling.{spelling, AreBlock}
pub use Rattle.log_records.specs.Unfinished.{is_begin, losers}
pub use Rattle.log_records.specs.declared.log_record.LogRecord.{LogRecord}
pub use Rattle.log_store.proofs.BlockLaws.{blocks_stay, blocks_from, blocks_more}
pub use Rattle.log_store.specs.Representation.{HasBlocks, Represents}
pub use Rattle.record_model.specs.State.{Content, content_at, length_of, table_with}
pub use Rattle.sealed_ring.specs.Ring.{Units, hi_of, IsBeside, IsRing, live}
pub use Rattle.site.proofs.Laws.{in_sequence, leaves_weaker}
pub use Rattle.site.specs.Geometry.{HasLengths, HasLimits, blank_image, disk_length, flash_length, log_length}
pub use Rattle.site.specs.Moments.{LeavesOnly, Leaves}
pub use Rattle.site.specs.State.{Image, State, Snapshot}
pub use Rattle.site.specs.declared.geometry.Geometry.{Geometry}
pub use Rattle.site.specs.declared.outside.Dev.TheVariants.{Disk, Flash, Log}
pub use Rattle.std_lemmas.proofs.AllOf.{all_weaker, all_right, all_left, all_append, all_both, all_drop, all_filter, all_map}
pub use Rattle.std_lemmas.proofs.Lists.{any_map, filter_all}
pub use Rattle.tail_rebuild.proofs.Following.{group_pushed, saved_again, segment_saved}
