-- The names that most proofs of this crate cite, passed on from one place. Declares nothing.
pub use Rattle.std.proofs.Common.{arith, ◌≡◌, ℕ, subst, sym, ◌+◌, refl, ◌∙◌, ap, List, ◌-◌, ◌*◌, ◌<◌, IsTrue, ◌≤◌, true≢false, drop, [], length, take, ◌∷◌, rules, ◌++◌, true, false, get_or, inl, inr, map, suc, zero, ◌↔◌, append_assoc, min, ◌%◌, ◌/◌, All, Bool, None, replicate, option_map, ◌≢◌}
pub use Rattle.std.proofs.lemmas.Bool.{cases_eq, cases_lt, not-false, not-true}
pub use Rattle.std.proofs.lemmas.List.{length-append, get_or-map, length-map, append-nil, take-take, take_all, drop-drop, drop_at, get_or_append_left, length-replicate, map-append, take_more}
pub use Rattle.std.proofs.lemmas.Option.{none-some, same_Some, slice_get_within, get_or_from_slice_get, slice_get-get_or}
pub use Rattle.std.specs.List.{AllByRecursion}
pub use Rattle.std.specs.Prelude.{Ok, Err, Option, Some, Result, is_none, IfOk, IfSome, flat_map, slice_get, slice_index_or, max}
pub use Rattle.byte_fields.proofs.GroupHeads.{present_are_first, have_form}
pub use Rattle.byte_fields.specs.FrameHeads.{AreGroupHeads, blank, present_in_front, spelling_of_all}
pub use Rattle.byte_fields.specs.declared.frame_head.FrameHead.{FrameHead}
pub use Rattle.flash_cache.proofs.Given.{same_lsn}
pub use Rattle.flash_cache.specs.Representation.{disk_on, version_on, frames_on, groups_on, AllTogether, IsCleanOn, Shows}
pub use Rattle.flash_directory.specs.Heads.{newest, frames_in as known_in, last_place, place_in}
pub use Rattle.frame_group.proofs.Contents.{frames_are_in}
pub use Rattle.frame_group.proofs.Front.{begins_with_heads, front_present, heads_are_group, one_heads}
pub use Rattle.frame_group.proofs.Pages.{pages_stand, zeros_have_no_frames}
pub use Rattle.frame_group.specs.Groups.{Frame, heads_of, IsGroup, frames_in, head_of, HasHeads, IsFrame, frame_of, group, lsn_of}
pub use Rattle.frame_group.specs.declared.group.TheConstants.{HEADS_LEN, PAGE_LEN}
pub use Rattle.image_changes.specs.Rings.{group_shape, units_on, log_shape, segment_shape, master_shape, octets_of}
pub use Rattle.image_form.specs.Counted.{ReadsAtMost, log_to_find, pages_to_find, segment_slots, ReadsBySizes, log_looks, page_looks}
pub use Rattle.image_form.specs.Findings.{AreFound, MayRead, AreHeadsSaved, RingsAre, SizesAre}
pub use Rattle.image_form.specs.Formed.{IsThere, MayBeRead, IsThereOr}
pub use Rattle.image_form.specs.Framing.{IsCleanFrame, IsFrameBy}
pub use Rattle.image_form.specs.Newest.{ShowsFrames}
pub use Rattle.image_form.specs.Octets.{AreGroups, IsGroupOn, HasSizes, IsBlockOn, IsOnPage, IsSegmentOn, AreBlocks, AreVersions, AreRings, IsFormed, OfLive, SegmentsAreFormed}
pub use Rattle.image_form.specs.Verdict.{FailsFirst, OctetsAreFormed, FramesAreClean, SegmentsFollowGroups}
pub use Rattle.image_form.specs.Walking.{IsLeft, Gives, StandsBefore, unread}
pub use Rattle.image_form.specs.declared.formed.Found.{Found}
pub use Rattle.image_form.specs.declared.place.Place.{Place}
pub use Rattle.image_form.specs.declared.rings.Rings.{Rings}
pub use Rattle.image_meaning.specs.Meaning.{IsFrameOf}
pub use Rattle.log_records.proofs.Blocks.{some_octet, behind, used_is, one_spelled, spelled_next, used_low}
pub use Rattle.log_records.specs.Log.{Entry, entries_from, log_from, Version}
pub use Rattle.log_records.specs.Spelling.{IsBlock, used_by, IsSpelledAt, spelling, AreBlock, HasForm}
pub use Rattle.log_records.specs.declared.log_record.LogRecord.{LogRecord}
pub use Rattle.log_store.specs.Representation.{block_on, Finds, Invariant, HasBlocks}
pub use Rattle.log_store.specs.declared.store.LogStore.{LogStore}
pub use Rattle.sealed_ring.proofs.Heads.{unit_is}
pub use Rattle.sealed_ring.proofs.Stays.{usable_later}
pub use Rattle.sealed_ring.proofs.Units.{live_count}
pub use Rattle.sealed_ring.specs.Ready.{region, Matches, IsUsable, units_in}
pub use Rattle.sealed_ring.specs.Ring.{IsLive, hi_of, unit_at, IsRing, content_at, units_from}
pub use Rattle.sealed_ring.specs.declared.ring.Ring.{Ring}
pub use Rattle.sealed_ring.specs.declared.slots.Shape.{Shape}
pub use Rattle.second_chance.specs.Queue.{Queue}
pub use Rattle.site.proofs.Laws.{stays_honest, goes_in_sequence}
pub use Rattle.site.proofs.Working.{looks_then, looks_answered, looks_failed}
pub use Rattle.site.specs.Calls.{Preserves}
pub use Rattle.site.specs.State.{State, Image, content_of, reads_of}
pub use Rattle.site.specs.Work.{OnlyReads}
pub use Rattle.site.specs.declared.geometry.Geometry.{Geometry}
pub use Rattle.site.specs.declared.outside.Dev.TheVariants.{Log, Disk, Flash}
pub use Rattle.site.specs.declared.outside.Stop.{Stop}
pub use Rattle.slotted_page.specs.Layout.{IsSound}
pub use Rattle.std_lemmas.proofs.AllOf.{all_at, all_push, all_between}
pub use Rattle.tail_rebuild.specs.Standing.{group_on, segment_on, HasSegments, PagesExist}
