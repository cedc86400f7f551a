-- The names that most proofs of this crate cite, passed on from one place. Declares nothing.
pub use Rattle.std.proofs.Common.{ℕ, ◌≡◌, List, length, ◌+◌, sym, arith, ◌-◌, subst, ◌∙◌, ◌≤◌, ap, ◌*◌, ◌<◌, [], map, get_or, drop, take, ◌++◌, ◌∷◌, IsTrue, inl, inr, max, refl, ◌/◌, suc, true≢false, zero, Bool, false, min, true, ◌⊎◌, add-one, append_assoc, if◌then◌else◌, replicate, ⊎_elim, ◌%◌, ◌≢◌}
pub use Rattle.std.proofs.lemmas.Bool.{cases_eq, cases_lt, eq-eqb, ne_eqb}
pub use Rattle.std.proofs.lemmas.List.{length-append, length-map, get_or-map, get_or-drop, length-drop, take-take, take_all, append-nil, drop-map, drop-take, drop_at, get_or-replicate, length-replicate, length-take-le, map-append, take_at, take_more}
pub use Rattle.std.proofs.lemmas.List.Elements.{All-push}
pub use Rattle.std.specs.List.{All, flat_map, AllByRecursion}
pub use Rattle.std.specs.Prelude.{Ok, Err, IfOk, Result, slice_index, slice_index_or}
pub use Rattle.byte_fields.specs.FrameHeads.{spelling_of_all, AreGroupHeads, FitsFields, blank}
pub use Rattle.byte_fields.specs.declared.frame_head.FrameHead.{FrameHead}
pub use Rattle.frame_group.proofs.Front.{begins_with_heads, heads_are_group, one_heads}
pub use Rattle.frame_group.specs.Groups.{heads_of, Frame, group, HasHeads, head_of}
pub use Rattle.image_changes.specs.Rings.{group_shape, segment_shape, Groups, Segments, units_on, KeepsUnits, octets_of}
pub use Rattle.meta_segments.proofs.Whole.{one_segment, segment_form}
pub use Rattle.meta_segments.specs.Segments.{heads_of_group, IsSegment}
pub use Rattle.sealed_ring.proofs.Units.{live_count}
pub use Rattle.sealed_ring.specs.Near.{IsNear}
pub use Rattle.sealed_ring.specs.Ready.{Matches as RingFits, region, units_in, Finds, IsReady, LeavesOldOrNew}
pub use Rattle.sealed_ring.specs.Ring.{hi_of, IsLive, Units, unit_at, units_of, IsRing, SameOutside, appended, last_of}
pub use Rattle.sealed_ring.specs.declared.ring.Ring.{Ring}
pub use Rattle.sealed_ring.specs.declared.slots.Shape.{Shape}
pub use Rattle.site.proofs.Laws.{stays_honest, changes_in_sequence, holds_now, in_sequence, leaves_weaker, no_call, quiet_leaves, quiet_settled, unchanged, unchanged_calm}
pub use Rattle.site.proofs.Working.{err_again}
pub use Rattle.site.specs.Geometry.{HasLengths, HasLimits}
pub use Rattle.site.specs.Moments.{ChangesOnly, Leaves, LeavesOnly, OnlyDevice, SameBut}
pub use Rattle.site.specs.State.{State, Image, IsQuiet, Snapshot}
pub use Rattle.site.specs.declared.geometry.Geometry.{Geometry}
pub use Rattle.site.specs.declared.outside.Dev.TheVariants.{Flash}
pub use Rattle.site.specs.declared.outside.Stop.{Stop}
pub use Rattle.std_lemmas.proofs.AllOf.{all_at, all_drop, all_push}
pub use Rattle.tail_rebuild.specs.Listing.{IsFront, AreHeadsIn, ReadsFlash, GoesOnWith, HoldSegments, RowGoesOn}
pub use Rattle.tail_rebuild.specs.Rebuilt.{AreRings}
pub use Rattle.tail_rebuild.specs.Saving.{is_due, segment_of, IsInNoSlot, LeavesGaps, Saves, Stands, changes_of_save, saved_after, with_segment}
pub use Rattle.tail_rebuild.specs.Standing.{HasGroups, PagesExist, HasSaved, HasSegments, HasFrames, group_on, segment_on}
