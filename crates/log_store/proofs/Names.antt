-- The names that most proofs of this crate cite, passed on from one place. Declares nothing.
pub use Rattle.std.proofs.Common.{arith, ◌∙◌, sym, ◌≡◌, ap, refl, List, [], ℕ, ◌+◌, ◌-◌, ◌∷◌, length, subst, Bool, ◌++◌, ◌≤◌, drop, true, ◌*◌, ◌<◌, append_assoc, false, inl, inr, replicate, rules, get_or, suc, take, ◌/◌, ◌≢◌, IsTrue, true≢false, zero, ⊎_elim, ◌%◌, ◌⊎◌}
pub use Rattle.std.proofs.lemmas.Bool.{cond-false, cond-true, cases_Bool, cases_eq, eq-eqb, lt-ltb}
pub use Rattle.std.proofs.lemmas.Bool.Decides.{nat_tests}
pub use Rattle.std.proofs.lemmas.List.{length-append, drop-drop, append-nil, drop_at, drop-append-le, drop-map, drop-replicate, get_or-drop, get_or-map, length-drop, length-replicate, length-take-le, map-append, take-append-drop, take-take, take_at}
pub use Rattle.std.specs.Int.{w16, from_be_bytes, to_be_bytes}
pub use Rattle.std.specs.List.{AllByRecursion}
pub use Rattle.std.specs.Prelude.{flat_map, if◌then◌else◌, Err, None, Ok, Option, Result, Some, nat_lt, slice_index, IsErrOf, map, max, ◌==◌, ◌^◌}
pub use Rattle.image_changes.proofs.AppendLaws.{append_done, append_makes, ring_fits}
pub use Rattle.image_changes.proofs.Sequence.{reads_itself}
pub use Rattle.image_changes.specs.Rings.{log_shape, units_on, Blocks, KeepsUnits, Masters, master_shape}
pub use Rattle.log_records.proofs.Blocks.{some_octet, behind, length-block, one_spelled, spelled_next, used_is, used_low}
pub use Rattle.log_records.specs.Log.{Entry, entries_from, log_from}
pub use Rattle.log_records.specs.Spelling.{AreBlock, IsBlock, FitsFields, HasForm, block_len, used_by, IsShort, IsSpelledAt, content_spelling}
pub use Rattle.log_records.specs.declared.log_record.LogRecord.{LogRecord}
pub use Rattle.log_store.specs.LogList.{LogList, entries, sealed_block, next_block, sealed_if, at_lsn, with_record, changes_if}
pub use Rattle.log_store.specs.Representation.{Invariant, Represents, Finds, HasBlocks, HasTail, HasRecords, Matches, HasRoom, IsNext, KeepsBeside, KeepsNext, LeavesLog, block_on, end_of, overflows}
pub use Rattle.log_store.specs.Sealing.{SealsTail}
pub use Rattle.log_store.specs.declared.store.LogStore.{LogStore}
pub use Rattle.sealed_ring.proofs.Units.{live_count}
pub use Rattle.sealed_ring.specs.Ready.{region, IsUsable, IsReady, LeavesOldOrNew}
pub use Rattle.sealed_ring.specs.Ring.{hi_of, IsRing, SameOutside, Units, appended, last_of, units_of, FitsIn, IsLive, unit_at}
pub use Rattle.sealed_ring.specs.declared.ring.Ring.{Ring}
pub use Rattle.sealed_ring.specs.declared.slots.Shape.{Shape}
pub use Rattle.site.proofs.Laws.{goes_nowhere, no_call, leaves_others_too, leaves_weaker, settled_leaves, stays_honest, told_is, unchanged}
pub use Rattle.site.proofs.Working.{no_error, err_again, lengths_later, ok_always, ok_as, same_error}
pub use Rattle.site.specs.Calls.{Preserves}
pub use Rattle.site.specs.Geometry.{HasLimits, HasLengths, blank_image, log_length}
pub use Rattle.site.specs.Moments.{ChangesOnly, Leaves, LeavesOnly, OnlyDevice, SameBut}
pub use Rattle.site.specs.State.{State, Image, IsQuiet, IsSettled, Snapshot, loose_of}
pub use Rattle.site.specs.declared.geometry.Geometry.{Geometry}
pub use Rattle.site.specs.declared.outside.Dev.TheVariants.{Log}
pub use Rattle.site.specs.declared.outside.Stop.{Stop}
pub use Rattle.site.specs.declared.outside.Stop.TheVariants.{Worn, Device}
pub use Rattle.std_lemmas.proofs.AllOf.{all_drop, all_push}
