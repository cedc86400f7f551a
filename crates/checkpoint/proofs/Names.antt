-- The names that most proofs of this crate cite, passed on from one place. Declares nothing.
pub use Rattle.std.proofs.Common.{arith, ℕ, length, subst, sym, ◌+◌, ◌∙◌, List, [], ap, drop, ◌≡◌, get_or, refl, take, ◌*◌, ◌<◌, ◌∷◌, length-append, ◌≤◌, ◌++◌, Option, replicate, set, suc, zero, ◌-◌, Err, None, Ok, Result, Some, inl, inr, true≢false, zero-add, ⊎_elim, ◌%◌, ◌⊎◌}
pub use Rattle.std.proofs.Math.Seq.{take-add}
pub use Rattle.std.proofs.lemmas.List.{length-drop, drop-drop, length-take, drop_at, get_or-drop, take-append-drop, take-take, take_at, append-nil, drop-replicate, drop-set, drop-take, get_or-take, get_or_past, length-replicate, length-take-le, take-set, take_all, take_more, take_rest}
pub use Rattle.std.proofs.lemmas.Nat.{from_be_bytes-to_be_bytes_8, be_bytes_8}
pub use Rattle.std.specs.Int.{w64, to_be_bytes, from_be_bytes}
pub use Rattle.std.specs.List.{AllByRecursion}
pub use Rattle.byte_fields.proofs.Texts.{writes_then}
pub use Rattle.byte_fields.specs.Writes.{Writes}
pub use Rattle.checkpoint.specs.Actives.{ArePairs, spelling_of_all, FitsFields, Ascend, no_pair, pair_spelling}
pub use Rattle.checkpoint.specs.Newest.{HasMaster, IsOf, newest_of}
pub use Rattle.checkpoint.specs.Saved.{KeepsMaster, LeavesMaster}
pub use Rattle.checkpoint.specs.declared.master.Master.{Master}
pub use Rattle.checkpoint.specs.declared.pairs.Pair.{Pair}
pub use Rattle.image_changes.specs.Rings.{master_shape, units_on, Masters}
pub use Rattle.sealed_ring.specs.Ready.{region, IsReady, Finds, LeavesOldOrNew, Matches, units_in}
pub use Rattle.sealed_ring.specs.Ring.{IsRing, appended, hi_of, units_of, SameOutside, Units, last_of, unit_at, units_from}
pub use Rattle.sealed_ring.specs.declared.ring.Ring.{Ring}
pub use Rattle.sealed_ring.specs.declared.slots.Shape.{Shape}
pub use Rattle.site.proofs.Laws.{leaves_others_too, leaves_weaker, stays_honest}
pub use Rattle.site.specs.Calls.{IsUnchanged, Preserves}
pub use Rattle.site.specs.State.{Image, State, IsQuiet, IsSettled, Snapshot}
pub use Rattle.site.specs.declared.outside.Dev.TheVariants.{Log}
