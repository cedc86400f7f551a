-- The names that most proofs of this crate cite, passed on from one place. Declares nothing.
pub use Rattle.std.proofs.Common.{ℕ, arith, ◌+◌, ◌≡◌, length, ap, sym, ◌∙◌, ◌<◌, ◌≤◌, ◌%◌, List, ◌-◌, drop, subst, take, ◌^◌, [], refl, inl, inr, get_or, suc, zero, ◌++◌, ◌∷◌, ◌≢◌, IsTrue, ◌*◌, ◌⊎◌, nat_eq, true, min, rules, ⊎_elim, ◌/◌, cond, false, max, replicate, true≢false, ◌&&◌}
pub use Rattle.std.proofs.lemmas.Bool.{cases_eq, cases_lt, and_from, and_parts, cases_Bool, cases_order, cond-false, cond-true, eq-eqb, eqb-true, or_from}
pub use Rattle.std.proofs.lemmas.List.{drop-drop, length-take-le, drop-take, get_or-drop, get_or-take, get_or_default, length-append, length-drop, length-take, same_lists, take-take, take_at, append_assoc, drop_at, get_or-replicate, length_push}
pub use Rattle.std.proofs.lemmas.Nat.{mod_below, div-add-mod', mod-mul-add, from_be_bytes-to_be_bytes_8}
pub use Rattle.std.specs.Int.{w64, from_be_bytes, to_be_bytes}
pub use Rattle.std.specs.Prelude.{Ok, Result, OnOk}
pub use Rattle.sealed_ring.specs.Laws.{Apart, BlankIsRing, HiIsHighest, LiveCount}
pub use Rattle.sealed_ring.specs.Reading.{ReadsFrom}
pub use Rattle.sealed_ring.specs.Ready.{region, LeavesEither, LeavesKept, IsAtRest, LeavesOldOrNew, region_left, Finds, IsReady, IsUsable}
pub use Rattle.sealed_ring.specs.Ring.{place, FitsIn, HasForm, hi_of, units_of, Opens, Stages, gate, Adds, IsBeside, IsRing, IsStaged, counts, hi_below, IsLive, Keeps, SameOutside, Units, appended, content_at, live, units_from, Seals, first_number, OldOrNew, last_of, unit_at}
pub use Rattle.sealed_ring.specs.Row.{HaveNumbers, StandInRow, HaveContents, in_row}
pub use Rattle.sealed_ring.specs.declared.ring.Ring.{Ring}
pub use Rattle.sealed_ring.specs.declared.slots.Shape.{Shape}
pub use Rattle.site.proofs.Laws.{stays_honest, content_of-same, length-put, one_call_more, then_sync, in_sequence, leaves_weaker, loose_of-same, no_call, put_behind, put_below, put_here, settled_leaves, then_write, within_not, write_leaves_only}
pub use Rattle.site.proofs.Working.{ok_as, no_error}
pub use Rattle.site.specs.Calls.{put, Lies, range, Preserves, Synced, Wrote, within_write}
pub use Rattle.site.specs.Moments.{Leaves, LeavesOnly}
pub use Rattle.site.specs.State.{State, content_of, MayStand, loose_of, IsSettled, MayLeave, Range, Snapshot, is_within, now_of}
pub use Rattle.site.specs.declared.outside.Dev.{Dev}
pub use Rattle.std_lemmas.proofs.Results.{on_ok}
