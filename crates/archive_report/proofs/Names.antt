-- The names that most proofs of this crate cite, passed on from one place. Declares nothing.
pub use Rattle.std.proofs.Common.{◌∙◌, ap, ℕ, ◌≡◌, List, subst, ◌++◌, [], arith, refl, sym, ◌≤◌, take, ◌<◌, ◌∷◌, append_assoc, inl, inr, length, IsTrue, drop, ⊎_elim, ◌+◌, le_refl, min, take-append-drop, ◌-◌, ◌⊎◌}
pub use Rattle.std.proofs.lemmas.List.{append-nil, take-take, take_all, drop_all, drop_more, take_at}
pub use Rattle.std.specs.List.{concat}
pub use Rattle.std.specs.Prelude.{Err, Ok, codes, Result, IfOk, IsErrOf, OnOk, IfSome, OnErr, Option, Some}
pub use Rattle.archive_report.specs.Archives.{oldest_in, blocks_from, ahead_line, gone_line, Answers, HasLog, IsAnswer, archive_of, block_lines}
pub use Rattle.archive_report.specs.Contract.{ArchiveContract, FirstFails, Archives, IsFault}
pub use Rattle.archive_report.specs.Telling.{TellsLines, IsLogRing, HasTold, Tells, TellsAnswer, TellsSynced, synced, OnlySyncs}
pub use Rattle.archive_report.specs.declared.halt.Halt.{Halt}
pub use Rattle.log_archive.specs.Lines.{block_text, end_text}
pub use Rattle.sealed_ring.specs.Ready.{units_in, Finds, region, IsUsable}
pub use Rattle.sealed_ring.specs.Ring.{unit_at, IsRing, units_of, IsLive, Units, hi_of}
pub use Rattle.sealed_ring.specs.declared.ring.Ring.{Ring}
pub use Rattle.sealed_ring.specs.declared.slots.Shape.{Shape}
pub use Rattle.site.proofs.Laws.{stays_honest, each_weaker, in_sequence, goes_in_sequence, devices_in_sequence, fault_then, goes_nowhere, no_call, rose_since, rose_then, unchanged_calm, unchanged_devices}
pub use Rattle.site.proofs.Working.{lengths_later, tell_faults_cases}
pub use Rattle.site.specs.Calls.{Preserves, FaultRose, IsUnchanged, Rose}
pub use Rattle.site.specs.Faults.{faults_in, Faults, TellFaults, one_more}
pub use Rattle.site.specs.Moments.{EachMoment}
pub use Rattle.site.specs.State.{State, Moment, Image, content_of, now_of}
pub use Rattle.site.specs.Telling.{TellsPart, SameDevices}
