-- The names that most proofs of this crate cite, passed on from one place. Declares nothing.
pub use Rattle.std.proofs.Common.{refl, ◌≡◌, sym, ℕ, ◌∙◌, List, ap, arith, inl, inr, ◌<◌, None, Some, ◌≤◌, Option, subst, Bool, suc, true, zero, ◌+◌, false, [], below_more, length, length-append, replicate, ◌++◌}
pub use Rattle.std.proofs.Math.Nat.{mod-lt, mod-eq-sub-mod, mod-eq_of_lt}
pub use Rattle.std.proofs.lemmas.Bool.{cases_eq, cases_order, and_from, cases_lt, false_from_ne_true, le-leb, ltb-false, ltb-true}
pub use Rattle.std.proofs.lemmas.Slice.Eq.{bytes_eq-Decides}
pub use Rattle.std.specs.Option.{option_or}
pub use Rattle.std.specs.Prelude.{if◌then◌else◌, bit_xor, drop, fold, nat_lt, slice_set, take, ◌%◌, ◌-◌, ◌/◌, ◌⊎◌}
pub use Rattle.std.specs.Str.{bytes_eq}
pub use Rattle.name_table.specs.Laws.{IsPassed, IsOther, BlankIsWellFormed, FullIsTold, HasNoRoom, IsFirstStrange, IsFull, IsMet, IsMissed, MetIsTold, MissedIsTold, NamesAreAMap, ReadsAreFew, StrangeIsTold, Writes, found, reached}
pub use Rattle.name_table.specs.Probing.{IsRead, IsName}
pub use Rattle.record_model.specs.Names.{bucket_count, AreWellFormed, probed, value_among, value_under, bucket_at, home, IsWellFormed, bucket_of, entry, has_name, names}
pub use Rattle.record_model.specs.Probes.{record_at, met, missed, Probe, after_bucket, passed_on, run_over, told_of, told_times}
pub use Rattle.record_model.specs.State.{Content, content_at}
pub use Rattle.record_model.specs.declared.names.Ask.{Ask}
pub use Rattle.record_model.specs.declared.names.Ask.TheVariants.{End, Write, Read}
pub use Rattle.record_model.specs.declared.names.Bucket.{Bucket}
pub use Rattle.record_model.specs.declared.names.Bucket.TheVariants.{Entry, Free, Strange, Tombstone}
pub use Rattle.record_model.specs.declared.names.Job.{Job}
pub use Rattle.record_model.specs.declared.names.Job.TheVariants.{Find, Remove, Put}
