-- The names that most proofs of this crate cite, passed on from one place. Declares nothing.
pub use Rattle.std.proofs.Common.{sym, ◌≡◌, ◌∙◌, ap, ℕ, [], arith, false, Bool, List, refl, true, ◌∷◌, length, subst, ◌++◌, true≢false, cond, ◌*◌, Some, drop, ◌<◌, None, ◌==◌, Option, get_or, nat_lt, ◌+◌, ◌≤◌, map, nat_eq, take, ◌&&◌, ◌-◌, ◌||◌, append_assoc, inl, inr, ◌^◌, add-one, ◌/◌, ◌⊎◌}
pub use Rattle.std.proofs.Math.Seq.{get_or-append_seam, drop-cons}
pub use Rattle.std.proofs.lemmas.Bool.{eqb-true, and_right, cases_lt, and_parts, cases_eq, eq-eqb, lt-ltb, not-true}
pub use Rattle.std.proofs.lemmas.Bool.Decides.{nat_tests}
pub use Rattle.std.proofs.lemmas.List.{append-nil, length-append, reverse-append, map-append, reverse-reverse, take_all, take_at}
pub use Rattle.std.proofs.lemmas.List.Elements.{filter-append, filter_map-append}
pub use Rattle.std.proofs.lemmas.List.Folds.{list_any-append, list_any_more}
pub use Rattle.std.proofs.lemmas.Option.{none-some, get_or_from_slice_get, same_Some}
pub use Rattle.std.specs.BTreeMap.{BTreeMap, is_at, insert_entry}
pub use Rattle.std.specs.List.{list_any, AllByRecursion, range_with_len, cons_option}
pub use Rattle.std.specs.Map.{lookup, remove_entry, set_value}
pub use Rattle.std.specs.Ordering.{nat_cmp}
pub use Rattle.std.specs.Prelude.{IsTrue, reverse, ◌↔◌, filter, nat_le, not, Err, IfNone, IfSome, Ok, Result, if◌then◌else◌, option_map, slice_get}
pub use Rattle.checkpoint.specs.Newest.{seen}
pub use Rattle.checkpoint.specs.declared.pairs.Pair.{Pair}
pub use Rattle.indexmap.specs.IndexSet.{contains, index_set_len, IndexSet}
pub use Rattle.log_judge.specs.Chaining.{AreChains, Kept, kept_of, IsKept, begin_at, kept_by, pending_of, Knows}
pub use Rattle.log_judge.specs.Counting.{Heard, Counts, Fit, NumbersAre}
pub use Rattle.log_judge.specs.Judging.{HasHeard, IsOfSizes}
pub use Rattle.log_judge.specs.Opening.{MayStand, AreOpen}
pub use Rattle.log_judge.specs.Rules.{Links, IsJudged, IsLinked, LosersAreLinked, is_unfinished}
pub use Rattle.log_judge.specs.Unended.{AreLeft, Comes, entry_of, left_of}
pub use Rattle.log_judge.specs.declared.chain.Pending.{Pending}
pub use Rattle.log_judge.specs.declared.commits.Numbers.{Numbers}
pub use Rattle.log_judge.specs.declared.unfinished.Left.{Left}
pub use Rattle.log_laws.proofs.Appends.{fresh_open, fresh_entries}
pub use Rattle.log_laws.proofs.Orders.{InTurn-weaker, InTurn-all, InTurn-append}
pub use Rattle.log_laws.proofs.Parts.{InTurn-right, all_below, all_made, filter_same, in_order_filter}
pub use Rattle.log_laws.proofs.Values.{closed_push, closed_same}
pub use Rattle.log_laws.specs.Follow.{IsFresh}
pub use Rattle.log_records.proofs.Entries.{closing_is_no_begin}
pub use Rattle.log_records.specs.Log.{Entry, txn_of, is_closing, entries_of, is_closed, is_of, is_update, Version, number_of}
pub use Rattle.log_records.specs.Sound.{before_block, LogicalImage, Master, InTurn, IsInOrder, commit_numbers, is_known, Active, IsInTable, active_in, from_block, AreNumbered, Compensates, Continues, IsLoserChain, IsOfOpenTransaction, IsSound, Undoes, commit_count, commit_number, commit_number_by, last_lsn, last_number}
pub use Rattle.log_records.specs.Unfinished.{is_begin, open_updates, open_by, is_clr, losers}
pub use Rattle.log_records.specs.declared.log_record.LogRecord.{LogRecord}
pub use Rattle.log_records.specs.declared.log_record.LogRecord.TheVariants.{Begin, Clr, Commit, End, Update}
pub use Rattle.lsn_set.specs.Held.{has}
pub use Rattle.std_lemmas.proofs.AllOf.{all_right, all_append, all_filter, all_weaker}
pub use Rattle.std_lemmas.proofs.Bools.{or_without_last, or_assoc, or_without}
pub use Rattle.std_lemmas.proofs.Lists.{map_same, range_push}
