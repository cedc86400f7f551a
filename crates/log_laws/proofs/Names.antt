-- The names that most proofs of this crate cite, passed on from one place. Declares nothing.
pub use Rattle.std.proofs.Common.{arith, List, ◌≡◌, ℕ, [], ap, ◌∙◌, ◌∷◌, refl, sym, ◌++◌, length, ◌+◌, true, false, subst, ◌<◌, ◌≤◌, cond, Bool, Some, ◌*◌, None, ◌&&◌, append_assoc, drop, not, ◌||◌, map, ⊎_elim, ◌-◌, suc, zero, ◌/◌, inl, inr, take, true≢false, ◌⊎◌, replicate, ◌%◌}
pub use Rattle.std.proofs.lemmas.Bool.{eqb-true, eq-eqb, and_from, and_parts, or_left, ne_eqb, or_right, and_right, cases_Bool, le-leb, not_from_false, or_cases, lt-leb, or_parts, and_left, le-ltb, cases_lt, lt-ltb, leb-true, ltb-true, not-true, or_from}
pub use Rattle.std.proofs.lemmas.List.{append-nil, length-append, ext_get_or, reverse-append, drop_at, drop-drop, length-drop, map-append, take-append-drop, take-append-le}
pub use Rattle.std.proofs.lemmas.List.Elements.{filter-append, filter_map-append}
pub use Rattle.std.proofs.lemmas.List.Folds.{list_any-append, find-append}
pub use Rattle.std.proofs.lemmas.List.FromFn.{length-range_with_len}
pub use Rattle.std.proofs.lemmas.List.Sums.{sum_by-cons, length-filter, sum_by-append}
pub use Rattle.std.proofs.lemmas.Option.{same_Some, cond_some, none-some}
pub use Rattle.std.specs.List.{AllByRecursion, list_any, range_with_len, cons_option}
pub use Rattle.std.specs.Option.{option_or}
pub use Rattle.std.specs.Prelude.{IsTrue, filter, ◌==◌, Option, find, option_map, flat_map, unwrap_or, nat_lt, sum_by, filter_map, reverse, ⊤, fold, if◌then◌else◌, nat_le, slice_index_or, slice_set}
pub use Rattle.log_laws.specs.Analysis.{IsUnfinished, Summary, Unfinished, after_clr, after_record, past_clr, remaining_by, unfinished_at, unfinished_in}
pub use Rattle.log_laws.specs.Follow.{IsUndoable, Follows, IsFresh, IsFreeFor, next_entries, writes_in, CanBeUndone, has_written, sealed, table_after, table_after_all, write_of, GoesOn, IsActive, IsUndone, standing_in, IsFree}
pub use Rattle.log_laws.specs.Tail.{Carries, whole, next_lsn, CommitsRunOn}
pub use Rattle.log_laws.specs.UndoLaws.{IsLink, IsUndoChain, goes_back, top_lsn}
pub use Rattle.log_records.proofs.Blocks.{some_octet, spelled_next}
pub use Rattle.log_records.proofs.Entries.{in_order_from, in_order_left, closing_is_no_begin}
pub use Rattle.log_records.proofs.Lists.{last_where-append, one, all_last}
pub use Rattle.log_records.proofs.Values.{length_table_of, content_of_table, page_and_slot}
pub use Rattle.log_records.specs.Log.{Entry, txn_of, entries_of, is_of, is_closed, is_loser, last_where, Version, is_on, is_closing, is_update, after_of, shown, value_of, last_on, table_of, updates_in, entries_from, first_update, slot_at, before_first, before_of, number_of, shown_by, value_after, version_at, is_number, log_from}
pub use Rattle.log_records.specs.Room.{HasOpenRoom, longest, open_length, put_back}
pub use Rattle.log_records.specs.Sound.{IsInOrder, InTurn, IsLoserChain, LogicalImage, Master, Continues, IsInTable, IsSound, ShowsLast, before_block, commit_number, commit_numbers, from_block, last_lsn, IsOpen, Means, Pairwise, Undoes, AreOrderly, Compensates, HoldsOff, commit_count, last_known, FitsLog, HasRoomInPage, IsOfOpenTransaction, IsOrderly, active_in, is_known, last_number, Active, AreNumbered, HasRoom, HaveBegunBefore, redone}
pub use Rattle.log_records.specs.Unfinished.{left_open, is_begin, open_by, losers, open_updates, is_clr, owed, clrs_in, owed_by, pending, prev_of}
pub use Rattle.log_records.specs.declared.log_record.LogRecord.{LogRecord}
pub use Rattle.log_records.specs.declared.log_record.LogRecord.TheVariants.{Begin, Clr, Update, Commit, End}
pub use Rattle.record_model.specs.State.{Content, Write, content_at, last_write, table_with, length_of, page_room}
pub use Rattle.std_lemmas.proofs.AllOf.{all_weaker, all_filter, all_right, all_append, all_both, all_drop, all_map, all_passed, all_push, all_left, all_each}
pub use Rattle.std_lemmas.proofs.Bools.{or_without_last}
pub use Rattle.std_lemmas.proofs.Lists.{filter_all, map_same, any_map}
pub use Rattle.std_lemmas.proofs.Options.{option_or_none, option_or_some}
pub use Rattle.std_lemmas.proofs.Sums.{sum_both, sum_made, sum_le, sum_of_zeros, sum_pointwise, sum_swap, sum_within, sum_zero}
