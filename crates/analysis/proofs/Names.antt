-- The names that most proofs of this crate cite, passed on from one place. Declares nothing.
pub use Rattle.std.proofs.Common.{sym, ◌∙◌, refl, ap, arith, ◌≡◌, [], List, subst, ℕ, Some, ◌∷◌, None, true, ◌==◌, ◌++◌, ◌+◌, length, map, ◌&&◌, Bool, false, drop, ◌<◌, ◌||◌, ◌≤◌, Option, cond, true≢false, inl, inr, not, reverse, ◌⊎◌, take, IsSome, get_or, nat_le, slice_get, ◌*◌, append-nil, append_assoc, nat_lt, option_map, ◌-◌, ◌≢◌, Err, IfErr, IfSome, IsErrOf, Less, Ok, OnErr, OnOk, Result, if◌then◌else◌, is_ok, is_some, length-append, min, rules, suc, vec_len, zero, ◌^◌, ◌↔◌}
pub use Rattle.std.proofs.lemmas.Bool.{eq-eqb, eqb-true, and_parts, cond-true, cond-false, ne_eqb, and_from, cases_lt, false_from_ne_true, leb-true, or_cases, or_left, or_right, cases_eq, le-leb, lt-ltb, leb-false}
pub use Rattle.std.proofs.lemmas.List.{map-append, take_more, length-map, length-reverse, reverse-append, take-append-drop}
pub use Rattle.std.proofs.lemmas.List.Elements.{filter-append}
pub use Rattle.std.proofs.lemmas.List.Sums.{sum_by-cons}
pub use Rattle.std.proofs.lemmas.Map.Keys.{ge_from_not_lt, sorted_head, sorted_tail}
pub use Rattle.std.proofs.lemmas.Option.{none-some, same_Some, get_or_from_slice_get}
pub use Rattle.std.proofs.lemmas.Result.{on_ok_weaker}
pub use Rattle.std.specs.BTreeMap.{BTreeMap, Updates, is_at, IsOrdered, IsUpperBound, WritesThrough, get, insert_entry}
pub use Rattle.std.specs.Cmp.{unsigned_tied}
pub use Rattle.std.specs.List.{list_any, AllByRecursion}
pub use Rattle.std.specs.Map.{lookup, keys_of, values_of}
pub use Rattle.std.specs.Option.{option_copied_mut, option_or}
pub use Rattle.std.specs.Ordering.{nat_cmp}
pub use Rattle.std.specs.Prelude.{filter, fold, option_copied, slice_index_or}
pub use Rattle.analysis.specs.Laws.{has_begun, HaveBegun, ActiveIsUnfinished, OneTable, OwedOfUnfinished, TableOfUnfinished}
pub use Rattle.analysis.specs.Open.{Open, found_in, AscendFrom, owed_for, Changes, owed_one, IsTop, begun, IsAtMost, IsNext, OneHas, Remains, none_remains, updates_of, DropsOne, HasLeft, Replaces, TakesOut, left_in}
pub use Rattle.analysis.specs.Order.{Descend, has_at, BeginBelow, IsOrder}
pub use Rattle.analysis.specs.Read.{IsTable, is_active, open_at, loser_of, open_in, IsAnalysis, IsLoser, MayCome, last_named}
pub use Rattle.analysis.specs.Table.{listed, open_of, Becomes, Closes}
pub use Rattle.analysis.specs.Taken.{is_named, is_taken, taken, AllAreTaken, Steps, StepsOn, TakenBegin, TakenCommits, TakenEntries, TakenInOrder, TakenIsLoser, TakenPending, TakenTable}
pub use Rattle.analysis.specs.declared.order.Order.{Order}
pub use Rattle.analysis.specs.declared.table.Transaction.{Transaction}
pub use Rattle.log_records.proofs.Entries.{closing_is_no_begin, in_order_from, in_order_least}
pub use Rattle.log_records.specs.Log.{Entry, is_closed, txn_of, is_closing, entries_of, is_of, is_loser, is_update, last_where, txn_by}
pub use Rattle.log_records.specs.Sound.{Active, is_known, IsInOrder, IsSound, LogicalImage, Master, commit_numbers, before_block, commit_number, InTurn, IsLoserChain, IsOfOpenTransaction, commit_number_by, from_block, last_lsn, last_number}
pub use Rattle.log_records.specs.Unfinished.{is_begin, left_open, losers, open_by, open_updates, owed_by, pending}
pub use Rattle.log_records.specs.declared.log_record.LogRecord.{LogRecord}
pub use Rattle.log_records.specs.declared.log_record.LogRecord.TheVariants.{Begin, Clr, Update, Commit, End}
pub use Rattle.std_lemmas.proofs.AllOf.{all_filter_passed, all_both, all_push, all_weaker}
pub use Rattle.std_lemmas.proofs.Bools.{and_false, or_false, eq_turned, or_assoc, or_true}
pub use Rattle.std_lemmas.proofs.Lists.{any_reverse, any_between}
