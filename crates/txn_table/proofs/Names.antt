-- The names that most proofs of this crate cite, passed on from one place. Declares nothing.
pub use Rattle.std.proofs.Common.{◌≡◌, ap, ◌∙◌, arith, sym, subst, ◌<◌, get_or, ℕ, refl, ◌==◌, ◌≤◌, List, Some, ◌≢◌, [], length, option_map, set, suc, ◌+◌, ◌∷◌, Bool, IsSome, Option, cond, false, rules, slice_get, true, zero, ◌^◌, map, nat_lt, not, take, All, None, insert, length-set, remove, sum_by, unwrap_or, AllPairs, Contains, IsNone, drop, lit<, min, ⊎_elim, ◌*◌, ◌++◌, ◌-◌}
pub use Rattle.std.proofs.lemmas.Bool.{cond-false, eqb-true, ne_eqb, cond-true, eq-eqb, eqb-false, cases_eq, ltb-false}
pub use Rattle.std.proofs.lemmas.Bool.Decides.{nat_tests}
pub use Rattle.std.proofs.lemmas.Iterator.{YieldsList-from_slice}
pub use Rattle.std.proofs.lemmas.Iterator.Search.{position_from_yields_List, find_from_yields_List}
pub use Rattle.std.proofs.lemmas.List.Elements.{All-from_recursion}
pub use Rattle.std.proofs.lemmas.List.Sums.{prefix_len-le-length, sum_by-cons, sum_by_more_le}
pub use Rattle.std.proofs.lemmas.Option.{none-some, same_Some, get_or_from_slice_get}
pub use Rattle.std.specs.List.{AllByRecursion, position_or_len, range_with_len, list_any}
pub use Rattle.std.specs.Option.{ForSome, option_map_or}
pub use Rattle.arrayvec.proofs.ArrayVecLemmas.{items-with_items}
pub use Rattle.arrayvec.specs.ArrayVec.{with_items, ArrayVec}
pub use Rattle.txn_table.specs.Entries.{IsTable, entry_of, ChangesOnly, after_write, owed, IsCounted, IsLeast, after_mark, after_undone, counted_from}
pub use Rattle.txn_table.specs.declared.active.Active.{Active}
