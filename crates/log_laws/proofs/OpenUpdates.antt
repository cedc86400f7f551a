-- The Updates of a transaction that no CLR compensates, as CLR after CLR takes the last of them off.
use Rattle.std.proofs.lemmas.Grind.{common_steps}
use Rattle.log_laws.proofs.Names.{◌≡◌, ℕ, ◌+◌, ◌≤◌, ◌<◌, true, List, [], ◌∷◌, ◌++◌, arith, AllByRecursion, ⊤, Entry, txn_of, is_of, entries_of, IsInOrder, is_clr, open_by, open_updates, left_open, LogRecord, Clr}
use Rattle.log_laws.proofs.Parts.{in_order_filter}
use Rattle.std.specs.Prelude.{drop}
use Rattle.log_laws.proofs.Owing.{left_push}

-- What a CLR takes off.

pub left_after_clr : (records : List Entry) (e : Entry) (t : ℕ) → is_clr e.rec ≡ true → txn_of e ≡ t → left_open (records ++ e ∷ []) t ≡ drop 1 (left_open records t)
left_after_clr records e t clr own = grind (arith, common_steps, left_push)

-- The LSNs of what is left fall.

pub below_more : (low high : ℕ) (xs : List Entry) → low ≤ high → AllByRecursion (λ v. v.lsn < low) xs → AllByRecursion (λ v. v.lsn < high) xs
below_more low high [] more all = tt
below_more low high (x ∷ xs) more all = let less = all.0 in (omega (arith, less, more), below_more low high xs more all.1)

abbrev pub Fall : List Entry → Type 0
Fall [] = ⊤
Fall (u ∷ updates) = AllByRecursion (λ v. v.lsn < u.lsn) updates × Fall updates

record AreBelow (high : ℕ) (updates : List Entry) : Type 0 where
  below : AllByRecursion (λ v. v.lsn < high) updates
  fall : Fall updates

dropped : (high : ℕ) (updates : List Entry) → AreBelow high updates → AreBelow high (drop 1 updates)
dropped high x1 are = grind (arith, common_steps)

opens_below : (updates : List Entry) (e : Entry) (rec : LogRecord) (from : ℕ) → from ≤ e.lsn → AreBelow from updates → AreBelow (e.lsn + 1) (open_by updates e rec)
opens_below updates e (Clr txn prev undo_next page slot after) from less are = grind (arith, dropped, below_more)
opens_below updates e _ from less are = grind (arith, below_more)

updates_fall : (from to : ℕ) (entries updates : List Entry) → IsInOrder from entries to → AreBelow from updates → Fall (open_updates updates entries)
updates_fall from to [] updates order are = are.fall
updates_fall from to (e ∷ entries) updates order are = updates_fall (e.lsn + 1) to entries (open_by updates e e.rec) order.1 (opens_below updates e e.rec from order.0 are)

pub left_falls : (from to : ℕ) (records : List Entry) (t : ℕ) → IsInOrder from records to → Fall (left_open records t)
left_falls from to records t order = updates_fall from to (entries_of t records) [] (in_order_filter (is_of t) from records to order) (record { below = tt; fall = tt })
