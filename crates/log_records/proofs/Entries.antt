-- Entries of a log: how many, their order, their kinds.
use Rattle.std.proofs.Common.{◌≡◌, ℕ, ◌+◌, ◌≤◌, true, false, List, [], ◌∷◌, ◌++◌, refl, arith}
use Rattle.log_records.specs.declared.log_record.LogRecord.{LogRecord}
use Rattle.log_records.specs.declared.log_record.LogRecord.TheVariants.{Begin}
use Rattle.log_records.specs.Log.{Entry, is_closing}
use Rattle.log_records.specs.Unfinished.{is_begin}
use Rattle.log_records.specs.Sound.{IsInOrder}

-- In order from an earlier number too; and the part in front of one.

pub in_order_from : (from from' : ℕ) (log : List Entry) (to : ℕ) → from' ≤ from → IsInOrder from log to → IsInOrder from' log to
in_order_from from from' [] to l h = omega arith
in_order_from from from' (e ∷ log) to l h = (let b = h.0 in omega (arith, b), h.1)

pub in_order_left : (from : ℕ) (xs : List Entry) (e : Entry) (rest : List Entry) (to : ℕ) → IsInOrder from (xs ++ e ∷ rest) to → IsInOrder from xs e.lsn
in_order_left from [] e rest to h = h.0
in_order_left from (x ∷ xs) e rest to h = (h.0, in_order_left (x.lsn + 1) xs e rest to h.1)

-- none stands before the first number
pub in_order_least : (from to : ℕ) (front : List Entry) (e : Entry) (back : List Entry) → IsInOrder from (front ++ e ∷ back) to → from ≤ e.lsn
in_order_least from to [] e back order = order.0
in_order_least from to (x ∷ front) e back order = let below = in_order_least (x.lsn + 1) to front e back order.1 in let first = order.0 in omega (arith, below, first)

pub closing_is_no_begin : (rec : LogRecord) → is_closing rec ≡ true → is_begin rec ≡ false
closing_is_no_begin Begin h = absurd (grind arith)
closing_is_no_begin _ h = refl
