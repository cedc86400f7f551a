-- What a write, a mark and undone writes leave of an entry.
use Rattle.txn_table.proofs.Names.{ℕ, ◌^◌, ◌<◌, refl, arith, IsCounted, after_write, after_mark, after_undone, Active}
use Rattle.txn_table.proofs.Changes.{Leaves}

pub leaves_write : (lsn : ℕ) → Leaves (λ e. after_write e lsn)
leaves_write lsn = record { session = λ e. refl; begin = λ e. refl }

pub counted_write : (own : Active) (lsn : ℕ) → own.writes < 2 ^ 32 → IsCounted own → IsCounted (after_write own lsn)
counted_write own lsn room counted = record { few = omega (arith, room); mark = omega (arith, counted.mark) }

pub leaves_mark : Leaves after_mark
leaves_mark = record { session = λ e. refl; begin = λ e. refl }

pub counted_mark : (own : Active) → IsCounted own → IsCounted (after_mark own)
counted_mark own counted = record { few = counted.few; mark = omega arith }

pub leaves_undone : (count lsn : ℕ) → Leaves (λ e. after_undone e count lsn)
leaves_undone count lsn = record { session = λ e. refl; begin = λ e. refl }

pub counted_undone : (own : Active) (count lsn : ℕ) → IsCounted own → IsCounted (after_undone own count lsn)
counted_undone own count lsn counted = record { few = omega (arith, counted.few); mark = omega arith }
