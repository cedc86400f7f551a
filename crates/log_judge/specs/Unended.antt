-- The unfinished transactions, record by record.
use Rattle.std.specs.Prelude.{◌≡◌, ℕ, ◌^◌, ◌<◌, List, length, map}
use Rattle.std.specs.BTreeMap.{BTreeMap}
use Rattle.log_records.specs.Log.{Entry}
use Rattle.log_records.specs.Sound.{IsInOrder}
use Rattle.log_laws.specs.Follow.{IsFresh}
use Rattle.log_laws.specs.Analysis.{Summary, unfinished_in}
use Rattle.log_judge.specs.declared.unfinished.Left.{Left}

-- what is kept of one, by the LSN of its Begin
abbrev pub left_of : Summary → Left
left_of x = record { last = x.last; remaining = x.remaining }

abbrev pub entry_of : Summary → ℕ × Left
entry_of x = (x.txn, left_of x)

-- these are the transactions that records leave unfinished, in the order of their Begins
pub record AreLeft (records : List Entry) (left : BTreeMap ℕ Left) : Type 0 where
  pub are : left.entries ≡ map entry_of (unfinished_in records)

-- what a record at an LSN asks of those before it
pub record Comes (records : List Entry) (lsn : ℕ) : Type 0 where
  pub from : ℕ
  pub in_order : IsInOrder from records lsn
  pub fresh : IsFresh lsn records
  pub few : length records < 2 ^ 62
