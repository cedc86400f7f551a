-- The open transactions, record by record.
use Rattle.std.specs.Prelude.{◌≡◌, ℕ, ◌≤◌, not, ◌&&◌, List}
use Rattle.lsn_set.specs.Held.{has}
use Rattle.lsn_set.specs.declared.lsn_set.LsnSet.{LsnSet}
use Rattle.log_records.specs.Log.{Entry, txn_of, is_closed}
use Rattle.log_records.specs.Sound.{Master, IsOfOpenTransaction, is_known, from_block}

-- these are the transactions that are known from the redo block on and that none of these records closes
pub record AreOpen (m : Master) (records : List Entry) (txns : LsnSet) : Type 0 where
  pub are : (t : ℕ) → has txns t ≡
      (is_known m.active (from_block m.redo records) t && not (is_closed records t))

-- what the third rule says of a record behind these
pub record MayStand (m : Master) (earlier : List Entry) (e : Entry) : Type 0 where
  pub begun : txn_of e ≤ e.lsn
  pub of_open : IsOfOpenTransaction m earlier e
