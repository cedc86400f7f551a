-- What is read of a log.
use Rattle.std.specs.Prelude.{◌≡◌, List, ◌∷◌, ◌++◌, Option, Some, None}
use Rattle.log_records.specs.Log.{Entry}
use Rattle.log_replay.specs.declared.transactions.Transactions.{Transactions}
use Rattle.archive_base.specs.Opening.{HasHeard, HaveClaimed, IsBeyond}

-- The transactions that were heard of a log; none where it has a record that no page of any database has.
abbrev pub Leaves : List Entry → Option Transactions → Type 0
Leaves log None = (front : List Entry) × (e : Entry) × (back : List Entry) × (log ≡ front ++ e ∷ back)
    × IsBeyond e.rec
Leaves log (Some kept) = HasHeard log kept × HaveClaimed kept
