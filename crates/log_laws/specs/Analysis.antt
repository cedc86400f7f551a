-- What analysis keeps of each unfinished transaction, and what undoing it knows.
use Rattle.std.specs.Prelude.{◌≡◌, ℕ, ◌+◌, ◌-◌, ◌≤◌, true, List, length, map, drop}
use Rattle.log_records.specs.declared.log_record.LogRecord.{LogRecord}
use Rattle.log_records.specs.declared.log_record.LogRecord.TheVariants.{Update, Clr}
use Rattle.log_records.specs.Log.{Entry, is_loser, entries_of, updates_in}
use Rattle.log_records.specs.Unfinished.{left_open, losers}
use Rattle.log_records.specs.Sound.{last_lsn}
use Rattle.log_laws.specs.UndoLaws.{IsUndoChain, goes_back}

-- a transaction, the LSN of its last record, and how many of its Updates remain to be undone
pub record Summary : Type 0 where
  pub txn : ℕ
  pub last : ℕ
  pub remaining : ℕ

abbrev pub unfinished_at : List Entry → ℕ → Summary
unfinished_at log t = record {
  txn = t;
  last = last_lsn (entries_of t log);
  remaining = length (left_open log t);
}

-- the unfinished transactions of a log, in the order of their Begins
abbrev pub unfinished_in : List Entry → List Summary
unfinished_in log = map (unfinished_at log) (losers log)

abbrev pub remaining_by : ℕ → LogRecord → ℕ
remaining_by n (Update txn prev page slot before after) = n + 1
remaining_by n (Clr txn prev undo_next page slot after) = n - 1
remaining_by n _ = n

-- a transaction after one more record of its own
abbrev pub after_record : Summary → Entry → Summary
after_record x e = record { txn = x.txn; last = e.lsn; remaining = remaining_by x.remaining e.rec }

-- a transaction that is being undone: also the LSN where that goes on, and the records that it reads from there on
pub record Unfinished : Type 0 where
  pub txn : ℕ
  pub last : ℕ
  pub next : ℕ
  pub remaining : ℕ
  pub chain : List Entry

-- behind a CLR that it has read
abbrev pub past_clr : Unfinished → Entry → Unfinished
past_clr x c = record x { next = goes_back c.rec; chain = drop 1 x.chain }

-- behind the CLR of the Update that it has read, which it has written
abbrev pub after_clr : Unfinished → Entry → Unfinished
after_clr x e = record {
  txn = x.txn;
  last = e.lsn;
  next = goes_back e.rec;
  remaining = x.remaining - 1;
  chain = drop 1 x.chain;
}

-- what is there is a loser, and what is said of it; the Updates that are read are those that are left
pub record IsUnfinished (log : List Entry) (x : Unfinished) : Type 0 where
  pub loser : is_loser log x.txn ≡ true
  pub last_is : x.last ≡ last_lsn (entries_of x.txn log)
  pub chain_is : IsUndoChain log x.txn x.next x.chain
  pub left_is : updates_in x.chain ≡ left_open log x.txn
  pub early : x.next ≤ x.last
  pub remaining_is : x.remaining ≡ length (left_open log x.txn)
