-- What the records of a log say of active transactions.
use Rattle.std.specs.Prelude.{◌≡◌, ℕ, ◌+◌, ◌-◌, ◌^◌, ◌==◌, min, Bool, true, false, not, ◌&&◌, if◌then◌else◌, List, []}
use Rattle.std.specs.Prelude.{◌∷◌, length, map, Option, Some, None}
use Rattle.log_records.specs.Log.{Entry, txn_of, entries_of, is_closed}
use Rattle.log_records.specs.Unfinished.{is_begin, left_open}
use Rattle.log_records.specs.Sound.{Active, Master, is_known, last_number, commit_numbers}
use Rattle.analysis.specs.declared.analysis.Analysis.{Analysis}
use Rattle.analysis.specs.declared.analysis.Loser.{Loser}
use Rattle.analysis.specs.Open.{Open, found_in, AscendFrom}
use Rattle.analysis.specs.Table.{listed}

-- a transaction is active: the master names it, or its Begin is among the records, and none of them closes it
abbrev pub is_active : List Active → List Entry → ℕ → Bool
is_active named records t = is_known named records t && not (is_closed records t)

-- the last record that a master knows of a transaction, and the last one with the records read since
abbrev pub last_named : List Active → ℕ → ℕ
last_named [] t = 0
last_named (a ∷ named) t = if a.begin == t then a.last else last_named named t

abbrev pub last_of : List Active → List Entry → ℕ → ℕ
last_of named records t = last_number (last_named named t) (map (λ e. e.lsn) (entries_of t records))

-- what the records say of a transaction, where it is active
abbrev pub open_at : List Active → List Entry → ℕ → Open
open_at named records t = record {
  txn = t;
  last = last_of named records t;
  updates = map (λ u. u.lsn) (left_open records t);
}

abbrev pub open_in : List Active → List Entry → ℕ → Option Open
open_in named records t = if is_active named records t then Some (open_at named records t) else None

-- a list says of each transaction what the records say, by ascending transaction
pub record IsTable (named : List Active) (records : List Entry) (table : List Open) : Type 0 where
  pub ascend : AscendFrom 0 table
  pub says : (t : ℕ) → found_in table t ≡ open_in named records t

-- of every log: the transactions ascend
abbrev pub Invariant : Analysis → Type 0
Invariant a = AscendFrom 0 (listed a.table)

-- the analysis after these records, from a master on: the active transactions, and the commits
pub record IsAnalysis (m : Master) (records : List Entry) (a : Analysis) : Type 0 where
  pub table : IsTable m.active records (listed a.table)
  pub commits : a.commits ≡ min (m.commits + length (commit_numbers records)) (2 ^ 64 - 1)
  -- each record is of a transaction that is known
  pub known : (t : ℕ) → is_known m.active records t ≡ false → entries_of t records ≡ []

-- a record may come next: where it is a Begin, no record before it has closed its transaction
abbrev pub MayCome : List Entry → Entry → Type 0
MayCome records e = is_begin e.rec ≡ true → is_closed records (txn_of e) ≡ false

-- an active transaction as callers see it
abbrev pub loser_of : Open → Loser
loser_of x = record { txn = x.txn; last = x.last; remaining = length x.updates }

-- by the records it is active, and this is its last record, and so many of its Updates no CLR compensates
pub record IsLoser (named : List Active) (records : List Entry) (loser : Loser) : Type 0 where
  pub active : is_active named records loser.txn ≡ true
  pub last_is : loser.last ≡ last_of named records loser.txn
  pub remaining_is : loser.remaining ≡ length (left_open records loser.txn)
