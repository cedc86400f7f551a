-- What a restart hands to analysis of a sound log.
use Rattle.std.specs.Prelude.{◌≡◌, ℕ, ◌+◌, ◌*◌, ◌==◌, ◌||◌, Bool, true, false, nat_le, List, [], ◌∷◌, ◌++◌, length}
use Rattle.std.specs.Prelude.{map, filter}
use Rattle.std.specs.List.{list_any}
use Rattle.log_records.specs.Log.{Entry, txn_of, entries_of, is_loser}
use Rattle.log_records.specs.Unfinished.{is_begin, losers, pending}
use Rattle.log_records.specs.Sound.{Active, Master, LogicalImage, IsSound, IsInOrder, commit_numbers, commit_count}
use Rattle.analysis.specs.Read.{is_active, open_at, IsTable, MayCome}
use Rattle.analysis.specs.Laws.{HaveBegun}

-- all records from the redo block on, and those before it of the transactions that the master names
abbrev pub is_named : List Active → ℕ → Bool
is_named named t = list_any (λ a. a.begin == t) named

abbrev pub is_taken : Master → Entry → Bool
is_taken m e = nat_le (512 * m.redo) e.lsn || is_named m.active (txn_of e)

abbrev pub taken : LogicalImage → List Entry
taken p = filter (is_taken p.master) p.log

-- a record may come next, and unless it is a Begin its transaction is active
pub record Steps (named : List Active) (earlier : List Entry) (e : Entry) : Type 0 where
  pub comes : MayCome earlier e
  pub active : is_begin e.rec ≡ false → is_active named earlier (txn_of e) ≡ true

abbrev pub StepsOn : Type 0
StepsOn = (p : LogicalImage) (earlier : List Entry) (e : Entry) (rest : List Entry) → IsSound p
    → taken p ≡ earlier ++ e ∷ rest → Steps p.master.active earlier e

-- they are in order, and with them each transaction that the master names has begun
abbrev pub TakenInOrder : Type 0
TakenInOrder = (p : LogicalImage) → IsSound p → IsInOrder (512 * p.master.kept) (taken p) (512 * p.hi)

abbrev pub TakenBegin : Type 0
TakenBegin = (p : LogicalImage) → IsSound p → HaveBegun p.master.active (taken p)

-- of an unfinished transaction all records are taken
abbrev pub TakenEntries : Type 0
TakenEntries = (p : LogicalImage) (t : ℕ) → IsSound p → is_loser p.log t ≡ true → entries_of t (taken p)
    ≡ entries_of t p.log

-- the active transactions are the unfinished ones of the log
abbrev pub TakenIsLoser : Type 0
TakenIsLoser = (p : LogicalImage) (t : ℕ) → IsSound p → is_active p.master.active (taken p) t ≡ is_loser p.log t

-- the master's commits and those that are taken are the commits that the log stands for
abbrev pub TakenCommits : Type 0
TakenCommits = (p : LogicalImage) → IsSound p → p.master.commits + length (commit_numbers (taken p)) ≡ commit_count p

-- then the table is that of the log's unfinished transactions, by the log alone
abbrev pub TakenTable : Type 0
TakenTable = (p : LogicalImage) → IsSound p → IsTable p.master.active (taken p) (map (open_at [] p.log) (losers p.log))

-- and what remains to be undone of all of them is the same
abbrev pub TakenPending : Type 0
TakenPending = (p : LogicalImage) → IsSound p → pending (taken p) ≡ pending p.log

-- where redo begins with the first block all records are taken
abbrev pub AllAreTaken : Type 0
AllAreTaken = (p : LogicalImage) → IsSound p → p.master.redo ≡ 0 → taken p ≡ p.log
