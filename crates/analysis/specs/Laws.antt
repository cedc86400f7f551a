-- Laws on what analysis knows.
use Rattle.std.specs.Prelude.{◌≡◌, ℕ, ◌==◌, ◌&&◌, Bool, true, List, map}
use Rattle.std.specs.List.{list_any, AllByRecursion}
use Rattle.log_records.specs.Log.{Entry}
use Rattle.log_records.specs.Unfinished.{is_begin, losers, owed}
use Rattle.log_records.specs.Sound.{Active, IsInOrder}
use Rattle.analysis.specs.Open.{Open, owed_for}
use Rattle.analysis.specs.Read.{is_active, open_at, IsTable}

-- records say of the active transactions one list
abbrev pub OneTable : Type 0
OneTable = (named : List Active) (records : List Entry) (a b : List Open) → IsTable named records a
    → IsTable named records b → a ≡ b

-- the Begin of a transaction is among the records, and so is that of each one that a master names
abbrev pub has_begun : List Entry → ℕ → Bool
has_begun records t = list_any (λ e. is_begin e.rec && (e.lsn == t)) records

abbrev pub HaveBegun : List Active → List Entry → Type 0
HaveBegun named records = AllByRecursion (λ a. has_begun records a.begin ≡ true) named

-- then the active transactions are the unfinished ones of the records
abbrev pub ActiveIsUnfinished : Type 0
ActiveIsUnfinished = (named : List Active) (records : List Entry) (t : ℕ) → HaveBegun named records
    → is_active named records t ≡ list_any (λ s. s == t) (losers records)

-- in the order of their Begins
abbrev pub TableOfUnfinished : Type 0
TableOfUnfinished =
    (named : List Active) (records : List Entry) (from to : ℕ) → HaveBegun named records → IsInOrder from records to →
    IsTable named records (map (open_at named records) (losers records))

-- what undoing all of them takes
abbrev pub OwedOfUnfinished : Type 0
OwedOfUnfinished = (named : List Active) (records : List Entry)
    → owed_for (map (open_at named records) (losers records)) ≡ owed records
