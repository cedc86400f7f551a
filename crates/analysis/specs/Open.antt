-- Active transactions, as a list of what is known of each.
use Rattle.std.specs.Prelude.{◌≡◌, ◌≢◌, ◌⊎◌, ℕ, ◌+◌, ◌≤◌, ◌<◌, ◌==◌, nat_eq, Bool, if◌then◌else◌, length, drop}
use Rattle.std.specs.Prelude.{List, [], ◌∷◌, ◌++◌, find, sum_by, Option, Some, None}
use Rattle.std.specs.List.{AllByRecursion}

-- a transaction, the LSN of its last record, and those of its Updates that no CLR compensates, the greatest first
pub record Open : Type 0 where
  pub txn : ℕ
  pub last : ℕ
  pub updates : List ℕ

-- what a list says of a transaction
abbrev pub found_in : List Open → ℕ → Option Open
found_in table t = find (λ x. x.txn == t) table

-- the transactions ascend from a number on
abbrev pub AscendFrom : ℕ → List Open → Type 0
AscendFrom n [] = Unit {0}
AscendFrom n (x ∷ table) = (n ≤ x.txn) × AscendFrom (x.txn + 1) table

-- the records that undoing all of them makes: one for each Update that remains, and an End for each
abbrev pub owed_one : Open → ℕ
owed_one x = length x.updates + 1

abbrev pub owed_for : List Open → ℕ
owed_for table = sum_by owed_one table

-- This is said of a transaction now. Of all others the same is said as before, and the transactions ascend still.
pub record Changes (old new : List Open) (t : ℕ) (now : Option Open) : Type 0 where
  pub own : found_in new t ≡ now
  pub others : (s : ℕ) → s ≢ t → found_in new s ≡ found_in old s
  pub ascend : AscendFrom 0 new

-- what was said of a transaction is changed, and all else is as before
pub record Replaces (old new : List Open) (t : ℕ) (after : Open → Open) : Type 0 where
  pub front : List Open
  pub was : Open
  pub back : List Open
  pub of : was.txn ≡ t
  pub old_is : old ≡ front ++ was ∷ back
  pub new_is : new ≡ front ++ after was ∷ back

-- nothing is said of it any more
pub record TakesOut (old new : List Open) (t : ℕ) : Type 0 where
  pub front : List Open
  pub was : Open
  pub back : List Open
  pub of : was.txn ≡ t
  pub old_is : old ≡ front ++ was ∷ back
  pub new_is : new ≡ front ++ back

-- a transaction after its Begin, which is new where nothing was said of it
abbrev pub begun : ℕ → Option Open → Open
begun lsn None = record { txn = lsn; last = lsn; updates = [] }
begun lsn (Some x) = record x { last = lsn }

-- the first of the Updates of a transaction is at an LSN
abbrev pub IsTop : ℕ → List ℕ → Type 0
IsTop lsn [] = ⊥
IsTop lsn (u ∷ updates) = u ≡ lsn

-- none is above an LSN
abbrev pub IsAtMost : ℕ → List ℕ → Type 0
IsAtMost lsn [] = Unit {0}
IsAtMost lsn (u ∷ updates) = u ≤ lsn

-- the greatest Update of a transaction that no CLR compensates is at an LSN
pub record Remains (table : List Open) (t lsn : ℕ) : Type 0 where
  pub x : Open
  pub there : found_in table t ≡ Some x
  pub top : IsTop lsn x.updates

-- an Update of a transaction remains
pub record HasLeft (table : List Open) (t : ℕ) : Type 0 where
  pub x : Open
  pub there : found_in table t ≡ Some x
  pub some : 0 < length x.updates

-- no Update of a transaction remains
abbrev pub none_remains : Open → Bool
none_remains x = nat_eq (length x.updates) 0

-- the Updates that remain of a transaction, the greatest first
abbrev pub updates_of : Option Open → List ℕ
updates_of None = []
updates_of (Some x) = x.updates

abbrev pub left_in : List Open → ℕ → List ℕ
left_in table t = updates_of (found_in table t)

-- of each transaction the same Updates remain
abbrev pub LeavesSame : List Open → List Open → Type 0
LeavesSame old new = (s : ℕ) → left_in new s ≡ left_in old s

-- of one transaction the greatest Update doesn't remain any more, and of others the same ones remain
abbrev pub DropsOne : List Open → List Open → ℕ → Type 0
DropsOne old new t = (s : ℕ) → left_in new s ≡ (if s == t then drop 1 (left_in old s) else left_in old s)

-- one of these transactions has the Update at an LSN as its greatest
abbrev pub OneHas : List Open → ℕ → ℕ → Type 0
OneHas [] t lsn = ⊥
OneHas (x ∷ table) t lsn = ((x.txn ≡ t) × IsTop lsn x.updates) ⊎ OneHas table t lsn

-- the greatest of all these, with its transaction, or none where there is none
abbrev pub IsNext : List Open → Option (ℕ × ℕ) → Type 0
IsNext table None = AllByRecursion (λ x. x.updates ≡ []) table
IsNext table (Some next) = OneHas table next.0 next.1 × AllByRecursion (λ x. IsAtMost next.1 x.updates) table
