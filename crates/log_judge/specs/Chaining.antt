-- What is kept of unfinished transactions, record by record.
use Rattle.std.specs.Prelude.{◌≡◌, ℕ, Bool, true, false, nat_eq, List, ◌∷◌, [], map, reverse, drop, Option, Some, None}
use Rattle.std.specs.Prelude.{option_map, if◌then◌else◌}
use Rattle.indexmap.specs.IndexMap.{get}
use Rattle.indexmap.specs.IndexSet.{contains}
use Rattle.lsn_set.specs.Held.{has}
use Rattle.log_records.specs.declared.log_record.LogRecord.{LogRecord}
use Rattle.log_records.specs.declared.log_record.LogRecord.TheVariants.{Begin, Update}
use Rattle.log_records.specs.Log.{Entry, entries_of}
use Rattle.log_records.specs.Unfinished.{open_updates}
use Rattle.log_records.specs.Sound.{InTurn, last_lsn}
use Rattle.log_judge.specs.declared.chain.Pending.{Pending}
use Rattle.log_judge.specs.declared.chain.Chain.{Chain}
use Rattle.log_judge.specs.declared.chains.Chains.{Chains}
use Rattle.log_judge.specs.Rules.{Links, IsLinked, is_unfinished}

-- its Begin
abbrev pub begin_at : ℕ → Entry
begin_at t = record { lsn = t; rec = Begin }

-- what a CLR of an Update has to say
abbrev pub pending_of : LogRecord → Pending
pending_of (Update txn prev page slot before after) = record {
  prev = prev;
  page = page;
  slot = slot;
  before = before;
}
pending_of _ = record { prev = 0; page = 0; slot = 0; before = None }

-- of a transaction: the LSN of its last record, and its Updates that no CLR compensates, the last one last
pub record Kept : Type 0 where
  pub last : ℕ
  pub updates : List Pending

-- what a chain keeps of it, and what is known of it behind its Begin
abbrev pub kept_by : Chain → Kept
kept_by c = record { last = c.last; updates = c.updates.items }

abbrev pub begun_at : ℕ → Kept
begun_at t = record { last = t; updates = [] }

-- these records of a transaction are linked behind its Begin, the last of all has this LSN, and these of its Updates no
-- CLR compensates
pub record IsKept (t : ℕ) (c : Kept) (rest : List Entry) : Type 0 where
  pub links : InTurn Links (begin_at t ∷ []) rest
  pub last : c.last ≡ last_lsn (begin_at t ∷ rest)
  pub left : reverse c.updates ≡ map (λ u. pending_of u.rec) (open_updates [] rest)

-- what is kept of a transaction: that nothing stands behind its Begin, or its chain
abbrev pub kept_of : Chains → ℕ → Option Kept
kept_of chains t = if has chains.begun t then Some (begun_at t) else option_map kept_by (get nat_eq chains.chains t)

-- what is known of an unfinished transaction with these records: what is kept, or that they aren't linked
abbrev pub Knows : ℕ → Option Kept → Bool → List Entry → Type 0
Knows t (Some c) broken entries = (broken ≡ false) × (entries ≡ begin_at t ∷ drop 1 entries)
    × IsKept t c (drop 1 entries)
Knows t None broken entries = (broken ≡ true) × (IsLinked t entries → ⊥)

-- so it is of each one, and nothing is known of others
pub record AreChains (records : List Entry) (chains : Chains) : Type 0 where
  pub known : (t : ℕ) → is_unfinished records t ≡ true
      → Knows t (kept_of chains t) (contains nat_eq chains.broken t) (entries_of t records)
  pub others : (t : ℕ) → is_unfinished records t ≡ false
      → (kept_of chains t ≡ None) × (contains nat_eq chains.broken t ≡ false)
