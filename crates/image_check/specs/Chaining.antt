-- Unfinished transactions, record by record.
use Rattle.std.specs.Prelude.{◌≡◌, ◌⊎◌, ℕ, Bool, List, [], ◌∷◌, ◌++◌, map, reverse, drop, true, false, ◌==◌, ◌||◌}
use Rattle.std.specs.Prelude.{nat_eq, Option, Some, None, is_some, option_map, IfSome}
use Rattle.indexmap.specs.IndexMap.{IndexMap, get}
use Rattle.std.specs.List.{list_any}
use Rattle.log_records.specs.declared.log_record.LogRecord.TheVariants.{Begin}
use Rattle.record_model.specs.State.{Content}
use Rattle.log_records.specs.Log.{Entry, is_of, is_closed, entries_of, after_of, last_on}
use Rattle.log_records.specs.Unfinished.{open_updates, losers}
use Rattle.log_records.specs.Sound.{InTurn, IsInOrder, IsLoserChain, HaveBegunBefore, Continues, last_lsn}
use Rattle.image_check.specs.declared.chain.Chain.{Chain}
use Rattle.image_check.specs.declared.chains.Chains.{Chains}
use Rattle.image_check.specs.declared.undoable.Undoing.{Undoing}

-- its Begin
abbrev pub begin_at : ℕ → Entry
begin_at t = record { lsn = t; rec = Begin }

-- of each number that these records are on: what the last of them there has written
pub record AreLast {S : Type 0} (records : List Entry) (contents : IndexMap ℕ Content S) : Type 0 where
  pub each : (number : ℕ) → get nat_eq contents number ≡ option_map (λ e. after_of e.rec) (last_on records number)

-- what is kept of it behind its Begin: these records continue it, the last one has this LSN, these of its Updates no
-- CLR compensates, and this was written last on each number
pub record IsKept (t : ℕ) (c : Chain) (rest : List Entry) : Type 0 where
  pub continues : InTurn Continues (begin_at t ∷ []) rest
  pub last : c.last ≡ last_lsn (begin_at t ∷ rest)
  pub left : reverse c.updates.items ≡ map (λ u. u.rec) (open_updates [] rest)
  pub written : AreLast rest c.written.last

-- a record is the Begin, before which there is none of the transaction, or stands behind it
pub record StandsThere (t : ℕ) (records : List Entry) (e : Entry) : Type 0 where
  pub first : is_of t e ≡ true → e.lsn ≡ t → entries_of t records ≡ []
  pub later : is_of t e ≡ true → (e.lsn ≡ t → ⊥) → entries_of t records ≡ begin_at t ∷ drop 1 (entries_of t records)

-- a record of the transaction behind its Begin doesn't continue it
pub record Breaks (t : ℕ) (records : List Entry) (e : Entry) : Type 0 where
  pub own : is_of t e ≡ true
  pub behind : e.lsn ≡ t → ⊥
  pub breaks : Continues (begin_at t ∷ drop 1 (entries_of t records)) e → ⊥

-- with this record of it, if it is one: the others continue it, and what is kept is of them; or it breaks
pub record HearsOwn (t : ℕ) (new : Chain) (records : List Entry) (e : Entry) (goes_on : Bool) : Type 0 where
  pub heard : StandsThere t records e → goes_on ≡ true → IsKept t new (drop 1 (entries_of t (records ++ e ∷ [])))
  pub wrong : goes_on ≡ false → Breaks t records e

-- a record of a log that is in order, behind these, and no record there stands before its Begin
pub record StandsIn (log records : List Entry) (e : Entry) : Type 0 where
  pub back : List Entry
  pub is : log ≡ records ++ e ∷ back
  pub from : ℕ
  pub to : ℕ
  pub in_order : IsInOrder from log to
  pub begun : HaveBegunBefore log

-- what is kept of it, or that there is no record of it behind its Begin
abbrev pub Keeps : ℕ → Option Chain → List Entry → Type 0
Keeps t None rest = rest ≡ []
Keeps t (Some c) rest = IsKept t c rest

-- Of each unfinished transaction that has its Begin in a log this is kept of these records, as long as none is found
-- that the log's records don't undo, and beyond that of those that they do; and what is found is one that they don't.
pub record AreChains (log records : List Entry) (chains : Chains) : Type 0 where
  pub kept : (t : ℕ) → list_any (λ n. n == t) (losers log) ≡ true →
      (chains.broken ≡ None) ⊎ IsLoserChain t (entries_of t log) →
      Keeps t (get nat_eq chains.chains t) (drop 1 (entries_of t records))
  pub broken : IfSome chains.broken (λ t. (list_any (λ n. n == t) (losers log) ≡ true)
      × (IsLoserChain t (entries_of t log) → ⊥))

-- of a log: each transaction of these records is unfinished with its Begin in the log, or closed, or one of these; and
-- each of these has a record, and no Begin that leaves it unfinished
pub record AreStrays {S : Type 0} (log records : List Entry) (txns : IndexMap ℕ ℕ S) : Type 0 where
  pub covers : (t : ℕ) → list_any (is_of t) records ≡ true →
      (list_any (λ n. n == t) (losers log) || (is_closed records t || is_some (get nat_eq txns t))) ≡ true
  pub there : (t : ℕ) → is_some (get nat_eq txns t) ≡ true →
      (list_any (is_of t) records ≡ true) × (list_any (λ n. n == t) (losers log) ≡ false)

pub record IsUndoing (log records : List Entry) (undoing : Undoing) : Type 0 where
  pub chains : AreChains log records undoing.chains
  pub strays : AreStrays log records undoing.strays.txns
