-- Reading a record from left to right: what stands at the front of octets, and the octets after it.
use Rattle.std.specs.Prelude.{◌≡◌, ℕ, zero, suc, ◌==◌, ◌||◌, List, [], ◌∷◌, length, take, drop, Option, Some, None}
use Rattle.std.specs.Prelude.{Result, Ok, Err, nat_lt, if◌then◌else◌}
use Rattle.std.specs.Int.{Width, w32, w64, byte_len, from_be_bytes}
use Rattle.byte_fields.specs.declared.TheConstants.{VALUE_MAX}
use Rattle.record_model.specs.State.{Content}
use Rattle.log_records.specs.declared.log_record.LogRecord.{LogRecord}
use Rattle.log_records.specs.declared.log_record.LogRecord.TheVariants.{Begin, Update, Clr, Commit, End}
use Rattle.log_records.specs.declared.codec.BadRecord.{BadRecord}

infixl 10 ◌>>=◌
abbrev pub ◌>>=◌ : {A B : Type 0} → Option A → (A → Option B) → Option B
None >>= f = None
(Some x) >>= f = f x

-- what a function returned, seen by view, is what reading gives
abbrev pub Gives : {X Y : Type 0} → (X → Y) → Result X BadRecord → Option Y → Type 0
Gives view (Ok x) read = read ≡ Some (view x)
Gives view (Err e) read = read ≡ None

abbrev pub number_at : Width → List ℕ → Option (ℕ × List ℕ)
number_at w octets = if nat_lt (length octets) (byte_len w) then None else Some
    (from_be_bytes w (take (byte_len w) octets), drop (byte_len w) octets)

unfoldable pub slot_at : List ℕ → Option (ℕ × List ℕ)
slot_at [] = None
slot_at (slot ∷ rest) = if nat_lt slot 32 then Some (slot, rest) else None

unfoldable pub value_at : List ℕ → Option (Content × List ℕ)
value_at [] = None
value_at (zero ∷ rest) = Some (None, rest)
value_at (suc n ∷ rest) = if nat_lt VALUE_MAX n
    || nat_lt (length rest) n then None else Some (Some (take n rest), drop n rest)

unfoldable pub update_at : List ℕ → Option (LogRecord × List ℕ)
update_at octets = do
  txn ← number_at w64 octets
  prev ← number_at w64 txn.1
  page ← number_at w32 prev.1
  slot ← slot_at page.1
  before ← value_at slot.1
  after ← value_at before.1
  Some (Update txn.0 prev.0 page.0 slot.0 before.0 after.0, after.1)

unfoldable pub clr_at : List ℕ → Option (LogRecord × List ℕ)
clr_at octets = do
  txn ← number_at w64 octets
  prev ← number_at w64 txn.1
  undo_next ← number_at w64 prev.1
  page ← number_at w32 undo_next.1
  slot ← slot_at page.1
  after ← value_at slot.1
  Some (Clr txn.0 prev.0 undo_next.0 page.0 slot.0 after.0, after.1)

unfoldable pub commit_at : List ℕ → Option (LogRecord × List ℕ)
commit_at octets = do
  txn ← number_at w64 octets
  number ← number_at w64 txn.1
  Some (Commit txn.0 number.0, number.1)

unfoldable pub end_at : List ℕ → Option (LogRecord × List ℕ)
end_at octets = do
  txn ← number_at w64 octets
  Some (End txn.0, txn.1)

unfoldable pub record_at : List ℕ → Option (LogRecord × List ℕ)
record_at [] = None
record_at (kind ∷ rest) =
    if kind == 1 then Some (Begin, rest)
    else if kind == 2 then update_at rest
    else if kind == 3 then clr_at rest
    else if kind == 4 then commit_at rest
    else if kind == 5 then end_at rest
    else None
