-- Laws of the format and of logs.
use Rattle.std.specs.Prelude.{◌≡◌, ℕ, ◌≤◌, List, ◌++◌}
use Rattle.log_records.specs.declared.log_record.LogRecord.{LogRecord}
use Rattle.log_records.specs.Spelling.{spelling, HasForm, FitsFields, IsSpelledAt}
use Rattle.log_records.specs.Writes.{Writes}

-- no spelling begins another record's
abbrev pub OneForm : Type 0
OneForm =
    (a b : LogRecord) (x y : List ℕ) → HasForm a → FitsFields a → HasForm b → FitsFields b →
    spelling a ++ x ≡ spelling b ++ y → (a ≡ b) × (x ≡ y)

-- a record that was written is spelled there
abbrev pub WrittenIsSpelled : Type 0
WrittenIsSpelled =
    (old new : List ℕ) (from limit : ℕ) (rec : LogRecord) (end : ℕ) → HasForm rec → FitsFields rec →
    Writes old new from (spelling rec) end → end ≤ limit → IsSpelledAt new from limit rec end

-- and no other one is
abbrev pub OneSpelled : Type 0
OneSpelled =
    (octets : List ℕ) (from limit : ℕ) (a b : LogRecord) (end stop : ℕ) →
    IsSpelledAt octets from limit a end → IsSpelledAt octets from limit b stop → (a ≡ b) × (end ≡ stop)
