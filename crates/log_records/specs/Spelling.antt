-- How log records and blocks of them are spelled in octets.
use Rattle.std.specs.Prelude.{◌≡◌, ◌≢◌, slice_range, ℕ, ◌+◌, ◌-◌, ◌^◌, ◌<◌, ◌≤◌, List, [], ◌∷◌, ◌++◌, length, replicate}
use Rattle.std.specs.Prelude.{flat_map, Some, None, IfSome, ⊤}
use Rattle.std.specs.List.{AllByRecursion}
use Rattle.std.specs.Int.{w16, w32, w64, to_be_bytes}
use Rattle.byte_fields.specs.declared.TheConstants.{VALUE_MAX}
use Rattle.record_model.specs.State.{Content}
use Rattle.log_records.specs.declared.log_record.LogRecord.{LogRecord}
use Rattle.log_records.specs.declared.log_record.LogRecord.TheVariants.{Begin, Update, Clr, Commit, End}
use Rattle.log_records.specs.declared.TheConstants.{BLOCK_LEN}

-- one octet, 0 for none, else the length plus one; then the octets of the value
abbrev pub content_spelling : Content → List ℕ
content_spelling None = 0 ∷ []
content_spelling (Some value) = (length value + 1) ∷ value

unfoldable pub spelling : LogRecord → List ℕ
spelling Begin = 1 ∷ []
spelling (Update txn prev page slot before after) =
    2 ∷ to_be_bytes w64 txn ++ to_be_bytes w64 prev ++ to_be_bytes w32 page ++ slot ∷ [] ++ content_spelling before
    ++ content_spelling after
spelling (Clr txn prev undo_next page slot after) =
    3 ∷ to_be_bytes w64 txn ++ to_be_bytes w64 prev ++ to_be_bytes w64 undo_next ++ to_be_bytes w32 page ++ slot ∷ []
    ++ content_spelling after
spelling (Commit txn number) = 4 ∷ to_be_bytes w64 txn ++ to_be_bytes w64 number
spelling (End txn) = 5 ∷ to_be_bytes w64 txn

-- a value isn't longer than values may be
abbrev pub IsShort : Content → Type 0
IsShort content = IfSome content (λ value. length value ≤ VALUE_MAX)

-- what the writer of a record has to keep to
abbrev pub HasForm : LogRecord → Type 0
HasForm (Update txn prev page slot before after) = (slot < 32) × IsShort before × IsShort after
HasForm (Clr txn prev undo_next page slot after) = (slot < 32) × IsShort after
HasForm _ = ⊤

-- the numbers of a record fit their fields
abbrev pub FitsFields : LogRecord → Type 0
FitsFields Begin = ⊤
FitsFields (Update txn prev page slot before after) = (txn < 2 ^ 64) × (prev < 2 ^ 64) × (page < 2 ^ 32)
FitsFields (Clr txn prev undo_next page slot after) = (txn < 2 ^ 64) × (prev < 2 ^ 64) × (undo_next < 2 ^ 64)
    × (page < 2 ^ 32)
FitsFields (Commit txn number) = (txn < 2 ^ 64) × (number < 2 ^ 64)
FitsFields (End txn) = txn < 2 ^ 64

-- the octets of a block's content
abbrev pub block_len : ℕ
block_len = BLOCK_LEN

-- the offset just past the last record
abbrev pub used_by : List LogRecord → ℕ
used_by records = 2 + length (flat_map spelling records)

-- the content of a block with these records: the offset past them, the records, and zeros
unfoldable pub block : List LogRecord → List ℕ
block records = to_be_bytes w16 (used_by records) ++ flat_map spelling records
    ++ replicate (block_len - used_by records) 0

-- records that make a block
pub record AreBlock (records : List LogRecord) : Type 0 where
  pub some : records ≢ []
  pub have_form : AllByRecursion HasForm records
  pub fit_fields : AllByRecursion FitsFields records
  pub room : used_by records ≤ block_len

-- the content of a block, which has these records
pub record IsBlock (content : List ℕ) (records : List LogRecord) : Type 0 where
  pub are_block : AreBlock records
  pub spelled : content ≡ block records

-- the spelling of a record begins at a place and ends at another one, which isn't past a limit
pub record IsSpelledAt (octets : List ℕ) (from : ℕ) (limit : ℕ) (rec : LogRecord) (end : ℕ) : Type 0 where
  pub text : slice_range octets from end ≡ spelling rec
  pub length_is : end ≡ from + length (spelling rec)
  pub inside : end ≤ limit
  pub has_form : HasForm rec
  pub fits_fields : FitsFields rec
