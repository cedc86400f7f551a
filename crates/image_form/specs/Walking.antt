-- A walk over the records of a log.
use Rattle.std.specs.Prelude.{◌≡◌, ℕ, ◌+◌, ◌-◌, ◌*◌, ◌^◌, ◌≤◌, List, [], ◌∷◌, ◌++◌, length, drop, flat_map, Option}
use Rattle.std.specs.Prelude.{Some, None}
use Rattle.std.specs.List.{AllByRecursion}
use Rattle.site.specs.State.{Image}
use Rattle.log_records.specs.declared.log_record.LogRecord.{LogRecord}
use Rattle.log_records.specs.Spelling.{spelling, HasForm, FitsFields}
use Rattle.log_records.specs.Log.{Entry, entries_from, log_from}
use Rattle.log_store.specs.declared.store.LogStore.{LogStore}
use Rattle.log_store.specs.Representation.{HasBlocks}
use Rattle.image_form.specs.declared.walk.Walk.{Walk}

-- from a place on these records are left of a block
pub record IsLeft (content : List ℕ) (used at : ℕ) (left : List LogRecord) : Type 0 where
  pub have_form : AllByRecursion HasForm left
  pub fit_fields : AllByRecursion FitsFields left
  pub text : drop at content ≡ flat_map spelling left ++ drop used content
  pub end : used ≡ at + length (flat_map spelling left)

-- of every site: the walk may go on
pub record MayWalk (log : LogStore) (walk : Walk) : Type 0 where
  pub room : length walk.content ≡ 503
  pub order : walk.at ≤ walk.used
  pub inside : walk.used ≤ 503
  pub from : walk.from ≤ 512 * 2 ^ 40
  -- the next block is live, or there is none
  pub live : log.ring.hi ≤ walk.block + (log.geometry.blocks - 1)

-- the walk stands before these entries of the log that an image has
pub record StandsBefore (walk : Walk) (log : LogStore) (image : Image) (left : List Entry) : Type 0 where
  -- the records that are left of the block in memory, and the blocks behind it
  pub records : List LogRecord
  pub blocks : List (List LogRecord)
  pub here : IsLeft walk.content walk.used walk.at records
  pub behind : HasBlocks log.geometry walk.block blocks image
  pub entries : left ≡ entries_from (walk.from + walk.at) records ++ log_from walk.block blocks

-- what is found is the first entry, and the walk stands before the others; none where none is left
abbrev pub Gives : Option (ℕ × LogRecord) → List Entry → Walk → LogStore → Image → Type 0
Gives None left walk log image = left ≡ []
Gives (Some found) left walk log image = (rest : List Entry) × (left ≡ record { lsn = found.0; rec = found.1 } ∷ rest)
    × StandsBefore walk log image rest

-- the blocks that it hasn't read
abbrev pub unread : LogStore → Walk → ℕ
unread log walk = log.ring.hi - walk.block

-- what is left to be read falls with each record
abbrev pub to_go : LogStore → Walk → ℕ
to_go log walk = 512 * (log.ring.hi - walk.block) + (walk.used - walk.at)
