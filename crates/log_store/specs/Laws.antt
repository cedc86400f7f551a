-- Laws on logs.
use Rattle.std.specs.Prelude.{◌≡◌, true, []}
use Rattle.site.specs.declared.outside.Dev.TheVariants.{Log}
use Rattle.site.specs.State.{State, Image, IsSettled}
use Rattle.site.specs.Calls.{Preserves}
use Rattle.log_records.specs.declared.log_record.LogRecord.{LogRecord}
use Rattle.log_records.specs.Spelling.{HasForm}
use Rattle.image_changes.specs.Rings.{log_shape, KeepsUnits}
use Rattle.log_store.specs.declared.store.LogStore.{LogStore}
use Rattle.log_store.specs.LogList.{LogList}
use Rattle.log_store.specs.Representation.{Matches, Represents, has_tail, overflows}

-- calls that leave the units of the log's ring, and nothing of its device loose, leave a store fit
abbrev pub FitsBeside : Type 0
FitsBeside = (store : LogStore) (old new : State) → KeepsUnits (log_shape store.geometry) old.image new.image
    → Preserves old new → IsSettled Log new → Matches store old → Matches store new

-- and it holds its log
abbrev pub HoldsBeside : Type 0
HoldsBeside = (store : LogStore) (old new : Image) (log : LogList) → KeepsUnits (log_shape store.geometry) old new
    → Represents store old log → Represents store new log

-- a tail that a record doesn't fit has records
abbrev pub FullTail : Type 0
FullTail = (store : LogStore) (rec : LogRecord) → HasForm rec → overflows store rec ≡ true → has_tail store ≡ true
