-- What a crash leaves of calls that change images.
use Rattle.std.specs.Prelude.{◌≡◌, ◌⊎◌, ℕ, ◌+◌, List, [], ◌∷◌, ◌++◌, Option}
use Rattle.std.specs.List.{AllByRecursion}
use Rattle.site.specs.declared.geometry.Geometry.{Geometry}
use Rattle.site.specs.State.{State, Snapshot}
use Rattle.site.specs.Moments.{LeavesOnly}
use Rattle.record_model.specs.State.{Content, table_with}
use Rattle.log_records.specs.declared.log_record.LogRecord.{LogRecord}
use Rattle.log_records.specs.declared.log_record.LogRecord.TheVariants.{Commit}
use Rattle.log_records.specs.Log.{Entry, log_from, entries_from}
use Rattle.log_records.specs.Sound.{Means, commit_numbers}
use Rattle.log_laws.specs.Follow.{writes_in}
use Rattle.frame_group.specs.Groups.{Frame, IsGroup}
use Rattle.checkpoint.specs.declared.master.Master.{Master}
use Rattle.image_changes.specs.Changes.{Change, SealsBlock}
use Rattle.image_changes.specs.Reached.{LeavesFront}
use Rattle.flash_cache.specs.Pushed.{LeavesPush}
use Rattle.image_meaning.specs.Meaning.{kept_by, logical_image_under, IsSoundUnder, StandsUnder, StandsFor}
use Rattle.image_meaning.specs.Changes.{MayMakeAll, SealsNoCommit, SavesNoMaster, blocks_after_all, next_block_lsn}
use Rattle.image_meaning.specs.PushLaws.{MayPushGroup}

-- nothing was told, and the devices stand for this table after so many commits, under a newest master
pub record LeavesTableUnder (newest : Option Master) (g : Geometry) (table : List Content) (commits : ℕ)
    (so_far : List ℕ) (snapshot : Snapshot) : Type 0 where
  pub told : snapshot.told ≡ so_far
  pub stands : StandsUnder newest g snapshot.image table commits

-- for this table, or for that one, which is one commit more
pub record LeavesEitherUnder (newest : Option Master) (g : Geometry) (before after : List Content) (commits : ℕ)
    (so_far : List ℕ) (snapshot : Snapshot) : Type 0 where
  pub told : snapshot.told ≡ so_far
  pub stands : StandsUnder newest g snapshot.image before commits
      ⊎ StandsUnder newest g snapshot.image after (commits + 1)

-- whatever the newest master is
pub record LeavesFor (g : Geometry) (table : List Content) (commits : ℕ) (so_far : List ℕ)
    (snapshot : Snapshot) : Type 0 where
  pub told : snapshot.told ≡ so_far
  pub stands : StandsFor g snapshot.image table commits

pub record LeavesEitherFor (g : Geometry) (before after : List Content) (commits : ℕ) (so_far : List ℕ)
    (snapshot : Snapshot) : Type 0 where
  pub told : snapshot.told ≡ so_far
  pub stands : StandsFor g snapshot.image before commits ⊎ StandsFor g snapshot.image after (commits + 1)

-- Where only changes may be left that seal no Commit, the devices stand for the same table at each moment,
abbrev pub FrontStandsFor : Type 0
FrontStandsFor =
    (newest : Option Master) (g : Geometry) (old new : State) (blocks : List (List LogRecord)) (changes : List Change)
    (table : List Content) (count : ℕ) →
    IsSoundUnder newest g old.image blocks → Means (logical_image_under newest g old.image blocks) table count
    → MayMakeAll newest g old.image blocks changes →
    AllByRecursion SealsNoCommit changes → LeavesFront g changes old new
    → LeavesOnly old new (LeavesFor g table count old.told)

-- under the same newest master where none of them appends a master unit.
abbrev pub FrontStands : Type 0
FrontStands =
    (newest : Option Master) (g : Geometry) (old new : State) (blocks : List (List LogRecord)) (changes : List Change)
    (table : List Content) (count : ℕ) →
    IsSoundUnder newest g old.image blocks → Means (logical_image_under newest g old.image blocks) table count
    → MayMakeAll newest g old.image blocks changes →
    AllByRecursion SealsNoCommit changes → AllByRecursion SavesNoMaster changes →
    LeavesFront g changes old new → LeavesOnly old new (LeavesTableUnder newest g table count old.told)

-- So it is within a push.
abbrev pub PushStands : Type 0
PushStands =
    (newest : Option Master) (g : Geometry) (old new : State) (blocks : List (List LogRecord)) (pages : List ℕ)
    (contents : List (List ℕ)) (group : List ℕ) (frames : List Frame) (table : List Content) (count : ℕ) →
    IsSoundUnder newest g old.image blocks → Means (logical_image_under newest g old.image blocks) table count
    → IsGroup group frames → MayPushGroup newest g old.image blocks pages contents frames →
    LeavesOnly old new (LeavesPush g pages contents group old)
    → LeavesOnly old new (LeavesTableUnder newest g table count old.told)

-- Where the last of the changes seals a block with one Commit, they stand for the table of before, or for the one with
-- the writes of its transaction too.
abbrev pub CommitStands : Type 0
CommitStands =
    (newest : Option Master) (g : Geometry) (old new : State) (blocks : List (List LogRecord)) (changes : List Change)
    (records : List LogRecord) (table : List Content) (count : ℕ)
    (before after : List Entry) (lsn t number : ℕ) →
    IsSoundUnder newest g old.image blocks → Means (logical_image_under newest g old.image blocks) table count →
    MayMakeAll newest g old.image blocks (changes ++ SealsBlock records ∷ []) → AllByRecursion SealsNoCommit changes
    → AllByRecursion SavesNoMaster changes →
    entries_from (next_block_lsn newest (blocks_after_all newest blocks changes)) records
    ≡ before ++ record { lsn = lsn; rec = Commit t number } ∷ after →
    commit_numbers before ≡ [] → commit_numbers after ≡ [] →
    LeavesFront g (changes ++ SealsBlock records ∷ []) old new →
    LeavesOnly old new (LeavesEitherUnder newest g table
    (table_with table (writes_in t (log_from (kept_by newest) (blocks_after_all newest blocks changes) ++ before)))
    count old.told)
