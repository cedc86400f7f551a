-- What a run may tell and leave: its commits, the numbers that it gives, and its work on the page cache.
use Rattle.std.specs.Prelude.{◌≡◌, ◌⊎◌, ℕ, ◌+◌, ◌≤◌, Bool, true, List, [], ◌∷◌, ◌++◌, length, take}
use Rattle.std.specs.Prelude.{slice_index_or}
use Rattle.std.specs.Prelude.{flat_map, count_by, Option}
use Rattle.site.specs.State.{State as Site, Snapshot, Image}
use Rattle.site.specs.Moments.{LeavesOnly}
use Rattle.site.specs.declared.geometry.Geometry.{Geometry}
use Rattle.record_model.specs.declared.words.CacheLine.{CacheLine}
use Rattle.record_model.specs.State.{State}
use Rattle.record_model.specs.declared.words.Reply.TheVariants.{Listing}
use Rattle.record_model.specs.Run.{Turn, left_by, is_cache, commit_marks, after_commits, IsInRange}
use Rattle.record_model.specs.Touches.{CacheOp, run_touches}
use Rattle.log_records.specs.declared.log_record.LogRecord.{LogRecord}
use Rattle.checkpoint.specs.declared.master.Master.{Master}
use Rattle.image_meaning.specs.Meaning.{logical_image_under}
use Rattle.second_chance.specs.Machine.{Cache, Staged, rules_of, after_works, staged_by_works, listing}
use Rattle.page_store.specs.Staging.{WritesOnly}
use Rattle.redo_laws.specs.MachineSteps.{next_group}
use Rattle.redo_laws.specs.Numbers.{HasNumbers}
use Rattle.site.specs.Moments.{LeavesOnly}
use Rattle.engine.specs.Paging.{HasStagedFrom, restart_works, cache_on}
use Rattle.engine.specs.Image.{IsSound, Stands, log_under}
use Rattle.engine.specs.LogReads.{restart_log_reads}
use Rattle.sealed_ring.specs.Ring.{hi_of}
use Rattle.image_changes.specs.Rings.{log_shape, master_shape}
use Rattle.log_records.specs.Log.{Entry}
use Rattle.log_records.specs.Unfinished.{owed}
use Rattle.face.specs.Workload.{checkpoints_in}
use Rattle.shell_text.specs.Runs.{texts as run_texts}
use Rattle.front_end.specs.Lines.{commands_of}
use Rattle.face.specs.Run.{Run, IsFront, AsksFew, line_log_reads, first_lines, turns_of}

-- the run that opens with this state, over the lines of these octets, with these listings of the cache
abbrev pub run_of : Geometry → State → Bool → List ℕ → List (List CacheLine) → Run
run_of g opening ended octets listings =
    record { geometry = g; opening = opening; lines = commands_of ended octets; listings = listings }

-- the opening's text, and one for each turn
abbrev pub texts : Run → List (List ℕ)
texts run = run_texts run.opening run.lines run.listings

abbrev pub text_at : Run → ℕ → List ℕ
text_at run i = slice_index_or (texts run) i []

-- the first of the texts, one after the other
abbrev pub first_texts : Run → ℕ → List ℕ
first_texts run whole = flat_map (λ text. text) (take whole (texts run))

-- all that the run tells
abbrev pub run_text : Run → List ℕ
run_text run = flat_map (λ text. text) (texts run)

abbrev pub all_commits : Run → ℕ
all_commits run = count_by (λ mark. mark) (commit_marks (turns_of run))

-- the devices stand for the table when the run has made its first k commits
abbrev pub StandsAfter : Run → ℕ → Image → Type 0
StandsAfter run k image = Stands run.geometry image (after_commits run.opening.table (turns_of run) k)
    (run.opening.commits + k)

-- a front of the run's text, or some of its texts whole and then a front of the fault line
abbrev pub IsToldOf : Run → List ℕ → List ℕ → Type 0
IsToldOf run fault told = IsFront told (run_text run) ⊎ ((whole : ℕ) × (whole ≤ length (texts run)) × (rest : List ℕ)
    × (told ≡ first_texts run whole ++ rest) × IsFront rest fault)

-- What a crash may leave, with `so_far` told before the run: the table after some commits in the range of what it told.
pub record IsLeft (run : Run) (so_far fault : List ℕ) (snapshot : Snapshot) : Type 0 where
  pub told : List ℕ
  pub told_is : snapshot.told ≡ so_far ++ told
  pub is_told : IsToldOf run fault told
  pub k : ℕ
  pub in_range : IsInRange told (texts run) (commit_marks (turns_of run)) k
  pub stands : StandsAfter run k snapshot.image

-- all of the run is told, and the devices stand for the table after all its commits
pub record IsWhole (run : Run) (old new : Site) : Type 0 where
  pub told : new.told ≡ old.told ++ run_text run
  pub stands : StandsAfter run (all_commits run) new.image

-- how many log records the run makes, by the record model
abbrev pub made_by : Run → ℕ
made_by run = (left_by run.opening (turns_of run)).made

-- Over an image whose log has these records the run gives the ring of the log's blocks at most one number more for each
-- record that the restart and the run make.
abbrev pub blocks_by : Run → List Entry → Image → ℕ
blocks_by run records image = hi_of (log_shape run.geometry) image.log + owed records + made_by run

-- and the ring of the master units at most one for each checkpoint, the restart's with them
abbrev pub masters_by : Run → Image → ℕ
masters_by run image = hi_of master_shape image.log + 1 + checkpoints_in (turns_of run)

abbrev pub GivesNumbers : Run → List Entry → Image → Image → Type 0
GivesNumbers run records old now = HasNumbers run.geometry (blocks_by run records old) (masters_by run old) now

-- so it skips no number of the rings on the log's device, and a crash at any moment leaves none that is skipped
abbrev pub SkipsNoNumber : Run → Site → Site → Type 0
SkipsNoNumber run old now = (newest : Option Master) (blocks : List (List LogRecord)) →
    IsSound newest run.geometry old.image blocks →
    LeavesOnly old now (λ s. GivesNumbers run (log_under newest blocks) old.image s.image)

-- what the run asks of the page cache over this image: the restart's work, then that of these turns
abbrev pub works_by : Run → List Turn → Option Master → Image → List (List LogRecord) → List CacheOp
works_by run done newest image blocks =
    restart_works (logical_image_under newest run.geometry image blocks) ++ run_touches done

-- where the pool has so many pages the cache machine comes to this by it
abbrev pub cache_by : ℕ → Run → List Turn → Option Master → Image → List (List LogRecord) → Cache
cache_by pool run done newest image blocks =
    after_works (rules_of pool run.geometry.groups) (works_by run done newest image blocks)
    (cache_on run.geometry image)

-- and it stages these frames meanwhile
abbrev pub staged_by_run : ℕ → Run → List Turn → Option Master → Image → List (List LogRecord) → List Staged
staged_by_run pool run done newest image blocks =
    staged_by_works (rules_of pool run.geometry.groups) (works_by run done newest image blocks)
    (cache_on run.geometry image)

-- the disk has of the frames that the run stages those that were staged last, by no calls but theirs
abbrev pub LeavesStaged : ℕ → Run → Site → Site → Type 0
LeavesStaged pool run old new = (newest : Option Master) (blocks : List (List LogRecord)) →
    IsSound newest run.geometry old.image blocks →
    HasStagedFrom run.geometry (rules_of pool run.geometry.groups) (works_by run (turns_of run) newest old.image blocks)
    (cache_on run.geometry old.image) old new

-- each line that asks for the listing of the cache is replied what the cache machine lists after the restart's work and
-- that of the lines before it
abbrev pub ListsTheMachine : ℕ → Run → Image → Type 0
ListsTheMachine pool run image =
    (newest : Option Master) (blocks : List (List LogRecord)) → IsSound newest run.geometry image blocks
    → (before later : List Turn) (t : Turn) → turns_of run ≡ before ++ t ∷ later → is_cache t.line ≡ true
    → t.reply ≡ Listing (listing (cache_by pool run before newest image blocks))

-- how often these turns read the log at most
abbrev pub log_reads_in : List Turn → ℕ
log_reads_in [] = 0
log_reads_in (t ∷ turns) = line_log_reads t.before t.line + log_reads_in turns

-- how often a run does that has these turns, over an image with these kept blocks: the restart's reads with them
abbrev pub log_reads_by_turns : Run → List Turn → Option Master → List (List LogRecord) → ℕ
log_reads_by_turns run done newest blocks = restart_log_reads run.geometry newest blocks + log_reads_in done

-- No more is read and written than the run asks for: pages by its work on the page cache, the log by its restart and
-- its lines.
abbrev pub AsksNoMore : ℕ → Run → Site → Site → Type 0
AsksNoMore pool run old new =
    (newest : Option Master) (blocks : List (List LogRecord)) → IsSound newest run.geometry old.image blocks
    → AsksFew pool run.geometry (works_by run (turns_of run) newest old.image blocks)
    (log_reads_by_turns run (turns_of run) newest blocks) old new

-- What a crash leaves while at most so many lines are begun. Some number of them was begun by then, as what it has
-- tells. It has no more groups than the restart and these append, no segment early, and each disk page that they don't
-- stage as it was at entry.
pub record WritesSoFar (pool : ℕ) (run : Run) (HasBegunBy : ℕ → Snapshot → Type 0) (lines : ℕ) (newest : Option Master)
    (blocks : List (List LogRecord)) (old : Image) (snapshot : Snapshot) : Type 0 where
  pub begun : ℕ
  pub few : begun ≤ lines
  pub by : HasBegunBy begun snapshot
  pub only : WritesOnly run.geometry (staged_by_run pool run (turns_of (first_lines run begun)) newest old blocks)
      (next_group (cache_by pool run (turns_of (first_lines run begun)) newest old blocks)) old snapshot.image

-- each snapshot is written by no more lines than were begun, as what it has tells
abbrev pub WritesAsBegun : ℕ → Run → (ℕ → Snapshot → Type 0) → ℕ → Site → Site → Type 0
WritesAsBegun pool run HasBegunBy lines old new =
    (newest : Option Master) (blocks : List (List LogRecord)) → IsSound newest run.geometry old.image blocks
    → LeavesOnly old new (WritesSoFar pool run HasBegunBy lines newest blocks old.image)

-- so many lines of a run were begun where what it tells before the last of them is told
abbrev pub HasToldBefore : Run → List ℕ → ℕ → Snapshot → Type 0
HasToldBefore run so_far begun snapshot = (rest : List ℕ) × (snapshot.told ≡ so_far ++ (first_texts run begun ++ rest))

abbrev pub WritesAsTold : ℕ → Run → ℕ → Site → Site → Type 0
WritesAsTold pool run lines old new = WritesAsBegun pool run (HasToldBefore run old.told) lines old new

-- So many lines were begun: what the run tells before the last of them is told, the opening's text and the replies of
-- the others, then a front of the last one's reply, or all of it, and of a fault line a front.
pub record HasBegun (run : Run) (begun : ℕ) (fault : List ℕ) (old now : Site) : Type 0 where
  pub few : begun ≤ length (turns_of run)
  pub reply : List ℕ
  pub part : IsFront reply (text_at run begun)
  pub rest : List ℕ
  pub front : IsFront rest fault
  pub told : now.told ≡ old.told ++ (first_texts run begun ++ (reply ++ rest))
