-- How many groups work pushes at most.
use Rattle.std.specs.Prelude.{◌≡◌, ℕ, ◌+◌, ◌*◌, ◌≤◌, Bool, true, List, [], ◌∷◌, flat_map, replicate, Some, None}
use Rattle.std.specs.Prelude.{if◌then◌else◌}
use Rattle.std.specs.List.{range_with_len}
use Rattle.record_model.specs.declared.words.CacheLine.{CacheLine}
use Rattle.record_model.specs.declared.words.Command.TheVariants.{Abort, Begin, Get, Scan, Set, Write}
use Rattle.record_model.specs.declared.words.Command.TheVariants as command
use Rattle.record_model.specs.declared.words.Reply.{Reply}
use Rattle.record_model.specs.declared.words.Reply.TheVariants as reply
use Rattle.record_model.specs.State.{State}
use Rattle.record_model.specs.State as state
use Rattle.record_model.specs.Run.{Line, Turn, left_by, turns}
use Rattle.record_model.specs.Rows.{fresh, much}
use Rattle.record_model.specs.Touches.{CacheOp, touch, flush, run_touches}
use Rattle.second_chance.specs.Machine.{Rules, Cache, touched, flushed, after_works, opened, next_group}
use Rattle.second_chance.specs.Laws.{changed_count}

-- a group for a touch, since a page may have to leave, and one more for a change, since it may have to be saved
abbrev pub groups_for : CacheOp → ℕ
groups_for (touch page change) = if change then 2 else 1
groups_for flush = 0

abbrev pub groups_for_all : List CacheOp → ℕ
groups_for_all [] = 0
groups_for_all (work ∷ works) = groups_for work + groups_for_all works

-- A touch pushes at most one group, and a flush at most one for each page that is changed.
abbrev pub TouchPushesOne : Type 0
TouchPushesOne = (rules : Rules) (page : ℕ) (change : Bool) (cache : Cache) → 1 ≤ rules.groups
    → next_group (touched rules page change cache) ≤ next_group cache + 1

abbrev pub FlushPushesChanged : Type 0
FlushPushesChanged = (rules : Rules) (cache : Cache) → 1 ≤ rules.groups
    → next_group (flushed rules cache) ≤ next_group cache + changed_count cache.pool

-- So all work pushes at most a group for each touch and one for each change. A page that was changed before may have to
-- be saved too; one that is still changed behind it was not.
abbrev pub WorkPushesFew : Type 0
WorkPushesFew = (rules : Rules) (works : List CacheOp) (cache : Cache) → 1 ≤ rules.groups
    → next_group (after_works rules works cache) + changed_count (after_works rules works cache).pool
    ≤ next_group cache + changed_count cache.pool + groups_for_all works

-- Fewer aren't enough: over a queue of one group and a pool of two pages each change that is saved at once pushes two
-- groups, once the pool is full.
abbrev pub changes_saved : ℕ → List CacheOp
changes_saved pages = flat_map (λ page. touch page true ∷ flush ∷ []) (range_with_len 0 pages)

abbrev pub after_changes : ℕ → Cache
after_changes pages = after_works (record { pages = 2; groups = 1; chances = true; pulls = true }) (changes_saved pages)
    (opened (record { first = 0; groups = [] }))

pub record NearlyAllArePushed : Type 0 where
  pub most : groups_for_all (changes_saved 8) ≡ 16
  pub pushed : next_group (after_changes 8) ≡ 14
  pub saved : changed_count (after_changes 8).pool ≡ 0

-- Lines of input. How many records a line reads where it is carried out.
abbrev pub reads_by : Line → ℕ
reads_by None = 0
reads_by (Some (command.Begin n)) = 0
reads_by (Some (command.Read n number)) = 1
reads_by (Some (command.Write n number value)) = 0
reads_by (Some (command.Erase n number)) = 0
reads_by (Some (command.Scan n number count)) = count
reads_by (Some (command.Commit n)) = 0
reads_by (Some (command.Abort n)) = 0
reads_by (Some (command.Mark n)) = 0
reads_by (Some (command.Back n standing)) = 0
reads_by (Some (command.Get number)) = 1
reads_by (Some (command.Set number value)) = 0
reads_by (Some command.Checkpoint) = 0
reads_by (Some command.Cache) = 0
reads_by (Some command.Stat) = 0
reads_by (Some command.Quit) = 0

-- a line that is answered that its page is full has read that page
abbrev pub reads_told : Reply → ℕ
reads_told reply.Done = 0
reads_told (reply.Value value) = 0
reads_told reply.Nothing = 0
reads_told (reply.Committed count) = 0
reads_told reply.Aborted = 0
reads_told (reply.Back count) = 0
reads_told reply.Checked = 0
reads_told (reply.Items items) = 0
reads_told (reply.Listing lines) = 0
reads_told (reply.Stat counts) = 0
reads_told reply.Bye = 0
reads_told (reply.Busy session) = 0
reads_told (reply.Full used owed cap) = 0
reads_told (reply.PageFull page need) = 1
reads_told (reply.Refused why) = 0

-- how many records the lines of a run read
abbrev pub reads_in : List Turn → ℕ
reads_in [] = 0
reads_in (t ∷ run) = reads_by t.line + reads_told t.reply + reads_in run

-- They push at most a group for each of these, and two for each record that they log.
abbrev pub LinesPushFew : Type 0
LinesPushFew =
    (s : State) (lines : List Line) (listings : List (List CacheLine)) →
    let run = turns s lines listings in
    groups_for_all (run_touches run) + 2 * s.made ≤ reads_in run + 2 * (left_by s run).made

-- Worked out by hand: 33 records of two pages are read by a scan, and one by a get; a page is changed by a write, again
-- by the abort, and another one by a set.
abbrev pub six_turns : List Turn
six_turns = turns (fresh 63) (Some (Begin 0) ∷ Some (Write 0 32 (1 ∷ [])) ∷ Some (Scan 0 0 33) ∷ Some (Abort 0)
    ∷ Some (Set 64 (1 ∷ [])) ∷ Some (Get 0) ∷ []) []

-- a set finds its page full, behind a checkpoint
abbrev pub one_full : List Turn
one_full = turns (state.opened much 0 12 15) (Some (Set 19 (replicate 101 90)) ∷ []) []

pub record LinesCounted : Type 0 where
  pub groups : groups_for_all (run_touches six_turns) ≡ 2 + 33 + 2 + 2 + 1
  pub reads : reads_in six_turns ≡ 33 + 1
  pub made : (left_by (fresh 63) six_turns).made ≡ 1 + 1 + 2 + 3
  pub full_groups : groups_for_all (run_touches one_full) ≡ 1
  pub full_reads : reads_in one_full ≡ 1
  pub full_made : (left_by (state.opened much 0 12 15) one_full).made ≡ 12
