-- A stated workload: its commands, what is counted of them, and its summary.
use Rattle.std.specs.Prelude.{ℕ, zero, suc, ◌*◌, Bool, true, false, List, [], ◌∷◌, ◌++◌, map, count_by, codes, decimal}
use Rattle.std.specs.Prelude.{Some, None}
use Rattle.site.specs.declared.geometry.Geometry.{Geometry}
use Rattle.record_model.specs.declared.words.Command.TheVariants.{Get, Set}
use Rattle.record_model.specs.declared.words.Reply.{Reply}
use Rattle.record_model.specs.declared.words.Reply.TheVariants as reply
use Rattle.record_model.specs.State.{State}
use Rattle.record_model.specs.Step.{makes_checkpoint}
use Rattle.record_model.specs.Run.{Line, Turn, is_committed}
use Rattle.shell_text.specs.Texts.{open_text}
use Rattle.workload.specs.Generator.{generated, record_of, value_of}
use Rattle.command_line.specs.declared.request.Load.{Load}
use Rattle.face.specs.Run.{Run, turns_of}

-- the first numbers that the generator makes of a seed
abbrev pub numbers_of : ℕ → ℕ → List ℕ
numbers_of seed zero = []
numbers_of seed (suc i) = numbers_of seed i ++ generated seed (suc i) ∷ []

-- the set that a number makes in a table of so many records, and the get on the same record
abbrev pub set_line : ℕ → ℕ → Line
set_line records x = Some (Set (record_of x records) (value_of x))

abbrev pub get_line : ℕ → ℕ → Line
get_line records x = Some (Get (record_of x records))

-- the sets of so many numbers, and the gets
abbrev pub set_lines : ℕ → ℕ → ℕ → List Line
set_lines records seed count = map (set_line records) (numbers_of seed count)

abbrev pub get_lines : ℕ → ℕ → ℕ → List Line
get_lines records seed count = map (get_line records) (numbers_of seed count)

-- a load's commands are its sets, and then the gets on the same records
abbrev pub load_lines : ℕ → Load → List Line
load_lines records load = set_lines records load.seed load.count ++ get_lines records load.seed load.count

-- the run of a load that opens with this state
abbrev pub load_run : Geometry → State → Load → Run
load_run g opening load = record {
  geometry = g;
  opening = opening;
  lines = load_lines (32 * g.pages) load;
  listings = [];
}

-- Counts over the turns of the record model.

abbrev pub committed_in : List Turn → ℕ
committed_in run = count_by (λ t. is_committed t.reply) run

abbrev pub makes_one : State → Line → Bool
makes_one s None = false
makes_one s (Some command) = makes_checkpoint s command

abbrev pub checkpoints_in : List Turn → ℕ
checkpoints_in run = count_by (λ t. makes_one t.before t.line) run

abbrev pub is_value : Reply → Bool
is_value reply.Done = false
is_value (reply.Value value) = true
is_value reply.Nothing = false
is_value (reply.Committed count) = false
is_value reply.Aborted = false
is_value (reply.Back count) = false
is_value reply.Checked = false
is_value (reply.Items items) = false
is_value (reply.Listing lines) = false
is_value (reply.Stat counts) = false
is_value reply.Bye = false
is_value (reply.Busy session) = false
is_value (reply.Full used owed cap) = false
is_value (reply.PageFull page need) = false
is_value (reply.Refused why) = false

-- whether a reply is that of a set that no test refused, whatever room there was
abbrev pub has_passed : Reply → Bool
has_passed reply.Done = false
has_passed (reply.Value value) = false
has_passed reply.Nothing = false
has_passed (reply.Committed count) = true
has_passed reply.Aborted = false
has_passed (reply.Back count) = false
has_passed reply.Checked = false
has_passed (reply.Items items) = false
has_passed (reply.Listing lines) = false
has_passed (reply.Stat counts) = false
has_passed reply.Bye = false
has_passed (reply.Busy session) = false
has_passed (reply.Full used owed cap) = true
has_passed (reply.PageFull page need) = true
has_passed (reply.Refused why) = false

abbrev pub found_in : List Turn → ℕ
found_in run = count_by (λ t. is_value t.reply) run

-- the line of a summary
abbrev pub summary_of : ℕ → ℕ → ℕ → ℕ → List ℕ
summary_of count committed checkpoints found =
    codes "load " ++ decimal count ++ codes " committed " ++ decimal committed
    ++ codes " checkpoints " ++ decimal checkpoints ++ codes " found " ++ decimal found ++ codes "\n"

-- what a load tells: the opening's text, and its summary
abbrev pub opening_text : Run → List ℕ
opening_text run = open_text run.opening.commits

abbrev pub summary_text : Run → Load → List ℕ
summary_text run load = summary_of load.count (committed_in (turns_of run)) (checkpoints_in (turns_of run))
    (found_in (turns_of run))

abbrev pub load_texts : Run → Load → List (List ℕ)
load_texts run load = opening_text run ∷ summary_text run load ∷ []
