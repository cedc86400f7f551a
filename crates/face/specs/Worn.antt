-- Which ring a run finds at its end first, by the machine of the rings.
use Rattle.std.specs.Prelude.{◌≡◌, ℕ, ◌-◌, ◌/◌, ◌<◌, ◌==◌, if◌then◌else◌, ◌++◌, List, [], ◌∷◌, Option}
use Rattle.std.specs.Prelude.{Some, None, Ok, ⊤}
use Rattle.site.specs.declared.outside.Dev.{Dev}
use Rattle.site.specs.State.{State as Site, Image}
use Rattle.site.specs.declared.geometry.Geometry.{Geometry}
use Rattle.sealed_ring.specs.Ring.{hi_of}
use Rattle.image_changes.specs.Rings.{log_shape, master_shape, group_shape, segment_shape}
use Rattle.record_model.specs.State.{State}
use Rattle.record_model.specs.Run.{Line, Turn}
use Rattle.log_records.specs.declared.log_record.LogRecord.{LogRecord}
use Rattle.checkpoint.specs.declared.master.Master.{Master}
use Rattle.image_meaning.specs.Meaning.{logical_image_under}
use Rattle.second_chance.specs.Machine.{rules_of, next_group}
use Rattle.ring_machine.specs.Machine.{Machine, RingOp, after_all, first_worn}
use Rattle.ring_machine.specs.Commands.{line_work, run_work}
use Rattle.ring_machine.specs.Restart.{restart_work}
use Rattle.ring_machine.specs.Performing.{Performs}
use Rattle.redo_undo.specs.Mirroring.{MirrorsStore}
use Rattle.engine.specs.declared.engine.Engine.{Engine}
use Rattle.engine.specs.Image.{IsSound}
use Rattle.engine.specs.RingWork.{machine_on}
use Rattle.face.specs.Run.{Run, first_lines, step, turns_of}

-- what the run asks of log and cache over this image: the restart's work, then that of these turns
abbrev pub rings_by : Run → List Turn → Option Master → Image → List (List LogRecord) → List RingOp
rings_by run done newest image blocks =
    restart_work (logical_image_under newest run.geometry image blocks) ++ run_work done

-- The device of the first ring that is appended to at its end for it, where the pool has so many pages. The machine
-- begins with what stands on the devices.
abbrev pub worn_by : ℕ → Run → List Turn → Option Master → Image → List (List LogRecord) → Option Dev
worn_by pool run done newest image blocks =
    first_worn (rules_of pool run.geometry.groups) (rings_by run done newest image blocks)
    (machine_on run.geometry image)

-- where the machine then stands
abbrev pub machine_by : ℕ → Run → List Turn → Option Master → Image → List (List LogRecord) → Machine
machine_by pool run done newest image blocks =
    after_all (rules_of pool run.geometry.groups) (rings_by run done newest image blocks)
    (machine_on run.geometry image)

-- The run appends to no ring that stands at its end, and it appends to one of this device first.
abbrev pub WearsNone : ℕ → Run → Image → Type 0
WearsNone pool run image = (newest : Option Master) (blocks : List (List LogRecord)) →
    IsSound newest run.geometry image blocks → worn_by pool run (turns_of run) newest image blocks ≡ None

abbrev pub WearsFirst : ℕ → Run → Dev → Image → Type 0
WearsFirst pool run dev image = (newest : Option Master) (blocks : List (List LogRecord)) →
    IsSound newest run.geometry image blocks → worn_by pool run (turns_of run) newest image blocks ≡ Some dev

-- of so many lines that were begun all but the last one append to none
abbrev pub WearsNoneBefore : ℕ → Run → ℕ → Image → Type 0
WearsNoneBefore pool run begun image = (lines : ℕ) → lines < begun → WearsNone pool (first_lines run lines) image

-- How many segments there are behind an image once the next group has this number: where no group was pushed as many
-- as it has, and else one for each four groups that the last one stands behind.
abbrev pub segments_behind : Geometry → Image → ℕ → ℕ
segments_behind g old next =
    if next == hi_of (group_shape g) old.flash then hi_of (segment_shape g) old.flash else (next - 1) / 4

-- the rings have given the numbers of this machine, which began over the old image
pub record HasRings (g : Geometry) (m : Machine) (old image : Image) : Type 0 where
  pub blocks : hi_of (log_shape g) image.log ≡ m.tail.next
  pub masters : hi_of master_shape image.log ≡ m.masters
  pub groups : hi_of (group_shape g) image.flash ≡ next_group m.cache
  pub segments : hi_of (segment_shape g) image.flash ≡ segments_behind g old (next_group m.cache)

-- what lines ask of log and cache, whatever the cache lists
abbrev pub rings_of : State → List Line → List RingOp
rings_of s [] = []
rings_of s (line ∷ lines) = line_work s line ++ rings_of (step s line []).after lines

-- once so many lines are answered the machine has done their work, and mirrors the store
abbrev pub IsMirrored : ℕ → Run → Option Master → Image → List (List LogRecord) → Engine → Site → ℕ → Type 0
IsMirrored pool run newest image blocks engine now lines =
    Performs {T = ⊤} (Ok tt) (rules_of pool run.geometry.groups)
    (rings_by run (turns_of (first_lines run lines)) newest image blocks) (λ m. m ≡ machine_on run.geometry image)
    (MirrorsStore engine.store now.image)
