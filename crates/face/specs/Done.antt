-- What is done when something is told.
use Rattle.std.specs.Prelude.{◌≡◌, ◌⊎◌, ℕ, ◌≤◌, List, [], ◌∷◌, ◌++◌, take, map, flat_map, slice_index_or, Option}
use Rattle.site.specs.State.{State as Site, Image, Moment}
use Rattle.site.specs.Telling.{HandsLine}
use Rattle.record_model.specs.Run.{left_by, replies}
use Rattle.log_records.specs.declared.log_record.LogRecord.{LogRecord}
use Rattle.checkpoint.specs.declared.master.Master.{Master}
use Rattle.second_chance.specs.Machine.{opened}
use Rattle.engine.specs.Image.{IsSound}
use Rattle.engine.specs.Paging.{cache_on}
use Rattle.engine.specs.SeenVersions.{VersionsAreSeen}
use Rattle.shell_text.specs.Texts.{open_text, reply_lines}
use Rattle.front_end.specs.Tells.{HandsOneOf}
use Rattle.face.specs.Run.{Run, first_lines, turns_of}
use Rattle.face.specs.RunMeaning.{cache_by, first_texts, texts}
use Rattle.face.specs.Worn.{HasRings, machine_by}

-- What the run asks of the devices stands there. The frames on flash are those of the cache machine's queue, in its
-- groups and with its dirty marks, as a restart would find it. Of each record whose page the machine's pool doesn't
-- hold as changed that page's version has what is seen of it, by the session that has written it, or in the table. And
-- a block is sealed, a master unit saved, a group appended for each of the machine of the rings, no segment early.
pub record HasDoneBy (pool : ℕ) (run : Run) (newest : Option Master) (blocks : List (List LogRecord)) (old now : Image)
    : Type 0 where
  pub frames : cache_on run.geometry now ≡ opened (cache_by pool run (turns_of run) newest old blocks).queue
  pub versions : VersionsAreSeen run.geometry (cache_by pool run (turns_of run) newest old blocks).pool now
      (left_by run.opening (turns_of run))
  pub rings : HasRings run.geometry (machine_by pool run (turns_of run) newest old blocks) old now

abbrev pub HasDone : ℕ → Run → Image → Image → Type 0
HasDone pool run old now = (newest : Option Master) (blocks : List (List LogRecord)) →
    IsSound newest run.geometry old blocks → HasDoneBy pool run newest blocks old now

-- the lines of each of its texts
abbrev pub lines_at : Run → ℕ → List (List ℕ)
lines_at run text =
    slice_index_or ((open_text run.opening.commits ∷ []) ∷ map reply_lines (replies (turns_of run))) text []

-- within a tell one of these lines is being told behind these octets, and what the run asks is done
pub record TellsWhenDone (pool : ℕ) (run : Run) (lines : List (List ℕ)) (so_far : List ℕ) (old : Site) (moment : Moment)
    : Type 0 where
  pub line : HandsOneOf lines so_far moment
  pub done : HasDone pool run old.image moment.image

-- the fault line is being told behind some of these texts
abbrev pub TellsFaultLine : List (List ℕ) → List ℕ → Site → Moment → Type 0
TellsFaultLine texts fault old moment =
    (whole : ℕ) × HandsLine fault (old.told ++ flat_map (λ text. text) (take whole texts)) moment

-- Within a tell so many lines are done, of those that were begun, and one line of the last one's text is being told
-- behind the texts of those before it; or it is the fault line.
abbrev pub TellsDone : ℕ → Run → ℕ → List ℕ → Site → Moment → Type 0
TellsDone pool run begun fault old moment = (moment.telling ≡ [])
    ⊎ (((lines : ℕ) × (lines ≤ begun) × TellsWhenDone pool (first_lines run lines)
    (lines_at (first_lines run lines) lines) (old.told ++ first_texts run lines) old moment)
    ⊎ TellsFaultLine (texts run) fault old moment)
