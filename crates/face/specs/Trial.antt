-- Lives of one database, one after the other, a power cut behind each but the last: lines told, and the record table.
use Rattle.std.specs.Prelude.{◌≡◌, ◌≢◌, ◌⊎◌, ℕ, zero, suc, ◌+◌, ◌-◌, ◌<◌, ◌≤◌, Bool, true, false, ◌&&◌, nat_le, List}
use Rattle.std.specs.Prelude.{[], ◌∷◌}
use Rattle.std.specs.Prelude.{◌++◌, length, slice_get, slice_range, Option, Some, None, IsTrue, codes, decimal, ⊤}
use Rattle.std.specs.Prelude.{option_map}
use Rattle.site.specs.State.{State as Site, Image, no_input}
use Rattle.site.specs.Calls.{Preserves, Rose, SameReads}
use Rattle.site.specs.Moments.{EachMoment}
use Rattle.site.specs.Geometry.{HasLimits, blank_image}
use Rattle.site.specs.declared.geometry.Geometry.{Geometry}
use Rattle.mem_site.specs.Crash.{image_left, started}
use Rattle.mem_site.specs.Limits.{code_of}
use Rattle.mem_site.specs.MemState.{IsFresh, fed, limits_of, lives_of, state_of}
use Rattle.mem_site.specs.declared.mem.MemSite.{MemSite}
use Rattle.record_model.specs.declared.words.CacheLine.{CacheLine}
use Rattle.record_model.specs.State.{Content, opened}
use Rattle.record_model.specs.Run.{IsInRange, after_commits, commit_marks}
use Rattle.workload.specs.declared.scripts.Life.{Life}
use Rattle.workload.specs.Scripts.{lives_of as lives_in}
use Rattle.front_end.specs.declared.halt.Halt.{Halt}
use Rattle.face.specs.Image.{blank_table}
use Rattle.face.specs.TopCall.{RunContract}
use Rattle.face.specs.RunMeaning.{IsToldOf, run_of, run_text, texts}
use Rattle.face.specs.Run.{IsFront, Run, turns_of}
use Rattle.front_end.specs.Tells.{EndsWith}
use Rattle.front_end.specs.Texts.{IsLineOf, fault_line, status_of}

-- What stands between two lives: what was told of those before, how many changes each of them asked for, and the
-- devices' contents that the next one finds, with the table and the number of commits that they stand for.
pub record Between : Type 0 where
  pub told : List ℕ
  pub changes : List ℕ
  pub image : Image
  pub table : List Content
  pub commits : ℕ

-- the first one finds blank devices, and the table without values
abbrev pub at_first : Geometry → Between
at_first g = record { told = []; changes = []; image = blank_image g; table = blank_table g; commits = 0 }

-- The run of a life: it opens with what it finds, has the lines of these octets to answer, and the cache lists this.
abbrev pub life_run : Geometry → Between → List ℕ → List (List CacheLine) → Run
life_run g before octets listings = run_of g (opened before.table before.commits 0 (g.blocks - 1)) true octets listings

-- What a run tells that ends with a status: a front of its text, or some of its texts whole and then a front of the
-- status's fault line. With status 0 it is all of its text.
pub record IsTextOf (run : Run) (status : ℕ) (text : List ℕ) : Type 0 where
  pub fault : List ℕ
  pub of_status : IsLineOf status fault
  pub told : IsToldOf run fault text
  pub whole : status ≡ 0 → text ≡ run_text run

-- a life may ask for 10,000 changes, and where a stop line ends it for no more than its K
abbrev pub is_within : Option (ℕ × ℕ) → ℕ → Bool
is_within None changes = nat_le changes 10000
is_within (Some stop) changes = nat_le changes 10000 && nat_le changes stop.0

-- the status of one that asked for no more is 0, of one that asked for more it is 3 or 6
abbrev pub IsStatus : Bool → ℕ → Type 0
IsStatus true status = status ≡ 0
IsStatus false status = (status ≡ 3) ⊎ (status ≡ 6)

-- what a run leaves that told this: the table after some number of commits in the range of it, and their count
pub record GoesOn (run : Run) (text : List ℕ) (table : List Content) (commits : ℕ) : Type 0 where
  pub k : ℕ
  pub in_range : IsInRange text (texts run) (commit_marks (turns_of run)) k
  pub table_is : table ≡ after_commits run.opening.table (turns_of run) k
  pub commits_are : commits ≡ run.opening.commits + k

-- what a site in memory keeps as a life begins: a fuse that lets K changes pass, where a stop line says so, and the
-- numbers of changes of the lives before
abbrev pub kept_by : Option (ℕ × ℕ) → List ℕ → List ℕ
kept_by stop changes = code_of (option_map (λ s. s.0) stop) ∷ 0 ∷ changes

-- A life is a run with a pool of so many pages, over a site in memory with these octets on its input: it begins with
-- what was found, and that fuse, and ends with this status. `over` is the site as the life leaves it.
pub record IsLived (pool : ℕ) (octets : List ℕ) (stop : Option (ℕ × ℕ)) (before : Between) (status : ℕ) (over : Site)
    : Type 0 where
  pub begun : Site
  pub begins : begun ≡ record (started (kept_by stop before.changes) before.image) { input = fed octets no_input }
  pub runs : RunContract pool begun over status
  pub keeps : Preserves begun over

-- and behind a stop line the devices have what a crash with its SEED leaves
abbrev pub IsCut : Option (ℕ × ℕ) → Site → Image → Type 0
IsCut None over image = ⊤
IsCut (Some stop) over image = image ≡ image_left stop.1 over.loose over.image

-- the line that ends what is told of a life
abbrev pub life_line : ℕ → ℕ → List ℕ
life_line number status = codes "life " ++ decimal number ++ codes " status " ++ decimal status ++ codes "\n"

-- A life: these are its lines, and its stop line's K and SEED. Its text and its line are told, with the status of its
-- run, and the next one finds what it leaves.
pub record IsLife (g : Geometry) (pool number : ℕ) (octets : List ℕ) (stop : Option (ℕ × ℕ)) (before after : Between)
    : Type 0 where
  pub listings : List (List CacheLine)
  pub status : ℕ
  pub over : Site
  pub lived : IsLived pool octets stop before status over
  pub text : List ℕ
  pub text_is : over.told ≡ text
  pub is_text : IsTextOf (life_run g before octets listings) status text
  pub told : after.told ≡ before.told ++ (text ++ life_line number status)
  -- how many changes it asked for
  pub changes : ℕ
  pub is_status : IsStatus (is_within stop changes) status
  pub counted : after.changes ≡ before.changes ++ changes ∷ []
  pub goes_on : GoesOn (life_run g before octets listings) text after.table after.commits

-- the life of a script behind so many others
abbrev pub IsNext : Geometry → ℕ → List ℕ → ℕ → Between → Between → Type 0
IsNext g pool script lives before after = (life : Life) × (slice_get (lives_in script) lives ≡ Some life)
    × IsLife g pool (lives + 1) (slice_range script life.start life.end) life.stop before after

-- the first lives of a script with such a pool, one after the other
abbrev pub HaveLived : Geometry → ℕ → List ℕ → ℕ → Between → Type 0
HaveLived g pool script zero after = after ≡ at_first g
HaveLived g pool script (suc lives) after =
    (before : Between) × HaveLived g pool script lives before × (next : IsNext g pool script lives before after)
    × IsCut next.0.stop next.2.over after.image

-- All lives of the script are told, and asked for these numbers of changes.
pub record TellsAll (g : Geometry) (pool : ℕ) (script : List ℕ) (old new : Site) (numbers : List ℕ) : Type 0 where
  pub last : Between
  pub lived : HaveLived g pool script (length (lives_in script)) last
  pub told : new.told ≡ old.told ++ last.told
  pub numbers_are : numbers ≡ last.changes

-- Some lives are told whole, and of the next one a front.
pub record TellsSome (g : Geometry) (pool : ℕ) (script : List ℕ) (old new : Site) (numbers : List ℕ) : Type 0 where
  pub lives : ℕ
  pub before : Between
  pub lived : HaveLived g pool script lives before
  pub after : Between
  pub next : IsNext g pool script lives before after
  pub rest : List ℕ
  pub told : new.told ≡ old.told ++ (before.told ++ rest)
  pub front : IsFront (before.told ++ rest) after.told
  pub numbers_are : numbers ≡ after.changes

-- Some lives are told whole, and then this line; of the next one, if it was begun, only its number is known.
pub record TellsFirst (g : Geometry) (pool : ℕ) (script line : List ℕ) (old new : Site) (numbers : List ℕ)
    : Type 0 where
  pub lives : ℕ
  pub before : Between
  pub lived : HaveLived g pool script lives before
  pub ends : EndsWith (old.told ++ before.told) line old new
  pub changes : ℕ
  pub numbers_are : numbers ≡ before.changes ++ changes ∷ []

-- What a trial of a script tells with a status, and the numbers of changes of the lives that were begun.
pub record Lives (g : Geometry) (pool : ℕ) (script : List ℕ) (old new : Site) (status : ℕ) (numbers : List ℕ)
    : Type 0 where
  -- with 0 all lives
  pub all : status ≡ 0 → TellsAll g pool script old new numbers
  -- with 6 telling failed
  pub some : status ≡ 6 → TellsSome g pool script old new numbers
  -- with another status the first ones, if any, and the fault line
  pub first : status ≢ 0 → status ≢ 6 →
      (halt : Halt) × (status ≡ status_of halt) × TellsFirst g pool script (fault_line halt) old new numbers
  -- where the script wasn't read to its end no life was begun
  pub none : (status ≡ 5) ⊎ (status ≡ 7) → numbers ≡ 0 ∷ []

-- the numbers of changes of the lives of a site in memory, the one that it is in last
abbrev pub numbers_of : MemSite → List ℕ
numbers_of m = lives_of m ++ (limits_of m).changes ∷ []

-- a new site in memory, of these sizes
pub record IsNewSite (g : Geometry) (m : MemSite) : Type 0 where
  pub limits : HasLimits g
  pub state : state_of m ≡ started (0 ∷ 0 ∷ []) (blank_image g)
  pub fresh : IsFresh m
  pub lives : lives_of m ≡ []

-- at most so many octets are a script
abbrev pub script_limit : ℕ
script_limit = 65536

-- When each status of a trial comes, and that none but these does.
pub record TrialCauses (old new : Site) (status : ℕ) : Type 0 where
  pub others : status ≡ 0 ⊎ (status ≡ 4 ⊎ (status ≡ 5 ⊎ (status ≡ 6 ⊎ status ≡ 7)))
  pub input : status ≡ 5 → Rose old.input_faults new.input_faults
  pub output : status ≡ 6 → Rose old.output_faults new.output_faults
  -- 7 only where one octet more than the limit was taken, and always where there is one and nothing failed before
  pub limit : IsTrue old.honest → status ≡ 7 → length old.input.left ≡ script_limit + 1 + length new.input.left
  pub over : IsTrue old.honest → script_limit < length old.input.left → (status ≡ 7) ⊎ ((status ≡ 4) ⊎ (status ≡ 5))
  -- where nothing fails and the input ends in time all is done, or memory was wanted
  pub complete : IsTrue old.honest → ¬ (Rose old.input_faults new.input_faults) →
      ¬ (Rose old.output_faults new.output_faults) → length old.input.left ≤ script_limit → (status ≡ 0) ⊎ (status ≡ 4)

-- at each moment the devices are as they were
abbrev pub LeavesDevices : Site → Site → Type 0
LeavesDevices old new = EachMoment old new (λ moment. (moment.image ≡ old.image) × (moment.loose ≡ old.loose))

-- What a trial does on blank devices in memory of these sizes, with a pool of so many pages: the site that it is called
-- with gives input and output alone.
pub record TrialContract (g : Geometry) (pool : ℕ) (old new : Site) (status : ℕ) (numbers : List ℕ) : Type 0 where
  pub lives : IsTrue old.honest → Lives g pool old.input.left old new status numbers
  pub causes : TrialCauses old new status
  pub devices : IsTrue old.honest → LeavesDevices old new
  pub reads : SameReads old new
