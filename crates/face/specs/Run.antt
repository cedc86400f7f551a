-- A run, and what is said of it line by line.
use Rattle.std.specs.Prelude.{◌≡◌, ◌⊎◌, ℕ, ◌+◌, ◌≤◌, List, [], ◌∷◌, ◌++◌, take, IsTrue, true, Some, None}
use Rattle.site.specs.State.{State as Site, Snapshot, Image, no_loose}
use Rattle.site.specs.declared.geometry.Geometry.{Geometry}
use Rattle.record_model.specs.State.{State}
use Rattle.record_model.specs.Step.{Outcome}
use Rattle.record_model.specs.declared.words.CacheLine.{CacheLine}
use Rattle.record_model.specs.Run.{Line, Turn, line_step, turns, is_cache, next_listing, later_listings, listings_after}
use Rattle.record_model.specs.Touches.{CacheOp, line_touches}
use Rattle.second_chance.specs.Machine.{rules_of}
use Rattle.flash_cache.specs.Representation.{start_reads}
use Rattle.redo_laws.specs.MachineSteps.{ReadsFor}
use Rattle.engine.specs.Paging.{WritesFrom, cache_on}
use Rattle.engine.specs.Image.{Stands, Opens}
use Rattle.engine.specs.Numbers.{checkpoints_by}
use Rattle.engine.specs.LogReads.{log_reads_by}
use Rattle.front_end.specs.Lines.{commands_of, up_to_quit}

-- what a line is answered, and the state that it leaves, where the cache has this listing
abbrev pub step : State → Line → List CacheLine → Outcome
step s line listing = line_step s line listing

-- a run: the state that it opens with, its lines, and the cache's listings, one after the other, at its cache commands
pub record Run : Type 0 where
  pub geometry : Geometry
  pub opening : State
  pub lines : List Line
  pub listings : List (List CacheLine)

-- its turns, by the record model
abbrev pub turns_of : Run → List Turn
turns_of run = turns run.opening run.lines run.listings

abbrev pub after_lines : State → List Line → List (List CacheLine) → State
after_lines s [] listings = s
after_lines s (line ∷ lines) listings =
    after_lines (step s line (next_listing listings)).after lines (later_listings line listings)

-- the lines that are answered, up to a quit
abbrev pub answered : Run → List Line
answered run = up_to_quit run.lines

-- the run over its first lines alone
abbrev pub first_lines : Run → ℕ → Run
first_lines run count = record run { lines = take count run.lines }

-- the state after the first lines
abbrev pub state_at : Run → ℕ → State
state_at run lines = after_lines run.opening (take lines (answered run)) run.listings

-- the listings that are left after the first lines, and the one that the next line may ask for
abbrev pub listings_left : Run → ℕ → List (List CacheLine)
listings_left run lines = listings_after (take lines (answered run)) run.listings

abbrev pub listing_at : Run → ℕ → List CacheLine
listing_at run lines = next_listing (listings_left run lines)

-- where a line asks for the listing of the cache, it is this one
abbrev pub IsAsked : Line → List CacheLine → List CacheLine → Type 0
IsAsked line listing asked = is_cache line ≡ true → asked ≡ listing

-- what lines ask of the page cache, whatever it lists
abbrev pub works_of : State → List Line → List CacheOp
works_of s [] = []
works_of s (line ∷ lines) = line_touches s line ++ works_of (step s line []).after lines

-- how often a line reads the log at most
abbrev pub line_log_reads : State → Line → ℕ
line_log_reads s None = 0
line_log_reads s (Some command) = log_reads_by s command

-- since the run opened on this site no more is read than this work needs, and of flash as often as a start may beside
-- it
abbrev pub ReadsFew : ℕ → Geometry → List CacheOp → Site → Site → Type 0
ReadsFew pool g works old now = ReadsFor (rules_of pool g.groups) works (cache_on g old.image)
    (record old { flash_reads = old.flash_reads + start_reads g }) now

-- the log no more often than so, and no more is written: a crash at any moment leaves no more groups than this work
-- appends, and each disk page that it doesn't stage as it was when the run opened
pub record AsksFew (pool : ℕ) (g : Geometry) (works : List CacheOp) (times : ℕ) (old now : Site) : Type 0 where
  pub reads : ReadsFew pool g works old now
  pub log_reads : now.log_reads ≤ old.log_reads + times
  pub writes : WritesFrom g (rules_of pool g.groups) works (cache_on g old.image) old now

-- how many checkpoints a line makes, and how many lines make, whatever the cache lists
abbrev pub line_checkpoints : State → Line → ℕ
line_checkpoints s None = 0
line_checkpoints s (Some command) = checkpoints_by s command

abbrev pub checkpoints_of : State → List Line → ℕ
checkpoints_of s [] = 0
checkpoints_of s (line ∷ lines) = line_checkpoints s line + checkpoints_of (step s line []).after lines

-- the devices stand for the table and the count of a state
abbrev pub StandsFor : Geometry → Image → State → Type 0
StandsFor g image s = Stands g image s.table s.commits

-- the devices stand for the table after some lines
abbrev pub StandsAt : Run → ℕ → Image → Type 0
StandsAt run lines image = StandsFor run.geometry image (state_at run lines)

abbrev pub IsFront : List ℕ → List ℕ → Type 0
IsFront rest text = (k : ℕ) × (rest ≡ take k text)

-- the run of an honest and quiet site whose image is sound: it opens with the state of the image, and all octets that
-- are left are heard
pub record Begins (run : Run) (site : Site) : Type 0 where
  pub honest : IsTrue site.honest
  pub quiet : site.loose ≡ no_loose
  pub opens : Opens run.geometry site.image run.opening
  pub lines : run.lines ≡ commands_of true site.input.left

-- What a crash may leave of the answer to one line: some front of the text is told, and none of it while the line isn't
-- done
pub record LeavesAnswer (g : Geometry) (before after : State) (text so_far : List ℕ) (snapshot : Snapshot)
    : Type 0 where
  pub front : (k : ℕ) × (snapshot.told ≡ so_far ++ take k text)
  pub stands : (StandsFor g snapshot.image before × (snapshot.told ≡ so_far)) ⊎ StandsFor g snapshot.image after
