-- What a run asks of the page cache, line by line.
use Rattle.face.proofs.Names.{◌≡◌, ℕ, suc, ◌+◌, ◌≤◌, Bool, true, false, List, [], ◌∷◌, ◌++◌, length, drop, arith, refl, sym, ap, subst, ◌∙◌, append_assoc, ◌-◌, Result, Ok, Option, if◌then◌else◌, append-nil, Master, still_writes, sizes_of, QueueIsOnFlash, restart_log_reads, WritesFrom, restart_works, cache_on, AsksFrom, Matches, WhereItFits, VersionsAreSeen, Engine, Run, answered, first_lines, step, after_lines, state_at, works_of, AsksFew, turns_of, line_log_reads, IsPaged, cache_by, LeavesStaged, HasDone, log_reads_in, asked_after, log_reads_after, start_reads, HearsOnly, commands_of, up_to_quit, logical_image_under, LogRecord, PageStore, Line, Turn, is_quit, left_by, turns, next_listing, later_listings, State, CacheOp, line_touches, run_touches, CacheLine, ReadsFor, NumbersRise, Rules, rules_of, after_works, Cache, unchanged, SameReads, EachMoment, Site, Image, IsQuiet, TellsPart, Geometry, Flash, Disk, Log, Stop}
use Rattle.second_chance.specs.Machine.{opened}
use Rattle.face.proofs.Writings.{writes_told, writes_heard}
use Rattle.face.proofs.Fronts.{first_commands, state_by_turns, whole_turns}
use Rattle.face.proofs.Runs.{turn_at, turns_next}

-- Lines. What they ask doesn't depend on what the cache lists.

plain_after : State → List Line → State
plain_after s [] = s
plain_after s (line ∷ lines) = plain_after (step s line []).after lines

pub after_same : (s : State) (line : Line) (listing other : List CacheLine) → (step s line listing).after ≡ (step s line other).after
after_same s x1 listing other = grind arith

plain_is : (s : State) (lines : List Line) (listings : List (List CacheLine)) → plain_after s lines ≡ after_lines s lines listings
unfolding plain_after
plain_is s [] listings = refl
plain_is s (line ∷ lines) listings =
    plain_is (step s line []).after lines (later_listings line listings) ∙ ap (λ (x : State). after_lines x lines (later_listings line listings)) (after_same s line [] (next_listing listings))

pub same_after : (s : State) (lines : List Line) (listings other : List (List CacheLine)) → after_lines s lines listings ≡ after_lines s lines other
same_after s lines listings other = sym (plain_is s lines listings) ∙ plain_is s lines other

-- the work of some turns and of those behind them
touches_join : (first later : List Turn) → run_touches (first ++ later) ≡ run_touches first ++ run_touches later
touches_join [] later = grind arith
touches_join (t ∷ first) later = grind (arith, append_assoc, (touches_join first later))

-- the turns of a run ask for what its lines do
pub turns_ask : (s : State) (lines : List Line) (listings : List (List CacheLine)) → run_touches (turns s lines listings) ≡ works_of s (up_to_quit lines)
turns_ask s [] listings = grind arith
turns_ask s (line ∷ lines) listings = grind (arith, after_same, (turns_ask (step s line (next_listing listings)).after lines (later_listings line listings)))

-- a line more asks for its own work behind that of the others
pub asked_next : (run : Run) (newest : Option Master) (image : Image) (blocks : List (List LogRecord)) (i : ℕ) (line : Line) (rest : List Line) → drop i (answered run) ≡ line ∷ rest →
    asked_after run newest image blocks (suc i) ≡ asked_after run newest image blocks i ++ line_touches (state_at run i) line
asked_next run newest image blocks i line rest is =
    let restart = restart_works (logical_image_under newest run.geometry image blocks) in
    let first = turns_of (first_lines run i) in
    let own = line_touches (state_at run i) line in
    ap (λ (l : List Turn). restart ++ run_touches l) (turns_next run i line rest is)
    ∙ ap (λ (w : List CacheOp). restart ++ w) (touches_join first (turn_at run i line rest is ∷ []) ∙ ap (λ (w : List CacheOp). run_touches first ++ w) (append-nil own))
    ∙ sym (append_assoc restart (run_touches first) own)

-- How often the log is read.

-- some turns, and those behind them
log_reads_join : (first later : List Turn) → log_reads_in (first ++ later) ≡ log_reads_in first + log_reads_in later
log_reads_join [] later = omega arith
log_reads_join (t ∷ first) later = let rest = log_reads_join first later in omega (arith, rest)

-- a line more
pub log_reads_next : (run : Run) (newest : Option Master) (blocks : List (List LogRecord)) (i : ℕ) (line : Line) (rest : List Line) → drop i (answered run) ≡ line ∷ rest →
    log_reads_after run newest blocks (suc i) ≡ log_reads_after run newest blocks i + line_log_reads (state_at run i) line
log_reads_next run newest blocks i line rest is = grind (arith, turns_next, log_reads_join, turn_at)

-- Reads.

-- where nothing is read
pub reads_still : (r : Rules) (works : List CacheOp) (cache : Cache) (before mid now : Site) → SameReads mid now → ReadsFor r works cache before mid → ReadsFor r works cache before now
reads_still r works cache before mid now same few =
    let flash : now.flash_reads ≡ mid.flash_reads = same Flash in
    let disk : now.disk_reads ≡ mid.disk_reads = same Disk in
    record {
      flash = let some = few.flash in omega (arith, some, flash);
      disk = let some = few.disk in omega (arith, some, disk);
    }

-- where something is told
pub few_told : (pool : ℕ) (g : Geometry) (works : List CacheOp) (n : ℕ) (piece : List ℕ) (old mid now : Site) → SameReads mid now → EachMoment mid now (TellsPart piece mid) → AsksFew pool g works n old mid → AsksFew pool g works n old now
few_told pool g works n piece old mid now same tells few = record {
  log_reads = let read = few.log_reads in let none : now.log_reads ≡ mid.log_reads = same Log in omega (arith, read, none);
  reads = reads_still (rules_of pool g.groups) works (cache_on g old.image) (record old { flash_reads = old.flash_reads + start_reads g }) mid now same few.reads;
  writes = writes_told g (rules_of pool g.groups) works (cache_on g old.image) piece old mid now few.writes tells;
}

-- or heard
pub few_heard : (pool : ℕ) (g : Geometry) (works : List CacheOp) (n : ℕ) (old mid now : Site) → HearsOnly mid now → AsksFew pool g works n old mid → AsksFew pool g works n old now
few_heard pool g works n old mid now same few = record {
  log_reads = let read = few.log_reads in let none : now.log_reads ≡ mid.log_reads = same.reads Log in omega (arith, read, none);
  reads = reads_still (rules_of pool g.groups) works (cache_on g old.image) (record old { flash_reads = old.flash_reads + start_reads g }) mid now same.reads few.reads;
  writes = writes_heard g (rules_of pool g.groups) works (cache_on g old.image) old mid now few.writes same;
}

none_read_there : (r : Rules) (works : List CacheOp) (cache : Cache) (extra : ℕ) (site : Site) → NumbersRise → 1 ≤ r.groups → ReadsFor r works cache (record site { flash_reads = site.flash_reads + extra }) site
none_read_there r works cache extra site rise some = grind arith

pub none_read : (pool : ℕ) (g : Geometry) (works : List CacheOp) (n : ℕ) (site : Site) → NumbersRise → 1 ≤ g.groups - 1 → IsQuiet site → AsksFew pool g works n site site
none_read pool g works n site rise some quiet = record {
  log_reads = omega arith;
  reads = none_read_there (rules_of pool g.groups) works (cache_on g site.image) (start_reads g) site rise some;
  writes = still_writes rise g (rules_of pool g.groups) works site site some quiet (unchanged site);
}

-- Calls.

module _ (pool : ℕ) (run : Run) (newest : Option Master) (image : Image) (blocks : List (List LogRecord)) where
  abbrev r : Rules
  r = rules_of pool run.geometry.groups

  -- the restart
  pub first_paged : (engine : Engine) (scanned : ℕ) (old new : Site) → AsksFrom {T = Engine} (Ok engine) (λ e. e.store.pages) r (restart_works (logical_image_under newest run.geometry image blocks)) (cache_on run.geometry image) scanned old new →
      IsPaged pool run newest image blocks engine 0
  first_paged engine scanned old new asks = grind (arith, append-nil)

  pub first_reads : {T : Type 0} (result : Result T Stop) (pages : T → PageStore) (old mid new : Site) → SameReads mid new → WritesFrom run.geometry r (restart_works (logical_image_under newest run.geometry image blocks)) (cache_on run.geometry old.image) old new → AsksFrom result pages r (restart_works (logical_image_under newest run.geometry image blocks)) (cache_on run.geometry old.image) (start_reads run.geometry) old mid →
      mid.log_reads ≤ old.log_reads + restart_log_reads run.geometry newest blocks → AsksFew pool run.geometry (asked_after run newest image blocks 0) (log_reads_after run newest blocks 0) old new
  first_reads result pages old mid new same writes asks read =
      let restart = restart_works (logical_image_under newest run.geometry image blocks) in
      let none : new.log_reads ≡ mid.log_reads = same Log in
      subst (λ (w : List CacheOp). AsksFew pool run.geometry w (log_reads_after run newest blocks 0) old new) (sym (append-nil restart))
      (record { log_reads = omega (arith, read, none); reads = reads_still r restart (cache_on run.geometry old.image) (record old { flash_reads = old.flash_reads + start_reads run.geometry }) mid new same (record { flash = asks.flash; disk = asks.disk }); writes = writes })

  -- its queue is on flash
  pub paged_queue : QueueIsOnFlash → (engine : Engine) (site : Site) (s : State) (i : ℕ) → Matches engine site s → sizes_of engine.store ≡ run.geometry → IsPaged pool run newest image blocks engine i →
      cache_on run.geometry site.image ≡ opened (after_works r (asked_after run newest image blocks i) (cache_on run.geometry image)).queue
  paged_queue law engine site s i fits sizes paged =
      ap (λ (g : Geometry). cache_on g site.image) (sym sizes) ∙ law engine site s fits ∙ ap (λ (c : Cache). opened c.queue) paged.machine

  -- and the versions show what is seen
  pub paged_versions : WhereItFits → (engine : Engine) (site : Site) (i : ℕ) → Matches engine site (state_at run i) → sizes_of engine.store ≡ run.geometry → IsPaged pool run newest image blocks engine i →
      VersionsAreSeen run.geometry (after_works r (asked_after run newest image blocks i) (cache_on run.geometry image)).pool site.image (left_by run.opening (turns_of (first_lines run i)))
  paged_versions law engine site i fits sizes paged = grind (arith, state_by_turns)

-- Whole runs.

-- lines that are answered in front of others are answered first
up_front : (xs ys : List Line) → (rest : List Line) × (up_to_quit (xs ++ ys) ≡ up_to_quit xs ++ rest)
up_front [] ys = (up_to_quit ys, refl)
up_front (x ∷ xs) ys = by (is_quit x) (up_front xs ys)
  where
    by : (b : Bool) → (rest : List Line) × (up_to_quit (xs ++ ys) ≡ up_to_quit xs ++ rest) →
        (rest : List Line) × (x ∷ (if b then [] else up_to_quit (xs ++ ys)) ≡ (x ∷ (if b then [] else up_to_quit xs)) ++ rest)
    by true later = ([], refl)
    by false later = (later.0, ap (λ (l : List Line). x ∷ l) later.1)

-- The lines of the octets that were taken are the first of all lines.
pub taken_first : (ended : Bool) (left octets rest : List ℕ) → left ≡ octets ++ rest → (ended ≡ true → rest ≡ []) → (more : List Line) × (up_to_quit (commands_of true left) ≡ up_to_quit (commands_of ended octets) ++ more)
taken_first true left octets rest is none =
    let same : left ≡ octets = is ∙ ap (λ (l : List ℕ). octets ++ l) (none refl) ∙ append-nil octets in
    ([], ap (λ (l : List ℕ). up_to_quit (commands_of true l)) same ∙ sym (append-nil (up_to_quit (commands_of true octets))))
taken_first false left octets rest is none =
    let first = first_commands true octets rest in
    let front = up_front (commands_of false octets) first.0 in
    (front.0, ap (λ (l : List ℕ). up_to_quit (commands_of true l)) is ∙ ap up_to_quit first.1 ∙ front.1)

pub leaves_staged : (pool : ℕ) (run : Run) (n : ℕ) → length (answered run) ≤ n → (old new : Site) → LeavesStaged pool (first_lines run n) old new → LeavesStaged pool run old new
leaves_staged pool run n few old new last newest blocks sound = grind (arith, whole_turns)

-- Where all of a run's lines are among the first ones, what holds of these holds of it.
module _ (pool : ℕ) (run : Run) (n : ℕ) (few : length (answered run) ≤ n) (image : Image) where
  pub done_whole : (now : Image) → HasDone pool (first_lines run n) image now → HasDone pool run image now
  done_whole now done newest blocks sound = grind (arith, whole_turns)
