-- The records of a block are taken, one after the other.
use Rattle.redo_undo.proofs.Names.{◌≡◌, ℕ, suc, ◌+◌, ◌-◌, ◌*◌, ◌≤◌, ◌<◌, List, [], ◌∷◌, ◌++◌, length, take, drop, append-nil, refl, sym, ap, subst, ◌∙◌, arith, true, map, ⊤, Result, Ok, Err, OneTable, TableOfUnfinished, IsAnalysis, IsTable, open_at, listed, is_taken, Steps, taken, TakenTable, Analysis, seen, Master, master_of, kept_by, saved_by, logical_image_under, HasHeard, IsPast, past_none, block_of, log_split, log_take, take_whole, Entry, entries_from, log_from, LogicalImage, IsSound, IsBlock, used_by, losers, LogRecord, LogList, sealed_block, LogStore, PageStore, Content, AsksAtRest, IsOpened, Opening, HasTaken, asked_of, opened, heard_of, Redone, Preserves, IsUnchanged, State}
use Rattle.std.specs.Prelude.{Option}
use Rattle.log_store.specs.Representation.{Finds}
use Rattle.log_judge.specs.declared.judge.Judge.{Judge}
use Rattle.redo_undo.proofs.Redoings.{redoing_still, begins}
use Rattle.redo_undo.proofs.RedoWorks.{nothing_asked}

-- up to a place of a block all records are taken, and the cache was asked for their work
pub record IsPartWay (o : Opening) (log : LogStore) (entry pages : PageStore) (old site : State) (so_far : Redone) (front : List Entry) (block : ℕ) (octets : List ℕ) (used at : ℕ) (records : List LogRecord) : Type 0 where
  pub done : List Entry
  pub past : IsPast block octets used at records done
  pub taken : HasTaken o log pages site so_far (front ++ done)
  pub asked : AsksAtRest {T = ⊤} (Ok tt) (asked_of o done) entry pages old site

pub part_begins : (o : Opening) (log : LogStore) (pages : PageStore) (site : State) (so_far : Redone) (front : List Entry) (block : ℕ) (octets : List ℕ) (used : ℕ) (records : List LogRecord) →
    log.geometry ≡ pages.flash.geometry → HasTaken o log pages site so_far front → IsBlock octets records → used ≡ used_by records → IsPartWay o log pages pages site site so_far front block octets used 2 records
part_begins o log pages site so_far front block octets used records sizes h is end = record {
  done = [];
  past = past_none block octets used records is end;
  taken = subst (HasTaken o log pages site so_far) (sym (append-nil front)) h;
  asked = nothing_asked pages site;
}

-- the first blocks are read
pub record IsUpTo (o : Opening) (log : LogStore) (pages : PageStore) (old site : State) (so_far : Redone) (block : ℕ) : Type 0 where
  pub from : kept_by o.newest ≤ block
  pub taken : HasTaken o log pages site so_far (log_from (kept_by o.newest) (take (block - kept_by o.newest) o.blocks))

take_nothing : (blocks : List (List LogRecord)) → take 0 blocks ≡ []
take_nothing [] = refl
take_nothing (records ∷ blocks) = refl

pub none_read : (o : Opening) (block : ℕ) → block ≡ kept_by o.newest → log_from (kept_by o.newest) (take (block - kept_by o.newest) o.blocks) ≡ []
none_read o block is =
    let zero_is : block - kept_by o.newest ≡ 0 = omega (arith, is) in
    ap (λ (n : ℕ). log_from (kept_by o.newest) (take n o.blocks)) zero_is ∙ ap (log_from (kept_by o.newest)) (take_nothing o.blocks)

pub asks_first : (o : Opening) (pages : PageStore) (site : State) (block : ℕ) → block ≡ kept_by o.newest → AsksAtRest {T = ⊤} (Ok tt) (asked_of o (log_from (kept_by o.newest) (take (block - kept_by o.newest) o.blocks))) pages pages site site
asks_first o pages site block is =
    subst (λ (done : List Entry). AsksAtRest {T = ⊤} (Ok tt) (asked_of o done) pages pages site site) (sym (none_read o block is)) (nothing_asked pages site)

-- before the first block
pub up_to_none : (log : LogStore) (pages : PageStore) (site : State) (newest : Option Master) (blocks : List (List LogRecord)) (table : List Content) (commits : ℕ) (found : Analysis) (judge : Judge) (block : ℕ) →
    log.geometry ≡ pages.flash.geometry → IsOpened pages.flash.geometry log pages site newest blocks table commits → IsAnalysis (master_of newest) [] found → HasHeard (logical_image_under newest pages.flash.geometry site.image blocks) [] judge → block ≡ kept_by newest →
    IsUpTo (record { sizes = pages.flash.geometry; image = site.image; newest = newest; blocks = blocks; table = table; commits = commits }) log pages site site (record { found = found; records = 0; judge = judge }) block
up_to_none log pages site newest blocks table commits found judge block sizes h analysis heard is =
    let o : Opening = record { sizes = pages.flash.geometry; image = site.image; newest = newest; blocks = blocks; table = table; commits = commits } in
    let first = begins log pages site newest blocks table commits h in
    record {
      from = omega (arith, is);
      taken = subst (HasTaken o log pages site (record { found = found; records = 0; judge = judge })) (sym (none_read o block is)) (record { pages_are = first; analysis = analysis; heard = heard; count = refl });
    }

pub opened_count : (log : LogStore) (pages : PageStore) (site : State) (newest : Option Master) (blocks : List (List LogRecord)) (table : List Content) (commits : ℕ) → IsOpened pages.flash.geometry log pages site newest blocks table commits → log.ring.hi ≡ kept_by newest + length blocks
opened_count log pages site newest blocks table commits h = let hi = h.ready.blocks.hi in let next = h.ready.records.blocks.next in omega (arith, hi, next)

-- the next block was read
pub record IsNextBlock (o : Opening) (log : LogStore) (pages : PageStore) (old site : State) (so_far : Redone) (block : ℕ) (content : List ℕ) (used : ℕ) : Type 0 where
  pub taken : HasTaken o log pages site so_far (log_from (kept_by o.newest) (take (block - kept_by o.newest) o.blocks))
  pub content_is : IsBlock content (block_of o.blocks (block - kept_by o.newest))
  pub used_is : used ≡ used_by (block_of o.blocks (block - kept_by o.newest))
  pub split : log_from (kept_by o.newest) o.blocks ≡ log_from (kept_by o.newest) (take (block - kept_by o.newest) o.blocks)
      ++ (entries_from (512 * block + 2) (block_of o.blocks (block - kept_by o.newest)) ++ log_from (block + 1) (drop (suc (block - kept_by o.newest)) o.blocks))

module _ (o : Opening) (log : LogStore) (pages : PageStore) (old site : State) (so_far : Redone) (block : ℕ) (up : IsUpTo o log pages old site so_far block) where
  abbrev pub list : LogList
  list = record { first = kept_by o.newest; blocks = o.blocks; tail = [] }

  pub finds : Finds log site
  finds = let fits = up.taken.pages_are.ready.blocks in record { honest = fits.honest; form = fits.form; hi = fits.hi }

  pub next_block : (new : State) (content : List ℕ) (used : ℕ) → Preserves site new → IsUnchanged site new → block - kept_by o.newest < length o.blocks → IsBlock content (sealed_block list block) × (used ≡ used_by (sealed_block list block)) →
      IsNextBlock o log pages old new so_far block content used
  next_block new content used goes same inside read =
      record {
        taken = record { pages_are = redoing_still o log pages site new (log_from (kept_by o.newest) (take (block - kept_by o.newest) o.blocks)) goes same up.taken.pages_are; analysis = up.taken.analysis; heard = up.taken.heard; count = up.taken.count };
        content_is = read.0;
        used_is = read.1;
        split = log_split (kept_by o.newest) (block - kept_by o.newest) block o.blocks (omega (arith, up.from)) inside;
      }

pub one_more_block : (o : Opening) (block : ℕ) → kept_by o.newest ≤ block → block - kept_by o.newest < length o.blocks →
    log_from (kept_by o.newest) (take (block - kept_by o.newest) o.blocks) ++ entries_from (512 * block + 2) (block_of o.blocks (block - kept_by o.newest)) ≡ log_from (kept_by o.newest) (take (block + 1 - kept_by o.newest) o.blocks)
one_more_block o block from inside =
    let plus : suc (block - kept_by o.newest) ≡ block + 1 - kept_by o.newest = omega (arith, from) in
    sym (log_take (kept_by o.newest) (block - kept_by o.newest) block o.blocks (omega (arith, from)) inside) ∙ ap (λ (n : ℕ). log_from (kept_by o.newest) (take n o.blocks)) plus

pub all_blocks : (o : Opening) (block : ℕ) → block - kept_by o.newest ≡ length o.blocks → log_from (kept_by o.newest) (take (block - kept_by o.newest) o.blocks) ≡ log_from (kept_by o.newest) o.blocks
all_blocks o block is = ap (log_from (kept_by o.newest)) (take_whole (block - kept_by o.newest) o.blocks is)

-- the master that is handed in is the newest one
module _ (o : Opening) (m : Master) (is : m ≡ saved_by o.newest) (front : List Entry) where
  pub analysis_to : (found : Analysis) → IsAnalysis (opened o).master (heard_of (opened o).master front) found → IsAnalysis (seen m) (heard_of (seen m) front) found
  analysis_to found h = subst (λ (k : Master). IsAnalysis (seen k) (heard_of (seen k) front) found) (sym is) h

  pub analysis_back : (found : Analysis) → IsAnalysis (seen m) (heard_of (seen m) front) found → IsAnalysis (opened o).master (heard_of (opened o).master front) found
  analysis_back found h = subst (λ (k : Master). IsAnalysis (seen k) (heard_of (seen k) front) found) is h

  pub step_to : (e : Entry) → (is_taken (opened o).master e ≡ true → Steps (opened o).master.active (heard_of (opened o).master front) e) → is_taken (seen m) e ≡ true → Steps (seen m).active (heard_of (seen m) front) e
  step_to e h = subst (λ (k : Master). is_taken (seen k) e ≡ true → Steps (seen k).active (heard_of (seen k) front) e) (sym is) h

-- what analysis has taken of a sound log says of each transaction what all records say
pub unfinished_by : OneTable → TakenTable → TableOfUnfinished → (p : LogicalImage) → IsSound p → (found : Analysis) → IsTable p.master.active (taken p) (listed found.table) → IsTable [] p.log (listed found.table)
unfinished_by one taken_table unfinished p sound found is =
    subst (IsTable [] p.log) (one p.master.active (taken p) (map (open_at [] p.log) (losers p.log)) (listed found.table) (taken_table p sound) is)
    (unfinished [] p.log (512 * p.master.kept) (512 * p.hi) tt sound.in_order)

-- the error of a result
abbrev stop_of : {A E : Type 0} → E → Result A E → E
stop_of d (Ok x) = d
stop_of d (Err e) = e

pub same_stop : {A E : Type 0} (x y : E) → ◌≡◌ {A = Result A E} (Err x) (Err y) → x ≡ y
same_stop x y is = ap (stop_of x) is
