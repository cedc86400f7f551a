-- Calls that ask the cache for work, one after the other.
use Rattle.engine.proofs.Names.{map, append_assoc, ◌-◌, ◌/◌, ◌≡◌, ◌+◌, ◌≤◌, ◌<◌, List, [], ◌∷◌, ◌++◌, arith, sym, ap, subst, ◌∙◌, ℕ, length-map, map-append, range_with_len, Result, Ok, Err, OnOk, Invariant, AsksFrom, HasStagedFrom, WritesFrom, cache_on, Engine, Frame, frames_in, group_shape, units_on, last_after_reads, still_leaves, PageStore, CacheOp, read_touch, asks_then, asks_stopped, asks_same, change_made, numbers_rise, one_touch, StepsMachine, one_change, NumbersRise, MayWork, TransactionStore, hi_of, Rules, Cache, after_works, staged_by_works, known_of, in_sequence, SameReads, IsUnchanged, Leaves, LeavesOnly, Site, Image, Snapshot, IsQuiet, Geometry, Flash, Disk, Stop}
use Rattle.engine.proofs.Scans.{range_more, range_at}
use Rattle.page_store.specs.Caching.{cache_of, rules, with_change, next_group}
use Rattle.page_store.specs.Costs.{CallsForStaged, unsynced_in}
use Rattle.page_store.specs.Staging.{HasQueueOn, Stages, WritesOnly}

-- A page that is touched, and then changed.
pub change_ok : {A B : Type 0} (a : A) (b : B) (page : ℕ) (old mid new : PageStore) (before between now : Site) → 1 ≤ (rules old).groups → StepsMachine {T = A} (Ok a) (one_touch page) old mid before between →
    cache_of new ≡ with_change (cache_of mid) → rules new ≡ rules mid → SameReads between now → Stages {T = B} (Ok b) [] (next_group (cache_of mid)) mid new between now →
    StepsMachine {T = B} (Ok b) (one_change page) old new before now
change_ok {A} {B} a b page old mid new before between now some asks changed same read still = change_made a (Ok b) page old mid new before between now some asks changed same read still

-- What is asked of each call.

-- a queue on flash has room for a group
pub store_has_group : {store : TransactionStore} {site : Site} → MayWork store site → 1 ≤ (rules store.pages).groups
store_has_group may = let least = may.both.pages_going.flash.limits.groups in omega (arith, least)

pub has_group : {engine : Engine} {site : Site} → Invariant engine site → 1 ≤ (rules engine.store.pages).groups
has_group may = store_has_group may.store

-- Records that are read one after the other.

pub scan_more : {A B : Type 0} (a : A) (result : Result B Stop) (number offset : ℕ) (old mid new : PageStore) (before between now : Site) →
    StepsMachine {T = A} (Ok a) (map read_touch (range_with_len number offset)) old mid before between → StepsMachine result (one_touch ((number + offset) / 32)) mid new between now →
    StepsMachine result (map read_touch (range_with_len number (offset + 1))) old new before now
scan_more a result number offset old mid new before between now one two =
    asks_same result _ _ old new before now (ap (map read_touch) (range_more number offset) ∙ map-append read_touch (range_with_len number offset) ((number + offset) ∷ []))
    (asks_then a result (map read_touch (range_with_len number offset)) (one_touch ((number + offset) / 32)) old mid new before between now one two)

-- it stops before all of them are read
pub scan_stops : {A B : Type 0} (stop : Stop) (number offset count : ℕ) (old new : PageStore) (before now : Site) → 1 ≤ (rules old).groups → offset < count →
    StepsMachine {T = A} (Err stop) (map read_touch (range_with_len number (offset + 1))) old new before now → StepsMachine {T = B} (Err stop) (map read_touch (range_with_len number count)) old new before now
scan_stops {A} {B} stop number offset count old new before now some less asks =
    let rest = range_with_len (number + offset + 1) (count - offset - 1) in
    let all : range_with_len number count ≡ range_with_len number (offset + 1) ++ rest =
    range_at number offset count less ∙ sym (append_assoc (range_with_len number offset) ((number + offset) ∷ []) rest) ∙ ap (λ (l : List ℕ). l ++ rest) (sym (range_more number offset)) in
    asks_same {T = B} (Err stop) _ _ old new before now (ap (map read_touch) all ∙ map-append read_touch (range_with_len number (offset + 1)) rest)
    (asks_stopped stop (map read_touch (range_with_len number (offset + 1))) (map read_touch rest) old new before now some asks)

-- A restart.

-- a call that opens pages was Ok
pub from_ok : {A B : Type 0} (a : A) (x : B) (pages : B → PageStore) (works : List CacheOp) (old new : PageStore) (before between now : Site) → pages x ≡ new → SameReads between now →
    StepsMachine {T = A} (Ok a) works old new before between → AsksFrom {T = B} (Ok x) pages (rules old) works (cache_of old) 0 before now
from_ok {A} {B} a x pages works old new before between now same still asks = record {
  machine = (ap cache_of same ∙ asks.machine, ap rules same ∙ asks.rules_are);
  flash = (let reads = asks.reads.flash in let f = still Flash in omega (arith, reads, f));
  disk = (let reads = asks.reads.disk in let d = still Disk in omega (arith, reads, d));
}

-- it stopped
pub from_err : {A B : Type 0} (stop : Stop) (pages : B → PageStore) (works : List CacheOp) (old new : PageStore) (before now : Site) →
    StepsMachine {T = A} (Err stop) works old new before now → AsksFrom {T = B} (Err stop) pages (rules old) works (cache_of old) 0 before now
from_err stop pages works old new before now asks = record {
  machine = tt;
  flash = (let reads = asks.reads.flash in omega (arith, reads));
  disk = asks.reads.disk;
}

-- what is written however it ends
pub writes_stopped : {A : Type 0} (stop : Stop) (first later : List CacheOp) (old new : PageStore) (before now : Site) → 1 ≤ (rules old).groups → StepsMachine {T = A} (Err stop) first old new before now → HasQueueOn old before → IsQuiet before →
    WritesFrom old.flash.geometry (rules old) (first ++ later) (cache_of old) before now
writes_stopped {A} stop first later old new before now some asks has quiet = (asks_stopped {A = A} {B = A} stop first later old new before now some asks).stages.writes has quiet

-- it stopped before all of the work was done
pub from_stopped : {A B : Type 0} (stop : Stop) (pages : B → PageStore) (first later : List CacheOp) (old new : PageStore) (before now : Site) → 1 ≤ (rules old).groups →
    StepsMachine {T = A} (Err stop) first old new before now → AsksFrom {T = B} (Err stop) pages (rules old) (first ++ later) (cache_of old) 0 before now
from_stopped {A} {B} stop pages first later old new before now some asks =
    let all : StepsMachine {T = B} (Err stop) (first ++ later) old new before now = asks_stopped stop first later old new before now some asks in
    from_err stop pages (first ++ later) old new before now all

-- the queue was found before
pub from_found : {T : Type 0} (result : Result T Stop) (pages : T → PageStore) (r r' : Rules) (works works' : List CacheOp) (start start' : Cache) (scanned : ℕ) (old mid new : Site) → r ≡ r' → works ≡ works' → start ≡ start' →
    mid.flash_reads ≤ old.flash_reads + scanned → mid.disk_reads ≡ old.disk_reads → AsksFrom result pages r works start 0 mid new → AsksFrom result pages r' works' start' scanned old new
from_found result pages r r' works works' start start' scanned old mid new same_rules same_works same_start flash disk asks =
    subst (λ (x : Rules). AsksFrom result pages x works' start' scanned old new) same_rules
    (subst (λ (x : List CacheOp). AsksFrom result pages r x start' scanned old new) same_works
    (subst (λ (x : Cache). AsksFrom result pages r works x scanned old new) same_start (record {
      machine = asks.machine;
      flash = (let reads = asks.flash in omega (arith, reads, flash));
      disk = (let reads = asks.disk in omega (arith, reads, disk));
    })))

-- the queue wasn't found
pub not_found : {T : Type 0} (stop : Stop) (pages : T → PageStore) (r : Rules) (works : List CacheOp) (start : Cache) (scanned : ℕ) (old new : Site) → 1 ≤ r.groups →
    new.flash_reads ≤ old.flash_reads + scanned → new.disk_reads ≡ old.disk_reads → AsksFrom {T = T} (Err stop) pages r works start scanned old new
not_found stop pages r works start scanned old new some flash disk = record {
  machine = tt;
  flash = (let up = numbers_rise r works start some in omega (arith, flash, up));
  disk = omega (arith, disk);
}

-- another answer of the same call
pub from_other : {A B : Type 0} (a : A) (b : B) (pages : A → PageStore) (others : B → PageStore) (r : Rules) (works : List CacheOp) (start : Cache) (scanned : ℕ) (old new : Site) → others b ≡ pages a →
    AsksFrom {T = A} (Ok a) pages r works start scanned old new → AsksFrom {T = B} (Ok b) others r works start scanned old new
from_other {A} {B} a b pages others r works start scanned old new same asks = record {
  machine = (ap cache_of same ∙ asks.machine.0, ap rules same ∙ asks.machine.1);
  flash = asks.flash;
  disk = asks.disk;
}

pub from_other_fails : {A B : Type 0} (a : A) (stop : Stop) (pages : A → PageStore) (others : B → PageStore) (r : Rules) (works : List CacheOp) (start : Cache) (scanned : ℕ) (old new : Site) →
    AsksFrom {T = A} (Ok a) pages r works start scanned old new → AsksFrom {T = B} (Err stop) others r works start scanned old new
from_other_fails a stop pages others r works start scanned old new asks = record { machine = tt; flash = asks.flash; disk = asks.disk }

-- What a restart writes.

-- the next group of a run at its beginning
opened_next : (g : Geometry) (image : Image) → hi_of (group_shape g) image.flash ≤ next_group (cache_on g image)
opened_next g image =
    omega (arith, length-map (map frames_in (units_on (group_shape g) image).live) (map (λ (frame : Frame). known_of frame.page frame.dirty)))

pub still_writes : NumbersRise → (g : Geometry) (r : Rules) (works : List CacheOp) (old now : Site) → 1 ≤ r.groups → IsQuiet old → IsUnchanged old now → WritesFrom g r works (cache_on g old.image) old now
still_writes rise g r works old now some quiet same =
    let up = rise r works (cache_on g old.image) some in
    still_leaves g (staged_by_works r works (cache_on g old.image)) (next_group (after_works r works (cache_on g old.image))) old now (omega (arith, up, opened_next g old.image)) quiet same

pub writes_found : (g : Geometry) (r : Rules) (works : List CacheOp) (h : Geometry) (r' : Rules) (works' : List CacheOp) (start : Cache) (old mid new : Site) → 1 ≤ r.groups → IsQuiet old → IsUnchanged old mid → h ≡ g → r' ≡ r → works' ≡ works →
    start ≡ cache_on g old.image → WritesFrom h r' works' start mid new → WritesFrom g r works (cache_on g old.image) old new
writes_found g r works h r' works' start old mid new some quiet same sizes same_rules same_works same_start writes =
    let staged = staged_by_works r works (cache_on g old.image) in
    let next = next_group (after_works r works (cache_on g old.image)) in
    let P = λ (s : Snapshot). WritesOnly g staged next old.image s.image in
    let there : LeavesOnly mid new P =
    subst (λ (i : Image). LeavesOnly mid new (λ (s : Snapshot). WritesOnly g staged next i s.image)) same.image
    (subst (λ (k : Cache). LeavesOnly mid new (λ (s : Snapshot). WritesOnly g (staged_by_works r works k) (next_group (after_works r works k)) mid.image s.image)) same_start
    (subst (λ (w : List CacheOp). WritesFrom g r w start mid new) same_works (subst (λ (x : Rules). WritesFrom g x works' start mid new) same_rules (subst (λ (x : Geometry). WritesFrom x r' works' start mid new) sizes writes)))) in
    in_sequence old mid new (Leaves P) (still_writes numbers_rise g r works old mid some quiet same) there

-- what the disk has behind it
pub last_found : (g : Geometry) (r : Rules) (works : List CacheOp) (h : Geometry) (r' : Rules) (works' : List CacheOp) (start : Cache) (old mid new : Site) → IsUnchanged old mid → h ≡ g → r' ≡ r → works' ≡ works → start ≡ cache_on g old.image →
    HasStagedFrom h r' works' start mid new → HasStagedFrom g r works (cache_on g old.image) old new
last_found g r works h r' works' start old mid new same sizes same_rules same_works same_start last =
    let there : HasStagedFrom g r works (cache_on g old.image) mid new =
    subst (λ (k : Cache). HasStagedFrom g r works k mid new) same_start
    (subst (λ (w : List CacheOp). HasStagedFrom g r w start mid new) same_works (subst (λ (x : Rules). HasStagedFrom g x works' start mid new) same_rules (subst (λ (x : Geometry). HasStagedFrom x r' works' start mid new) sizes last))) in
    record {
      last = last_after_reads g (staged_by_works r works (cache_on g old.image)) old mid new same.past there.last;
      counted = (let calls = there.counted.calls in let before = ap unsynced_in same.past in record { calls = omega (arith, calls, before); rises = there.counted.rises; within = there.counted.within });
    }

pub staged_from : {T : Type 0} (result : Result T Stop) (works : List CacheOp) (old new : PageStore) (before now : Site) → StepsMachine result works old new before now → HasQueueOn old before → IsQuiet before →
    OnOk result (HasStagedFrom old.flash.geometry (rules old) works (cache_of old) before now)
staged_from (Ok x) works old new before now asks has quiet = record {
  last = asks.stages.last has quiet;
  counted = subst (λ (c : Cache). CallsForStaged (staged_by_works (rules old) works (cache_of old)) old.flash.directory.first c.queue.first before now) asks.machine (asks.stages.counted has quiet);
}
staged_from (Err stop) works old new before now asks has quiet = tt
