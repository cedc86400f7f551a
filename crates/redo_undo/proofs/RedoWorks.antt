-- What redo asks of the cache.
use Rattle.redo_undo.proofs.Names.{◌≡◌, ◌≢◌, inl, inr, ℕ, ◌-◌, ◌/◌, ◌≤◌, ◌<◌, nat_lt, Bool, true, false, List, [], ◌∷◌, ◌++◌, Option, Some, None, append-nil, append_assoc, refl, sym, ap, subst, ◌∙◌, arith, ◌*◌, le-leb, lt-ltb, le-ltb, cond-true, cond-false, lt-leb, filter_map-append, if◌then◌else◌, ⊤, Result, Ok, Err, filter_map, option_map, nat_le, kept_by, Entry, version_at, number_of, log_from, redo_touch, from_block, last_lsn, LogStore, stages_none, stages_between, cache_of, rules, with_change, current, PageStore, CacheOp, touch, page_of, change_reads, change_stages, asks_nothing, asks_ok, asks_then, asks_stopped, change_stopped, touch_then_change, one_touch, one_change, StepsMachine, PerformsAtRest, AsksAtRest, Opening, opened, touches_of, IsFrom, IsRedoing, asked_of, no_error, ok_always, State, reads_of, Dev, Log, Flash, Disk, Stop, Worn, lsn_of}
use Rattle.page_store.specs.Staging.{Stages}
use Rattle.redo_laws.specs.MachineSteps.{next_group}
use Rattle.redo_undo.proofs.Resting.{change_rests, change_rests_stopped, rests_answered, rests_nothing, rests_refused, rests_stopped, rests_then}
use Rattle.redo_undo.proofs.NextRecords.{last_below, page_exists}

-- nothing is asked yet
pub nothing_asked_of : {A : Type 0} (x : A) (pages : PageStore) (site : State) → AsksAtRest {T = A} (Ok x) [] pages pages site site
nothing_asked_of {A} x pages site = record {
  asks = asks_nothing {T = A} (Ok x) pages site site (λ dev. refl) (stages_none refl (omega arith) refl);
  performs = rests_nothing (λ dev says. absurd (no_error {T = A} {x = x} {e = Worn dev} says));
}

pub nothing_asked : (pages : PageStore) (site : State) → AsksAtRest {T = ⊤} (Ok tt) [] pages pages site site
nothing_asked pages site = nothing_asked_of tt pages site

-- a call that stops before it asks for anything, and not since a device is worn
pub stops_first : {A : Type 0} (stop : Stop) (works : List CacheOp) (pages : PageStore) (site : State) → 1 ≤ (rules pages).groups → ((dev : Dev) → stop ≢ Worn dev) → AsksAtRest {T = A} (Err stop) works pages pages site site
stops_first {A} stop works pages site some never = record {
  asks = asks_stopped {A = A} {B = A} stop [] works pages pages site site some (asks_nothing {T = A} (Err stop) pages site site (λ dev. refl) (stages_none tt (omega arith) refl));
  performs = rests_refused never;
}

-- a call that reads the log alone
asks_reading : {A : Type 0} (result : Result A Stop) (pages : PageStore) (old new : State) → ((dev : Dev) → dev ≢ Log → reads_of dev new ≡ reads_of dev old) →
    Stages result [] (next_group (cache_of pages)) pages pages old new → StepsMachine result [] pages pages old new
asks_reading result pages old new same still =
    let flash = same Flash (λ is. cc) in
    let disk = same Disk (λ is. cc) in
    let none = (nothing_asked pages old).asks in
    record {
      machine = ok_always result _ refl;
      reads = record { flash = omega (arith, none.reads.flash, flash); disk = omega (arith, none.reads.disk, disk) };
      rules_are = refl;
      stages = still;
    }

-- Records after records.

from_append : (n : ℕ) (xs ys : List Entry) → from_block n (xs ++ ys) ≡ from_block n xs ++ from_block n ys
from_append n [] ys = refl
from_append n (x ∷ xs) ys = by (nat_le (512 * n) x.lsn) (from_append n xs ys)
  where
    by : (b : Bool) → from_block n (xs ++ ys) ≡ from_block n xs ++ from_block n ys → (if b then x ∷ from_block n (xs ++ ys) else from_block n (xs ++ ys)) ≡ (if b then x ∷ from_block n xs else from_block n xs) ++ from_block n ys
    by true rest = ap (λ (l : List Entry). x ∷ l) rest
    by false rest = rest

asked_append : (o : Opening) (xs ys : List Entry) → asked_of o (xs ++ ys) ≡ asked_of o xs ++ asked_of o ys
asked_append o xs ys = ap (touches_of o) (from_append (opened o).master.redo xs ys) ∙ filter_map-append (redo_touch (opened o)) (from_block (opened o).master.redo xs) (from_block (opened o).master.redo ys)

-- a record before the redo block asks for nothing, and one from there on for its redoing
pub asked_early : (o : Opening) (e : Entry) → e.lsn < 512 * (opened o).master.redo → asked_of o (e ∷ []) ≡ []
asked_early o e early = ap (touches_of o) (cond-false (nat_le (512 * (opened o).master.redo) e.lsn) (e ∷ []) [] (lt-leb (512 * (opened o).master.redo) e.lsn early))

pub asked_late : (o : Opening) (e : Entry) → 512 * (opened o).master.redo ≤ e.lsn → asked_of o (e ∷ []) ≡ touches_of o (e ∷ [])
asked_late o e late = ap (touches_of o) (cond-true (nat_le (512 * (opened o).master.redo) e.lsn) (e ∷ []) [] (le-leb (512 * (opened o).master.redo) e.lsn late))

module _ (o : Opening) (entry mid new : PageStore) (old between now : State) (done : List Entry) (asked : AsksAtRest {T = ⊤} (Ok tt) (asked_of o done) entry mid old between) where
  pub asks_more : {A : Type 0} (x : A) (more all : List Entry) → all ≡ done ++ more → AsksAtRest {T = A} (Ok x) (asked_of o more) mid new between now → AsksAtRest {T = ⊤} (Ok tt) (asked_of o all) entry new old now
  asks_more {A} x more all is asks =
      let both = asks_then tt (Ok x) (asked_of o done) (asked_of o more) entry mid new old between now asked.asks asks.asks in
      let split : asked_of o all ≡ asked_of o done ++ asked_of o more = ap (asked_of o) is ∙ asked_append o done more in
      let there : PerformsAtRest {T = A} (Ok x) (asked_of o done ++ asked_of o more) entry new = rests_then asked.asks.rules_are asked.performs asks.performs in
      subst (λ (works : List CacheOp). AsksAtRest {T = ⊤} (Ok tt) works entry new old now) (sym split)
      (record { asks = asks_ok x tt (asked_of o done ++ asked_of o more) entry new old now both; performs = rests_answered there })

  pub stops_within : {A B : Type 0} (stop : Stop) (more others all : List Entry) → 1 ≤ (rules entry).groups → all ≡ done ++ (more ++ others) → AsksAtRest {T = A} (Err stop) (asked_of o more) mid new between now →
      AsksAtRest {T = B} (Err stop) (asked_of o all) entry new old now
  stops_within {A} {B} stop more others all some is asks =
      let both = asks_then {A = ⊤} {B = A} tt (Err stop) (asked_of o done) (asked_of o more) entry mid new old between now asked.asks asks.asks in
      let there : PerformsAtRest {T = A} (Err stop) (asked_of o done ++ asked_of o more) entry new = rests_then asked.asks.rules_are asked.performs asks.performs in
      let split : asked_of o all ≡ (asked_of o done ++ asked_of o more) ++ asked_of o others =
      ap (asked_of o) is ∙ asked_append o done (more ++ others) ∙ ap (λ (works : List CacheOp). asked_of o done ++ works) (asked_append o more others)
      ∙ sym (append_assoc (asked_of o done) (asked_of o more) (asked_of o others)) in
      subst (λ (works : List CacheOp). AsksAtRest {T = B} (Err stop) works entry new old now) (sym split)
      (record { asks = asks_stopped {A = A} {B = B} stop (asked_of o done ++ asked_of o more) (asked_of o others) entry new old now some both; performs = rests_stopped (asked_of o others) there })

-- and with a read of the log behind it
pub stops_reading : {A : Type 0} (stop : Stop) (pages : PageStore) (old new : State) → ((dev : Dev) → dev ≢ Log → reads_of dev new ≡ reads_of dev old) → ((dev : Dev) → stop ≢ Worn dev) → Stages {T = A} (Err stop) [] (next_group (cache_of pages)) pages pages old new →
    AsksAtRest {T = A} (Err stop) [] pages pages old new
stops_reading {A} stop pages old new same never still = record { asks = asks_reading {A = A} (Err stop) pages old new same still; performs = rests_refused never }

pub asks_with_read : (o : Opening) (entry pages : PageStore) (old mid new : State) (done : List Entry) → AsksAtRest {T = ⊤} (Ok tt) (asked_of o done) entry pages old mid → ((dev : Dev) → dev ≢ Log → reads_of dev new ≡ reads_of dev mid) →
    Stages {T = ⊤} (Ok tt) [] (next_group (cache_of pages)) pages pages mid new → AsksAtRest {T = ⊤} (Ok tt) (asked_of o done) entry pages old new
asks_with_read o entry pages old mid new done asked same still =
    asks_more o entry pages pages old mid new done asked tt [] done (sym (append-nil done)) (record { asks = asks_reading {A = ⊤} (Ok tt) pages mid new same still; performs = (nothing_asked pages mid).performs })

-- all of some records
pub asks_all : {A : Type 0} (x : A) (o : Opening) (old new : PageStore) (before now : State) (done all : List Entry) → done ≡ all → AsksAtRest {T = ⊤} (Ok tt) (asked_of o done) old new before now → AsksAtRest {T = A} (Ok x) (asked_of o all) old new before now
asks_all {A} x o old new before now done all is asked =
    subst (λ (l : List Entry). AsksAtRest {T = A} (Ok x) (asked_of o l) old new before now) is
    (record { asks = asks_ok tt x (asked_of o done) old new before now asked.asks; performs = rests_answered asked.performs })

pub asks_early : {A : Type 0} (x : A) (o : Opening) (e : Entry) (pages : PageStore) (site : State) → e.lsn < 512 * (opened o).master.redo → AsksAtRest {T = A} (Ok x) (asked_of o (e ∷ [])) pages pages site site
asks_early {A} x o e pages site early = subst (λ (works : List CacheOp). AsksAtRest {T = A} (Ok x) works pages pages site site) (sym (asked_early o e early)) (nothing_asked_of x pages site)

pub asks_late : {A : Type 0} (result : Result A Stop) (o : Opening) (e : Entry) (old new : PageStore) (before now : State) → 512 * (opened o).master.redo ≤ e.lsn → AsksAtRest result (touches_of o (e ∷ [])) old new before now → AsksAtRest result (asked_of o (e ∷ [])) old new before now
asks_late result o e old new before now late asks = subst (λ (works : List CacheOp). AsksAtRest result works old new before now) (sym (asked_late o e late)) asks

-- One touch.

-- a touch that stopped, as one with a change
change_stops : {A : Type 0} (stop : Stop) (page : ℕ) (old new : PageStore) (before now : State) → 1 ≤ (rules old).groups → AsksAtRest {T = A} (Err stop) (one_touch page) old new before now → AsksAtRest {T = A} (Err stop) (one_change page) old new before now
change_stops stop page old new before now some asks = record { asks = change_stopped stop page old new before now some asks.asks; performs = change_rests_stopped some asks.performs }

-- a touch, and then a change of the page in front
change_asks : {A : Type 0} (x : A) (page : ℕ) (old mid new : PageStore) (before now : State) → 1 ≤ (rules old).groups → AsksAtRest {T = A} (Ok x) (one_touch page) old mid before now →
    cache_of new ≡ with_change (cache_of mid) → rules new ≡ rules mid → new.flash ≡ mid.flash → AsksAtRest {T = A} (Ok x) (one_change page) old new before now
change_asks x page old mid new before now some asks changed same flash = record {
  asks = record {
    machine = changed ∙ ap with_change asks.asks.machine ∙ sym (touch_then_change (rules old) page (cache_of old));
    reads = change_reads (rules old) page (cache_of old) before now some asks.asks.reads;
    rules_are = same ∙ asks.asks.rules_are;
    stages = change_stages (Ok x) page old new before now some (stages_between refl flash asks.asks.stages);
  };
  performs = change_rests some asks.asks.machine changed asks.performs;
}

-- What the next record asks for.

no_touch : (o : Opening) (e : Entry) → number_of e.rec ≡ None → touches_of o (e ∷ []) ≡ []
no_touch o e none =
    ap (λ (n : Option ℕ). filter_map (λ (m : Option ℕ). option_map (λ number. touch (page_of number) (nat_lt (version_at (opened o).pages (page_of number)).lsn e.lsn)) m) (n ∷ [])) none

touch_of : (o : Opening) (e : Entry) (page number : ℕ) (change : Bool) → number_of e.rec ≡ Some number → number / 32 ≡ page → nat_lt (version_at (opened o).pages page).lsn e.lsn ≡ change → touches_of o (e ∷ []) ≡ touch page change ∷ []
touch_of o e page number change own at is =
    ap (λ (n : Option ℕ). filter_map (λ (m : Option ℕ). option_map (λ number. touch (page_of number) (nat_lt (version_at (opened o).pages (page_of number)).lsn e.lsn)) m) (n ∷ [])) own
    ∙ ap (λ (k : ℕ). touch k (nat_lt (version_at (opened o).pages k).lsn e.lsn) ∷ []) at
    ∙ ap (λ (b : Bool). touch page b ∷ []) is

pub asks_no_page : {A : Type 0} (x : A) (o : Opening) (e : Entry) (pages : PageStore) (site : State) → number_of e.rec ≡ None → AsksAtRest {T = A} (Ok x) (touches_of o (e ∷ [])) pages pages site site
asks_no_page {A} x o e pages site none = subst (λ (works : List CacheOp). AsksAtRest {T = A} (Ok x) works pages pages site site) (sym (no_touch o e none)) (nothing_asked_of x pages site)

pub stops_in_touch : {A : Type 0} (stop : Stop) (o : Opening) (e : Entry) (page number : ℕ) (old new : PageStore) (before now : State) → number_of e.rec ≡ Some number → number / 32 ≡ page → 1 ≤ (rules old).groups →
    AsksAtRest {T = A} (Err stop) (one_touch page) old new before now → AsksAtRest {T = A} (Err stop) (touches_of o (e ∷ [])) old new before now
stops_in_touch {A} stop o e page number old new before now own at some asks = by (nat_lt (version_at (opened o).pages page).lsn e.lsn) refl
  where
    by : (change : Bool) → nat_lt (version_at (opened o).pages page).lsn e.lsn ≡ change → AsksAtRest {T = A} (Err stop) (touches_of o (e ∷ [])) old new before now
    by true is = subst (λ (works : List CacheOp). AsksAtRest {T = A} (Err stop) works old new before now) (sym (touch_of o e page number true own at is)) (change_stops stop page old new before now some asks)
    by false is = subst (λ (works : List CacheOp). AsksAtRest {T = A} (Err stop) works old new before now) (sym (touch_of o e page number false own at is)) asks

-- a page that knows of a record before it is redone had it in its version
older_version : (o : Opening) (front : List Entry) (page lsn next : ℕ) → last_lsn front ≤ next - 1 → IsFrom (opened o) front page lsn → next ≤ lsn → next ≤ (version_at (opened o).pages page).lsn
older_version o front page lsn next low (inl same) least = omega (arith, same, least)
older_version o front page lsn next low (inr less) least = omega (arith, low, less, least)

module _ (o : Opening) (log : LogStore) (mid : PageStore) (between : State) (front : List Entry) (h : IsRedoing o log mid between front)
    (e : Entry) (rest : List Entry) (split : log_from (kept_by o.newest) o.blocks ≡ front ++ e ∷ rest) (page number : ℕ) (own : number_of e.rec ≡ Some number) (at : number / 32 ≡ page)
    (old : PageStore) (before : State) {A : Type 0} (x : A) (asks : AsksAtRest {T = A} (Ok x) (one_touch page) old mid before between) where
  exists : page < o.sizes.pages
  exists = page_exists o log mid between front h e rest split page number own at

  pub asks_known : e.lsn ≤ lsn_of (current mid between.image page) → AsksAtRest {T = A} (Ok x) (touches_of o (e ∷ [])) old mid before between
  asks_known least =
      let below = last_below o log mid between front h e rest split in
      let known = older_version o front page (lsn_of (current mid between.image page)) e.lsn below (h.from page exists) least in
      subst (λ (works : List CacheOp). AsksAtRest {T = A} (Ok x) works old mid before between) (sym (touch_of o e page number false own at (le-ltb (version_at (opened o).pages page).lsn e.lsn known))) asks

  pub asks_redone : lsn_of (current mid between.image page) < e.lsn → (new : PageStore) → 1 ≤ (rules old).groups → cache_of new ≡ with_change (cache_of mid) → rules new ≡ rules mid → new.flash ≡ mid.flash →
      AsksAtRest {T = A} (Ok x) (touches_of o (e ∷ [])) old new before between
  asks_redone less new some changed same flash =
      let older : (version_at (opened o).pages page).lsn < e.lsn = omega (arith, (h.redone page exists).later, less) in
      subst (λ (works : List CacheOp). AsksAtRest {T = A} (Ok x) works old new before between) (sym (touch_of o e page number true own at (lt-ltb (version_at (opened o).pages page).lsn e.lsn older)))
      (change_asks x page old mid new before between some asks changed same flash)
