-- What single calls on log and pages make of the machine that mirrors them.
use Rattle.std.proofs.lemmas.Grind.{common_steps}
use Rattle.redo_undo.proofs.Names.{◌≡◌, ◌≢◌, ◌⊎◌, inl, inr, ℕ, ◌+◌, ◌*◌, ◌^◌, ◌<◌, ◌≤◌, Bool, true, false, nat_lt, List, [], ◌∷◌, ◌++◌, map, Some, refl, sym, ap, subst, ◌∙◌, arith, eqb-true, and_from, list_any, Result, Ok, Err, OnOk, IfOk, IfErr, IsErrOf, if◌then◌else◌, Frame, block_len, used_by, LogList, has_tail, end_of, LogStore, AreLogged, pushed_by_touch, cache_of, rules, pool_page, next_group, changed_front, with_change, pushes, IsStore, current, MayStop, PageStore, touch, flush, touched_next, Mirrors, touch_work, force_work, flush_work, never_past, log_past, flash_past, sealed_next, sealed_used, first_of_one, Machine, cached, logged, changed, apply_op, past_end, front_changed, pushed_by, Performs, Rules, PoolPage, Cache, touched, flushed, err_again, no_error, of_error, State, Image, Dev, Log, Flash, Disk, Stop, Device, Worn, Memory, lsn_of, is_unsealed, end_now, end_forced, forces}
use Rattle.std.proofs.Common.{nat_le, filter, lt-ltb, le-leb, eq-eqb, ltb-false}
use Rattle.ring_machine.specs.Tail.{Tail, sealed_if, waits}
use Rattle.redo_undo.proofs.PushedPages.{sealed_off, pushed_waits, none_waits}
use Rattle.log_store.specs.LogList as log_list
use Rattle.log_store.specs.Representation as log_store
use Rattle.page_store.specs.Representation as page_store

-- A tail that is sealed, or isn't.

-- a page waits for it then where its LSN isn't sealed then
pub waits_then : (sealing : Bool) (t : Tail) (log log' : LogStore) (content content' : List ℕ) (page : ℕ) → waits t page ≡ is_unsealed (end_now log) content → content' ≡ content → lsn_of content < 512 * (log.ring.hi + 1) →
    log'.ring.hi ≡ (if sealing then log.ring.hi + 1 else log.ring.hi) → waits (sealed_if sealing t) page ≡ is_unsealed (end_now log') content'
waits_then true t log log' content content' page is same less hi = grind (arith, sealed_off)
waits_then false t log log' content content' page is same less hi = grind (arith)

-- what the tail has then
pub used_where : (sealing : Bool) (list : LogList) → used_by (log_list.sealed_if sealing list).tail ≡ (if sealing then 2 else used_by list.tail)
used_where true list = refl
used_where false list = refl

-- no page has an LSN behind the tail
pub record IsBelow (log : LogStore) (pages : PageStore) (image : Image) : Type 0 where
  pub high : log.used ≤ block_len
  pub each : (page : ℕ) → page < pages.flash.geometry.pages → lsn_of (current pages image page) < end_of log

below_next : (log : LogStore) (pages : PageStore) (image : Image) → IsBelow log pages image → (page : ℕ) → page < pages.flash.geometry.pages → lsn_of (current pages image page) < 512 * (log.ring.hi + 1)
below_next log pages image below page exists = let less = below.each page exists in let high = below.high in omega (arith, less, high)

-- the numbers of the units that come next
pub record HasNumbersLeft (log : LogStore) (pages : PageStore) : Type 0 where
  pub blocks : log.ring.hi ≤ 2 ^ 40
  pub groups : next_group (cache_of pages) ≤ 2 ^ 40

pub numbers_left : {log : LogStore} {pages : PageStore} {at now : State} → log_store.Invariant log at → page_store.Invariant pages now → HasNumbersLeft log pages
numbers_left log pages = grind (arith)

-- The machine once the tail is sealed, where that is wanted, and the pages have what they had.
pub mirrors_then : (sealing : Bool) (log log' : LogStore) (pages pages' : PageStore) (old now : Image) (m : Machine) (c : Cache) → Mirrors log pages old m → c ≡ cache_of pages' → IsBelow log pages old → pages'.flash.geometry ≡ pages.flash.geometry →
    ((page : ℕ) → page < pages.flash.geometry.pages → current pages' now page ≡ current pages old page) → log'.ring.hi ≡ (if sealing then log.ring.hi + 1 else log.ring.hi) → log'.used ≡ (if sealing then 2 else log.used) →
    Mirrors log' pages' now (record m { cache = c; tail = sealed_if sealing m.tail })
mirrors_then sealing log log' pages pages' old now m c is same below sizes kept hi used = grind (arith, sealed_next, sealed_used, waits_then, below_next)

-- A touch.

-- what stops it
pub record TouchStops {T : Type 0} (result : Result T Stop) (log : LogStore) (pages : PageStore) (sealing pushing : Bool) : Type 0 where
  pub worn_log : IsErrOf result (Worn Log) → (sealing ≡ true) × (log.ring.hi ≡ 2 ^ 40)
  pub at_log_end : sealing ≡ true → log.ring.hi ≡ 2 ^ 40 → IsErrOf result (Worn Log) ⊎ IsErrOf result Memory
  pub worn_flash : IsErrOf result (Worn Flash) → (pushing ≡ true) × (pages.flash.ring.hi ≡ 2 ^ 40)
  pub stops : IfErr result (λ stop. MayStop stop)

module _ (log log' : LogStore) (pages pages' : PageStore) (before now : State) (page : ℕ) (own : IsStore pages) (ahead : AreLogged (end_forced log) pages.pool.frames) (below : IsBelow log pages before.image) (some : 1 ≤ (rules pages).groups) (left : HasNumbersLeft log pages)
    (counts : next_group (cache_of pages) ≡ pages.flash.ring.hi) where
  abbrev sealing : Bool
  sealing = forces log (pushed_by_touch pages page)

  -- as the log is sealed
  step : (m : Machine) → Mirrors log pages before.image m → apply_op (rules pages) (cached (touch page false)) m ≡ record m { cache = touched (rules pages) page false (cache_of pages); tail = sealed_if sealing m.tail }
  step m is =
      ap (λ (b : Bool). record m { cache = touched (rules pages) page false m.cache; tail = sealed_if b m.tail }) (pushed_waits log pages before.image m page own ahead is)
      ∙ ap (λ (c : Cache). record m { cache = touched (rules pages) page false c; tail = sealed_if sealing m.tail }) is.cache

  next_is : (m : Machine) → Mirrors log pages before.image m → (sealed_if sealing m.tail).next ≡ (if sealing then log.ring.hi + 1 else log.ring.hi)
  next_is m is = sealed_next sealing m.tail ∙ ap (λ (n : ℕ). if sealing then n + 1 else n) is.next

  group_is : next_group (touched (rules pages) page false (cache_of pages)) ≡ next_group (cache_of pages) + (if pushes (rules pages) page (cache_of pages) then 1 else 0)
  group_is = touched_next (rules pages) page false (cache_of pages) some

  abbrev after_touch : Machine → Machine
  after_touch m = record m { cache = touched (rules pages) page false (cache_of pages); tail = sealed_if sealing m.tail }

  stopped : {T : Type 0} (result : Result T Stop) → TouchStops result log pages sealing (pushes (rules pages) page (cache_of pages)) → (m : Machine) → Mirrors log pages before.image m → (dev : Dev) → IsErrOf result (Worn dev) → past_end (after_touch m) ≡ Some dev
  stopped result stops m is Log says = grind (arith, common_steps, log_past, next_is)
  stopped result stops m is Flash says = grind (arith, common_steps, flash_past, next_is, group_is, of_error)
  stopped result stops m is Disk says = grind (arith, common_steps, of_error)

  pub touch_performs : {T : Type 0} (result : Result T Stop) → TouchStops result log pages sealing (pushes (rules pages) page (cache_of pages)) → OnOk result (log'.ring.hi ≡ (if sealing then log.ring.hi + 1 else log.ring.hi)) → OnOk result (log'.used ≡ (if sealing then 2 else log.used)) →
      OnOk result (cache_of pages' ≡ touched (rules pages) page false (cache_of pages)) → OnOk result ((number : ℕ) → number < pages.flash.geometry.pages → current pages' now.image number ≡ current pages before.image number) → pages'.flash.geometry ≡ pages.flash.geometry → HasNumbersLeft log' pages' →
      Performs result (rules pages) (touch_work page) (Mirrors log pages before.image) (Mirrors log' pages' now.image)
  touch_performs (Err stop) stops next used machine kept sizes numbers = record {
    done = λ m is. tt;
    worn = λ m is dev says. first_of_one (rules pages) (cached (touch page false)) m ∙ ap past_end (step m is) ∙ stopped (Err stop) stops m is dev says;
  }
  touch_performs (Ok x) stops next used machine kept sizes numbers = record {
    done = λ m is. (
      first_of_one (rules pages) (cached (touch page false)) m ∙ ap past_end (step m is)
          ∙ never_past (after_touch m) (let most = numbers.blocks in omega (arith, next_is m is, next, most)) is.masters (let most = numbers.groups in omega (arith, ap next_group machine, most)),
      subst (Mirrors log' pages' now.image) (sym (step m is)) (mirrors_then sealing log log' pages pages' before.image now.image m (touched (rules pages) page false (cache_of pages)) is (sym machine) below sizes kept next used),
    );
    worn = λ m is dev says. absurd (no_error says);
  }

-- The log alone.

pub record LogStops {T : Type 0} (result : Result T Stop) (log : LogStore) (sealing : Bool) : Type 0 where
  pub worn_log : IsErrOf result (Worn Log) → (sealing ≡ true) × (log.ring.hi ≡ 2 ^ 40)
  pub stops : IfErr result (λ stop. (stop ≡ Device Log) ⊎ (stop ≡ Worn Log))

not_others : {T : Type 0} (result : Result T Stop) (dev : Dev) → dev ≢ Log → IfErr result (λ stop. (stop ≡ Device Log) ⊎ (stop ≡ Worn Log)) → IsErrOf result (Worn dev) → ⊥
not_others result dev other stops says = elim (of_error result (λ stop. (stop ≡ Device Log) ⊎ (stop ≡ Worn Log)) (Worn dev) stops says) [ inl device ↦ cc | inr worn ↦ other cc ]

pub log_stopped : {T : Type 0} (result : Result T Stop) (log : LogStore) (sealing : Bool) → LogStops result log sealing → (m : Machine) → m.tail.next ≡ (if sealing then log.ring.hi + 1 else log.ring.hi) → (dev : Dev) → IsErrOf result (Worn dev) → past_end m ≡ Some dev
log_stopped result log sealing stops m next Log says = grind (arith, log_past)
log_stopped result log sealing stops m next Flash says = grind (arith, not_others)
log_stopped result log sealing stops m next Disk says = grind (arith, not_others)

module _ (log log' : LogStore) (pages : PageStore) (before now : State) (below : IsBelow log pages before.image) where
  -- it is forced
  pub force_performs : {T : Type 0} (result : Result T Stop) → LogStops result log (has_tail log) → OnOk result (log'.ring.hi ≡ (if has_tail log then log.ring.hi + 1 else log.ring.hi)) → OnOk result (log'.used ≡ 2) → 2 ≤ log.used →
      ((number : ℕ) → current pages now.image number ≡ current pages before.image number) → HasNumbersLeft log' pages → Performs result (rules pages) force_work (Mirrors log pages before.image) (Mirrors log' pages now.image)
  force_performs result stops next used low kept numbers = grind (arith, step, nat_lt, next_is, sealed_next, ltb-false, first_of_one, log_stopped, never_past, mirrors_then, no_error)

  -- a record is logged, of so many octets
  pub logged_performs : (result : Result ℕ Stop) (octets : ℕ) → (nat_lt block_len (log.used + octets) ≡ true → 2 < log.used) → LogStops result log (nat_lt block_len (log.used + octets)) → OnOk result (log'.ring.hi ≡ (if nat_lt block_len (log.used + octets) then log.ring.hi + 1 else log.ring.hi)) →
      OnOk result (log'.used ≡ (if nat_lt block_len (log.used + octets) then 2 else log.used) + octets) → ((number : ℕ) → current pages now.image number ≡ current pages before.image number) → HasNumbersLeft log' pages →
      Performs result (rules pages) (logged octets ∷ []) (Mirrors log pages before.image) (Mirrors log' pages now.image)
  logged_performs result octets some stops next used kept numbers = grind (arith, nat_lt, lt-ltb, step, next_is, sealed_next, sealed_used, waits_then, below_next, first_of_one, log_stopped, never_past, no_error)

-- how many octets the tail has with the record
pub logged_used : (result : Result ℕ Stop) (sealing : Bool) (octets : ℕ) (log log' : LogStore) → OnOk result (log'.ring.hi ≡ (if sealing then log.ring.hi + 1 else log.ring.hi)) → IfOk result (λ lsn. lsn ≡ (if sealing then 512 * (log.ring.hi + 1) + 2 else end_of log)) →
    IfOk result (λ lsn. lsn + octets ≡ end_of log') → OnOk result (log'.used ≡ (if sealing then 2 else log.used) + octets)
logged_used (Err stop) sealing octets log log' next lsn end = tt
logged_used (Ok at) true octets log log' next lsn end = omega (arith, next, lsn, end)
logged_used (Ok at) false octets log log' next lsn end = omega (arith, next, lsn, end)

-- A record on the page in front, which is changed by it: the machine does as for one on no page, and the page waits.

front_same : (pool : List PoolPage) → front_changed pool ≡ changed_front pool
front_same [] = refl
front_same (front ∷ pool) = refl

module _ (log' : LogStore) (pages pages' : PageStore) (image : Image) (page lsn octets : ℕ) (changes : cache_of pages' ≡ with_change (cache_of pages)) (sizes : pages'.flash.geometry ≡ pages.flash.geometry)
    (own : lsn_of (current pages' image page) ≡ lsn) (others : (number : ℕ) → number ≢ page → current pages' image number ≡ current pages image number) (some : 0 < lsn) (last : 512 * log'.ring.hi ≤ lsn) where
  pub change_mirrors : (r : Rules) (m : Machine) → Mirrors log' pages image (apply_op r (logged octets) m) → Mirrors log' pages' image (apply_op r (changed octets page) m)
  change_mirrors r m is = grind (arith, common_steps, front_same, and_from, nat_lt, nat_le, lt-ltb, le-leb, eqb-true, eq-eqb)

  -- the same call, as the record's work and as that of the change
  pub change_performs : {A B : Type 0} {a : A} {b : B} {log : LogStore} {old : Image} {r : Rules} → Performs {T = A} (Ok a) r (logged octets ∷ []) (Mirrors log pages old) (Mirrors log' pages image) →
      Performs {T = B} (Ok b) r (changed octets page ∷ []) (Mirrors log pages old) (Mirrors log' pages' image)
  change_performs {r = r} one = grind (arith, common_steps, change_mirrors, no_error)

pub change_stopped_by : {A B : Type 0} {stop : Stop} {log log' other : LogStore} {pages pages' : PageStore} {old now image : Image} {octets page : ℕ} {r : Rules} → Performs {T = A} (Err stop) r (logged octets ∷ []) (Mirrors log pages old) (Mirrors log' pages now) →
    Performs {T = B} (Err stop) r (changed octets page ∷ []) (Mirrors log pages old) (Mirrors other pages' image)
change_stopped_by {B = B} {stop = stop} one = record { done = λ m is. tt; worn = λ m is dev says. one.worn m is dev (err_again stop (Worn dev) says) }

-- A flush behind a tail without records.

pub logged_now : (log : LogStore) (frames : List Frame) → log.used ≡ 2 → AreLogged (end_forced log) frames → AreLogged (end_now log) frames
logged_now log frames two ahead = grind (arith, nat_lt)

changed_pages : (frames : List Frame) → map (λ (p : PoolPage). p.page) (filter (λ (p : PoolPage). p.changed) (map pool_page frames)) ≡ map (λ (f : Frame). f.page) (filter (λ (f : Frame). f.changed) frames)
changed_pages [] = grind (arith)
changed_pages (frame ∷ frames) = grind (arith, (changed_pages frames))

module _ (log log' : LogStore) (pages pages' : PageStore) (before now : State) (own : IsStore pages) (ahead : AreLogged (end_now log) pages.pool.frames) (below : IsBelow log pages before.image) (left : HasNumbersLeft log pages) where
  flush_step : (m : Machine) → Mirrors log pages before.image m → apply_op (rules pages) (cached flush) m ≡ record m { cache = flushed (rules pages) (cache_of pages) }
  flush_step m is =
      ap (λ (c : Cache). record m { cache = flushed (rules pages) c; tail = sealed_if (list_any (waits m.tail) (pushed_by (rules pages) flush c)) m.tail }) is.cache
      ∙ ap (λ (b : Bool). record m { cache = flushed (rules pages) (cache_of pages); tail = sealed_if b m.tail }) (pages_of ∙ none_waits log pages before.image m own ahead is (λ f. f.changed))
    where
      pages_of : list_any (waits m.tail) (pushed_by (rules pages) flush (cache_of pages)) ≡ list_any (waits m.tail) (map (λ f. f.page) (filter (λ f. f.changed) pages.pool.frames))
      pages_of = ap (list_any (waits m.tail)) (changed_pages pages.pool.frames)

  pub flush_performs : {T : Type 0} (result : Result T Stop) → (IsErrOf result (Worn Log) → ⊥) → (IsErrOf result (Worn Flash) → 2 ^ 40 < next_group (flushed (rules pages) (cache_of pages))) → IfErr result (λ stop. MayStop stop) →
      OnOk result (log'.ring.hi ≡ log.ring.hi) → OnOk result (log'.used ≡ log.used) → OnOk result (cache_of pages' ≡ flushed (rules pages) (cache_of pages)) → OnOk result ((number : ℕ) → number < pages.flash.geometry.pages → current pages' now.image number ≡ current pages before.image number) →
      pages'.flash.geometry ≡ pages.flash.geometry → HasNumbersLeft log' pages' → Performs result (rules pages) flush_work (Mirrors log pages before.image) (Mirrors log' pages' now.image)
  flush_performs {T = T} (Err stop) no_log over stops next used machine kept sizes numbers = grind (arith, first_of_one, flush_step, flash_past, of_error)
  flush_performs (Ok x) no_log over stops next used machine kept sizes numbers = grind (arith, first_of_one, flush_step, never_past, mirrors_then, no_error)
