-- A restart as work of the machine of the rings: while it redoes, nothing is in the log's tail.
use Rattle.engine.proofs.Names.{◌≡◌, ℕ, ◌+◌, ◌*◌, ◌^◌, ◌<◌, ◌≤◌, ◌==◌, Bool, true, false, zero, suc, List, [], ◌∷◌, ◌++◌, map, replicate, reverse, length, Option, Some, None, refl, sym, ap, subst, ◌∙◌, arith, ltb-false, or_from, list_any, Result, Ok, Err, OnOk, if◌then◌else◌, frame_of, Master, cache_on, found_machine, machine_on, Opened, version_on, log_shape, master_shape, all_find, Entry, is_of, txn_of, number_of, before_of, pending, has_tail, LogStore, content_by, current, PageStore, Content, CacheOp, tail_blocks, blocks_to, resting, Mirrors, MirrorsStore, AsksAtRest, TransactionStore, performs_as, performs_by, performs_failed, performs_from, performs_with, Machine, RingOp, cached, logged, after_all, Performs, clr_work, undoing_one, undoing_work, undo_work, only_ends, hi_of, Rules, Site as State, Image, Geometry, Stop}
use Rattle.std.proofs.Common.{nat_lt}
use Rattle.std.proofs.lemmas.List.Folds.{list_any-append}
use Rattle.buffer_pool.specs.declared.frame.Frame.{Frame}
use Rattle.ring_machine.specs.Tail.{empty_at}
use Rattle.ring_machine.proofs.Ends.{saves_one, masters_stay, clr_saves_none}
use Rattle.write_ahead.specs.Forcing.{IsLogged, is_unsealed, end_now, end_forced}
use Rattle.page_store.specs.Caching.{cache_of, rules}
use Rattle.redo_laws.specs.Holding.{Invariant, Represents}
use Rattle.redo_laws.specs.Running.{settled}
use Rattle.redo_undo.proofs.PushedPages.{sealed_off}
use Rattle.engine.proofs.Recovers.{no_tail_still}

-- No page waits where the tail has no records.

pub nothing_waits : (log : LogStore) (pages : PageStore) (site : State) (newest : Option Master) (records : List Entry) (table : List Content) (commits : ℕ) → log.geometry ≡ pages.flash.geometry → Represents log pages site newest records (settled table commits) → has_tail log ≡ false → (page : ℕ) → page < pages.flash.geometry.pages →
    is_unsealed (end_now log) (current pages site.image page) ≡ false
nothing_waits log pages site newest records table commits sizes h none page exists = by (frame_of pages.pool.frames page) refl
  where
    same : end_forced log ≡ end_now log
    same = ap (λ (b : Bool). 512 * (log.ring.hi + (if b then 1 else 0))) none ∙ omega arith

    by : (o : Option Frame) → frame_of pages.pool.frames page ≡ o → is_unsealed (end_now log) (content_by o (version_on pages.flash.geometry site.image page)) ≡ false
    by (Some frame) found =
        let logged = all_find (λ (f : Frame). IsLogged (end_forced log) f.content) (λ (f : Frame). f.page == page) pages.pool.frames frame h.log_holds.ahead.pool found in
        sealed_off (end_now log) frame.content (λ some. (let below = logged.below some in omega (arith, below, same)))
    by None found =
        let logged = h.log_holds.ahead.versions.each page exists in
        let hi : log.ring.hi ≡ hi_of (log_shape pages.flash.geometry) site.image.log = h.log_holds.ready.blocks.hi ∙ ap (λ (g : Geometry). hi_of (log_shape g) site.image.log) sizes in
        sealed_off (end_now log) (version_on pages.flash.geometry site.image page) (λ some. (let below = logged.below some in omega (arith, below, hi)))

-- so the machine that rests mirrors log and pages
pub resting_mirrors : (log : LogStore) (pages : PageStore) (site : State) (newest : Option Master) (records : List Entry) (table : List Content) (commits : ℕ) → log.geometry ≡ pages.flash.geometry → Represents log pages site newest records (settled table commits) → has_tail log ≡ false → 2 ≤ log.used → (next masters : ℕ) →
    next ≡ log.ring.hi → masters ≤ 2 ^ 40 → Mirrors log pages site.image (resting next masters (cache_of pages))
resting_mirrors log pages site newest records table commits sizes h none low next masters is few = record {
  cache = refl;
  next = is;
  used = (let most : log.used ≤ 2 = ltb-false 2 log.used none in omega (arith, most, low));
  waiting = λ page exists. sym (nothing_waits log pages site newest records table commits sizes h none page exists);
  masters = few;
}

-- Redo and undo save no master unit.

touches_save_none : (works : List CacheOp) → list_any saves_one (map cached works) ≡ false
touches_save_none [] = refl
touches_save_none (work ∷ works) = touches_save_none works

ends_save_none : (n : ℕ) → list_any saves_one (replicate n (logged 9)) ≡ false
ends_save_none zero = refl
ends_save_none (suc n) = ends_save_none n

undoing_saves_none : (updates : List Entry) → list_any saves_one (undoing_work updates) ≡ false
undoing_saves_none [] = refl
undoing_saves_none (u ∷ earlier) =
    list_any-append saves_one (undoing_one u earlier) (undoing_work earlier)
    ∙ or_from (list_any saves_one (undoing_one u earlier)) (list_any saves_one (undoing_work earlier)) (one (list_any (is_of (txn_of u)) earlier)) (undoing_saves_none earlier)
  where
    one : (b : Bool) → list_any saves_one (clr_work u ++ (if b then [] else logged 9 ∷ [])) ≡ false
    one b = list_any-append saves_one (clr_work u) (if b then [] else logged 9 ∷ []) ∙ or_from (list_any saves_one (clr_work u)) (list_any saves_one (if b then [] else logged 9 ∷ [])) (clr_saves_none (before_of u.rec) (number_of u.rec)) (last b)
      where
        last : (b : Bool) → list_any saves_one (if b then [] else logged 9 ∷ []) ≡ false
        last true = refl
        last false = refl

pub restart_saves_none : (works : List CacheOp) (log : List Entry) → list_any saves_one (map cached works ++ undo_work log) ≡ false
restart_saves_none works log =
    list_any-append saves_one (map cached works) (undo_work log)
    ∙ or_from (list_any saves_one (map cached works)) (list_any saves_one (undo_work log)) (touches_save_none works)
    (list_any-append saves_one (replicate (length (only_ends log)) (logged 9)) (undoing_work (reverse (pending log)))
    ∙ or_from (list_any saves_one (replicate (length (only_ends log)) (logged 9))) (list_any saves_one (undoing_work (reverse (pending log)))) (ends_save_none (length (only_ends log))) (undoing_saves_none (reverse (pending log))))

-- what is done on log and pages from one machine on, as what is done on a store
pub store_from : {T : Type 0} {result : Result T Stop} {r : Rules} {works : List RingOp} {start : Machine} {log : LogStore} {pages : PageStore} {image : Image} (store : TransactionStore) → store.log ≡ log → store.pages ≡ pages → list_any saves_one works ≡ false → start.masters ≡ store.masters.hi →
    Performs result r works (λ m. m ≡ start) (Mirrors log pages image) → Performs result r works (λ m. m ≡ start) (MirrorsStore store image)
store_from {r = r} {works = works} {log = log} {pages = pages} {image = image} store log_is pages_is none masters performs =
    performs_with (λ m is. is)
    (λ m is both. record {
      both = subst (λ (l : LogStore). Mirrors l store.pages image (after_all r works m)) (sym log_is) (subst (λ (p : PageStore). Mirrors log p image (after_all r works m)) (sym pages_is) both);
      masters = masters_stay r works m none ∙ ap (λ (x : Machine). x.masters) is ∙ masters;
    }) performs

-- Redo, from what was opened on.

pub redo_performs : {T : Type 0} (result : Result T Stop) (opened : Opened) (log : LogStore) (pages : PageStore) (before now : State) (newest : Option Master) (records : List Entry) (table : List Content) (commits : ℕ) (works : List CacheOp) →
    Invariant opened.log opened.pages before → opened.log.used ≡ 2 → opened.masters.hi ≤ 2 ^ 40 → AsksAtRest result works opened.pages pages before now → OnOk result (Represents log pages now newest records (settled table commits)) → OnOk result (blocks_to log ≡ blocks_to opened.log) →
    OnOk result (opened.log.ring.hi ≤ log.ring.hi) → OnOk result (Invariant log pages now) → Performs result (rules opened.pages) (map cached works) (λ m. m ≡ found_machine opened) (Mirrors log pages now.image)
redo_performs (Err stop) opened log pages before now newest records table commits works going empty few asks holds blocks rises still = performs_failed (asks.performs.from opened.log.ring.hi opened.masters.hi going.log_going.usable.bounded few)
redo_performs (Ok x) opened log pages before now newest records table commits works going empty few asks holds blocks rises still =
    let tail = no_tail_still opened.log log empty blocks rises in
    let no_tail : tail_blocks (has_tail opened.log) ≡ 0 = ap tail_blocks (ap (nat_lt 2) empty) in
    let no_tail_now : tail_blocks (has_tail log) ≡ 0 = ap tail_blocks tail in
    let there = resting_mirrors log pages now newest records table commits still.sizes holds tail still.log_going.low opened.log.ring.hi opened.masters.hi (omega (arith, blocks, no_tail, no_tail_now)) few in
    performs_with (λ m is. is) (λ m is rests. subst (Mirrors log pages now.image) (sym rests) there) (asks.performs.from opened.log.ring.hi opened.masters.hi going.log_going.usable.bounded few)

-- What was opened is what stands on the devices.
pub found_on : (opened : Opened) (g : Geometry) (image : Image) → cache_of opened.pages ≡ cache_on g image → opened.log.ring.hi ≡ hi_of (log_shape g) image.log → opened.masters.hi ≡ hi_of master_shape image.log → found_machine opened ≡ machine_on g image
found_on opened g image queue next masters = λ i. record { cache = queue i; tail = empty_at (next i); masters = masters i }

pub performs_found : {T : Type 0} {result : Result T Stop} {r r' : Rules} {works works' : List RingOp} {start start' : Machine} {After : Machine → Type 0} → r ≡ r' → works ≡ works' → start ≡ start' → Performs result r works (λ m. m ≡ start) After → Performs result r' works' (λ m. m ≡ start') After
performs_found rules_are works_are starts performs = performs_by (sym rules_are) (performs_as (sym works_are) (performs_from (λ m is. is ∙ sym starts) performs))

-- the answer that a call gave
pub performs_of : {T : Type 0} {result given : Result T Stop} {r : Rules} {works : List RingOp} {Before After : Machine → Type 0} → result ≡ given → Performs result r works Before After → Performs given r works Before After
performs_of {r = r} {works = works} {Before = Before} {After = After} is performs = subst (λ x. Performs x r works Before After) is performs
