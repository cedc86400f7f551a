-- Calls on pages one after the other, each known by its record.
use Rattle.page_store.proofs.Names.{◌≡◌, ℕ, ◌+◌, Bool, true, false, ◌||◌, List, [], ◌++◌, sym, subst, ap, ◌∙◌, arith, or_left, or_right, AllByRecursion, Result, Ok, Err, OnOk, IfErr, IsErrOf, Pool, sum_joined, AreCleanGiven, sum_of, calls_by, IsWorn, reads_itself, Change, Reaches, ChangesAddUp, FrontsAddUp, IsReached, IsFrontOf, LeavesFront, AreRingsSoundUnder, LogList, sealed_if, has_tail, HasRoom, LogStore, AreSealed, LeavesSealed, AreLogged, MayWork, KeepsInvariant, Pushes, StopsAtEnd, Keeps, Stands, KeepsGiven, StandsGiven, CallsForUnits, AreReady, LeavesPages, LeavesRings, AreGiven, KeepsCurrent, Invariant, current, PageStore, unchanged_calm, in_sequence, leaves_weaker, stays_honest, no_error, err_always, ok_as, ok_always, calls_then, calls_failed, IsUnchanged, Leaves, LeavesOnly, State, Image, IsQuiet, snapshot_of, Calls, Geometry, Log, Flash, Stop, Worn, Foreign, IsSound, IsLogged, end_forced, forces, IsLogAtEnd, Forces}
use Rattle.log_store.proofs.SealLaws.{none_front}
use Rattle.page_store.proofs.Counting.{calls_none, calls_then as counts_then}
use Rattle.page_store.specs.Stopping.{MayStop}
use Rattle.page_store.proofs.Evictions.{same_pages, stays_pages, stays_sealed}
use Rattle.page_store.proofs.Bringing.{current_again}
use Rattle.page_store.proofs.Rounds.{sealed_again, more_sealed, one_more_pages, one_more_push}
use Rattle.page_store.proofs.Changing.{front_more}
use Rattle.page_store.proofs.Rings.{stays_rings}
use Rattle.page_store.proofs.NextUnits.{next_still, next_then, next_with, next_failed}
use Rattle.std.proofs.lemmas.Grind.{common_steps}

-- The same said otherwise.

pub pushes_as : {T : Type 0} {r : Result T Stop} {old new : LogStore} {pages pages' : PageStore} {before now : State} {a b : Bool} → a ≡ b → Pushes r old new pages pages' before now a → Pushes r old new pages pages' before now b
pushes_as {r = r} {old = old} {new = new} {pages = pages} {pages' = pages'} {before = before} {now = now} same = subst (λ (s : Bool). Pushes r old new pages pages' before now s) same

pub works_as : {T : Type 0} {r : Result T Stop} {old new : LogStore} {pages pages' : PageStore} {before now : State} {a b : Bool} → a ≡ b → KeepsInvariant r old new pages pages' before now a → KeepsInvariant r old new pages pages' before now b
works_as {r = r} {old = old} {new = new} {pages = pages} {pages' = pages'} {before = before} {now = now} same = subst (λ (s : Bool). KeepsInvariant r old new pages pages' before now s) same

pub stops_as : {T : Type 0} {r : Result T Stop} {log : LogStore} {pages : PageStore} {a b p q : Bool} → a ≡ b → p ≡ q → StopsAtEnd r log pages a p → StopsAtEnd r log pages b q
stops_as {r = r} {log = log} {pages = pages} {a = a} {q = q} same pushed is = subst (λ (s : Bool). StopsAtEnd r log pages s q) same (subst (λ (t : Bool). StopsAtEnd r log pages a t) pushed is)

pub keeps_as : {T : Type 0} {r : Result T Stop} {log : LogStore} {pages : PageStore} {before now : State} {list : LogList} {a b : Bool} {c d : List Change} → a ≡ b → c ≡ d → Keeps r log pages before now list a c → Keeps r log pages before now list b d
keeps_as {r = r} {log = log} {pages = pages} {before = before} {now = now} {list = list} {a = a} {d = d} same more keeps = grind (arith, common_steps)

pub stands_as : {old new : LogStore} {pages pages' : PageStore} {before now : State} {list : LogList} {a b : Bool} {c d : List Change} → a ≡ b → c ≡ d → Stands old new pages pages' before now list a c → Stands old new pages pages' before now list b d
stands_as {old = old} {new = new} {pages = pages} {pages' = pages'} {before = before} {now = now} {list = list} {a = a} {d = d} same more stands = grind (arith, common_steps)

-- Nothing is called.

pub stops_not : {T : Type 0} {x : T} {log : LogStore} {pages : PageStore} {sealing pushing : Bool} → sealing ≡ false → pushing ≡ false → StopsAtEnd {T = T} (Ok x) log pages sealing pushing
stops_not {T = T} {x = x} none kept = grind (arith, common_steps, no_error)

pub forces_still : {T : Type 0} (r : Result T Stop) {log : LogStore} {sealing : Bool} → OnOk r (sealing ≡ false) → (has_tail log ≡ true → HasRoom log) → Forces r log log sealing
forces_still r {log = log} none room = grind (arith, common_steps, ok_as, ok_always)

pub pushes_still : {T : Type 0} (r : Result T Stop) {log : LogStore} {pages pages' : PageStore} {site : State} {sealing : Bool} → Calls r site site →
    IfErr r (λ stop. MayStop stop) → (IsErrOf r (Worn Log) → ⊥) → (IsErrOf r (Worn Flash) → ⊥) → OnOk r (sealing ≡ false) → MayWork log pages site →
    Invariant pages' site → pages'.flash ≡ pages.flash → pages'.pool.size ≡ pages.pool.size → pages'.ended ≡ pages.ended →
    (AreLogged (end_forced log) pages.pool.frames → AreLogged (end_forced log) pages'.pool.frames) →
    Pushes r log log pages pages' site site sealing
pushes_still r calls stops no_log no_flash none may going flash size ended logged = grind (arith, common_steps, forces_still, next_still, ok_always)

pub keeps_still : {T : Type 0} {r : Result T Stop} {log : LogStore} {pages : PageStore} {site : State} {list : LogList} {sealing : Bool} {changes : List Change} → log.geometry ≡ pages.flash.geometry → AreReady pages log list site →
    (IsErrOf r (Worn Log) → ⊥) → (IsErrOf r (Worn Flash) → ⊥) → (IsErrOf r Foreign → ⊥) → Keeps r log pages site site list sealing changes
keeps_still {r = r} {log = log} {pages = pages} {site = site} {list = list} {sealing = sealing} {changes = changes} sizes ready log_worn worn readable = record {
  any_moment = stays_pages pages log (current pages site.image) sealing list site sizes ready;
  ahead_moment = λ quiet ahead. stays_sealed pages.flash.geometry site quiet ahead.versions;
  rings_moment = λ newest. stays_rings newest pages.flash.geometry site;
  front_moment = none_front pages.flash.geometry changes site;
  quiet = err_always r _;
  worn_log = λ is. absurd (log_worn is);
  worn = λ is. absurd (worn is);
  readable = readable;
}

pub keeps_nothing : {T : Type 0} {x : T} {log : LogStore} {pages : PageStore} {site : State} {list : LogList} {sealing : Bool} {changes : List Change} → log.geometry ≡ pages.flash.geometry → AreReady pages log list site → Keeps {T = T} (Ok x) log pages site site list sealing changes
keeps_nothing {T = T} {x = x} sizes ready = keeps_still sizes ready (no_error {T = T} {x = x} {e = Worn Log}) (no_error {T = T} {x = x} {e = Worn Flash}) (no_error {T = T} {x = x} {e = Foreign})

-- but in the pool
pub stands_still : {log : LogStore} {pages pages' : PageStore} {site : State} {list : LogList} {sealing : Bool} {changes : List Change} → log.geometry ≡ pages.flash.geometry → pages'.flash.geometry ≡ pages.flash.geometry → sealing ≡ false → changes ≡ [] →
    AreReady pages log list site → AreReady pages' log list site → KeepsCurrent pages site.image pages' site.image → (AreLogged (end_forced log) pages.pool.frames → AreLogged (end_forced log) pages'.pool.frames) →
    Stands log log pages pages' site site list sealing changes
stands_still {log = log} {pages = pages} {pages' = pages'} {site = site} {list = list} {sealing = sealing} sizes geometry none unchanged before ready current_kept logged = record {
  ready = subst (λ (b : Bool). AreReady pages' log (sealed_if b list) site) (sym none) ready;
  leaves = same_pages pages log (current pages site.image) sealing list site sizes before;
  current = current_kept;
  sealed = λ ahead. ahead.versions;
  ahead = λ ahead. record { pool = logged ahead.pool; versions = subst (λ (g : Geometry). AreSealed g site.image) (sym geometry) ahead.versions };
  rings = λ newest rings. rings;
  reaches = subst (λ (l : List Change). Reaches pages.flash.geometry l site.image site.image) (sym unchanged) (reads_itself pages.flash.geometry site.image);
  calls = omega (arith, ap (sum_of calls_by) unchanged);
  device_calls = λ quiet. calls_none pages.flash.geometry site;
}

-- A page is read behind a call that was Ok, or want of memory stops it.

pub forces_again : {A B : Type 0} {a : A} (r : Result B Stop) {old new : LogStore} {sealing : Bool} → Forces {T = A} (Ok a) old new sealing → Forces r old new sealing
forces_again r first = grind (arith, common_steps, ok_always)

pub keeps_read : {A B : Type 0} {a : A} {r : Result B Stop} {log : LogStore} {pages : PageStore} {before between now : State} {list : LogList} {sealing : Bool} {changes : List Change} → (IsQuiet before → IsQuiet between) → IsUnchanged between now →
    (IsErrOf r (Worn Log) → ⊥) → (IsErrOf r (Worn Flash) → ⊥) → (IsErrOf r Foreign → ⊥) → Keeps {T = A} (Ok a) log pages before between list sealing changes → Keeps r log pages before now list sealing changes
keeps_read {r = r} {pages = pages} {before = before} {between = between} {now = now} {list = list} {sealing = sealing} {changes = changes} still same log_worn worn readable first = record {
  any_moment = λ quiet. unchanged_calm before between now (Leaves (LeavesPages pages.flash.geometry (current pages before.image) sealing list before)) (first.any_moment quiet) same;
  ahead_moment = λ quiet ahead. unchanged_calm before between now (Leaves (LeavesSealed pages.flash.geometry)) (first.ahead_moment quiet ahead) same;
  rings_moment = λ newest quiet rings. unchanged_calm before between now (Leaves (LeavesRings newest pages.flash.geometry)) (first.rings_moment newest quiet rings) same;
  front_moment = λ quiet. unchanged_calm before between now (Leaves (IsReached pages.flash.geometry (IsFrontOf changes) before)) (first.front_moment quiet) same;
  quiet = λ quiet. err_always r _ (same.loose ∙ still quiet);
  worn_log = λ is. absurd (log_worn is);
  worn = λ is. absurd (worn is);
  readable = readable;
}

-- A push behind a call that was Ok. The log is forced by one of them at most.

pub forces_then : {A B : Type 0} {a : A} {r : Result B Stop} {old mid new : LogStore} {b f : Bool} → (b ≡ true → f ≡ false) → Forces {T = A} (Ok a) old mid b → Forces r mid new f → Forces r old new (b || f)
forces_then {r = r} {old = old} {mid = mid} {new = new} {b = b} {f = f} once first second = grind (arith, common_steps, ok_as)

pub pushes_then : {A B : Type 0} {a : A} {r : Result B Stop} {old mid new : LogStore} {pages between pages' : PageStore} {before middle now : State} {b f : Bool} → (b ≡ true → f ≡ false) →
    Pushes {T = A} (Ok a) old mid pages between before middle b → Pushes r mid new between pages' middle now f → Pushes r old new pages pages' before now (b || f)
pushes_then {before = before} {middle = middle} once first second = record {
  works = record {
    calls = calls_then first.works.calls second.works.calls;
    forces = forces_then once first.works.forces second.works.forces;
    going = second.works.going;
    log_going = second.works.log_going;
    geometry = second.works.geometry ∙ first.works.geometry;
    size = second.works.size ∙ first.works.size;
    log_reads = second.works.log_reads ∙ first.works.log_reads;
    stops = second.works.stops;
    next = λ honest. next_then first.works.forces.geometry first.works.geometry (first.works.next honest) (second.works.next (stays_honest before middle first.works.calls.preserves honest));
  };
  logged = λ all. second.logged (first.logged all);
  ended = second.ended ∙ first.ended;
  others = λ d other. second.others d other ∙ first.others d other;
}

-- a push, where the pool is another one before it, or behind it
pub pushes_with : {T : Type 0} {r : Result T Stop} {old new : LogStore} {pages between middle after : PageStore} {before now : State} {sealing : Bool} →
    Pushes r old new between middle before now sealing → pages.flash ≡ between.flash → after.flash ≡ middle.flash →
    Invariant after now → after.flash.geometry ≡ pages.flash.geometry → after.pool.size ≡ pages.pool.size → after.ended ≡ pages.ended →
    (AreLogged (end_forced old) pages.pool.frames → OnOk r (AreLogged (end_forced new) after.pool.frames)) → Pushes r old new pages after before now sealing
pushes_with push front behind going geometry size ended logged =
    let works = push.works in
    record {
      works = record {
        calls = works.calls;
        forces = works.forces;
        going = going;
        log_going = works.log_going;
        geometry = geometry;
        size = size;
        log_reads = works.log_reads;
        stops = works.stops;
        next = λ honest. next_with front behind (works.next honest);
      };
      logged = logged;
      ended = ended;
      others = push.others;
    }

-- an error says nothing of what is sealed
pub pushes_failed : {A B : Type 0} {stop : Stop} {old new : LogStore} {pages pages' : PageStore} {before now : State} {a b : Bool} → Pushes {T = A} (Err stop) old new pages pages' before now a → Pushes {T = B} (Err stop) old new pages pages' before now b
pushes_failed first = grind (arith, common_steps, calls_failed, next_failed)

pub keeps_then : {A B : Type 0} {a : A} {r : Result B Stop} {log log' : LogStore} {pages between : PageStore} {before middle now : State} {list : LogList} {b f : Bool} {c d : List Change} → FrontsAddUp → (b ≡ true → f ≡ false) →
    between.flash.geometry ≡ pages.flash.geometry → (IsQuiet before → IsQuiet middle) → Stands log log' pages between before middle list b c → Keeps {T = A} (Ok a) log pages before middle list b c →
    Keeps r log' between middle now (sealed_if b list) f d → Keeps r log pages before now list (b || f) (c ++ d)
keeps_then {pages = pages} {between = between} {before = before} {middle = middle} {now = now} {list = list} {b = b} {f = f} {c = c} {d = d} law once geometry still stands first second =
    let g = pages.flash.geometry in
    let given = current pages before.image in
    let given' = current between middle.image in
    record {
      any_moment = λ quiet. one_more_push g given given' (b || f) b f list before middle now (or_left b f) (or_right b f) once stands.current.each
          (leaves_weaker before middle (LeavesPages g given b list before) (LeavesPages g given (b || f) list before) (λ s. more_sealed g given b (b || f) list before s (or_left b f)) (first.any_moment quiet))
          (subst (λ (k : Geometry). LeavesOnly middle now (LeavesPages k given' f (sealed_if b list) middle)) geometry (second.any_moment (still quiet)));
      ahead_moment = λ quiet ahead. in_sequence before middle now (Leaves (LeavesSealed g)) (first.ahead_moment quiet ahead)
          (subst (λ (k : Geometry). LeavesOnly middle now (LeavesSealed k)) geometry (second.ahead_moment (still quiet) (stands.ahead ahead)));
      rings_moment = λ newest quiet rings. in_sequence before middle now (Leaves (LeavesRings newest g)) (first.rings_moment newest quiet rings)
          (subst (λ (k : Geometry). LeavesOnly middle now (LeavesRings newest k)) geometry
          (second.rings_moment newest (still quiet) (subst (λ (k : Geometry). AreRingsSoundUnder newest k middle.image) (sym geometry) (stands.rings newest rings))));
      front_moment = λ quiet. law g c d before middle now (first.front_moment quiet) stands.reaches stands.leaves.log.told (subst (λ (k : Geometry). LeavesFront k d middle now) geometry (second.front_moment (still quiet)));
      quiet = λ quiet. second.quiet (still quiet);
      worn_log = λ is. subst (λ (k : Geometry). IsLogAtEnd k now.image) geometry (second.worn_log is);
      worn = λ is. subst (λ (k : Geometry). IsWorn k now.image) geometry (second.worn is);
      readable = second.readable;
    }

pub stands_then : {log mid new : LogStore} {pages between pages' : PageStore} {before middle now : State} {list : LogList} {b f : Bool} {c d : List Change} → ChangesAddUp → (b ≡ true → f ≡ false) → between.flash.geometry ≡ pages.flash.geometry → (IsQuiet before → IsQuiet middle) →
    Stands log mid pages between before middle list b c → Stands mid new between pages' middle now (sealed_if b list) f d → Stands log new pages pages' before now list (b || f) (c ++ d)
stands_then {new = new} {pages = pages} {between = between} {pages' = pages'} {before = before} {middle = middle} {now = now} {list = list} {b = b} {f = f} {c = c} {d = d} law once geometry still first second =
    let g = pages.flash.geometry in
    let given = current pages before.image in
    let given' = current between middle.image in
    record {
      ready = subst (λ (l : LogList). AreReady pages' new l now) (sealed_again list b f once) second.ready;
      leaves = one_more_pages g given given' (b || f) b f list before middle (snapshot_of now) (or_left b f) (or_right b f) once first.current.each
          (more_sealed g given b (b || f) list before (snapshot_of middle) (or_left b f) first.leaves)
          (subst (λ (k : Geometry). LeavesPages k given' f (sealed_if b list) middle (snapshot_of now)) geometry second.leaves);
      current = current_again pages between pages' before.image middle.image now.image geometry first.current second.current;
      sealed = λ ahead. subst (λ (k : Geometry). AreSealed k now.image) geometry (second.sealed (first.ahead ahead));
      ahead = λ ahead. second.ahead (first.ahead ahead);
      rings = λ newest rings. subst (λ (k : Geometry). AreRingsSoundUnder newest k now.image) geometry (second.rings newest (subst (λ (k : Geometry). AreRingsSoundUnder newest k middle.image) (sym geometry) (first.rings newest rings)));
      reaches = law g c d before.image middle.image now.image first.reaches (subst (λ (k : Geometry). Reaches k d middle.image now.image) geometry second.reaches);
      calls = omega (arith, first.calls, second.calls, sum_joined calls_by c d);
      device_calls = λ quiet. counts_then g before middle now (first.device_calls quiet) (subst (λ (k : Geometry). CallsForUnits k middle now) geometry (second.device_calls (still quiet)));
    }

-- more may be sealed, and more changes may be made
pub keeps_more : {T : Type 0} {r : Result T Stop} {log : LogStore} {pages : PageStore} {before now : State} {list : LogList} {a b : Bool} {c d : List Change} (more : List Change) → (a ≡ true → b ≡ true) → d ≡ c ++ more →
    Keeps r log pages before now list a c → Keeps r log pages before now list b d
keeps_more {pages = pages} {before = before} {now = now} {list = list} {a = a} {b = b} {c = c} more sealed is first =
    let g = pages.flash.geometry in
    let given = current pages before.image in
    record {
      any_moment = λ quiet. leaves_weaker before now (LeavesPages g given a list before) (LeavesPages g given b list before) (λ s. more_sealed g given a b list before s sealed) (first.any_moment quiet);
      ahead_moment = first.ahead_moment;
      rings_moment = first.rings_moment;
      front_moment = λ quiet. subst (λ (l : List Change). LeavesFront g l before now) (sym is) (front_more g c more before now (first.front_moment quiet));
      quiet = first.quiet;
      worn_log = first.worn_log;
      worn = first.worn;
      readable = first.readable;
    }

-- A push of what a store has of its pages, by a pool that may be without them.

pub record AreItsOwn (log : LogStore) (store : PageStore) (numbers : List ℕ) (changed : List Bool) (contents : List (List ℕ)) (image : Image) : Type 0 where
  pub given : AreGiven (current store image) numbers contents
  pub clean : AreCleanGiven store.flash numbers changed contents image
  pub sound : AllByRecursion IsSound contents
  pub logged : AreLogged (end_forced log) store.pool.frames → AllByRecursion (IsLogged (end_forced log)) contents

pub keeps_given : {T : Type 0} {r : Result T Stop} {log : LogStore} {store : PageStore} {pool : Pool} {numbers : List ℕ} {changed : List Bool} {contents : List (List ℕ)} {before now : State} {list : LogList} {changes : List Change} →
    AreItsOwn log store numbers changed contents before.image → KeepsGiven r log (record store { pool = pool }) numbers changed contents before now list changes →
    Keeps r log store before now list (forces log contents) changes
keeps_given {store = store} {before = before} own push = grind (arith, common_steps)

pub stands_given : {log new : LogStore} {store between after : PageStore} {pool : Pool} {numbers : List ℕ} {changed : List Bool} {contents : List (List ℕ)} {before now : State} {list : LogList} {changes : List Change} →
    AreItsOwn log store numbers changed contents before.image → after.flash.geometry ≡ store.flash.geometry → AreReady after new (sealed_if (forces log contents) list) now → KeepsCurrent store before.image after now.image →
    (AreLogged (end_forced log) store.pool.frames → AreLogged (end_forced new) after.pool.frames) →
    StandsGiven log new (record store { pool = pool }) between numbers changed contents before now list changes → Stands log new store after before now list (forces log contents) changes
stands_given {store = store} {before = before} {now = now} own geometry ready current_kept logged push = record {
  ready = ready;
  leaves = push.leaves (current store before.image) own.given own.clean;
  current = current_kept;
  sealed = λ ahead. push.sealed ahead.versions (own.logged ahead.pool);
  ahead = λ ahead. record { pool = logged ahead.pool; versions = subst (λ (g : Geometry). AreSealed g now.image) (sym geometry) (push.sealed ahead.versions (own.logged ahead.pool)) };
  rings = λ newest rings. push.rings newest rings own.sound;
  reaches = push.reaches;
  calls = push.calls;
  device_calls = push.device_calls;
}
