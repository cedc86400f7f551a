-- The numbers of the rings' units, over the calls of the database.
use Rattle.engine.proofs.Names.{◌≡◌, ◌+◌, ◌≤◌, Bool, true, false, List, [], Option, None, Some, ap, subst, arith, ℕ, Result, Ok, Err, Master, Invariant, sizes_of, CountsOn, RestartsWithin, Matches, run, IsReady, Engine, Opened, log_shape, master_shape, Entry, owed, LogRecord, has_tail, LogStore, Content, State, refusal, outcome, fills_page, ready, lacks_room, Command, Reply, if_ok_one, none_now, hi_on, leaves_more, leaves_unchanged, skips_answered, skips_nothing, skips_on, then_skips, tail_blocks, blocks_to, HasNumbers, SkipsNone, hi_of, in_sequence, ok_as, IsUnchanged, Leaves, LeavesOnly, Site, Image, IsQuiet, Geometry, Stop}
use Rattle.record_model.proofs.StepLaws.{effect_makes}
use Rattle.engine.proofs.Replies.{way}
use Rattle.page_store.proofs.Counting.{calls_then, calls_unchanged}

-- Calls on log and pages, as calls of the database.

-- a call that makes no more records than the model counts
pub counts : {T E : Type 0} (r : Result T E) (old new : Engine) (before now : Site) (s after : State) (n m : ℕ) → SkipsNone r (sizes_of old.store) old.store.log new.store.log before now n m → s.made + n ≤ after.made → CountsOn r old new before now s after m
counts r old new before now s after n m first few = record { records = n; made = few; skips = first }

-- Calls of the database, one within the other.

-- another value of the caller
pub count_answered : {T E A F : Type 0} (x : A) (y : T) (old new : Engine) (before now : Site) (s after : State) (m : ℕ) → CountsOn {T = A} {E = F} (Ok x) old new before now s after m → CountsOn {T = T} {E = E} (Ok y) old new before now s after m
count_answered x y old new before now s after m first = record { records = first.records; made = first.made; skips = skips_answered x y (sizes_of old.store) old.store.log new.store.log before now first.records m first.skips }

-- the error of a call is the error of its caller, whatever that leaves in memory and the model counts more
pub count_failed : {T E A : Type 0} (e : E) (old new new' : Engine) (before now : Site) (s u after : State) (m : ℕ) → u.made ≤ after.made → CountsOn {T = A} {E = E} (Err e) old new before now s u m → CountsOn {T = T} {E = E} (Err e) old new' before now s after m
count_failed e old new new' before now s u after m few first = record {
  records = first.records;
  made = let made = first.made in omega (arith, made, few);
  skips = record { log = tt; any_moment = first.any_moment; device_calls = tt };
}

-- an error of the caller behind a call that was Ok
pub count_refused : {T E A F : Type 0} (x : A) (e : E) (old new new' : Engine) (before now : Site) (s after : State) (m : ℕ) → CountsOn {T = A} {E = F} (Ok x) old new before now s after m → CountsOn {T = T} {E = E} (Err e) old new' before now s after m
count_refused x e old new new' before now s after m first = record {
  records = first.records;
  made = first.made;
  skips = record { log = tt; any_moment = first.any_moment; device_calls = tt };
}

-- a call behind one that was Ok
pub count_then : {T E A B : Type 0} (r : Result T E) (x : A) (old mid new : Engine) (before middle now : Site) (s u after : State) (m m' k : ℕ) → sizes_of mid.store ≡ sizes_of old.store → CountsOn {T = A} {E = B} (Ok x) old mid before middle s u m → CountsOn r mid new middle now u after m'
    → m + m' ≡ k → CountsOn r old new before now s after k
count_then r x old mid new before middle now s u after m m' k same first second is = record {
  records = first.records + second.records;
  made = let some = first.made in let more = second.made in omega (arith, some, more);
  skips = then_skips r x (sizes_of old.store) old.store.log mid.store.log new.store.log before middle now first.records m second.records m' (first.records + second.records) k first.skips
      (skips_on r (sizes_of mid.store) (sizes_of old.store) mid.store.log new.store.log middle now second.records m' same second.skips) (omega arith) is;
}

-- Nothing is called.

-- the ring's next number is the one that stands there
next_there : (engine : Engine) (site : Site) (s : State) → Matches engine site s → Invariant engine site → engine.store.log.ring.hi ≡ hi_of (log_shape (sizes_of engine.store)) site.image.log
next_there engine site s fits going = hi_on engine.store.log.geometry (sizes_of engine.store) engine.store.log site.image going.store.both.sizes fits.holds.both.log_holds.ready.blocks.hi

pub count_nothing : {T E : Type 0} (x : T) (engine : Engine) (site : Site) (s after : State) → Matches engine site s → Invariant engine site → IsQuiet site → s.made ≤ after.made → CountsOn {T = T} {E = E} (Ok x) engine engine site site s after 0
count_nothing {E = E} x engine site s after fits going quiet few =
    counts (Ok x) engine engine site site s after 0 0 (skips_nothing {E = E} (Ok x) (sizes_of engine.store) engine.store.log site 0 (next_there engine site s fits going) quiet) (omega (arith, few))

-- A checkpoint comes first.

pub run_makes : (s : State) (command : Command) → s.made ≤ (run s command).after.made
run_makes s command = by (refusal s command)
  where
    either : (lacks : Bool) (filled : Option Reply) → s.made ≤ (way (ready s command) command lacks filled).after.made
    either true filled = omega arith
    either false (Some r) = omega arith
    either false None = effect_makes (ready s command) command

    by : (o : Option Reply) → s.made ≤ (outcome s command [] o).after.made
    by (Some r) = omega arith
    by None = either (lacks_room (ready s command) command) (fills_page (ready s command) command)

-- A restart.

-- where nothing of the log is unsealed, its blocks are those of the ring
pub opened_next : (opened : Opened) (site : Site) (newest : Option Master) (blocks : List (List LogRecord)) (table : List Content) (commits : ℕ) → IsReady opened site newest blocks table commits → opened.log.geometry ≡ opened.pages.flash.geometry → opened.log.used ≡ 2
    → blocks_to opened.log ≡ hi_of (log_shape opened.pages.flash.geometry) site.image.log
opened_next opened site newest blocks table commits h same empty =
    let hi = hi_on opened.log.geometry opened.pages.flash.geometry opened.log site.image same h.opened_is.ready.blocks.hi in
    let none : tail_blocks (has_tail opened.log) ≡ 0 = ap tail_blocks (none_now opened.log empty) in
    omega (arith, hi, none)

-- it stops
pub restart_failed : {T A : Type 0} (e : Stop) (f : T → LogStore) (g : Geometry) (records : List Entry) (old new : LogStore) (before now : Site) (n m : ℕ) → blocks_to old ≡ hi_of (log_shape g) before.image.log → n ≤ owed records → m ≤ 1
    → SkipsNone {T = A} {E = Stop} (Err e) g old new before now n m → RestartsWithin {T = T} (Err e) f g records before now
restart_failed e f g records old new before now n m is few one first =
    let blocks : blocks_to old + n ≤ hi_of (log_shape g) before.image.log + owed records = omega (arith, is, few) in
    record {
      log = tt;
      any_moment = leaves_more g before now _ (hi_of (log_shape g) before.image.log + owed records) (hi_of master_shape before.image.log + m) (hi_of master_shape before.image.log + 1) blocks (omega (arith, one)) first.any_moment;
      device_calls = tt;
    }

-- it is done
pub restart_done : {T A : Type 0} (x : A) (y : T) (f : T → LogStore) (g : Geometry) (records : List Entry) (old new : LogStore) (before now : Site) (n : ℕ) → blocks_to old ≡ hi_of (log_shape g) before.image.log → n ≤ owed records → f y ≡ new
    → SkipsNone {T = A} {E = Stop} (Ok x) g old new before now n 1 → RestartsWithin {T = T} (Ok y) f g records before now
restart_done x y f g records old new before now n is few last first = record {
  log = let more = first.log in let same = ap blocks_to last in omega (arith, more, is, few, same);
  any_moment = leaves_more g before now _ (hi_of (log_shape g) before.image.log + owed records) _ _ (omega (arith, is, few)) (omega arith) first.any_moment;
  device_calls = first.device_calls;
}

-- a restart within a call
pub restart_again : {T A : Type 0} (e : Stop) (f : A → LogStore) (h : T → LogStore) (g : Geometry) (records : List Entry) (before now : Site) → RestartsWithin {T = A} (Err e) f g records before now → RestartsWithin {T = T} (Err e) h g records before now
restart_again e f h g records before now first = record { log = tt; any_moment = first.any_moment; device_calls = tt }

pub restart_stopped : {T A : Type 0} (x : A) (e : Stop) (f : A → LogStore) (h : T → LogStore) (g : Geometry) (records : List Entry) (before now : Site) → RestartsWithin {T = A} (Ok x) f g records before now → RestartsWithin {T = T} (Err e) h g records before now
restart_stopped x e f h g records before now first = record { log = tt; any_moment = first.any_moment; device_calls = tt }

pub restart_answered : {T A : Type 0} (x : A) (y : T) (f : A → LogStore) (h : T → LogStore) (g : Geometry) (records : List Entry) (before now : Site) → h y ≡ f x → RestartsWithin {T = A} (Ok x) f g records before now → RestartsWithin {T = T} (Ok y) h g records before now
restart_answered x y f h g records before now same first = record {
  log = let more = first.log in let last = ap blocks_to same in omega (arith, more, last);
  any_moment = first.any_moment;
  device_calls = first.device_calls;
}

-- while only is read
reads_numbers : (g : Geometry) (records : List Entry) (before now : Site) → IsQuiet before → IsUnchanged before now → LeavesOnly before now (λ s. HasNumbers g (hi_of (log_shape g) before.image.log + owed records) (hi_of master_shape before.image.log + 1) s.image)
reads_numbers g records before now quiet same = leaves_unchanged before now (λ s. HasNumbers g (hi_of (log_shape g) before.image.log + owed records) (hi_of master_shape before.image.log + 1) s.image) quiet same (record { blocks = omega arith; masters = omega arith })

-- it stops there
pub restart_unmoved : {T : Type 0} (e : Stop) (f : T → LogStore) (g : Geometry) (records : List Entry) (before now : Site) → IsQuiet before → IsUnchanged before now → RestartsWithin {T = T} (Err e) f g records before now
restart_unmoved e f g records before now quiet same = record { log = tt; any_moment = reads_numbers g records before now quiet same; device_calls = tt }

-- it goes on
pub restart_behind : {T : Type 0} (r : Result T Stop) (f : T → LogStore) (g g' : Geometry) (records : List Entry) (before middle now : Site) → g ≡ g' → IsQuiet before → IsUnchanged before middle → RestartsWithin r f g records middle now → RestartsWithin r f g' records before now
restart_behind r f g g' records before middle now sizes quiet same first =
    let all : RestartsWithin r f g' records middle now = subst (λ (k : Geometry). RestartsWithin r f k records middle now) sizes first in
    let blocks : hi_of (log_shape g') middle.image.log ≡ hi_of (log_shape g') before.image.log = ap (λ (i : Image). hi_of (log_shape g') i.log) same.image in
    let masters : hi_of master_shape middle.image.log ≡ hi_of master_shape before.image.log = ap (λ (i : Image). hi_of master_shape i.log) same.image in
    record {
      log = if_ok_one r _ _ (λ x more. omega (arith, more, blocks)) all.log;
      any_moment = in_sequence before middle now (Leaves (λ s. HasNumbers g' (hi_of (log_shape g') before.image.log + owed records) (hi_of master_shape before.image.log + 1) s.image)) (reads_numbers g' records before middle quiet same)
          (leaves_more g' middle now _ (hi_of (log_shape g') before.image.log + owed records) _ (hi_of master_shape before.image.log + 1) (omega (arith, blocks)) (omega (arith, masters)) all.any_moment);
      device_calls = ok_as r _ _ (λ more. calls_then g' before middle now (calls_unchanged g' before middle same) more) all.device_calls;
    }
