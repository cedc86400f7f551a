-- Calls one after the other, each known by its record.
use Rattle.engine.proofs.Names.{◌≡◌, inl, inr, ◌+◌, ◌≤◌, List, [], ◌∷◌, ◌++◌, Bool, true, None, refl, sym, subst, ap, ◌∙◌, arith, ⊎_elim, ℕ, Result, Ok, Err, OnOk, IfOk, IsErrOf, if◌then◌else◌, Ends, KeepsEngine, KeepsUnread, CommandEffect, CommandContract, Stands, Invariant, sizes_of, LeavesTable, LeavesEither, checkpoints_by, CountsOn, AreLocked, full_for, tested, touches_by, write_by, Matches, IsRefusedWith, run, checkpointed_if, Engine, under_leaves_for, end_of, stages_none, MayStop, PageStore, Content, State, Write, table_with, Outcome, refusal, asks_for_checkpoint, fills_page, lacks_room, making, committed, CacheOp, flush, command_touches, Command, Reply, asks_nothing, asks_same, asks_then, asks_stopped, nothing_happens, ends_behind, ends_failed, ends_leaving, ends_no_memory, ends_ok, leaves_late, StepsMachine, checkpoint_works, next_then, next_failed, next_answered, next_nothing, next_refused, KeepsInvariant, Keeps, holds_now, leaves_weaker, stays_honest, fault_since, goes_in_sequence, calls_nothing, calls_then, calls_failed, calls_answered, calls_refused, Preserves, FaultRose, IsUnchanged, LeavesOnly, Site, Snapshot, IsQuiet, Calls, Geometry, Dev, Stop, Device, Worn, Memory, AreApart, IsTable, entry_of, Active}
use Rattle.std.specs.Prelude.{Option, IsTrue}
use Rattle.site.specs.Faults.{Faults, faults_in, after_work, WorkFaults}
use Rattle.txn_table.specs.Entries.{owed}
use Rattle.engine.proofs.Moments.{and_then}
use Rattle.engine.proofs.Asking.{has_group}
use Rattle.engine.proofs.RingCounts.{counts, count_failed, count_answered, count_refused, count_then, run_makes, count_nothing}
use Rattle.engine.proofs.Replies.{none_made, made_as_asked, step_behind, touches_behind, touched, way}
use Rattle.image_meaning.specs.Moments as moments

-- On every site.

-- where a call stops, an honest site is as it was
pub calls_stopped : {T : Type 0} {stop : Stop} {before now : Site} → Preserves before now → (IsTrue before.honest → IsUnchanged before now) → ((d : Dev) → IsErrOf {T = T} (Err stop) (Device d) → FaultRose d before now) → WorkFaults {T = T} (Err stop) before now → Calls {T = T} (Err stop) before now
calls_stopped goes same device faults = record { preserves = goes; left = λ honest. (same honest).left; stays_quiet = λ honest quiet. tt; device = device; faults = faults }

-- a call behind one that left an honest site as it was
pub calls_behind : {T : Type 0} {r : Result T Stop} {before between now : Site} → Preserves before between → (IsTrue before.honest → IsUnchanged before between) → faults_in between ≡ faults_in before → Calls r between now → Calls r before now
calls_behind {r = r} {before = before} {between = between} {now = now} goes same faults second = record {
  preserves = goes_in_sequence before between now goes second.preserves;
  left = λ honest. second.left (stays_honest before between goes honest) ∙ (same honest).left;
  stays_quiet = λ honest quiet. second.stays_quiet (stays_honest before between goes honest) ((same honest).loose ∙ quiet);
  device = λ d is. fault_since d before between now goes (second.device d is);
  faults = second.faults ∙ ap (λ (f : Faults). after_work r f) faults;
}

-- How a call ends on an honest site.

-- a call behind one that left the table
pub ends_then : {A B : Type 0} {a : A} {r : Result B Stop} {g g' : Geometry} {before between now : Site} {table : List Content} {commits : ℕ} → (IsQuiet before → IsQuiet between) → g' ≡ g →
    Ends {T = A} (Ok a) g before between (LeavesTable g table commits before.told) → Ends r g' between now (LeavesTable g' table commits between.told) → Ends r g before now (LeavesTable g table commits before.told)
ends_then {g = g} {g' = g'} {before = before} {between = between} {now = now} {table = table} {commits = commits} calm same first second =
    ends_behind calm same (λ quiet. and_then g g' before between now table commits same (first.any_moment quiet)) second

-- what the table of before stands for, and of a commit

pub early : (g : Geometry) (s after : State) (so_far : List ℕ) (snapshot : Snapshot) → LeavesTable g s.table s.commits so_far snapshot → LeavesEither g s after so_far snapshot
early g s after so_far snapshot q = record { told = q.told; stands = inl q.stands }

-- The database.

pub serves_of : {T : Type 0} {r : Result T Stop} {old new : Engine} {before now : Site} {n : ℕ} → KeepsInvariant r old.store new.store before now n → OnOk r (Invariant new now) → KeepsEngine r old new before now
serves_of works going = record { calls = works.calls; going = going; sizes = works.sizes; stops = works.stops; next = works.next }

-- the sessions stay as they were, and there is room for the records that it makes
pub serves_still : {T : Type 0} {a : T} {old new : Engine} {before now : Site} {n : ℕ} → Invariant old before → KeepsInvariant {T = T} (Ok a) old.store new.store before now n → new.ended ≡ old.ended → new.cap ≡ old.cap → new.active ≡ old.active →
    old.store.made + owed old.active + n ≤ old.cap → new.commits ≤ end_of new.store.log → AreLocked new.footprints new.locks → KeepsEngine {T = T} (Ok a) old new before now
serves_still going works ended cap active few commits locked =
    let owes = ap owed active in
    let made = works.made in
    let blocks = works.blocks in
    serves_of works (record {
      store = works.going;
      going = ended ∙ going.going;
      cap = ap (λ (k : ℕ). k + 1) cap ∙ going.cap ∙ sym (ap (λ (x : Geometry). x.blocks) works.sizes);
      table = subst IsTable (sym active) going.table;
      room = omega (arith, blocks, works.kept, owes, cap, few, going.store.blocks);
      since = λ m other at. let before = going.since m other (sym (ap (λ (xs : List Active). entry_of xs m) active) ∙ at) in omega (arith, before, blocks, made);
      bounded = omega (arith, made, owes, few, going.cap, going.store.both.pages_going.flash.limits.few_blocks);
      budget = omega (arith, made, owes, few, cap);
      commits = commits;
      lasts = λ m other at. let before = going.lasts m other (sym (ap (λ (xs : List Active). entry_of xs m) active) ∙ at) in (before.0, omega (arith, before.1, works.rises));
      differ = subst AreApart (sym active) going.differ;
      footprints = locked;
    })

-- and no record of the log is read
pub serves_then : {A B : Type 0} {a : A} {r : Result B Stop} {old mid new : Engine} {before between now : Site} → KeepsUnread {T = A} (Ok a) old mid before between → KeepsUnread r mid new between now → KeepsUnread r old new before now
serves_then {before = before} {between = between} first second = record {
  keeps = record {
    calls = calls_then first.calls second.calls;
    going = second.going;
    sizes = second.sizes ∙ first.sizes;
    stops = second.stops;
    next = λ honest. next_then first.sizes (first.next honest) (second.next (stays_honest before between first.calls.preserves honest));
  };
  log_reads = second.log_reads ∙ first.log_reads;
}

pub serves_failed : {A B : Type 0} {stop : Stop} {old new : Engine} {before now : Site} → KeepsUnread {T = A} (Err stop) old new before now → KeepsUnread {T = B} (Err stop) old new before now
serves_failed first = record { keeps = record { calls = calls_failed first.calls; going = tt; sizes = first.sizes; stops = first.stops; next = λ honest. next_failed (first.next honest) }; log_reads = first.log_reads }

-- and no call is lawful then
pub serves_ended : {A B : Type 0} {stop : Stop} {old new : Engine} {before now : Site} → KeepsUnread {T = A} (Err stop) old new before now → KeepsUnread {T = B} (Err stop) old (record new { ended = true }) before now
serves_ended first = record { keeps = record { calls = calls_failed first.calls; going = tt; sizes = first.sizes; stops = first.stops; next = λ honest. next_failed (first.next honest) }; log_reads = first.log_reads }

-- log and pages stop
pub serves_stopped : {A B : Type 0} {stop : Stop} {old new : Engine} {before now : Site} {n : ℕ} → KeepsInvariant {T = A} (Err stop) old.store new.store before now n → now.log_reads ≡ before.log_reads → KeepsUnread {T = B} (Err stop) old new before now
serves_stopped works read = record { keeps = record { calls = calls_failed works.calls; going = tt; sizes = works.sizes; stops = works.stops; next = λ honest. next_failed (works.next honest) }; log_reads = read }

pub serves_answered : {A B : Type 0} {a : A} {b : B} {old new : Engine} {before now : Site} → KeepsUnread {T = A} (Ok a) old new before now → KeepsUnread {T = B} (Ok b) old new before now
serves_answered first = record { keeps = record { calls = calls_answered first.calls; going = first.going; sizes = first.sizes; stops = tt; next = λ honest. next_answered (first.next honest) }; log_reads = first.log_reads }

pub serves_nothing : {T : Type 0} {x : T} {engine : Engine} {site : Site} → Invariant engine site → KeepsUnread {T = T} (Ok x) engine engine site site
serves_nothing going = record { keeps = record { calls = calls_nothing; going = going; sizes = refl; stops = tt; next = λ honest. next_nothing }; log_reads = refl }

-- what log and pages keep, as what the database does
pub does_of : {T : Type 0} {r : Result T Stop} {old new : Engine} {before now : Site} {s after : State} {P : Snapshot → Type 0} {n m : ℕ} → s.made + n ≤ after.made → OnOk r (Matches new now after) →
    Keeps r old.store new.store before now P n m → CommandEffect r old new before now s after P m
does_of {r = r} {old = old} {new = new} {before = before} {now = now} {s = s} {after = after} {n = n} {m = m} few fits keeps = record {
  after_fits = fits;
  ends = keeps.ends;
  numbers = λ quiet. counts r old new before now s after n m (keeps.numbers quiet) few;
}

pub does_ok : {T : Type 0} {x : T} {old new : Engine} {before now : Site} {s after : State} {P : Snapshot → Type 0} {m : ℕ} → Matches new now after → (IsQuiet before → LeavesOnly before now P) →
    (IsQuiet before → CountsOn {T = T} {E = Stop} (Ok x) old new before now s after m) → CommandEffect {T = T} (Ok x) old new before now s after P m
does_ok fits moments numbers = record { after_fits = fits; ends = ends_ok moments; numbers = numbers }

pub does_weaker : {T : Type 0} {r : Result T Stop} {old new : Engine} {before now : Site} {s after : State} {P R : Snapshot → Type 0} {m : ℕ} → ((x : Snapshot) → P x → R x) → CommandEffect r old new before now s after P m → CommandEffect r old new before now s after R m
does_weaker {before = before} {now = now} {P = P} {R = R} more first = record { after_fits = first.after_fits; ends = ends_leaving (leaves_weaker before now P R more) first.ends; numbers = first.numbers }

-- another value of its caller
pub does_answered : {A B : Type 0} {a : A} {b : B} {old new : Engine} {before now : Site} {s after : State} {P : Snapshot → Type 0} {m : ℕ} → CommandEffect {T = A} (Ok a) old new before now s after P m → CommandEffect {T = B} (Ok b) old new before now s after P m
does_answered {A = A} {B = B} {a = a} {b = b} {old = old} {new = new} {before = before} {now = now} {s = s} {after = after} {m = m} first =
    does_ok first.after_fits first.any_moment (λ quiet. count_answered {T = B} {A = A} a b old new before now s after m (first.numbers quiet))

-- the error of a call is the error of its caller, whatever that leaves in memory
pub does_failed : {A B : Type 0} {stop : Stop} {old new new' : Engine} {before now : Site} {s after after' : State} {P : Snapshot → Type 0} {m : ℕ} → after.made ≤ after'.made → CommandEffect {T = A} (Err stop) old new before now s after P m → CommandEffect {T = B} (Err stop) old new' before now s after' P m
does_failed {A = A} {B = B} {stop = stop} {old = old} {new = new} {new' = new'} {before = before} {now = now} {s = s} {after = after} {after' = after'} {m = m} few first = record {
  after_fits = tt;
  ends = ends_failed first.ends;
  numbers = λ quiet. count_failed {T = B} {A = A} stop old new new' before now s after after' m few (first.numbers quiet);
}

-- a call behind one that was Ok
pub does_then : {A B : Type 0} {a : A} {r : Result B Stop} {old mid new : Engine} {before between now : Site} {s u after : State} {P Q R : Snapshot → Type 0} {m m' k : ℕ} → IsTrue before.honest → m + m' ≡ k →
    ((x : Snapshot) → P x → R x) → (LeavesOnly before between P → (x : Snapshot) → Q x → R x) →
    KeepsUnread {T = A} (Ok a) old mid before between → CommandEffect {T = A} (Ok a) old mid before between s u P m → CommandEffect r mid new between now u after Q m' → CommandEffect r old new before now s after R k
does_then {a = a} {r = r} {old = old} {mid = mid} {new = new} {before = before} {between = between} {now = now} {s = s} {u = u} {after = after} {P = P} {Q = Q} {R = R} {m = m} {m' = m'} {k = k} honest sum early late serves first second = record {
  after_fits = second.after_fits;
  ends = ends_behind (serves.calls.stays_quiet honest) serves.sizes (λ quiet. leaves_late early late (first.any_moment quiet)) second.ends;
  numbers = λ quiet. count_then r a old mid new before between now s u after m m' k serves.sizes (first.numbers quiet) (second.numbers (serves.calls.stays_quiet honest quiet)) sum;
}

-- Commands.

-- what is carried out is what the model says
pub answered_as : (P : Outcome → Snapshot → Type 0) → {r : Result Reply Stop} {old new : Engine} {before now : Site} {s : State} {o known : Outcome} {works other : List CacheOp} {m : ℕ} {More : Type 0} → (o ≡ known) × ((works ≡ other) × More) →
    CommandEffect r old new before now s known.after (P known) m → IfOk r (λ reply. reply ≡ known.reply) → StepsMachine r other old.store.pages new.store.pages before now → CommandContract r old new before now s o works (P o) m
answered_as P {r = r} {old = old} {new = new} {before = before} {now = now} {s = s} {o = o} {known = known} {works = works} {other = other} {m = m} is does reply asks = record {
  reply = subst (λ (x : Outcome). IfOk r (λ (y : Reply). y ≡ x.reply)) (sym is.0) reply;
  asks = asks_same r works other old.store.pages new.store.pages before now is.1.0 asks;
  does = subst (λ (x : Outcome). CommandEffect r old new before now s x.after (P x) m) (sym is.0) does;
}

-- that leaves the table
pub answered : {r : Result Reply Stop} {old new : Engine} {before now : Site} {s : State} {o known : Outcome} {works other : List CacheOp} {P : Snapshot → Type 0} {m : ℕ} {More : Type 0} → (o ≡ known) × ((works ≡ other) × More) →
    CommandEffect r old new before now s known.after P m → IfOk r (λ reply. reply ≡ known.reply) → StepsMachine r other old.store.pages new.store.pages before now → CommandContract r old new before now s o works P m
answered {P = P} is does reply asks = answered_as (λ o. P) is does reply asks

-- nothing is asked
pub asks_rest : {T : Type 0} {x : T} {pages : PageStore} {site : Site} → StepsMachine {T = T} (Ok x) [] pages pages site site
asks_rest {T = T} {x = x} {pages = pages} {site = site} = asks_nothing {T = T} (Ok x) pages site site (λ dev. refl) (stages_none refl (omega arith) refl)

-- a command that is refused, or only answers: nothing is called
pub does_nothing : {T : Type 0} {x : T} {engine : Engine} {site : Site} {s : State} {P : Snapshot → Type 0} → Matches engine site s → Invariant engine site → (IsQuiet site → LeavesOnly site site P) → CommandEffect {T = T} (Ok x) engine engine site site s s P 0
does_nothing {T = T} {x = x} {engine = engine} {site = site} {s = s} fits going still = does_ok fits still (λ quiet. count_nothing x engine site s s fits going quiet (omega arith))

-- what stands already stands
pub still : {engine : Engine} {site : Site} {s : State} → (fits : Matches engine site s) → Invariant engine site → IsQuiet site → LeavesOnly site site (LeavesTable (sizes_of engine.store) s.table s.commits site.told)
still {engine = engine} {site = site} {s = s} fits going quiet =
    under_leaves_for fits.newest _ _ _ s.table s.commits _ (nothing_happens engine.store.log engine.store.pages site fits.newest fits.records s.table s.commits going.store.both.sizes fits.holds.both quiet)

-- a command that is refused
pub refused_as : (P : Outcome → Snapshot → Type 0) → {engine : Engine} {site : Site} {s : State} (command : Command) {r : Reply} → IsRefusedWith s command r → Matches engine site s → Invariant engine site →
    ((x : Snapshot) → LeavesTable (sizes_of engine.store) s.table s.commits site.told x → P (record { after = s; reply = r }) x) → CommandContract (Ok r) engine engine site site s (run s command) (command_touches s command) (P (run s command)) (checkpoints_by s command)
refused_as P {engine = engine} {site = site} {s = s} command {r = r} is fits going more =
    subst (λ (b : Bool). CommandContract (Ok r) engine engine site site s (run s command) (command_touches s command) (P (run s command)) (if b then 1 else 0)) (sym (none_made command is))
    (answered_as P is (does_weaker more (does_nothing fits going (still fits going))) refl asks_rest)

-- A command that no test refuses, behind the checkpoint that is made where it asks for one.
module _ {s : State} (command : Command) {asks : Bool} (known : asks ≡ asks_for_checkpoint s command) (passes : refusal s command ≡ None) (R : Outcome → Snapshot → Type 0) where
  pub first_then : {A : Type 0} {a : A} {r : Result Reply Stop} {old mid new : Engine} {before between now : Site} {P Q : Snapshot → Type 0} (lacks : Bool) → lacks_room (checkpointed_if asks s) command ≡ lacks → (filled : Option Reply) → fills_page (checkpointed_if asks s) command ≡ filled →
      IsTrue before.honest → ((x : Snapshot) → P x → R (way (checkpointed_if asks s) command lacks filled) x) → (LeavesOnly before between P → (x : Snapshot) → Q x → R (way (checkpointed_if asks s) command lacks filled) x) →
      KeepsUnread {T = A} (Ok a) old mid before between → CommandEffect {T = A} (Ok a) old mid before between s (checkpointed_if asks s) P (if asks then 1 else 0) →
      StepsMachine {T = A} (Ok a) (if asks then checkpoint_works else []) old.store.pages mid.store.pages before between →
      CommandEffect r mid new between now (checkpointed_if asks s) (way (checkpointed_if asks s) command lacks filled).after Q 0 → IfOk r (λ reply. reply ≡ (way (checkpointed_if asks s) command lacks filled).reply) → StepsMachine r (touched s command lacks filled) mid.store.pages new.store.pages between now →
      CommandContract r old new before now s (run s command) (command_touches s command) (R (run s command)) (checkpoints_by s command)
  first_then {a = a} {r = r} {old = old} {mid = mid} {new = new} {before = before} {between = between} {now = now} lacks is filled fills honest early late serves does asked second reply touches =
      subst (λ (b : Bool). CommandContract r old new before now s (run s command) (command_touches s command) (R (run s command)) (if b then 1 else 0)) (made_as_asked s command known passes)
      (answered_as R (step_behind s command known passes ∙ (λ i. way (checkpointed_if asks s) command (is i) (fills i)), (touches_behind s command known passes ∙ (λ i. (if asks then flush ∷ [] else []) ++ touched s command (is i) (fills i)), tt {0})) (does_then honest (omega arith) early late serves does second) reply
      (asks_then a r (if asks then checkpoint_works else []) (touched s command lacks filled) old.store.pages mid.store.pages new.store.pages before between now asked touches))

  -- that fails
  pub first_failed : {A : Type 0} {stop : Stop} {old mid : Engine} {before now : Site} {P : Snapshot → Type 0} → Invariant old before → ((x : Snapshot) → P x → R (run s command) x) →
      CommandEffect {T = A} (Err stop) old mid before now s (checkpointed_if asks s) P (if asks then 1 else 0) → StepsMachine {T = A} (Err stop) (if asks then checkpoint_works else []) old.store.pages mid.store.pages before now →
      CommandContract (Err stop) old mid before now s (run s command) (command_touches s command) (R (run s command)) (checkpoints_by s command)
  first_failed {A = A} {stop = stop} {old = old} {mid = mid} {before = before} {now = now} going early does asked =
      let nothing : run s command ≡ run s command = refl in
      subst (λ (b : Bool). CommandContract (Err stop) old mid before now s (run s command) (command_touches s command) (R (run s command)) (if b then 1 else 0)) (made_as_asked s command known passes)
      (answered_as R (nothing, (touches_behind s command known passes, tt {0})) (does_failed (run_makes s command) (does_weaker early does)) tt
      (asks_stopped {A = A} {B = Reply} stop (if asks then checkpoint_works else []) (touched s command (lacks_room (checkpointed_if asks s) command) (fills_page (checkpointed_if asks s) command)) old.store.pages mid.store.pages before now (has_group going) asked))

-- What a crash leaves of a call behind one that left the table.

pub late_table : {g g' : Geometry} {old mid : Site} {table : List Content} {commits : ℕ} → g' ≡ g → LeavesOnly old mid (LeavesTable g table commits old.told) → (x : Snapshot) → LeavesTable g' table commits mid.told x → LeavesTable g table commits old.told x
late_table {g = g} {old = old} {mid = mid} {table = table} {commits = commits} same begun x q = record {
  told = q.told ∙ (holds_now old mid (LeavesTable g table commits old.told) begun).told;
  stands = subst (λ (k : Geometry). Stands k x.image table commits) same q.stands;
}

pub late_either : {g g' : Geometry} {old mid : Site} {s u after : State} → u.table ≡ s.table → u.commits ≡ s.commits → g' ≡ g → LeavesOnly old mid (LeavesTable g s.table s.commits old.told) → (x : Snapshot) → LeavesEither g' u after mid.told x → LeavesEither g s after old.told x
late_either {g = g} {g' = g'} {old = old} {mid = mid} {s = s} {u = u} {after = after} table commits same begun x q = record {
  told = q.told ∙ (holds_now old mid (LeavesTable g s.table s.commits old.told) begun).told;
  stands = ⊎_elim
      (λ before. inl (subst (λ (k : Geometry). Stands k x.image s.table s.commits) same (subst (λ (n : ℕ). Stands g' x.image s.table n) commits (subst (λ (t : List Content). Stands g' x.image t u.commits) table before))))
      (λ done. inr (subst (λ (k : Geometry). Stands k x.image after.table after.commits) same done)) q.stands;
}

-- what a session writes, and what the test of its page gives
pub as_written : {r : Result Reply Stop} {old new : Engine} {before now : Site} {s : State} {P : Snapshot → Type 0} {m n k : ℕ} {x y : Content} (number : ℕ) → n ≡ k → x ≡ y →
    CommandContract r old new before now s (tested s (write_by n number x) (full_for s number x)) (touches_by s (write_by n number x) (full_for s number x)) P m → CommandContract r old new before now s (tested s (write_by k number y) (full_for s number y)) (touches_by s (write_by k number y) (full_for s number y)) P m
as_written {r = r} {old = old} {new = new} {before = before} {now = now} {s = s} {P = P} {m = m} {k = k} {x = x} number session is contract =
    subst (λ (v : Content). CommandContract r old new before now s (tested s (write_by k number v) (full_for s number v)) (touches_by s (write_by k number v) (full_for s number v)) P m) is
    (subst (λ (j : ℕ). CommandContract r old new before now s (tested s (write_by j number x) (full_for s number x)) (touches_by s (write_by j number x) (full_for s number x)) P m) session contract)

-- a command whose page is tested last does that
pub answered_tested : {r : Result Reply Stop} {old new : Engine} {before now : Site} {s : State} {o known : Outcome} {works other : List CacheOp} {P : Snapshot → Type 0} {m : ℕ} {More : Type 0} → (o ≡ known) × ((works ≡ other) × More) →
    CommandContract r old new before now s known other P m → CommandContract r old new before now s o works P m
answered_tested is contract = answered is contract.does contract.reply contract.asks

-- and no call is lawful where it failed
pub contract_ended : {stop : Stop} {old new : Engine} {before now : Site} {s : State} {o : Outcome} {works : List CacheOp} {P : Snapshot → Type 0} {m : ℕ} → CommandContract (Err stop) old new before now s o works P m → CommandContract (Err stop) old (record new { ended = true }) before now s o works P m
contract_ended contract = record { reply = tt; asks = contract.asks; does = does_failed (omega arith) contract.does }

-- Memory gives out behind a call that was Ok.

pub calls_no_memory : {A B : Type 0} {a : A} {stop : Stop} {before now : Site} → stop ≡ Memory → Calls {T = A} (Ok a) before now → Calls {T = B} (Err stop) before now
calls_no_memory {stop = stop} memory first = calls_refused {stop = stop} (λ d is. never (sym memory ∙ is)) first
  where
    never : {d : Dev} → Memory ≡ Device d → ⊥
    never is = cc

pub serves_no_memory : {A B : Type 0} {a : A} {stop : Stop} {old new : Engine} {before now : Site} → stop ≡ Memory → KeepsUnread {T = A} (Ok a) old new before now → KeepsUnread {T = B} (Err stop) old new before now
serves_no_memory memory first = record {
  keeps = record {
    calls = calls_no_memory memory first.calls;
    going = tt;
    sizes = first.sizes;
    stops = subst MayStop (sym memory) tt;
    next = λ honest. next_refused (λ d is. never (sym memory ∙ is)) (first.next honest);
  };
  log_reads = first.log_reads;
}
  where
    never : {d : Dev} → Memory ≡ Worn d → ⊥
    never is = cc

pub does_no_memory : {A B : Type 0} {a : A} {stop : Stop} {old new : Engine} {before now : Site} {s after after' : State} {P : Snapshot → Type 0} {m : ℕ} → stop ≡ Memory → IsTrue before.honest → after.made ≤ after'.made →
    KeepsUnread {T = A} (Ok a) old new before now → CommandEffect {T = A} (Ok a) old new before now s after P m → CommandEffect {T = B} (Err stop) old new before now s after' P m
does_no_memory {A = A} {B = B} {a = a} {stop = stop} {old = old} {new = new} {before = before} {now = now} {s = s} {after = after} {after' = after'} {m = m} memory honest few serves first = record {
  after_fits = tt;
  ends = ends_no_memory memory (serves.calls.stays_quiet honest) first.ends;
  numbers = λ quiet. count_failed {T = B} {A = B} stop old new new before now s after after' m few (count_refused {T = B} {A = A} a stop old new new before now s after m (first.numbers quiet));
}

-- Leaves of the tower.

-- a crash at the commit leaves the table of before, or the one with what was written
pub late_commit : (g g' : Geometry) (old mid : Site) (s : State) (number : ℕ) (after : Content) (writes : List Write) → g' ≡ g → table_with s.table writes ≡ table_with s.table ((number, after) ∷ []) → LeavesOnly old mid (LeavesTable g s.table s.commits old.told) →
    (snapshot : Snapshot) → moments.LeavesEitherFor g' s.table (table_with s.table writes) s.commits mid.told snapshot → LeavesEither g s (making 3 (committed s ((number, after) ∷ []))) old.told snapshot
late_commit g g' old mid s number after writes same are begun snapshot q = record {
  told = q.told ∙ (holds_now old mid (LeavesTable g s.table s.commits old.told) begun).told;
  stands = ⊎_elim (λ before. inl (subst (λ (x : Geometry). Stands x snapshot.image s.table s.commits) same before))
      (λ done. inr (subst (λ (x : Geometry). Stands x snapshot.image (table_with s.table ((number, after) ∷ [])) (s.commits + 1)) same (subst (λ (t : List Content). Stands g' snapshot.image t (s.commits + 1)) are done))) q.stands;
}
