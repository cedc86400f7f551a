-- One call, by what its engine says of it.
use Rattle.std.proofs.lemmas.Grind.{common_steps}
use Rattle.database.proofs.Names.{◌≡◌, ◌≢◌, inl, ⊎_elim, ◌+◌, ◌≤◌, Bool, false, true≢false, List, [], ℕ, le_refl, refl, sym, subst, ◌∙◌, arith, Some, ◌||◌, if◌then◌else◌, Result, Ok, Err, IfOk, IfErr, Held, answered, has_stopped, meaning, Serves, Unanswered, Invariant, sizes_of, LeavesTable, LeavesEither, Matches, is_quit, State, Outcome, is_accepted, is_page_full, step, Command, Mark, Reply, Done, nothing_happens, ends_leaving, ends_no_memory, ends_ok, leaves_weaker, calls_nothing, calls_refused, err_as, of_error, LeavesOnly, Site, Snapshot, IsQuiet, Geometry, Stop, on_ok}
use Rattle.site.specs.declared.outside.Dev.{Dev}
use Rattle.site.specs.declared.outside.Stop.TheVariants.{Device, Memory, Worn}
use Rattle.site.specs.Work.{Calls}
use Rattle.record_model.specs.Touches.{CacheOp, command_touches}
use Rattle.image_meaning.specs.Moments.{LeavesTableUnder}
use Rattle.page_store.proofs.StagingLaws.{stages_none}
use Rattle.ring_machine.specs.Commands.{command_work}
use Rattle.redo_laws.specs.MachineSteps.{StepsMachine}
use Rattle.redo_laws.specs.Numbers.{SkipsNone}
use Rattle.redo_undo.specs.declared.store.TransactionStore.{TransactionStore}
use Rattle.ring_machine.proofs.Performing.{performs_nothing}
use Rattle.redo_laws.proofs.Asking.{asks_nothing}
use Rattle.redo_undo.proofs.NextUnits.{next_nothing, next_refused}
use Rattle.redo_undo.specs.Mirroring.{PerformsStore}
use Rattle.redo_undo.specs.StoreCalls.{KeepsNext}
use Rattle.engine.specs.declared.engine.Engine.{Engine}
use Rattle.engine.proofs.RingCounts.{count_nothing, count_refused, run_makes}
use Rattle.engine.specs.Calls.{Ends, KeepsEngine, KeepsUnread, CommandContract}
use Rattle.engine.specs.Numbers.{CountsOn, checkpoints_by}
use Rattle.engine.specs.LogReads.{log_reads_by}

-- the table of before is one of the two
early : (g : Geometry) (s after : State) (so_far : List ℕ) (snapshot : Snapshot) → LeavesTable g s.table s.commits so_far snapshot → LeavesEither g s after so_far snapshot
early g s after so_far snapshot left = record { told = left.told; stands = inl left.stands }

-- a command that leaves the table
pub leaves_table : {r : Result Reply Stop} {old new : Engine} {before now : Site} {s : State} {o : Outcome} {works : List CacheOp} {n : ℕ} → CommandContract r old new before now s o works (LeavesTable (sizes_of old.store) s.table s.commits before.told) n →
    CommandContract r old new before now s o works (LeavesEither (sizes_of old.store) s o.after before.told) n
leaves_table {old = old} {before = before} {now = now} {s = s} {o = o} said = record {
  reply = said.reply;
  asks = said.asks;
  does = record {
    after_fits = said.does.after_fits;
    ends = ends_leaving (leaves_weaker before now (LeavesTable (sizes_of old.store) s.table s.commits before.told) (LeavesEither (sizes_of old.store) s o.after before.told) (early (sizes_of old.store) s o.after before.told)) said.does.ends;
    numbers = said.does.numbers;
  };
}

-- no record of the log is read
pub unread : {r : Result Reply Stop} {old new : Engine} {before now : Site} (n : ℕ) → KeepsUnread r old new before now → now.log_reads ≤ before.log_reads + n
unread n keeps = let same = keeps.log_reads in omega (arith, same)

-- Calls that make none of the site: they answer, or memory is wanting.

module _ (r : Result Reply Stop) (memory : IfErr r (λ stop. stop ≡ Memory)) (engine : Engine) (site : Site) where
  no_device : (r : Result Reply Stop) → IfErr r (λ stop. stop ≡ Memory) → (d : Dev) → IfErr r (λ stop. (stop ≢ Device d) × (stop ≢ Worn d))
  no_device (Ok reply) memory d = tt
  no_device (Err stop) memory d = (λ is. (let never : Memory ≡ Device d = sym memory ∙ is in cc), λ is. (let never : Memory ≡ Worn d = sym memory ∙ is in cc))

  idle_calls : (r : Result Reply Stop) → IfErr r (λ stop. stop ≡ Memory) → Calls r site site
  idle_calls (Ok reply) memory = calls_nothing
  idle_calls (Err stop) memory = calls_refused {a = Done} (λ d. (no_device (Err stop) memory d).0) calls_nothing

  idle_next : (r : Result Reply Stop) → IfErr r (λ stop. stop ≡ Memory) → KeepsNext r engine.store engine.store site site
  idle_next (Ok reply) memory = next_nothing
  idle_next (Err stop) memory = next_refused {a = Done} (λ d. (no_device (Err stop) memory d).1) next_nothing

  pub idle_keeps : Invariant engine site → KeepsEngine r engine engine site site
  idle_keeps going = grind (arith, common_steps, idle_calls, on_ok, err_as, idle_next)

  pub idle_performs : PerformsStore r [] engine.store engine.store site site
  idle_performs = performs_nothing (λ m is. on_ok r _ is) (λ dev says. (of_error r (λ stop. stop ≢ Worn dev) (Worn dev) (err_as r _ (λ stop. stop ≢ Worn dev) (λ stop both. both.1) (no_device r memory dev)) says) refl)

  module _ (s : State) (going : Invariant engine site) (fits : Matches engine site s) where
    abbrev g : Geometry
    g = sizes_of engine.store

    nothing_left : IsQuiet site → LeavesOnly site site (LeavesEither g s s site.told)
    nothing_left quiet =
        leaves_weaker site site (LeavesTableUnder fits.newest g s.table s.commits site.told) (LeavesEither g s s site.told)
        (λ snapshot left. record { told = left.told; stands = inl (record { newest = fits.newest; stands = left.stands }) })
        (nothing_happens engine.store.log engine.store.pages site fits.newest fits.records s.table s.commits going.store.both.sizes fits.holds.both quiet)

    idle_ends : (r : Result Reply Stop) → IfErr r (λ stop. stop ≡ Memory) → Ends r g site site (LeavesEither g s s site.told)
    idle_ends (Ok reply) memory = ends_ok nothing_left
    idle_ends (Err stop) memory = ends_no_memory {a = Done} memory (λ quiet. quiet) (ends_ok nothing_left)

    idle_counts : (r : Result Reply Stop) → IsQuiet site → CountsOn r engine engine site site s s 0
    idle_counts (Ok reply) quiet = count_nothing reply engine site s s fits going quiet (le_refl s.made)
    idle_counts (Err stop) quiet = count_refused Done stop engine engine engine site site s s 0 (count_nothing {E = Stop} Done engine site s s fits going quiet (le_refl s.made))

    pub idle_contract : (answer : Reply) → IfOk r (λ reply. reply ≡ answer) →
        CommandContract r engine engine site site s (record { after = s; reply = answer }) [] (LeavesEither g s s site.told) 0
    idle_contract answer is = record {
      reply = is;
      asks = asks_nothing r engine.store.pages site site (λ d. refl) (stages_none (on_ok r _ refl) (le_refl _) refl);
      does = record { after_fits = on_ok r (Matches engine site s) fits; ends = idle_ends r memory; numbers = idle_counts r };
    }

-- A mark makes none of the site either, and leaves log and pages as they were.

abbrev none_where : {X : Type 0} → Bool → Bool → List X
none_where accepted full = if accepted then [] else (if full then [] else [])

none_asked : {X : Type 0} (accepted full : Bool) → none_where {X = X} accepted full ≡ []
none_asked x0 full = grind (arith, common_steps)

module _ (reply : Reply) (old new : Engine) (site : Site) (n : ℕ) (same : new.store ≡ old.store) where
  pub mark_keeps : Invariant new site → KeepsEngine (Ok reply) old new site site
  mark_keeps going = grind (arith, common_steps, calls_nothing, next_nothing)

  pub mark_performs : (s : State) → PerformsStore (Ok reply) (command_work s (Mark n)) old.store new.store site site
  mark_performs s = grind (arith, common_steps, none_asked, idle_performs)

  pub mark_contract : (s : State) → Invariant old site → Matches old site s → reply ≡ (step s (Mark n) []).reply → Matches new site (step s (Mark n) []).after →
      CommandContract (Ok reply) old new site site s (step s (Mark n) []) (command_touches s (Mark n)) (LeavesEither (sizes_of old.store) s (step s (Mark n) []).after site.told) 0
  mark_contract s going fits answers fits_after =
      let after = (step s (Mark n) []).after in
      record {
        reply = answers;
        asks = subst (λ (w : List CacheOp). StepsMachine {T = Reply} (Ok reply) w old.store.pages new.store.pages site site) (sym (none_asked (is_accepted s (Mark n)) (is_page_full s (Mark n))))
            (subst (λ (j : TransactionStore). StepsMachine {T = Reply} (Ok reply) [] old.store.pages j.pages site site) (sym same) (idle_contract (Ok reply) tt old site s going fits reply refl).asks);
        does = record {
          after_fits = fits_after;
          ends = ends_ok (λ quiet. leaves_weaker site site (LeavesEither (sizes_of old.store) s s site.told) (LeavesEither (sizes_of old.store) s after site.told) (λ snapshot left. record { told = left.told; stands = inl (⊎_elim (λ a. a) (λ a. a) left.stands) }) ((idle_contract (Ok reply) tt old site s going fits reply refl).does.any_moment quiet));
          numbers = λ quiet.
              let none = count_nothing {E = Stop} reply old site s after fits going quiet (run_makes s (Mark n)) in
              record { records = none.records; made = none.made; skips = subst (λ (j : TransactionStore). SkipsNone {T = Reply} {E = Stop} (Ok reply) (sizes_of old.store) old.store.log j.log site site none.records 0) (sym same) none.skips };
        };
      }

-- Calls of the database.

module _ (command : Command) (r : Result Reply Stop) (before after : Held) (goes_on : is_quit (Some command) ≡ false) (is_open : before.closed ≡ false) (closes : after.closed ≡ (before.closed || has_stopped r))
    (keeps : KeepsEngine r before.engine after.engine before.site after.site)
    (answers : (s : State) → Matches before.engine before.site s → CommandContract r before.engine after.engine before.site after.site s (meaning s command before.engine) (command_touches s command) (LeavesEither (sizes_of before.engine.store) s (meaning s command before.engine).after before.site.told) (checkpoints_by s command))
    (performs : (s : State) → Matches before.engine before.site s → PerformsStore r (command_work s command) before.engine.store after.engine.store before.site after.site)
    (log_reads : (s : State) → Matches before.engine before.site s → after.site.log_reads ≤ before.site.log_reads + log_reads_by s command) where
  -- an open database
  pub served : Serves command (answered r) before after
  served = grind (arith, common_steps, true≢false)

-- the same of an equal database and an equal answer
pub as_answered : {command : Command} {a : Result Reply Unanswered} {held before after : Held} (r : Result Reply Stop) → held ≡ before → a ≡ answered r → Serves command (answered r) held after → Serves command a before after
as_answered {command = command} {a = a} {held = held} {after = after} r view is serves =
    subst (λ (db : Held). Serves command a db after) view (subst (λ (x : Result Reply Unanswered). Serves command x held after) (sym is) serves)
