-- What one call does.
use Rattle.std.specs.Prelude.{◌≡◌, ◌+◌, ◌≤◌, Bool, true, false, [], Result, Ok, Err, Some}
use Rattle.std.specs.Prelude.{if◌then◌else◌}
use Rattle.site.specs.declared.outside.Stop.{Stop}
use Rattle.record_model.specs.State.{State}
use Rattle.record_model.specs.Step.{Outcome, step}
use Rattle.record_model.specs.Run.{is_cache, is_quit}
use Rattle.record_model.specs.Touches.{command_touches}
use Rattle.record_model.specs.declared.words.Command.{Command}
use Rattle.record_model.specs.declared.words.Reply.{Reply}
use Rattle.ring_machine.specs.Commands.{command_work}
use Rattle.redo_undo.specs.Mirroring.{PerformsStore}
use Rattle.engine.specs.declared.engine.Engine.{Engine}
use Rattle.engine.specs.Invariant.{sizes_of}
use Rattle.engine.specs.Representation.{Matches}
use Rattle.engine.specs.Leaves.{LeavesEither}
use Rattle.engine.specs.Listings.{listing_of}
use Rattle.engine.specs.Calls.{KeepsEngine, CommandContract}
use Rattle.engine.specs.Numbers.{checkpoints_by}
use Rattle.engine.specs.LogReads.{log_reads_by}
use Rattle.database.specs.declared.unanswered.Unanswered.{Unanswered}
use Rattle.database.specs.declared.unanswered.Unanswered.TheVariants.{Closed, Stopped}
use Rattle.database.specs.Held.{Held}

-- the engine's answer, as the database's
abbrev pub answered : Result Reply Stop → Result Reply Unanswered
answered (Ok reply) = Ok reply
answered (Err stop) = Err (Stopped stop)

abbrev pub has_stopped : Result Reply Stop → Bool
has_stopped (Ok reply) = false
has_stopped (Err stop) = true

-- what a command is answered, and the state that it leaves: a listing is that of the engine's cache
abbrev pub meaning : State → Command → Engine → Outcome
meaning s command engine = step s command (if is_cache (Some command) then listing_of engine else [])

-- An open database lets its engine answer. A stop closes it.
pub record IsAnswered (command : Command) (answer : Result Reply Unanswered) (before after : Held) : Type 0 where
  pub goes_on : is_quit (Some command) ≡ false
  pub result : Result Reply Stop
  pub answer_is : answer ≡ answered result
  pub closes : after.closed ≡ has_stopped result
  -- of every site
  pub keeps : KeepsEngine result before.engine after.engine before.site after.site
  -- Of an honest one that the engine fits: the answer is the record model's, the state behind it is the one that the
  -- model leaves, and a crash meanwhile leaves the table before the call or the one behind it. No error comes but for
  -- its cause, and no more is asked of the cache and of the rings than the model asks.
  pub answers : (s : State) → Matches before.engine before.site s →
      CommandContract result before.engine after.engine before.site after.site s (meaning s command before.engine)
      (command_touches s command)
      (LeavesEither (sizes_of before.engine.store) s (meaning s command before.engine).after before.site.told)
      (checkpoints_by s command)
  pub performs : (s : State) → Matches before.engine before.site s →
      PerformsStore result (command_work s command) before.engine.store after.engine.store before.site after.site
  pub log_reads : (s : State) → Matches before.engine before.site s →
      after.site.log_reads ≤ before.site.log_reads + log_reads_by s command

-- A call: one that finds the database closed does nothing.
pub record Serves (command : Command) (answer : Result Reply Unanswered) (before after : Held) : Type 0 where
  pub closed : before.closed ≡ true → (answer ≡ Err Closed) × (after ≡ before)
  pub answers : before.closed ≡ false → IsAnswered command answer before after
