-- What carrying out a line says.
use Rattle.std.specs.Prelude.{◌≡◌, ◌≢◌, ◌⊎◌, ℕ, ◌+◌, ◌++◌, ◌≤◌, List, [], IsTrue, Result, Ok, Err, IfOk, IfErr, OnOk}
use Rattle.std.specs.Prelude.{IsErrOf, Some, ⊤}
use Rattle.site.specs.declared.outside.Dev.{Dev}
use Rattle.site.specs.declared.outside.Stop.{Stop}
use Rattle.site.specs.declared.outside.Stop.TheVariants.{Device, Worn}
use Rattle.site.specs.State.{State as Site, IsQuiet, Moment}
use Rattle.site.specs.Calls.{Preserves}
use Rattle.site.specs.Moments.{LeavesOnly}
use Rattle.record_model.specs.declared.words.CacheLine.{CacheLine}
use Rattle.record_model.specs.declared.words.Reply.{Reply}
use Rattle.record_model.specs.State.{State}
use Rattle.record_model.specs.Run.{Line}
use Rattle.record_model.specs.Step.{Outcome}
use Rattle.record_model.specs.Touches.{CacheOp, line_touches}
use Rattle.site.specs.declared.geometry.Geometry.{Geometry}
use Rattle.second_chance.specs.Machine.{after_works}
use Rattle.page_store.specs.declared.store.PageStore.{PageStore}
use Rattle.page_store.specs.Caching.{cache_of, rules}
use Rattle.page_store.specs.Staging.{HasQueueOn}
use Rattle.redo_laws.specs.MachineSteps.{ReadsFor}
use Rattle.redo_undo.specs.StoreCalls.{AreNext}
use Rattle.redo_undo.specs.declared.store.TransactionStore.{TransactionStore}
use Rattle.redo_undo.specs.Mirroring.{MirrorsStore, PerformsStore}
use Rattle.ring_machine.specs.Machine.{Machine, RingOp, first_worn}
use Rattle.ring_machine.specs.Commands.{line_work}
use Rattle.engine.specs.declared.engine.Engine.{Engine}
use Rattle.engine.specs.Representation.{Matches}
use Rattle.engine.specs.Invariant.{Invariant, sizes_of}
use Rattle.engine.specs.Leaves.{LeavesEither}
use Rattle.engine.specs.Listings.{listing_of}
use Rattle.engine.specs.Numbers.{CountsOn}
use Rattle.engine.specs.Paging.{HasStagedFrom, WritesFrom}
use Rattle.shell_text.specs.Texts.{reply_text}
use Rattle.front_end.specs.declared.halt.Halt.{Halt}
use Rattle.front_end.specs.declared.halt.Halt.TheVariants as halt
use Rattle.front_end.specs.Faults.{RunFaults}
use Rattle.front_end.specs.Tells.{HandsOneOf}
use Rattle.face.specs.Causes.{AnswerFailsBy}
use Rattle.face.specs.Run.{IsAsked, LeavesAnswer, line_checkpoints, line_log_reads, step}

-- what a call of the database answers, as work of a run
abbrev pub halted : {T : Type 0} → Result T Stop → Result T Halt
halted (Ok x) = Ok x
halted (Err stop) = Err (halt.Stop stop)

-- A line asks for this work, no more is read and written than it needs, and the log is read no more often than so.
pub record LineStepsMachine {T : Type 0} (result : Result T Halt) (works : List CacheOp) (times : ℕ)
    (old new : PageStore) (before now : Site) : Type 0 where
  pub machine : OnOk result (cache_of new ≡ after_works (rules old) works (cache_of old))
  pub reads : ReadsFor (rules old) works (cache_of old) before now
  pub log_reads : now.log_reads ≤ before.log_reads + times
  pub writes : HasQueueOn old before → IsQuiet before →
      WritesFrom old.flash.geometry (rules old) works (cache_of old) before now
  pub last : HasQueueOn old before → IsQuiet before →
      OnOk result (HasStagedFrom old.flash.geometry (rules old) works (cache_of old) before now)
  pub rules_are : rules new ≡ rules old

-- and this work of the machine of the rings
pub record LinePerforms {T : Type 0} (result : Result T Halt) (works : List RingOp) (old new : TransactionStore)
    (before now : Site) : Type 0 where
  pub done : OnOk result (PerformsStore {T = ⊤} (Ok tt) works old new before now)
  pub worn : (m : Machine) → MirrorsStore old before.image m → (dev : Dev) → IsErrOf result (halt.Stop (Worn dev))
      → first_worn (rules old.pages) works m ≡ Some dev

-- A line does what the model does on an honest site that the database fits in this state, and asks for its work.
-- Where no device failed, nothing is loose after an error either.
pub record DoesLine {T : Type 0} (result : Result T Halt) (s : State) (line : Line) (before after : Engine)
    (old new : Site) : Type 0 where
  pub fits : OnOk result (Matches after new (step s line []).after)
  pub asks : LineStepsMachine result (line_touches s line) (line_log_reads s line) before.store.pages
      after.store.pages old new
  pub performs : LinePerforms result (line_work s line) before.store after.store old new
  pub numbers : IsQuiet old →
      CountsOn result before after old new s (step s line []).after (line_checkpoints s line)
  pub quiet : IsQuiet old → IfErr result (λ h. ((d : Dev) → h ≢ halt.Stop (Device d)) → IsQuiet new)

-- A line is carried out on any site, whatever is told of it.
pub record CarriesOut {T : Type 0} (result : Result T Halt) (line : Line) (before after : Engine)
    (old new : Site) : Type 0 where
  pub does : (s : State) → Matches before old s → DoesLine result s line before after old new
  pub left : IsTrue old.honest → new.input ≡ old.input
  pub stays_quiet : IsTrue old.honest → IsQuiet old → OnOk result (IsQuiet new)
  pub going : OnOk result (Invariant after new)
  pub cause : IfErr result (λ h. AnswerFailsBy h before old new)
  pub next : IsTrue old.honest → AreNext before.store old → OnOk result (AreNext after.store new)
  pub preserves : Preserves old new
  pub sizes : sizes_of after.store ≡ sizes_of before.store
  pub faults : RunFaults result old new

-- The same where nothing is told: a crash at any moment leaves the table before the line or after it. The reply is the
-- model's.
pub record CarriesUntold (result : Result Reply Halt) (line : Line) (before after : Engine)
    (old new : Site) : Type 0 where
  pub course : CarriesOut result line before after old new
  pub open course use *
  pub reply : (s : State) (listing : List CacheLine) → IsAsked line (listing_of before) listing → Matches before old s
      → IfOk result (λ reply. reply ≡ (step s line listing).reply)
  pub any_moment : (s : State) → Matches before old s → IsQuiet old → LeavesOnly old new
      (LeavesEither (sizes_of before.store) s (step s line []).after old.told)

-- The reply of a line is told: a crash at any moment leaves the table before the line and nothing told of its reply, or
-- the table after it and some front of its reply.
pub record TellsAnswer {T : Type 0} (result : Result T Halt) (g : Geometry) (s : State) (o : Outcome)
    (old new : Site) : Type 0 where
  pub any_moment : LeavesOnly old new (LeavesAnswer g s o.after (reply_text o.reply) old.told)
  pub told : OnOk result (new.told ≡ old.told ++ reply_text o.reply)
  pub untold : IfErr result (λ h. h ≢ halt.Output → new.told ≡ old.told)

-- Within a tell the line is carried out, and the devices are as it has left them. One line of its reply, which has
-- these, is being told.
pub record TellsCarried (line : Line) (before after : Engine) (lines : List (List ℕ)) (old : Site) (moment : Moment)
    : Type 0 where
  pub told : HandsOneOf lines old.told moment
  pub reply : Reply
  pub mid : Site
  pub course : CarriesOut (Ok reply) line before after old mid
  pub image : moment.image ≡ mid.image

abbrev pub HandsReply : Line → Engine → Engine → List (List ℕ) → Site → Moment → Type 0
HandsReply line before after lines old moment =
    (moment.telling ≡ []) ⊎ TellsCarried line before after lines old moment
