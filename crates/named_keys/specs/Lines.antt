-- A line about a name: the calls that its probe asks for, one after the other, and what it is answered.
use Rattle.std.specs.Prelude.{◌≡◌, ℕ, ◌/◌, ◌<◌, ◌≤◌, Bool, true, false, List, [], ◌∷◌, length, count_by}
use Rattle.std.specs.Prelude.{Option, Some, None, option_map, Result, Ok, Err, if◌then◌else◌}
use Rattle.record_model.specs.declared.names.Job.{Job}
use Rattle.record_model.specs.declared.names.Job.TheVariants.{Put}
use Rattle.record_model.specs.declared.names.Ask.{Ask}
use Rattle.record_model.specs.declared.names.Ask.TheVariants.{Read, Write, End}
use Rattle.record_model.specs.declared.names.NameAnswer.{NameAnswer}
use Rattle.record_model.specs.declared.words.Command.{Command}
use Rattle.record_model.specs.declared.words.Command.TheVariants as command
use Rattle.record_model.specs.declared.words.Why.TheVariants.{TooLong}
use Rattle.record_model.specs.declared.words.Reply.{Reply}
use Rattle.record_model.specs.declared.words.Reply.TheVariants as reply
use Rattle.record_model.specs.State.{Content}
use Rattle.record_model.specs.Probes.{Probe, ask, begun, after_told, after_written}
use Rattle.database.specs.declared.unanswered.Unanswered.{Unanswered}
use Rattle.database.specs.declared.unanswered.Unanswered.TheVariants.{Closed}
use Rattle.database.specs.Held.{Held, records_of}
use Rattle.database.specs.Course.{Call, Follow}
use Rattle.named_keys.specs.declared.reply.NameReply.{NameReply}
use Rattle.named_keys.specs.declared.reply.NameReply.TheVariants.{Answer, Refused}

-- half of the records are buckets
abbrev pub buckets_of : Held → ℕ
buckets_of db = records_of db / 2

-- the command of a session that does what a probe asks for
abbrev pub command_for : ℕ → Ask → Option Command
command_for n (Read number) = Some (command.Read n number)
command_for n (Write number value) = Some (command.Write n number value)
command_for n (End reached) = None

-- what was read, and whether the write was made, by a reply: one that refuses says neither
abbrev pub content_in : Reply → Option Content
content_in (reply.Value value) = Some (Some value)
content_in reply.Nothing = Some None
content_in _ = None

abbrev pub is_done : Reply → Bool
is_done reply.Done = true
is_done _ = false

-- a probe that asked for this, when it is told so
abbrev pub told_by : Ask → Reply → Probe → Option Probe
told_by (Read number) told p = option_map (after_told p) (content_in told)
told_by (Write number value) told p = if is_done told then Some (after_written p) else None
told_by (End reached) told p = None

-- Behind a call: what isn't answered, or is refused, ends the line, and no call comes behind it.
abbrev pub GoesOn : (Probe → Type 0) → Option Probe → Reply → List Call → Result NameReply Unanswered → Type 0
GoesOn Rest (Some p) told later answer = Rest p
GoesOn Rest None told later answer = (later ≡ []) × (answer ≡ Ok (Refused told))

abbrev pub IsBehind : (Probe → Type 0) → Ask → Probe → Result Reply Unanswered → List Call → Result NameReply Unanswered
    → Type 0
IsBehind Rest asked p (Ok told) later answer = GoesOn Rest (told_by asked told p) told later answer
IsBehind Rest asked p (Err why) later answer = (later ≡ []) × (answer ≡ Err why)

-- These calls are what a probe asks for, each when it was told of those before it, and this is the line's answer.
abbrev pub IsNameLine : ℕ → Probe → List Call → Result NameReply Unanswered → Type 0
IsNameLine n p [] answer = (reached : NameAnswer) × (ask p ≡ End reached) × (answer ≡ Ok (Answer reached))
IsNameLine n p (call ∷ later) answer = (command_for n (ask p) ≡ Some call.command)
    × IsBehind (λ next. IsNameLine n next later answer) (ask p) p call.answer later answer

-- a read, and a write
abbrev pub is_read : Command → Bool
is_read (command.Read n number) = true
is_read _ = false

abbrev pub is_write : Command → Bool
is_write (command.Write n number value) = true
is_write _ = false

abbrev pub reads_in : List Call → ℕ
reads_in calls = count_by (λ call. is_read call.command) calls

abbrev pub writes_in : List Call → ℕ
writes_in calls = count_by (λ call. is_write call.command) calls

-- A line of a session by such a probe: no more reads than there are buckets, and one write at most.
pub record MakesLine (n : ℕ) (p : Probe) (answer : Result NameReply Unanswered) (before after : Held) : Type 0 where
  pub calls : List Call
  pub follow : Follow before calls after
  pub line : IsNameLine n p calls answer
  pub reads : reads_in calls ≤ buckets_of before
  pub writes : writes_in calls ≤ 1

-- What is done with a name: one that finds the database closed does nothing.
pub record ServesName (job : Job) (n : ℕ) (name : List ℕ) (answer : Result NameReply Unanswered)
    (before after : Held) : Type 0 where
  pub closed : before.closed ≡ true → (answer ≡ Err Closed) × (after ≡ before)
  pub answers : before.closed ≡ false → MakesLine n (begun job name (buckets_of before)) answer before after

-- A value that is too long is refused behind the test of the session, which a scan of no records makes.
abbrev pub refused_long : Result Reply Unanswered → Result NameReply Unanswered
refused_long (Ok (reply.Items items)) = Ok (Refused (reply.Refused TooLong))
refused_long (Ok told) = Ok (Refused told)
refused_long (Err why) = Err why

pub record RefusesLong (n : ℕ) (answer : Result NameReply Unanswered) (before after : Held) : Type 0 where
  pub call : Call
  pub follow : Follow before (call ∷ []) after
  pub asks : call.command ≡ command.Scan n 0 0
  pub refuses : answer ≡ refused_long call.answer

pub record ServesPut (n : ℕ) (name value : List ℕ) (answer : Result NameReply Unanswered)
    (before after : Held) : Type 0 where
  pub short : length value ≤ 100 → ServesName (Put value) n name answer before after
  pub long : 100 < length value → RefusesLong n answer before after
