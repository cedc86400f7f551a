-- What the calls of a line say to one another.
use Rattle.std.specs.Prelude.{◌≡◌, ℕ, ◌<◌, List, [], ◌∷◌, ◌++◌, Option, Some, None, Result, Ok, Err}
use Rattle.record_model.specs.declared.words.Reply.{Reply}
use Rattle.record_model.specs.Probes.{Probe, ask}
use Rattle.name_table.specs.Probing.{IsRead}
use Rattle.database.specs.declared.unanswered.Unanswered.{Unanswered}
use Rattle.database.specs.Held.{Held}
use Rattle.database.specs.Course.{Call, Follow}
use Rattle.named_keys.specs.declared.reply.NameReply.{NameReply}
use Rattle.named_keys.specs.Lines.{IsNameLine, command_for, told_by}

-- a probe that asks for a read was told fewer values than there are buckets
abbrev pub IsGoing : Probe → Type 0
IsGoing p = IsRead (ask p) → p.told < p.buckets

-- all calls of a line
pub record LineOf (n : ℕ) (p : Probe) (answer : Result NameReply Unanswered) (before after : Held) : Type 0 where
  pub calls : List Call
  pub follow : Follow before calls after
  pub line : IsNameLine n p calls answer

-- one of them, of which the probe was told
pub record Tells (n : ℕ) (p next : Probe) (before after : Held) : Type 0 where
  pub call : Call
  pub follow : Follow before (call ∷ []) after
  pub asks : command_for n (ask p) ≡ Some call.command
  pub reply : Reply
  pub answers : call.answer ≡ Ok reply
  pub told : told_by (ask p) reply p ≡ Some next

-- what is done for a probe: a call, or what ends the line
abbrev pub Step : ℕ → Probe → Probe → Result (Option NameReply) Unanswered → Held → Held → Type 0
Step n p next (Ok None) before after = Tells n p next before after
Step n p next (Ok (Some reply)) before after = LineOf n p (Ok reply) before after
Step n p next (Err why) before after = LineOf n p (Err why) before after

-- those up to now, which leave this probe
pub record LineSoFar (n : ℕ) (first p : Probe) (before now : Held) : Type 0 where
  pub calls : List Call
  pub follow : Follow before calls now
  pub rest : (later : List Call) (answer : Result NameReply Unanswered) → IsNameLine n p later answer →
      IsNameLine n first (calls ++ later) answer
  pub going : IsGoing p
