-- The calls of a line, put together.
use Rattle.std.proofs.Common.{◌≡◌, ℕ, ◌-◌, ◌/◌, ◌≤◌, length, Bool, true, false, List, [], ◌∷◌, ◌++◌, Option, Some, None, refl, sym, ap, ◌∙◌, subst, arith}
use Rattle.std.proofs.lemmas.Grind.{common_steps}
use Rattle.std.specs.Prelude.{Result, Ok, Err, if◌then◌else◌, option_map}
use Rattle.record_model.specs.declared.names.Ask.{Ask}
use Rattle.record_model.specs.declared.names.Ask.TheVariants.{Read, Write}
use Rattle.record_model.specs.declared.names.Job.{Job}
use Rattle.record_model.specs.declared.names.Job.TheVariants.{Put}
use Rattle.record_model.specs.declared.words.Command.{Command}
use Rattle.record_model.specs.declared.words.Command.TheVariants as command
use Rattle.record_model.specs.declared.words.Item.{Item}
use Rattle.record_model.specs.declared.words.Reply.{Reply}
use Rattle.record_model.specs.declared.words.Reply.TheVariants as reply
use Rattle.record_model.specs.State.{Content}
use Rattle.record_model.specs.Probes.{Probe, after_told, after_written, ask, begun}
use Rattle.database.specs.declared.unanswered.Unanswered.{Unanswered}
use Rattle.database.specs.declared.unanswered.Unanswered.TheVariants.{Closed}
use Rattle.database.specs.Held.{Held, records_of}
use Rattle.database.specs.Serving.{Serves}
use Rattle.database.specs.Course.{Call}
use Rattle.database.proofs.Following.{one_call, calls_then}
use Rattle.named_keys.specs.declared.reply.NameReply.{NameReply}
use Rattle.named_keys.specs.declared.reply.NameReply.TheVariants.{Refused}
use Rattle.named_keys.specs.Lines.{IsNameLine, GoesOn, IsBehind, MakesLine, RefusesLong, ServesName, ServesPut, buckets_of, command_for, content_in, is_done, reads_in, refused_long, told_by}
use Rattle.named_keys.specs.Going.{IsGoing, LineOf, LineSoFar, Tells}
use Rattle.named_keys.proofs.Going.{few_calls}

-- One call, by what the database says of it.

module _ {c : Command} {answer : Result Reply Unanswered} {before after : Held} (serves : Serves c answer before after) (n : ℕ) (p : Probe) (asks : command_for n (ask p) ≡ Some c) where
  abbrev pub call_of : Call
  call_of = record { command = c; answer = answer; before = before; after = after }

  pub tells : (told : Reply) (next : Probe) → answer ≡ Ok told → told_by (ask p) told p ≡ Some next → Tells n p next before after
  tells told next answers is = record { call = call_of; follow = one_call c answer before after serves; asks = asks; reply = told; answers = answers; told = is }

  ends_with : (line : Result NameReply Unanswered) → IsBehind (λ next. IsNameLine n next [] line) (ask p) p answer [] line → LineOf n p line before after
  ends_with line is = record { calls = call_of ∷ []; follow = one_call c answer before after serves; line = (asks, is) }

  pub refused : (told : Reply) → answer ≡ Ok told → told_by (ask p) told p ≡ None → LineOf n p (Ok (Refused told)) before after
  refused told answers is = ends_with (Ok (Refused told)) (subst (λ (r : Result Reply Unanswered). IsBehind (λ next. IsNameLine n next [] (Ok (Refused told))) (ask p) p r [] (Ok (Refused told))) (sym answers)
      (subst (λ (o : Option Probe). GoesOn (λ next. IsNameLine n next [] (Ok (Refused told))) o told [] (Ok (Refused told))) (sym is) (refl, refl)))

  pub unanswered : (why : Unanswered) → answer ≡ Err why → LineOf n p (Err why) before after
  unanswered why answers = ends_with (Err why) (subst (λ (r : Result Reply Unanswered). IsBehind (λ next. IsNameLine n next [] (Err why)) (ask p) p r [] (Err why)) (sym answers) (refl, refl))

-- by what the probe asks for
pub told_read : (p : Probe) (number : ℕ) (told : Reply) (o : Option Content) → ask p ≡ Read number → content_in told ≡ o → told_by (ask p) told p ≡ option_map (after_told p) o
told_read p number told o asks is = ap (λ (a : Ask). told_by a told p) asks ∙ ap (option_map (after_told p)) is

pub told_write : (p : Probe) (number : ℕ) (value : List ℕ) (told : Reply) (b : Bool) → ask p ≡ Write number value → is_done told ≡ b → told_by (ask p) told p ≡ (if b then Some (after_written p) else None)
told_write p number value told b asks is = ap (λ (a : Ask). told_by a told p) asks ∙ ap (λ (x : Bool). if x then Some (after_written p) else None) is

pub no_content : (told : Reply) → ((value : List ℕ) → told ≡ reply.Value value → ⊥) → (told ≡ reply.Nothing → ⊥) → content_in told ≡ None
no_content told no_value something = grind (arith, common_steps)

pub not_done : (told : Reply) → (told ≡ reply.Done → ⊥) → is_done told ≡ false
not_done told other = grind (arith, common_steps)

-- Calls, one after the other.

regroup : {X : Type 0} (first later : List X) (x : X) → (first ++ x ∷ []) ++ later ≡ first ++ (x ∷ later)
regroup [] later x = refl
regroup (y ∷ first) later x = ap (λ l. y ∷ l) (regroup first later x)

pub one_more : (n : ℕ) (first p next : Probe) (before between after : Held) → LineSoFar n first p before between → Tells n p next between after → IsGoing next → LineSoFar n first next before after
one_more n first p next before between after so_far more going = record {
  calls = so_far.calls ++ more.call ∷ [];
  follow = calls_then so_far.calls (more.call ∷ []) before between after so_far.follow more.follow;
  rest = λ later answer line. subst (λ (calls : List Call). IsNameLine n first calls answer) (sym (regroup so_far.calls later more.call))
      (so_far.rest (more.call ∷ later) answer (more.asks, behind later answer line));
  going = going;
}
  where
    behind : (later : List Call) (answer : Result NameReply Unanswered) → IsNameLine n next later answer → IsBehind (λ q. IsNameLine n q later answer) (ask p) p more.call.answer later answer
    behind later answer line = subst (λ (r : Result Reply Unanswered). IsBehind (λ q. IsNameLine n q later answer) (ask p) p r later answer) (sym more.answers)
        (subst (λ (o : Option Probe). GoesOn (λ q. IsNameLine n q later answer) o more.reply later answer) (sym more.told) line)

pub whole_line : (n : ℕ) (first p : Probe) (answer : Result NameReply Unanswered) (before between after : Held) → LineSoFar n first p before between → LineOf n p answer between after → LineOf n first answer before after
whole_line n first p answer before between after so_far end = record {
  calls = so_far.calls ++ end.calls;
  follow = calls_then so_far.calls end.calls before between after so_far.follow end.follow;
  line = so_far.rest end.calls answer end.line;
}

-- a line from its beginning
pub made_line : (n : ℕ) (job : Job) (name : List ℕ) (answer : Result NameReply Unanswered) (before after : Held) → 1 ≤ buckets_of before → LineOf n (begun job name (buckets_of before)) answer before after → MakesLine n (begun job name (buckets_of before)) answer before after
made_line n job name answer before after some line =
    let few = few_calls n (begun job name (buckets_of before)) line.calls answer (λ reads. some) line.line in
    record { calls = line.calls; follow = line.follow; line = line.line; reads = (let most : reads_in line.calls ≤ buckets_of before - 0 = few.reads in omega (arith, most)); writes = few.writes }

-- one that the database's count of records begins

abbrev pub counted : ℕ → Result ℕ Unanswered
counted records = Ok records

pub served_line : (n : ℕ) (job : Job) (name : List ℕ) (answer : Result NameReply Unanswered) (before after : Held) (records : ℕ) → (before.closed ≡ true → counted records ≡ Err Closed) → (before.closed ≡ false → counted records ≡ counted (records_of before)) → 32 ≤ records →
    (p : Probe) → p ≡ begun job name (records / 2) → LineOf n p answer before after → ServesName job n name answer before after
served_line n job name answer before after records closed open_count many p is line = record {
  closed = λ h. absurd (never (closed h));
  answers = λ h. (let count : records ≡ records_of before = same (open_count h) in
      let first : p ≡ begun job name (buckets_of before) = is ∙ ap (λ (k : ℕ). begun job name (k / 2)) count in
      made_line n job name answer before after (omega (arith, many, count)) (subst (λ (q : Probe). LineOf n q answer before after) first line));
}
  where
    never : counted records ≡ Err Closed → ⊥
    never e = cc

    same : counted records ≡ counted (records_of before) → records ≡ records_of before
    same e = cc

pub short_put : (n : ℕ) (name value : List ℕ) (answer : Result NameReply Unanswered) (before after : Held) → length value ≤ 100 → ServesName (Put value) n name answer before after → ServesPut n name value answer before after
short_put n name value answer before after short serves = record { short = λ h. serves; long = λ h. absurd (omega (arith, short, h)) }

-- A value that is too long.

pub long_refused : {n : ℕ} {told : Result Reply Unanswered} {before after : Held} → Serves (command.Scan n 0 0) told before after → (answer : Result NameReply Unanswered) → answer ≡ refused_long told → RefusesLong n answer before after
long_refused {n} {told} {before} {after} serves answer is = record {
  call = record { command = command.Scan n 0 0; answer = told; before = before; after = after };
  follow = one_call (command.Scan n 0 0) told before after serves;
  asks = refl;
  refuses = is;
}

pub no_items : (told : Reply) → ((items : List Item) → told ≡ reply.Items items → ⊥) → refused_long (Ok told) ≡ Ok (Refused told)
no_items told other = grind (arith, common_steps)
