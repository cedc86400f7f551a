-- The first call of a line, and what comes behind it.
use Rattle.std.proofs.Common.{◌≡◌, ◌≢◌, ℕ, Bool, true, false, List, [], ◌∷◌, Option, Some, None, refl, sym, ap, ◌∙◌, arith}
use Rattle.std.proofs.lemmas.Grind.{common_steps}
use Rattle.std.specs.Prelude.{Result, Ok, Err, if◌then◌else◌, option_map}
use Rattle.record_model.specs.declared.names.Ask.{Ask}
use Rattle.record_model.specs.declared.names.Ask.TheVariants.{Read, Write, End}
use Rattle.record_model.specs.declared.names.NameAnswer.{NameAnswer}
use Rattle.record_model.specs.declared.words.Command.{Command}
use Rattle.record_model.specs.declared.words.Command.TheVariants as command
use Rattle.record_model.specs.declared.words.Reply.{Reply}
use Rattle.record_model.specs.declared.words.Reply.TheVariants as reply
use Rattle.record_model.specs.State.{Content}
use Rattle.record_model.specs.Step.{found}
use Rattle.record_model.specs.Probes.{Probe, after_told, after_written}
use Rattle.name_table.specs.Probing.{IsRead}
use Rattle.database.specs.declared.unanswered.Unanswered.{Unanswered}
use Rattle.database.specs.Course.{Call}
use Rattle.named_keys.specs.declared.reply.NameReply.{NameReply}
use Rattle.named_keys.specs.declared.reply.NameReply.TheVariants.{Answer, Refused}
use Rattle.named_keys.specs.Lines.{IsNameLine, IsBehind, GoesOn, command_for, content_in, is_done, is_read}

pub found_in : (told : Reply) (content : Content) → content_in told ≡ Some content → told ≡ found content
found_in told content is = grind (arith, common_steps)

pub done_in : (told : Reply) → is_done told ≡ true → told ≡ reply.Done
done_in told is = grind (arith, common_steps)

-- it reads and the probe goes on, it writes and the probe goes on, or it ends the line without an answer of the probe
pub data FirstCall (n : ℕ) (p : Probe) (call : Call) (later : List Call) (answer : Result NameReply Unanswered) : Type 0 where
  reads : (number : ℕ) (content : Content) → p.next ≡ Read number → call.command ≡ command.Read n number → call.answer ≡ Ok (found content) → IsNameLine n (after_told p content) later answer → FirstCall n p call later answer
  writes : (number : ℕ) (value : List ℕ) → p.next ≡ Write number value → call.command ≡ command.Write n number value → call.answer ≡ Ok reply.Done → IsNameLine n (after_written p) later answer → FirstCall n p call later answer
  stops : (is_read call.command ≡ true → IsRead p.next) → later ≡ [] → ((reached : NameAnswer) → answer ≢ Ok (Answer reached)) → FirstCall n p call later answer

same_command : {a b : Command} → Some a ≡ Some b → b ≡ a
same_command is = cc

no_answer : {answer : Result NameReply Unanswered} (told : Reply) → answer ≡ Ok (Refused told) → (reached : NameAnswer) → answer ≢ Ok (Answer reached)
no_answer told is reached h = let never : Ok (Refused told) ≡ Ok (Answer reached) = sym is ∙ h in cc

not_answered : {answer : Result NameReply Unanswered} (why : Unanswered) → answer ≡ Err why → (reached : NameAnswer) → answer ≢ Ok (Answer reached)
not_answered why is reached h = let never : Err why ≡ Ok (Answer reached) = sym is ∙ h in cc

write_no_read : (n number : ℕ) (value : List ℕ) (c : Command) → Some (command.Write n number value) ≡ Some c → is_read c ≡ true → ⊥
write_no_read n number value c is h = let never : false ≡ true = ap is_read (sym (same_command is)) ∙ h in cc

module _ (n : ℕ) (p : Probe) (call : Call) (later : List Call) (answer : Result NameReply Unanswered) where
  abbrev Rest : Probe → Type 0
  Rest next = IsNameLine n next later answer

  read_told : (number : ℕ) → p.next ≡ Read number → Some (command.Read n number) ≡ Some call.command → (told : Reply) → call.answer ≡ Ok told → (o : Option Content) → content_in told ≡ o → GoesOn Rest (option_map (after_told p) o) told later answer → FirstCall n p call later answer
  read_told number is asks told answered (Some content) tells rest = reads number content is (same_command asks) (answered ∙ ap Ok (found_in told content tells)) rest
  read_told number is asks told answered None tells rest = stops (λ h. subst_read number is) rest.0 (no_answer told rest.1)
    where
      subst_read : (number : ℕ) → p.next ≡ Read number → IsRead p.next
      subst_read number is = grind (arith, common_steps)

  write_told : (number : ℕ) (value : List ℕ) → p.next ≡ Write number value → Some (command.Write n number value) ≡ Some call.command → (told : Reply) → call.answer ≡ Ok told → (b : Bool) → is_done told ≡ b → GoesOn Rest (if b then Some (after_written p) else None) told later answer → FirstCall n p call later answer
  write_told number value is asks told answered true tells rest = writes number value is (same_command asks) (answered ∙ ap Ok (done_in told tells)) rest
  write_told number value is asks told answered false tells rest = stops (λ h. absurd (write_no_read n number value call.command asks h)) rest.0 (no_answer told rest.1)

  by : (a : Ask) → p.next ≡ a → (r : Result Reply Unanswered) → call.answer ≡ r → command_for n a ≡ Some call.command → IsBehind Rest a p r later answer → FirstCall n p call later answer
  by (Read number) is (Ok told) answered asks rest = read_told number is asks told answered (content_in told) refl rest
  by (Read number) is (Err why) answered asks rest = stops (λ h. grind (arith, common_steps)) rest.0 (not_answered why rest.1)
  by (Write number value) is (Ok told) answered asks rest = write_told number value is asks told answered (is_done told) refl rest
  by (Write number value) is (Err why) answered asks rest = stops (λ h. absurd (write_no_read n number value call.command asks h)) rest.0 (not_answered why rest.1)
  by (End reached) is r answered asks rest = absurd cc

  pub first_call : IsNameLine n p (call ∷ later) answer → FirstCall n p call later answer
  first_call line = by p.next refl call.answer refl line.0 line.1
