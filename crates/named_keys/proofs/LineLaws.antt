-- What comes of a line that nothing refused.
use Rattle.std.proofs.Common.{◌≡◌, ℕ, zero, suc, ◌+◌, ◌≤◌, List, [], ◌∷◌, map, Some, None, refl, sym, ap, ◌∙◌, subst, arith}
use Rattle.std.proofs.lemmas.Grind.{common_steps}
use Rattle.std.specs.Prelude.{Result, Ok}
use Rattle.record_model.specs.declared.names.Ask.{Ask}
use Rattle.record_model.specs.declared.names.Ask.TheVariants.{Read, Write, End}
use Rattle.record_model.specs.declared.names.NameAnswer.{NameAnswer}
use Rattle.record_model.specs.declared.names.NameAnswer.TheVariants as answer
use Rattle.record_model.specs.declared.words.CacheLine.{CacheLine}
use Rattle.record_model.specs.declared.words.Command.{Command}
use Rattle.record_model.specs.declared.words.Command.TheVariants as command
use Rattle.record_model.specs.declared.words.Reply.{Reply}
use Rattle.record_model.specs.declared.words.Reply.TheVariants as reply
use Rattle.record_model.specs.State.{Content, State}
use Rattle.record_model.specs.Run.{next_listing, replies}
use Rattle.record_model.specs.Step.{found, step}
use Rattle.record_model.specs.Probes.{Probe, after_told, after_written, told_of, told_times, with_write}
use Rattle.name_table.specs.Probing.{IsRead as AsksRead}
use Rattle.database.specs.declared.unanswered.Unanswered.{Unanswered}
use Rattle.database.specs.Course.{AreAnswers, Call, listings_of, begun, run_of}
use Rattle.named_keys.specs.declared.reply.NameReply.{NameReply}
use Rattle.named_keys.specs.declared.reply.NameReply.TheVariants.{Answer}
use Rattle.named_keys.specs.Lines.{IsNameLine, reads_in}
use Rattle.named_keys.specs.Laws.{IsAnswerTo, seen_table, state_behind}
use Rattle.named_keys.proofs.FirstCalls.{FirstCall, reads, writes, stops, first_call}
use Rattle.named_keys.proofs.Seeing.{IsRead, IsWritten, read_is, write_is}

-- a probe that asks for no read is told no more
untold : (table : List Content) (next : Ask) (p : Probe) → (AsksRead next → ⊥) → told_of table next p ≡ p
untold table (Read number) p settled = absurd (settled tt)
untold table (Write number value) p settled = refl
untold table (End reached) p settled = refl

stays : (table : List Content) (times : ℕ) (p : Probe) → (AsksRead p.next → ⊥) → told_times table times p ≡ p
stays table zero p settled = refl
stays table (suc times) p settled = ap (told_times table times) (untold table p.next p settled) ∙ stays table times p settled

-- The answer, and what is seen, behind a line whose probe was told so many values of what the session sees.
pub record Comes (s after : State) (n : ℕ) (asked : Ask) (told : NameAnswer) : Type 0 where
  pub answers : IsAnswerTo asked told
  pub sees : seen_table after n ≡ with_write asked (seen_table s n)
  pub table : after.table ≡ s.table
  pub commits : after.commits ≡ s.commits

abbrev asked_in : State → ℕ → ℕ → Probe → Ask
asked_in s n times p = (told_times (seen_table s n) times p).next

abbrev Answers : List Call → State → Type 0
Answers calls s = AreAnswers (map (λ call. call.answer) calls) (replies (run_of s calls))

abbrev line_of : NameAnswer → Result NameReply Unanswered
line_of told = Ok (Answer told)

same_reached : {a b : NameAnswer} → line_of a ≡ line_of b → b ≡ a
same_reached e = cc

-- it has ended
comes_end : (s : State) (n times : ℕ) (p : Probe) (told : NameAnswer) → p.next ≡ End told → Comes s s n (asked_in s n times p) told
comes_end s n times p told is =
    let still : told_times (seen_table s n) times p ≡ p = stays (seen_table s n) times p (λ asks. subst AsksRead is asks) in
    subst (λ (a : Ask). Comes s s n a told) (sym (ap (λ (q : Probe). q.next) still ∙ is)) (record { answers = refl; sees = refl; table = refl; commits = refl })

-- it reads, and goes on
comes_read : (s between after : State) (n number times : ℕ) (content : Content) (p : Probe) (told : NameAnswer) → p.next ≡ Read number → IsRead s between n number content → Comes between after n (asked_in between n times (after_told p content)) told → Comes s after n (asked_in s n (suc times) p) told
comes_read s between after n number times content p told is read rest =
    let next : told_of (seen_table s n) p.next p ≡ after_told p content = ap (λ (a : Ask). told_of (seen_table s n) a p) is ∙ ap (after_told p) (sym read.is_seen) in
    let same : asked_in between n times (after_told p content) ≡ asked_in s n (suc times) p = ap (λ (t : List Content). (told_times t times (after_told p content)).next) read.sees
    ∙ ap (λ (q : Probe). (told_times (seen_table s n) times q).next) (sym next) in
    record {
      answers = subst (λ (a : Ask). IsAnswerTo a told) same rest.answers;
      sees = rest.sees ∙ ap (λ (a : Ask). with_write a (seen_table between n)) same ∙ ap (with_write (asked_in s n (suc times) p)) read.sees;
      table = rest.table ∙ read.table;
      commits = rest.commits ∙ read.commits;
    }

-- it writes, and ends
comes_write : (s after : State) (n number times : ℕ) (value : List ℕ) (p : Probe) (told : NameAnswer) → p.next ≡ Write number value → IsWritten s after n number value → told ≡ answer.Done → Comes s after n (asked_in s n times p) told
comes_write s after n number times value p told is written done =
    let still : told_times (seen_table s n) times p ≡ p = stays (seen_table s n) times p (λ asks. subst AsksRead is asks) in
    subst (λ (a : Ask). Comes s after n a told) (sym (ap (λ (q : Probe). q.next) still ∙ is)) (record { answers = done; sees = written.sees; table = written.table; commits = written.commits })

-- a call of which this is known
abbrev made : Call → Command → Reply → Call
made call c told = record { command = c; answer = Ok told; before = call.before; after = call.after }

is_made : (call : Call) (c : Command) (told : Reply) → call.command ≡ c → call.answer ≡ Ok told → call ≡ made call c told
is_made call c told asks answered = λ i. record { command = asks i; answer = answered i; before = call.before; after = call.after }

ended : (n : ℕ) (p : Probe) (later : List Call) (told : NameAnswer) → IsNameLine n (after_written p) later (Ok (Answer told)) → (later ≡ []) × (told ≡ answer.Done)
ended n p [] told line = (refl, done line.0 line.1 line.2)
  where
    done : (reached : NameAnswer) → End answer.Done ≡ End reached → line_of told ≡ line_of reached → told ≡ answer.Done
    done reached is e = cc
ended n p (call ∷ later) told line = absurd (none line.0)
  where
    none : {c : Command} → None ≡ Some c → ⊥
    none e = cc

module _ (n : ℕ) (p : Probe) (call : Call) (later : List Call) (s : State) (told : NameAnswer) (times : ℕ) (few : reads_in (call ∷ later) ≤ times) where
  abbrev listing : List CacheLine
  listing = next_listing (listings_of (begun later))

  abbrev Goal : Type 0
  Goal = Comes s (state_behind s (call ∷ later)) n (asked_in s n times p) told

  module _ (rest : (between : State) (content : Content) (fewer : ℕ) → reads_in later ≤ fewer → IsNameLine n (after_told p content) later (Ok (Answer told)) → Answers later between → Comes between (state_behind between later) n (asked_in between n fewer (after_told p content)) told) where
    by_read : (number : ℕ) (content : Content) → p.next ≡ Read number → call ≡ made call (command.Read n number) (found content) → IsNameLine n (after_told p content) later (Ok (Answer told)) → Answers (call ∷ later) s → Goal
    by_read number content is same line answers =
        let own = made call (command.Read n number) (found content) in
        let fits : Answers (own ∷ later) s = subst (λ (k : Call). Answers (k ∷ later) s) same answers in
        let between = (step s (command.Read n number) listing).after in
        let read = read_is s n number content listing fits.0 in
        let less : reads_in (own ∷ later) ≤ times = subst (λ (k : Call). reads_in (k ∷ later) ≤ times) same few in
        subst (λ (k : Call). Comes s (state_behind s (k ∷ later)) n (asked_in s n times p) told) (sym same) (at times less read fits.1)
      where
        at : (times : ℕ) → reads_in (made call (command.Read n number) (found content) ∷ later) ≤ times → IsRead s (step s (command.Read n number) listing).after n number content → Answers later (step s (command.Read n number) listing).after →
            Comes s (state_behind (step s (command.Read n number) listing).after later) n (asked_in s n times p) told
        at zero less read fits = absurd (let some : 1 ≤ reads_in (made call (command.Read n number) (found content) ∷ later) = grind (arith, common_steps) in omega (arith, some, less))
        at (suc fewer) less read fits =
            let one : reads_in (made call (command.Read n number) (found content) ∷ later) ≡ 1 + reads_in later = grind (arith, common_steps) in
            comes_read s (step s (command.Read n number) listing).after _ n number fewer content p told is read (rest (step s (command.Read n number) listing).after content fewer (omega (arith, one, less)) line fits)

    by_write : (number : ℕ) (value : List ℕ) → p.next ≡ Write number value → call ≡ made call (command.Write n number value) reply.Done → later ≡ [] → told ≡ answer.Done → Answers (call ∷ later) s → Goal
    by_write number value is same none done answers =
        let own = made call (command.Write n number value) reply.Done in
        let fits : Answers (own ∷ []) s = subst (λ (l : List Call). Answers (own ∷ l) s) none (subst (λ (k : Call). Answers (k ∷ later) s) same answers) in
        let written = write_is s n number value [] fits.0 in
        subst (λ (k : Call). Comes s (state_behind s (k ∷ later)) n (asked_in s n times p) told) (sym same)
        (subst (λ (l : List Call). Comes s (state_behind s (own ∷ l)) n (asked_in s n times p) told) (sym none) (comes_write s _ n number times value p told is written done))

    by_first : FirstCall n p call later (Ok (Answer told)) → Answers (call ∷ later) s → Goal
    by_first (reads number content is asks answered line) answers = by_read number content is (is_made call _ _ asks answered) line answers
    by_first (writes number value is asks answered line) answers = (let end = ended n p later told line in by_write number value is (is_made call _ _ asks answered) end.0 end.1 answers)
    by_first (stops asks none never) answers = absurd (never told refl)

pub comes_of : (n : ℕ) (p : Probe) (calls : List Call) (s : State) (told : NameAnswer) (times : ℕ) → reads_in calls ≤ times → IsNameLine n p calls (Ok (Answer told)) → Answers calls s → Comes s (state_behind s calls) n (asked_in s n times p) told
comes_of n p [] s told times few line answers = comes_end s n times p told (line.1 ∙ ap End (same_reached line.2))
comes_of n p (call ∷ later) s told times few line answers =
    by_first n p call later s told times few (λ between content fewer less more fits. comes_of n (after_told p content) later between told fewer less more fits) (first_call n p call later (Ok (Answer told)) line) answers
