-- What is told is in serial order.
use Rattle.std.proofs.Common.{arith}
use Rattle.std.proofs.lemmas.Grind.{common_steps}
use Rattle.std.proofs.Common.{◌≡◌, ℕ, suc, ◌+◌, ◌*◌, ◌≤◌, Bool, true, false, List, [], ◌∷◌, ◌++◌, length, map, Option, Some, None, refl, ap, sym, ◌∙◌, subst}
use Rattle.std.specs.Prelude.{not, ◌&&◌, reverse, if◌then◌else◌}
use Rattle.std.specs.List.{AllByRecursion}
use Rattle.std.proofs.lemmas.List.{map-append, reverse-append}
use Rattle.record_model.specs.declared.words.Command.{Command}
use Rattle.record_model.specs.declared.words.Command.TheVariants.{Get}
use Rattle.record_model.specs.declared.words.CacheLine.{CacheLine}
use Rattle.record_model.specs.declared.words.CacheLine.TheVariants.{Frame, Pool}
use Rattle.record_model.specs.declared.words.Reply.{Reply}
use Rattle.record_model.specs.declared.words.Reply.TheVariants as reply
use Rattle.record_model.specs.State.{State, opened}
use Rattle.record_model.specs.Step.{is_accepted}
use Rattle.record_model.specs.Run.{Line, Turn, turn, replies, is_committed, commit_marks, commits_among, after_commits, turns}
use Rattle.record_model.specs.Serial.{lines_of, is_session, is_begin_line, is_accepted_of, since_begin, committed_by, line_session, transaction, commits_before, table_before, opened_alone}
use Rattle.record_model.specs.Laws.{is_refused}
use Rattle.record_model.proofs.RefusalLaws.{refusals_are_told}
use Rattle.record_model.proofs.RunLaws.{IsRun, turns_are_run}
use Rattle.record_model.proofs.SerialOrder.{serial_order}
use Rattle.shell_text.specs.Texts.{open_text, reply_text}
use Rattle.shell_text.specs.Runs.{texts}
use Rattle.shell_text.specs.Serial.{Exchange, exchange, line_of_exchange, text_of_exchange, says_refused, says_committed, is_carried_out, carried_out_since, carried_out_by, told_transaction, texts_of, SerialIsTold}

-- What a text says.

refused_is_said : (r : Reply) → says_refused (reply_text r) ≡ is_refused r
refused_is_said reply.Done = refl
refused_is_said (reply.Value value) = refl
refused_is_said reply.Nothing = refl
refused_is_said (reply.Committed count) = refl
refused_is_said reply.Aborted = refl
refused_is_said (reply.Back count) = refl
refused_is_said reply.Checked = refl
refused_is_said (reply.Items []) = refl
refused_is_said (reply.Items (item ∷ items)) = refl
refused_is_said (reply.Listing []) = refl
refused_is_said (reply.Listing (Frame group index page valid dirty referenced ∷ lines)) = refl
refused_is_said (reply.Listing (Pool page changed ∷ lines)) = refl
refused_is_said (reply.Stat stat) = refl
refused_is_said reply.Bye = refl
refused_is_said (reply.Busy session) = refl
refused_is_said (reply.Full used owed cap) = refl
refused_is_said (reply.PageFull page need) = refl
refused_is_said (reply.Refused why) = refl

commit_is_said : (r : Reply) → says_committed (reply_text r) ≡ is_committed r
commit_is_said reply.Done = refl
commit_is_said (reply.Value value) = refl
commit_is_said reply.Nothing = refl
commit_is_said (reply.Committed count) = refl
commit_is_said reply.Aborted = refl
commit_is_said (reply.Back count) = refl
commit_is_said reply.Checked = refl
commit_is_said (reply.Items []) = refl
commit_is_said (reply.Items (item ∷ items)) = refl
commit_is_said (reply.Listing []) = refl
commit_is_said (reply.Listing (Frame group index page valid dirty referenced ∷ lines)) = refl
commit_is_said (reply.Listing (Pool page changed ∷ lines)) = refl
commit_is_said (reply.Stat stat) = refl
commit_is_said reply.Bye = refl
commit_is_said (reply.Busy session) = refl
commit_is_said (reply.Full used owed cap) = refl
commit_is_said (reply.PageFull page need) = refl
commit_is_said (reply.Refused why) = refl

-- Turns of the model.

IsTurn : Turn → Type 0
IsTurn t = (listing : List CacheLine) × (t ≡ turn t.before t.line listing)

AreTurns : List Turn → Type 0
AreTurns run = AllByRecursion IsTurn run

turns_append : (xs ys : List Turn) → AreTurns xs → AreTurns ys → AreTurns (xs ++ ys)
unfolding AreTurns
turns_append [] ys h k = k
turns_append (x ∷ xs) ys h k = (h.0, turns_append xs ys h.1 k)

turns_reverse : (xs : List Turn) → AreTurns xs → AreTurns (reverse xs)
unfolding AreTurns
turns_reverse [] h = tt
turns_reverse (x ∷ xs) h =
    subst (AreTurns) (sym (reverse-append (x ∷ []) xs)) (turns_append (reverse xs) (x ∷ []) (turns_reverse xs h.1) (h.0, tt))

-- a turn of a run, and those before it
turns_before : (s : State) (earlier later : List Turn) (t : Turn) → IsRun s (earlier ++ t ∷ later) → IsTurn t × AreTurns earlier
unfolding IsTurn AreTurns
turns_before s [] later t is = (itself is.0 is.1, tt)
  where
    itself : (listing : List CacheLine) → t ≡ turn s t.line listing → IsTurn t
    itself listing e = (listing, e ∙ ap (λ (s : State). turn s t.line listing) (sym (ap (λ (u : Turn). u.before) e)))
turns_before s (u ∷ earlier) later t is =
    let rest = turns_before u.after earlier later t is.2 in
    (rest.0, ((is.0, is.1 ∙ ap (λ (s : State). turn s u.line is.0) (sym (ap (λ (v : Turn). v.before) is.1))), rest.1))

-- Whether a turn is of the session, by what is told.

accepted_is_said : (s : State) (command : Command) (listing : List CacheLine) (t : Turn) → t.reply ≡ (turn s (Some command) listing).reply →
    not (says_refused (reply_text t.reply)) ≡ is_accepted s command
accepted_is_said s command listing t e =
    ap not (refused_is_said t.reply) ∙ ap (λ (r : Reply). not (is_refused r)) e ∙ sym (refusals_are_told s command listing)

own_is_said : (n : ℕ) (line : Line) (listing : List CacheLine) (t : Turn) → t.line ≡ line → t.reply ≡ (turn t.before line listing).reply →
    (is_session n (line_session line) && not (says_refused (reply_text t.reply))) ≡ is_accepted_of n t.before line
own_is_said n None listing t line e = refl
own_is_said n (Some command) listing t line e = ap (λ (b : Bool). is_session n (line_session (Some command)) && b) (accepted_is_said t.before command listing t e)

turn_is_said : (n : ℕ) (t : Turn) → IsTurn t → is_carried_out n (exchange t) ≡ is_accepted_of n t.before t.line
unfolding IsTurn
turn_is_said n t is = own_is_said n t.line is.0 t refl (ap (λ (u : Turn). u.reply) is.1)

chosen : (b c : Bool) (t : Turn) (since : List Turn) (said : List Exchange) → map exchange since ≡ said →
    map exchange (if b then (if c then [] else since) ++ t ∷ [] else since) ≡ (if b then (if c then [] else said) ++ exchange t ∷ [] else said)
chosen true true t since said e = refl
chosen true false t since said e = map-append exchange since (t ∷ []) ∙ ap (λ (l : List Exchange). l ++ exchange t ∷ []) e
chosen false c t since said e = e

since_is_said : (n : ℕ) (past : List Turn) → AreTurns past → map exchange (since_begin n past) ≡ carried_out_since n (map exchange past)
unfolding AreTurns
since_is_said n [] h = refl
since_is_said n (t ∷ past) h =
    chosen (is_accepted_of n t.before t.line) (is_begin_line t.line) t (since_begin n past) (carried_out_since n (map exchange past)) (since_is_said n past h.1)
    ∙ ap (λ (b : Bool). if b then (if is_begin_line t.line then [] else carried_out_since n (map exchange past)) ++ exchange t ∷ [] else carried_out_since n (map exchange past))
    (sym (turn_is_said n t h.0))

by_is_said : (own : Option ℕ) (t : Turn) (past : List Turn) → AreTurns (t ∷ past) → map exchange (committed_by own t past) ≡ carried_out_by own (exchange t) (map exchange past)
by_is_said None t past h = refl
by_is_said (Some n) t past h = since_is_said n (t ∷ past) h

-- Lines and texts of turns.

lines_are : (own : List Turn) → map line_of_exchange (map exchange own) ≡ lines_of own
lines_are [] = refl
lines_are (t ∷ own) = ap (λ (l : List Line). t.line ∷ l) (lines_are own)

texts_are : (own : List Turn) → map text_of_exchange (map exchange own) ≡ map reply_text (replies own)
texts_are [] = refl
texts_are (t ∷ own) = ap (λ (l : List (List ℕ)). reply_text t.reply ∷ l) (texts_are own)

texts_of_are : (run : List Turn) → map reply_text (replies run) ≡ texts_of run
texts_of_are [] = refl
texts_of_are (t ∷ run) = ap (λ (l : List (List ℕ)). reply_text t.reply ∷ l) (texts_of_are run)

length_is : (own : List Turn) → length (map exchange own) ≡ length own
length_is [] = refl
length_is (t ∷ own) = ap suc (length_is own)

-- turns that are answered again are told again
told_again : (alone : State) (own : List Turn) (said : List Exchange) → map exchange own ≡ said →
    replies (turns alone (lines_of own) []) ≡ replies own →
    texts alone (map line_of_exchange said) [] ≡ open_text alone.commits ∷ map text_of_exchange said
told_again alone own said e again = grind (arith, common_steps, lines_are, texts_are)

-- The law.

pub serial_is_told : SerialIsTold
unfolding IsTurn AreTurns
serial_is_told table commits made cap lines listings earlier later t e =
    let start = opened table commits made cap in
    let serial = serial_order table commits made cap lines listings earlier later t e in
    let turns_are = turns_before start earlier later t (subst (IsRun start) e (turns_are_run start lines listings)) in
    let own = transaction t (reverse earlier) in
    let said : map exchange own ≡ told_transaction (exchange t) (map exchange (reverse earlier)) =
    by_is_said (line_session t.line) t (reverse earlier) (turns_are.0, turns_reverse earlier turns_are.1) in
    record {
      place = ap (λ (run : List Turn). open_text commits ∷ map reply_text (replies run)) e
          ∙ ap (λ (l : List (List ℕ)). open_text commits ∷ l) (texts_of_are (earlier ++ t ∷ later) ∙ map-append (λ (u : Turn). reply_text u.reply) earlier (t ∷ later));
      commits = commit_is_said t.reply;
      alone = λ committed cap room.
          let alone = opened_alone (table_before table earlier later t) (commits + commits_before earlier later t) cap in
          let room' : 4 * length own ≤ cap = subst (λ (n : ℕ). 4 * n ≤ cap) (ap length (sym said) ∙ length_is own) room in
          told_again alone own _ said (serial.alone (sym (commit_is_said t.reply) ∙ committed) cap room');
      so_far = λ n active cap room.
          let since = since_begin n (t ∷ reverse earlier) in
          let said = since_is_said n (t ∷ reverse earlier) (turns_are.0, turns_reverse earlier turns_are.1) in
          let count = commits_among (length earlier + 1) (commit_marks (earlier ++ t ∷ later)) in
          let alone = opened_alone (after_commits table (earlier ++ t ∷ later) count) (commits + count) cap in
          let room' : 4 * length since ≤ cap = subst (λ (n : ℕ). 4 * n ≤ cap) (ap length (sym said) ∙ length_is since) room in
          told_again alone since _ said (serial.so_far n active cap room');
      get = λ number line carried.
          let turned = turns_are.0.1 in
          let answered = ap (λ (u : Turn). u.reply) turned ∙ ap (λ (l : Line). (turn t.before l turns_are.0.0).reply) line in
          ap reply_text (serial.get number line (sym (accepted_is_said t.before (Get number) turns_are.0.0 t answered) ∙ ap not carried));
    }
