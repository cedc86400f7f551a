-- Serial order, whatever the sessions' interleaving.
use Rattle.std.proofs.lemmas.Grind.{common_steps}
use Rattle.record_model.proofs.Citing.{◌≡◌, ℕ, suc, ◌+◌, ◌*◌, ◌-◌, ◌<◌, ◌≤◌, Bool, true, false, List, [], ◌∷◌, ◌++◌, length, length-append, length-set, Option, Some, None, inl, inr, refl, ap, sym, ◌∙◌, subst, arith, add-one, cases_Bool, or_parts, and_parts, not-true, eqb-true, eqb-false, reverse-reverse, list_any, range_with_len, ◌==◌, ◌&&◌, ◌||◌, slice_set, map, reverse, option_map, is_none, is_some, IsTrue, if◌then◌else◌, IsSoundSession, AreSound, Line, Turn, line_step, turn, turns, replies, left_by, state_at, is_committed, commit_marks, commits_among, after_commits, lines_of, session_of, is_session, is_begin, is_begin_line, is_accepted_of, since_begin, committed_by, line_session, transaction, IsOfSession, IsTransaction, commits_before, table_before, opened_alone, Serial, Content, Session, State, opened, content_at, table_with, writes_of, seen, Outcome, step, outcome, refusal, refuse_if, wants_active, wants_record, wants_short, wants_standing, may_read, may_write, ready, lacks_room, full, fills_page, carried_through, is_accepted, effect, answer, having_read, having_written, having_marked, going_back, CacheLine, Command, Begin, Read, Write, Erase, Scan, Commit, Abort, Get, Set, Mark, Back, Reply, none_if_is_none}
use Rattle.record_model.proofs.StepLaws.{each_outcome, length_table_with, found_is, IsNoCommit, refusals, page_refusals, of_none, refused_changes_nothing}
use Rattle.record_model.proofs.SessionLaws.{sessions_stay_sound}
use Rattle.record_model.proofs.RunLaws.{IsRun, turns_are_run, state_after, one_commit_more, commits_make_the_table}
use Rattle.record_model.proofs.SerialGets.{turn_of_run, gets_are_serial}
use Rattle.record_model.proofs.SerialLists.{not_both, same_is, get_set_other, get_none}
use Rattle.record_model.proofs.SerialLocks.{place, wrote, touched, Apart, set_here, set_there, all_pass, untouched, locks_kept}
use Rattle.record_model.proofs.SerialWhole.{since_is}
use Rattle.record_model.proofs.SerialAlone.{alone, unrefused, step_through, commit_alone, set_alone}
use Rattle.record_model.proofs.SerialSteps.{Standing, reply_more, state_more, one_turn, read_more, scan_more, write_more, erase_more, mark_more, back_more, begin_first}
use mathlib.Core.List.{reverse_aux}
use Rattle.record_model.specs.declared.words.Reply.TheVariants as reply
use Rattle.record_model.specs.State as state

-- A command of the session itself.

abbrev StepsOn : State → Command → Turn → ℕ → Type 0
StepsOn s command t k = (own : List Turn) → Standing k own s.table (place s.sessions k) →
    Standing k ((if is_begin command then [] else own) ++ t ∷ []) (effect (ready s command) command).table (place (effect (ready s command) command).sessions k)

is_active : (o : Option Session) (answer : Reply) → refuse_if (is_none o) answer ≡ None → (session : Session) × (o ≡ Some session)
is_active None answer h = absurd cc
is_active (Some session) answer h = (session, refl)

placed : (s : State) (n : ℕ) (f : Session → Session) (session : Session) → place s.sessions n ≡ Some session → n < length s.sessions →
    place (slice_set s.sessions n (option_map f (place s.sessions n))) n ≡ Some (f session)
placed s n f session active below = set_here s.sessions n _ n refl below ∙ ap (option_map f) active

gone : (sessions : List (Option Session)) (n : ℕ) → place (slice_set sessions n None) n ≡ None
gone sessions n = grind (arith, common_steps)

began : (s : State) (n : ℕ) (t : Turn) → length s.sessions ≡ 8 → refusal s (Begin n) ≡ None → t.line ≡ Some (Begin n) → t.reply ≡ reply.Done → StepsOn s (Begin n) t n
began s n t long h line answer own before = grind (arith, or_parts, unrefused, begin_first, set_here)

-- what its commands make of it, of whichever kind
mine : (s : State) (command : Command) (listing : List CacheLine) (t : Turn) (k : ℕ) → length s.sessions ≡ 8 → refusal s command ≡ None →
    t.line ≡ Some command → t.reply ≡ answer (ready s command) command listing → session_of command ≡ Some k → StepsOn s command t k
mine s (Begin n) listing t k long h line answer e = let same : n ≡ k = cc in
    subst (StepsOn s (Begin n) t) same (began s n t long h line answer)
mine s (Read n number) listing t k long h line answer e = let same : n ≡ k = cc in
    subst (StepsOn s (Read n number) t) same λ own before.
    let tests = all_pass (wants_active s n ∷ wants_record s number ∷ may_read s (Some n) number ∷ []) h in
    let active = is_active (place s.sessions n) _ tests.0 in
    let replays = subst (Standing n own s.table) active.1 before in
    subst (Standing n (own ++ t ∷ []) s.table) (sym (placed s n (having_read (number ∷ [])) active.0 active.1 (let k = replays.known in omega (arith, k, long))))
    (read_more s n own active.0 t active.1 replays number line answer tests.1.0)
mine s (Write n number value) listing t k long h line answer e = let same : n ≡ k = cc in
    subst (StepsOn s (Write n number value) t) same λ own before.
    let tests = all_pass (wants_active s n ∷ wants_record s number ∷ wants_short value ∷ may_write s (Some n) number ∷ []) h in
    let active = is_active (place s.sessions n) _ tests.0 in
    let replays = subst (Standing n own s.table) active.1 before in
    subst (Standing n (own ++ t ∷ []) s.table) (sym (placed s n (having_written (number, Some value)) active.0 active.1 (let k = replays.known in omega (arith, k, long))))
    (write_more s n own active.0 t active.1 replays number value line answer tests.1.0 tests.1.1.0)
mine s (Erase n number) listing t k long h line answer e = let same : n ≡ k = cc in
    subst (StepsOn s (Erase n number) t) same λ own before.
    let tests = all_pass (wants_active s n ∷ wants_record s number ∷ may_write s (Some n) number ∷ []) h in
    let active = is_active (place s.sessions n) _ tests.0 in
    let replays = subst (Standing n own s.table) active.1 before in
    subst (Standing n (own ++ t ∷ []) s.table) (sym (placed s n (having_written (number, None)) active.0 active.1 (let k = replays.known in omega (arith, k, long))))
    (erase_more s n own active.0 t active.1 replays number line answer tests.1.0)
mine s (Scan n number count) listing t k long h line answer e = let same : n ≡ k = cc in
    subst (StepsOn s (Scan n number count) t) same λ own before.
    let tests = all_pass (wants_active s n ∷ wants_record s (number + count - 1) ∷ map (may_read s (Some n)) (range_with_len number count)) h in
    let active = is_active (place s.sessions n) _ tests.0 in
    let replays = subst (Standing n own s.table) active.1 before in
    subst (Standing n (own ++ t ∷ []) s.table) (sym (placed s n (having_read (range_with_len number count)) active.0 active.1 (let k = replays.known in omega (arith, k, long))))
    (scan_more s n own active.0 t active.1 replays number count line answer tests.1.0)
mine s (Commit n) listing t k long h line answer e = let same : n ≡ k = cc in
    subst (StepsOn s (Commit n) t) same λ own before.
    subst (Standing n (own ++ t ∷ []) (table_with s.table (writes_of (place s.sessions n)))) (sym (gone s.sessions n)) tt
mine s (Abort n) listing t k long h line answer e = let same : n ≡ k = cc in
    subst (StepsOn s (Abort n) t) same λ own before.
    subst (Standing n (own ++ t ∷ []) s.table) (sym (gone s.sessions n)) tt
mine s (Mark n) listing t k long h line answer e = let same : n ≡ k = cc in
    subst (StepsOn s (Mark n) t) same λ own before.
    let active = is_active (place s.sessions n) _ h in
    let replays = subst (Standing n own s.table) active.1 before in
    subst (Standing n (own ++ t ∷ []) s.table) (sym (placed s n having_marked active.0 active.1 (let k = replays.known in omega (arith, k, long))))
    (mark_more s n own active.0 t active.1 replays line answer)
mine s (Back n standing) listing t k long h line answer e = let same : n ≡ k = cc in
    subst (StepsOn s (Back n standing) t) same λ own before.
    let tests = all_pass (wants_active s n ∷ wants_standing s n standing ∷ []) h in
    let active = is_active (place s.sessions n) _ tests.0 in
    let replays = subst (Standing n own s.table) active.1 before in
    subst (Standing n (own ++ t ∷ []) s.table) (sym (placed s n (going_back standing) active.0 active.1 (let k = replays.known in omega (arith, k, long))))
    (back_more s n own active.0 t active.1 replays standing line answer tests.1.0)
mine s _ listing t k long h line answer e = absurd cc

-- A command of another session, or of none.

same_standing : (k : ℕ) (own : List Turn) (table other : List Content) (o : Option Session) → length other ≡ length table →
    ((r : ℕ) → touched o r ≡ true → content_at other r ≡ content_at table r) → Standing k own table o → Standing k own other o
same_standing k own table other None sizes same before = tt
same_standing k own table other (Some session) sizes same before = grind (arith, same)

unwritten_stay : (table : List Content) (writes : List state.Write) (r : ℕ) → (list_any (λ write. write.0 == r) writes ≡ true → ⊥) → content_at (table_with table writes) r ≡ content_at table r
unwritten_stay table [] r h = refl
unwritten_stay table (write ∷ writes) r h =
    unwritten_stay (slice_set table write.0 write.1) writes r (λ e. h (later (write.0 == r) _ e))
    ∙ get_set_other table write.0 r write.1 None (λ e. h (first (write.0 == r) _ (subst (λ (q : ℕ). (write.0 == q) ≡ true) e (same_is write.0))))
  where
    later : (a b : Bool) → b ≡ true → (a || b) ≡ true
    later true b e = refl
    later false b e = e

    first : (a b : Bool) → a ≡ true → (a || b) ≡ true
    first true b e = refl
    first false b e = absurd cc

-- what stands of a session it has written
stood_wrote : (o : Option Session) → ((session : Session) → o ≡ Some session → IsSoundSession session) → (r : ℕ) → list_any (λ write. write.0 == r) (writes_of o) ≡ true → wrote o r ≡ true
stood_wrote None sound r h = absurd cc
stood_wrote (Some session) sound r h = (sound session refl).written r h

abbrev StaysFor : State → Command → ℕ → Type 0
StaysFor s command k = (own : List Turn) → Standing k own s.table (place s.sessions k) →
    Standing k own (effect (ready s command) command).table (place (effect (ready s command) command).sessions k)

elsewhere : (s : State) (n k : ℕ) (o : Option Session) (own : List Turn) → (n == k) ≡ false →
    Standing k own s.table (place s.sessions k) → Standing k own s.table (place (slice_set s.sessions n o) k)
elsewhere s n k o own d before = subst (Standing k own s.table) (sym (set_there s.sessions n o k (λ e. eqb-false n k d (sym e)))) before

theirs : (s : State) (command : Command) (k : ℕ) → length s.sessions ≡ 8 → Apart s.sessions → AreSound s.sessions → refusal s command ≡ None →
    is_session k (session_of command) ≡ false → StaysFor s command k
theirs s (Begin n) k long apart sound h d own before = elsewhere s n k _ own d before
theirs s (Read n number) k long apart sound h d own before = elsewhere s n k _ own d before
theirs s (Write n number value) k long apart sound h d own before = elsewhere s n k _ own d before
theirs s (Erase n number) k long apart sound h d own before = elsewhere s n k _ own d before
theirs s (Scan n number count) k long apart sound h d own before = elsewhere s n k _ own d before
theirs s (Commit n) k long apart sound h d own before =
    let writes = writes_of (place s.sessions n) in
    elsewhere (record s { table = table_with s.table writes }) n k None own d
    (same_standing k own s.table (table_with s.table writes) (place s.sessions k) (length_table_with s.table writes)
    (λ r t. unwritten_stay s.table writes r (λ e. apart n k r (eqb-false n k d) (stood_wrote (place s.sessions n) (sound n) r e) t)) before)
theirs s (Mark n) k long apart sound h d own before = elsewhere s n k _ own d before
theirs s (Back n standing) k long apart sound h d own before = elsewhere s n k _ own d before
theirs s (Abort n) k long apart sound h d own before = elsewhere s n k _ own d before
theirs s (Set number value) k long apart sound h d own before = let tests = all_pass (wants_record s number ∷ wants_short value ∷ may_write s None number ∷ []) h in
    same_standing k own s.table (slice_set s.table number (Some value)) (place s.sessions k) (length_table_with s.table ((number, Some value) ∷ []))
    (λ r t. get_set_other s.table number r (Some value) None (λ e. untouched s number long tests.1.1.0 k (subst (λ (q : ℕ). touched (place s.sessions k) q ≡ true) (sym e) t))) before
theirs s _ k long apart sound h d own before = before

-- What holds at each moment of a run. Of the turns before it the last one comes first.

record Represents (s : State) (earlier : List Turn) : Type 0 where
  long : length s.sessions ≡ 8
  apart : Apart s.sessions
  sound : AreSound s.sessions
  standing : (k : ℕ) → Standing k (since_begin k earlier) s.table (place s.sessions k)

abbrev grown : ℕ → State → Line → Turn → List Turn → List Turn
grown k s line t own = if is_accepted_of k s line then (if is_begin_line line then [] else own) ++ t ∷ [] else own

abbrev GoesOn : State → Line → Turn → State → Type 0
GoesOn s line t after = (length after.sessions ≡ 8) × Apart after.sessions
    × ((k : ℕ) (own : List Turn) → Standing k own s.table (place s.sessions k) → Standing k (grown k s line t own) after.table (place after.sessions k))

refused_goes_on : (s : State) (command : Command) (listing : List CacheLine) (t : Turn) → length s.sessions ≡ 8 → Apart s.sessions →
    is_accepted s command ≡ false → GoesOn s (Some command) t (step s command listing).after
refused_goes_on s command listing t long apart h =
    subst (GoesOn s (Some command) t) (sym (refused_changes_nothing s command listing h))
    (long, apart, λ k own before. subst (λ own. Standing k own s.table (place s.sessions k)) (sym (unaccepted (is_session k (session_of command)) (is_accepted s command) ((if is_begin command then [] else own) ++ t ∷ []) own h)) before)
  where
    unaccepted : (b c : Bool) (more own : List Turn) → c ≡ false → (if b && c then more else own) ≡ own
    unaccepted true true more own h = absurd cc
    unaccepted true false more own h = refl
    unaccepted false c more own h = refl

pub sessions_stay : (s : State) (command : Command) → length (effect s command).sessions ≡ length s.sessions
sessions_stay s (Begin n) = length-set s.sessions n _
sessions_stay s (Read n number) = length-set s.sessions n _
sessions_stay s (Write n number value) = length-set s.sessions n _
sessions_stay s (Erase n number) = length-set s.sessions n _
sessions_stay s (Scan n number count) = length-set s.sessions n _
sessions_stay s (Commit n) = length-set s.sessions n _
sessions_stay s (Abort n) = length-set s.sessions n _
sessions_stay s (Mark n) = length-set s.sessions n _
sessions_stay s (Back n standing) = length-set s.sessions n _
sessions_stay s _ = refl

of_session : (k : ℕ) (o : Option ℕ) → is_session k o ≡ true → o ≡ Some k
of_session k None h = absurd cc
of_session k (Some m) h = ap Some (eqb-true m k h)

accepted_goes_on : (s : State) (command : Command) (listing : List CacheLine) (t : Turn) → length s.sessions ≡ 8 → Apart s.sessions → AreSound s.sessions →
    t.line ≡ Some command → t.reply ≡ (step s command listing).reply →
    is_accepted s command ≡ true → GoesOn s (Some command) t (step s command listing).after
accepted_goes_on s command listing t long apart sound line answers h =
    let comes = and_parts _ _ (and_parts _ _ h).0 in
    let tests = none_if_is_none (refusal s command) comes.0 in
    let done = step_through s command listing tests (not-true _ comes.1) (none_if_is_none (fills_page (ready s command) command) (and_parts _ _ h).1) in
    subst (GoesOn s (Some command) t) (sym (ap (λ (o : Outcome). o.after) done)) (
      sessions_stay (ready s command) command ∙ long,
      locks_kept s command long tests apart,
      λ k own before. elim (cases_Bool (is_session k (session_of command))) [
        | inl e ↦ subst (λ own. Standing k own (effect (ready s command) command).table (place (effect (ready s command) command).sessions k))
            (sym (taken k own (is_session k (session_of command)) (is_accepted s command) e h))
            (mine s command listing t k long tests line (answers ∙ ap (λ (o : Outcome). o.reply) done) (of_session k (session_of command) e) own before)
        | inr e ↦ subst (λ own. Standing k own (effect (ready s command) command).table (place (effect (ready s command) command).sessions k))
            (sym (left k own (is_session k (session_of command)) (is_accepted s command) e))
            (theirs s command k long apart sound tests e own before)
      ],
    )
  where
    taken : (k : ℕ) (own : List Turn) (b c : Bool) → b ≡ true → c ≡ true → (if b && c then (if is_begin command then [] else own) ++ t ∷ [] else own) ≡ (if is_begin command then [] else own) ++ t ∷ []
    taken k own true true p q = refl
    taken k own _ _ p q = absurd cc

    left : (k : ℕ) (own : List Turn) (b c : Bool) → b ≡ false → (if b && c then (if is_begin command then [] else own) ++ t ∷ [] else own) ≡ own
    left k own true c p = absurd cc
    left k own false c p = refl

goes_on : (s : State) (line : Line) (listing : List CacheLine) (t : Turn) → length s.sessions ≡ 8 → Apart s.sessions → AreSound s.sessions →
    t.line ≡ line → t.reply ≡ (line_step s line listing).reply → GoesOn s line t (line_step s line listing).after
goes_on s None listing t long apart sound line answers = (long, apart, λ k own before. before)
goes_on s (Some command) listing t long apart sound line answers = elim (cases_Bool (is_accepted s command)) [
  | inl h ↦ accepted_goes_on s command listing t long apart sound line answers h
  | inr h ↦ refused_goes_on s command listing t long apart h
]

abbrev IsTrail : State → List Turn → State → Type 0
IsTrail start [] s = s ≡ start
IsTrail start (t ∷ earlier) s = (listing : List CacheLine) × (t ≡ turn t.before t.line listing) × (s ≡ t.after) × IsTrail start earlier t.before

holds_at : (table : List Content) (commits made cap : ℕ) (earlier : List Turn) (s : State) → IsTrail (opened table commits made cap) earlier s → Represents s earlier
holds_at table commits made cap [] s is = grind (arith, not_both, get_none)
holds_at table commits made cap (t ∷ earlier) s is =
    let before = holds_at table commits made cap earlier t.before is.3 in
    let after = subst (GoesOn t.before t.line t) (sym (ap (λ (u : Turn). u.after) is.1))
    (goes_on t.before t.line is.0 t before.long before.apart before.sound refl (ap (λ (u : Turn). u.reply) is.1)) in
    subst (λ (s : State). Represents s (t ∷ earlier)) (sym is.2) (record {
      long = after.0;
      apart = after.1;
      sound = subst (λ (u : Turn). AreSound u.after.sessions) (sym is.1) (sessions_stay_sound t.before t.line is.0 before.sound);
      standing = λ k. after.2 k (since_begin k earlier) (before.standing k);
    })

trail_of : (start s : State) (done earlier later : List Turn) (t : Turn) → IsTrail start done s → IsRun s (earlier ++ t ∷ later) →
    IsTrail start (reverse_aux earlier done) t.before × ((listing : List CacheLine) × (t ≡ turn t.before t.line listing))
trail_of start s done [] later t trail is = grind (arith, common_steps)
trail_of start s done (u ∷ earlier) later t trail is = grind (arith, common_steps, (trail_of start u.after (u ∷ done) earlier later t))

-- A commit.

may_commit : Command → Bool
may_commit (Commit n) = true
may_commit (Set number value) = true
may_commit _ = false

answers_no_commit : (s : State) (command : Command) (listing : List CacheLine) → may_commit command ≡ false → is_committed (answer s command listing) ≡ false
unfolding may_commit
answers_no_commit s (Read n number) listing h = found_is (seen s n number)
answers_no_commit s (Get number) listing h = found_is (content_at s.table number)
answers_no_commit s _ listing h = grind arith

outcome_no_commit : (s : State) (command : Command) (listing : List CacheLine) (r : Option Reply) → IsNoCommit r → may_commit command ≡ false →
    is_committed (outcome s command listing r).reply ≡ false
unfolding IsNoCommit
outcome_no_commit s command listing (Some refused) harmless h = harmless
outcome_no_commit s command listing None harmless h =
    each_outcome (λ o. is_committed o.reply ≡ false) (ready s command) command listing (lacks_room (ready s command) command) (fills_page (ready s command) command)
    refl (λ refused is. of_none _ refused is (page_refusals (ready s command) command)) (answers_no_commit (ready s command) command listing h)

no_commit : (s : State) (command : Command) (listing : List CacheLine) → may_commit command ≡ false → is_committed (step s command listing).reply ≡ false
no_commit s command listing h = outcome_no_commit s command listing (refusal s command) (refusals s command) h

-- a command that commits was let through
let_through : (s : State) (command : Command) (listing : List CacheLine) (r : Option Reply) → IsNoCommit r → is_committed (outcome s command listing r).reply ≡ true → r ≡ None
unfolding IsNoCommit
let_through s command listing None harmless h = refl
let_through s command listing (Some refused) harmless h = not_both _ h harmless

-- and had room
both_room : (s : State) (command : Command) (listing : List CacheLine) (lacks : Bool) (page : Option Reply) → IsNoCommit page →
    is_committed (if lacks then record { after = s; reply = full s } else carried_through s command listing page).reply ≡ true → (lacks ≡ false) × (page ≡ None)
unfolding IsNoCommit
both_room s command listing true page harmless h = absurd cc
both_room s command listing false None harmless h = (refl, refl)
both_room s command listing false (Some refused) harmless h = not_both _ h harmless

roomy : (s : State) (command : Command) (listing : List CacheLine) → refusal s command ≡ None → is_committed (step s command listing).reply ≡ true →
    (lacks_room (ready s command) command ≡ false) × (fills_page (ready s command) command ≡ None)
roomy s command listing tests h =
    both_room (ready s command) command listing (lacks_room (ready s command) command) (fills_page (ready s command) command) (page_refusals (ready s command) command)
    (ap (λ (r : Option Reply). is_committed (outcome s command listing r).reply) (sym tests) ∙ h)

-- these turns have their replies again alone, and leave this table
abbrev RunsAgain : State → List Turn → List Content → ℕ → Type 0
RunsAgain s own table cap =
    (replies (turns (opened_alone s.table s.commits cap) (lines_of own) []) ≡ replies own)
    × ((left_by (opened_alone s.table s.commits cap) (turns (opened_alone s.table s.commits cap) (lines_of own) [])).table ≡ table)

AnswersAgain : State → Line → Turn → List Turn → Type 0
AnswersAgain s line t earlier = (cap : ℕ) → 4 * length (committed_by (line_session line) t earlier) ≤ cap →
    RunsAgain s (committed_by (line_session line) t earlier) t.after.table cap

commit_taken : (n : ℕ) (t : Turn) (own : List Turn) → (n == n) ≡ true → is_none (refusal t.before (Commit n)) ≡ true →
    grown n t.before (Some (Commit n)) t own ≡ own ++ t ∷ []
commit_taken n t own p q = grind arith

session_commit : (n : ℕ) (listing : List CacheLine) (t : Turn) (earlier : List Turn) → t.line ≡ Some (Commit n) →
    t.reply ≡ (step t.before (Commit n) listing).reply → t.after ≡ (step t.before (Commit n) listing).after →
    is_committed t.reply ≡ true → Represents t.before earlier → AnswersAgain t.before (Some (Commit n)) t earlier
unfolding AnswersAgain
session_commit n listing t earlier line answers leaves commits holds cap room =
    let s = t.before in
    let own = since_begin n earlier in
    let committed : is_committed (step s (Commit n) listing).reply ≡ true = ap is_committed (sym answers) ∙ commits in
    let tests = let_through s (Commit n) listing (refusal s (Commit n)) (refusals s (Commit n)) committed in
    let active = is_active (place s.sessions n) _ tests in
    let replays = subst (Standing n own s.table) active.1 (holds.standing n) in
    let same : since_begin n (t ∷ earlier) ≡ own ++ t ∷ [] = ap (λ (l : Line). grown n s l t own) line ∙ commit_taken n t own (same_is n) (ap is_none tests) in
    let small : 4 * length own ≤ cap = smaller own (subst (λ (l : List Turn). 4 * length l ≤ cap) same room) in
    let before = replays.again s.table s.commits cap refl (λ r e. refl) small in
    let ended = commit_alone s.table s.commits cap n replays.made active.0 replays.known in
    let last = ap (λ (l : Line). (line_step (alone s.table s.commits cap n replays.made active.0) l []).reply) line
    ∙ ended.0
    ∙ sym (ap (λ (o : Outcome). o.reply) (step_through s (Commit n) listing tests refl refl))
    ∙ sym answers in
    let left = ap (λ (after : State). after.table) (state_more (opened_alone s.table s.commits cap) (alone s.table s.commits cap n replays.made active.0) own t replays.quits before.1)
    ∙ ap (λ (l : Line). (line_step (alone s.table s.commits cap n replays.made active.0) l []).after.table) line
    ∙ ended.1
    ∙ ap (λ (o : Option Session). table_with s.table (writes_of o)) (sym active.1)
    ∙ sym (ap (λ (o : Outcome). o.after.table) (step_through s (Commit n) listing tests refl refl))
    ∙ ap (λ (after : State). after.table) (sym leaves) in
    subst (λ (l : List Turn). RunsAgain s l t.after.table cap) (sym same)
    (reply_more (opened_alone s.table s.commits cap) (alone s.table s.commits cap n replays.made active.0) own t replays.quits before.0 before.1 last, left)
  where
    smaller : (own : List Turn) → 4 * length (own ++ t ∷ []) ≤ cap → 4 * length own ≤ cap
    smaller own h = omega (arith, h, length-append own (t ∷ []))

set_commit : (number : ℕ) (value : List ℕ) (listing : List CacheLine) (t : Turn) (earlier : List Turn) → t.line ≡ Some (Set number value) →
    t.reply ≡ (step t.before (Set number value) listing).reply → t.after ≡ (step t.before (Set number value) listing).after →
    is_committed t.reply ≡ true → AnswersAgain t.before (Some (Set number value)) t earlier
unfolding AnswersAgain
set_commit number value listing t earlier line answers leaves commits cap room =
    let s = t.before in
    let command = Set number value in
    let committed : is_committed (step s command listing).reply ≡ true = ap is_committed (sym answers) ∙ commits in
    let passed = let_through s command listing (refusal s command) (refusals s command) committed in
    let tests = all_pass (wants_record s number ∷ wants_short value ∷ may_write s None number ∷ []) passed in
    let start = opened_alone s.table s.commits cap in
    let room_is = roomy s command listing passed committed in
    let through = step_through s command listing passed room_is.0 room_is.1 in
    let lone = set_alone s.table s.commits cap number value tests.0 tests.1.0 (omega (arith, room)) in (
      ap replies (one_turn start t.line)
          ∙ ap (λ (l : Line). (line_step start l []).reply ∷ []) line
          ∙ ap (λ (r : Reply). r ∷ []) (lone.0 ∙ sym (ap (λ (o : Outcome). o.reply) through) ∙ sym answers),
      ap (λ (run : List Turn). (left_by start run).table) (one_turn start t.line)
          ∙ ap (λ (l : Line). (line_step start l []).after.table) line
          ∙ lone.1 ∙ sym (ap (λ (o : Outcome). o.after.table) through) ∙ ap (λ (after : State). after.table) (sym leaves),
    )

other_commit : (command : Command) (listing : List CacheLine) (t : Turn) (earlier : List Turn) → may_commit command ≡ false →
    t.reply ≡ (step t.before command listing).reply → is_committed t.reply ≡ true → AnswersAgain t.before (Some command) t earlier
other_commit command listing t earlier h answers commits = not_both _ (ap is_committed (sym answers) ∙ commits) (no_commit t.before command listing h)

each_commit : (line : Line) (listing : List CacheLine) (t : Turn) (earlier : List Turn) → t.line ≡ line →
    t.reply ≡ (line_step t.before line listing).reply → t.after ≡ (line_step t.before line listing).after →
    is_committed t.reply ≡ true → Represents t.before earlier → AnswersAgain t.before line t earlier
unfolding may_commit
each_commit None listing t earlier line answers leaves commits holds = not_both _ (ap is_committed (sym answers) ∙ commits) refl
each_commit (Some (Commit n)) listing t earlier line answers leaves commits holds = grind (arith, session_commit)
each_commit (Some (Set number value)) listing t earlier line answers leaves commits holds = grind (arith, set_commit)
each_commit (Some command) listing t earlier line answers leaves commits holds = other_commit command listing t earlier refl answers commits

-- the table when a commit is over
table_after : (table : List Content) (commits made cap : ℕ) (lines : List Line) (listings : List (List CacheLine)) (earlier later : List Turn) (t : Turn) →
    turns (opened table commits made cap) lines listings ≡ earlier ++ t ∷ later → is_committed t.reply ≡ true →
    t.after.table ≡ after_commits table (earlier ++ t ∷ later) (commits_before earlier later t + 1)
table_after table commits made cap lines listings earlier later t e committed =
    let start = opened table commits made cap in
    ap (λ (s : State). s.table) (sym (state_after start earlier later t))
    ∙ subst (λ (r : List Turn). (state_at r start (suc (length earlier))).table ≡ after_commits table r (commits_among (suc (length earlier)) (commit_marks r))) e
    (commits_make_the_table start lines listings (suc (length earlier))).table
    ∙ ap (after_commits table (earlier ++ t ∷ later)) (one_commit_more earlier later t committed)

-- Which turns the transaction of a commit has.

session_whole : (n : ℕ) (listing : List CacheLine) (t : Turn) (earlier : List Turn) → t.line ≡ Some (Commit n) →
    t.reply ≡ (step t.before (Commit n) listing).reply → is_committed t.reply ≡ true → Represents t.before earlier →
    IsOfSession n (reverse earlier) t (since_begin n (t ∷ earlier))
session_whole n listing t earlier line answers commits holds = grind (arith, let_through, refusals, is_active, since_is, commit_taken, same_is)

each_whole : (line : Line) (listing : List CacheLine) (t : Turn) (earlier : List Turn) → t.line ≡ line →
    t.reply ≡ (line_step t.before line listing).reply → is_committed t.reply ≡ true → Represents t.before earlier →
    IsTransaction (reverse earlier) t (committed_by (line_session line) t earlier)
unfolding may_commit
each_whole None listing t earlier line answers commits holds = not_both _ (ap is_committed (sym answers) ∙ commits) refl
each_whole (Some (Commit n)) listing t earlier line answers commits holds = inl (n, line, session_whole n listing t earlier line answers commits holds)
each_whole (Some (Set number value)) listing t earlier line answers commits holds = inr (number, value, line, refl)
each_whole (Some command) listing t earlier line answers commits holds = not_both _ (ap is_committed (sym answers) ∙ commits) (no_commit t.before command listing refl)

-- What an active session has been answered.

answered_so_far : (n : ℕ) (past : List Turn) (s : State) (cap : ℕ) → Represents s past → IsTrue (is_some (place s.sessions n)) →
    4 * length (since_begin n past) ≤ cap →
    replies (turns (opened_alone s.table s.commits cap) (lines_of (since_begin n past)) []) ≡ replies (since_begin n past)
answered_so_far n past s cap holds active room = grind arith

-- the table and the count behind a turn
opens_after : (table : List Content) (commits made cap : ℕ) (lines : List Line) (listings : List (List CacheLine)) (earlier later : List Turn) (t : Turn) (room : ℕ) →
    turns (opened table commits made cap) lines listings ≡ earlier ++ t ∷ later →
    let count = commits_among (length earlier + 1) (commit_marks (earlier ++ t ∷ later)) in
    opened_alone t.after.table t.after.commits room ≡ opened_alone (after_commits table (earlier ++ t ∷ later) count) (commits + count) room
opens_after table commits made cap lines listings earlier later t room e =
    let start = opened table commits made cap in
    let run = earlier ++ t ∷ later in
    let counted = commits_make_the_table start lines listings (suc (length earlier)) in
    let after = sym (state_after start earlier later t) in
    let table_is = ap (λ (s : State). s.table) after
    ∙ subst (λ (r : List Turn). (state_at r start (suc (length earlier))).table ≡ after_commits table r (commits_among (suc (length earlier)) (commit_marks r))) e counted.table in
    let count_is = ap (λ (s : State). s.commits) after
    ∙ subst (λ (r : List Turn). (state_at r start (suc (length earlier))).commits ≡ commits + commits_among (suc (length earlier)) (commit_marks r)) e counted.commits in
    ap (λ (now : List Content). opened_alone now t.after.commits room) table_is
    ∙ ap (λ (n : ℕ). opened_alone (after_commits table run (commits_among (suc (length earlier)) (commit_marks run))) n room) count_is
    ∙ ap (λ (i : ℕ). opened_alone (after_commits table run (commits_among i (commit_marks run))) (commits + commits_among i (commit_marks run)) room) (sym (add-one (length earlier)))

-- The law.

pub serial_order : Serial
unfolding AnswersAgain
serial_order table commits made cap' lines listings earlier later t e =
    let start = opened table commits made cap' in
    let run = earlier ++ t ∷ later in
    let turns_run = subst (IsRun start) e (turns_are_run start lines listings) in
    let trail = trail_of start start [] earlier later t refl turns_run in
    let holds = holds_at table commits made cap' (reverse earlier) t.before trail.0 in
    let is = turn_of_run start earlier later t turns_run in
    let before : t.before ≡ state_at run start (length earlier) = ap (λ (u : Turn). u.before) is.1 in
    let counted = commits_make_the_table start lines listings (length earlier) in
    let table_now : (state_at run start (length earlier)).table ≡ table_before table earlier later t =
    subst (λ (r : List Turn). (state_at r start (length earlier)).table ≡ after_commits table r (commits_among (length earlier) (commit_marks r))) e counted.table in
    let count_now : (state_at run start (length earlier)).commits ≡ commits + commits_before earlier later t =
    subst (λ (r : List Turn). (state_at r start (length earlier)).commits ≡ commits + commits_among (length earlier) (commit_marks r)) e counted.commits in
    let table_is = ap (λ (s : State). s.table) before ∙ table_now in
    let count_is = ap (λ (s : State). s.commits) before ∙ count_now in
    let again = λ (committed : is_committed t.reply ≡ true) (cap : ℕ) (room : 4 * length (transaction t (reverse earlier)) ≤ cap).
    each_commit t.line trail.1.0 t (reverse earlier) refl (ap (λ (u : Turn). u.reply) trail.1.1) (ap (λ (u : Turn). u.after) trail.1.1) committed holds cap room in
    let opens : (cap : ℕ) → opened_alone t.before.table t.before.commits cap ≡ opened_alone (table_before table earlier later t) (commits + commits_before earlier later t) cap =
    λ cap. ap (λ (now : List Content). opened_alone now t.before.commits cap) table_is ∙ ap (λ (n : ℕ). opened_alone (table_before table earlier later t) n cap) count_is in
    record {
      whole = λ committed.
          subst (λ (past : List Turn). IsTransaction past t (transaction t (reverse earlier))) (reverse-reverse earlier)
          (each_whole t.line trail.1.0 t (reverse earlier) refl (ap (λ (u : Turn). u.reply) trail.1.1) committed holds);
      alone = λ committed cap room.
          subst (λ (s : State). replies (turns s (lines_of (transaction t (reverse earlier))) []) ≡ replies (transaction t (reverse earlier))) (opens cap)
          (again committed cap room).0;
      leaves = λ committed cap room.
          subst (λ (s : State). (left_by s (turns s (lines_of (transaction t (reverse earlier))) [])).table ≡ t.after.table) (opens cap) (again committed cap room).1
          ∙ table_after table commits made cap' lines listings earlier later t e committed;
      so_far = λ n active cap room.
          subst (λ (s : State). replies (turns s (lines_of (since_begin n (t ∷ reverse earlier))) []) ≡ replies (since_begin n (t ∷ reverse earlier)))
          (opens_after table commits made cap' lines listings earlier later t cap e)
          (answered_so_far n (t ∷ reverse earlier) t.after cap
          (holds_at table commits made cap' (t ∷ reverse earlier) t.after (trail.1.0, trail.1.1, refl, trail.0)) active room);
      get = gets_are_serial table commits made cap' lines listings earlier later t e;
    }
