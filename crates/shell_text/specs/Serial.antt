-- Serial order, for one who sees the lines that are typed and what they are told.
use Rattle.std.specs.Prelude.{◌≡◌, ℕ, ◌+◌, ◌*◌, ◌≤◌, Bool, false, not, ◌&&◌, ◌||◌, List, [], ◌∷◌, ◌++◌, length, map}
use Rattle.std.specs.Prelude.{reverse, codes, nat_eq, Option, Some, None, is_some, IsTrue, if◌then◌else◌}
use Rattle.std.specs.List.{starts_with}
use Rattle.record_model.specs.declared.words.Command.TheVariants.{Get}
use Rattle.record_model.specs.declared.words.CacheLine.{CacheLine}
use Rattle.record_model.specs.State.{Content, State, opened, content_at, session_at}
use Rattle.record_model.specs.Step.{found}
use Rattle.record_model.specs.Run.{Line, Turn, turns, is_committed, commit_marks, commits_among, after_commits}
use Rattle.record_model.specs.Serial.{is_session, is_begin_line, line_session, commits_before, table_before}
use Rattle.record_model.specs.Serial.{opened_alone}
use Rattle.shell_text.specs.Texts.{open_text, reply_text}
use Rattle.shell_text.specs.Runs.{texts}

-- a line, and the text that it is told
abbrev pub Exchange : Type 0
Exchange = Line × List ℕ

abbrev pub exchange : Turn → Exchange
exchange t = (t.line, reply_text t.reply)

abbrev pub line_of_exchange : Exchange → Line
line_of_exchange e = e.0

abbrev pub text_of_exchange : Exchange → List ℕ
text_of_exchange e = e.1

-- whether a text says that the command wasn't carried out, and whether it says that it committed
abbrev pub says_refused : List ℕ → Bool
says_refused text =
    starts_with nat_eq text (codes "busy ")
    || (starts_with nat_eq text (codes "full ") || starts_with nat_eq text (codes "refused "))

abbrev pub says_committed : List ℕ → Bool
says_committed text = starts_with nat_eq text (codes "committed ")

-- a command of the session that was carried out
abbrev pub is_carried_out : ℕ → Exchange → Bool
is_carried_out n e = is_session n (line_session e.0) && not (says_refused e.1)

-- what was carried out of a session since its last begin, the first of it first; of the exchanges given the last comes
-- first
abbrev pub carried_out_since : ℕ → List Exchange → List Exchange
carried_out_since n [] = []
carried_out_since n (e ∷ earlier) =
    if is_carried_out n e
    then (if is_begin_line e.0 then [] else carried_out_since n earlier) ++ e ∷ []
    else carried_out_since n earlier

abbrev pub carried_out_by : Option ℕ → Exchange → List Exchange → List Exchange
carried_out_by None e earlier = e ∷ []
carried_out_by (Some n) e earlier = carried_out_since n (e ∷ earlier)

-- the transaction that an exchange commits: what was carried out of its session since the begin, or the exchange alone
-- where it has no session
abbrev pub told_transaction : Exchange → List Exchange → List Exchange
told_transaction e earlier = carried_out_by (line_session e.0) e earlier

abbrev pub texts_of : List Turn → List (List ℕ)
texts_of run = map (λ t. reply_text t.reply) run

-- A run of the lines of a commit's transaction alone, on the table of the commits before it and with room enough in the
-- log and in pages, tells its opening and then, line by line, what they were told among the others.
abbrev pub ToldAlone : State → List Turn → List Turn → Turn → Type 0
ToldAlone opening earlier later t =
    let own = told_transaction (exchange t) (map exchange (reverse earlier)) in
    IsTrue (says_committed (reply_text t.reply)) → (cap : ℕ) → 4 * length own ≤ cap →
    let count = opening.commits + commits_before earlier later t in
    let alone = opened_alone (table_before opening.table earlier later t) count cap in
    texts alone (map line_of_exchange own) [] ≡ open_text alone.commits ∷ map text_of_exchange own

-- what was carried out of a session that is active behind a turn was told so far what it is told alone, on the table of
-- that moment
abbrev pub ToldSoFar : State → List Turn → List Turn → Turn → Type 0
ToldSoFar opening earlier later t =
    (n : ℕ) → IsTrue (is_some (session_at t.after n)) → (cap : ℕ) →
    let own = carried_out_since n (exchange t ∷ map exchange (reverse earlier)) in
    4 * length own ≤ cap →
    let marks = commit_marks (earlier ++ t ∷ later) in
    let made = commits_among (length earlier + 1) marks in
    let alone = opened_alone (after_commits opening.table (earlier ++ t ∷ later) made) (opening.commits + made) cap in
    texts alone (map line_of_exchange own) [] ≡ open_text alone.commits ∷ map text_of_exchange own

-- a get that isn't refused tells what the table of the commits before it has
abbrev pub GetIsTold : State → List Turn → List Turn → Turn → Type 0
GetIsTold opening earlier later t =
    (number : ℕ) → t.line ≡ Some (Get number) → says_refused (reply_text t.reply) ≡ false →
    reply_text t.reply ≡ reply_text (found (content_at (table_before opening.table earlier later t) number))

-- serial order at a turn of a run with these texts
pub record IsToldSerial (opening : State) (told : List (List ℕ)) (earlier later : List Turn)
    (t : Turn) :
    Type 0 where
  -- its text is told behind the opening's and those of the turns before it
  pub place : told ≡ (open_text opening.commits ∷ texts_of earlier) ++ reply_text t.reply ∷ texts_of later
  -- and says whether it is a commit
  pub commits : says_committed (reply_text t.reply) ≡ is_committed t.reply
  pub alone : ToldAlone opening earlier later t
  pub so_far : ToldSoFar opening earlier later t
  pub get : GetIsTold opening earlier later t

-- serial order of what each run tells
abbrev pub SerialIsTold : Type 0
SerialIsTold =
    (table : List Content) (commits made cap : ℕ) →
    (lines : List Line) (listings : List (List CacheLine)) (earlier later : List Turn) (t : Turn) →
    let opening = opened table commits made cap in
    turns opening lines listings ≡ earlier ++ t ∷ later →
    IsToldSerial opening (texts opening lines listings) earlier later t
