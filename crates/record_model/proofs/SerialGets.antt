-- What a get outside sessions answers: one part of serial order.
use Rattle.record_model.proofs.Citing.{◌≡◌, ℕ, List, [], ◌∷◌, ◌++◌, length, ap, sym, ◌∙◌, subst, and_parts, IsTrue, Line, Turn, turn, state_at, after_commits, commits_among, commit_marks, GetsAreSerial, table_before, Content, State, opened, content_at, step, outcome, refusal, found, is_accepted, CacheLine, Get, none_if_is_none}
use Rattle.record_model.proofs.RunLaws.{IsRun, turns_are_run, commits_make_the_table}

-- a turn of a run is one of the state before it
pub turn_of_run : (s : State) (earlier later : List Turn) (t : Turn) → IsRun s (earlier ++ t ∷ later) →
    (listing : List CacheLine) × (t ≡ turn (state_at (earlier ++ t ∷ later) s (length earlier)) t.line listing)
turn_of_run s [] later t is = (is.0, is.1)
turn_of_run s (u ∷ earlier) later t is = turn_of_run u.after earlier later t is.2

get_answers : (s : State) (number : ℕ) (listing : List CacheLine) → IsTrue (is_accepted s (Get number)) →
    (step s (Get number) listing).reply ≡ found (content_at s.table number)
get_answers s number listing h =
    ap (λ r. (outcome s (Get number) listing r).reply) (none_if_is_none (refusal s (Get number)) (and_parts _ _ (and_parts _ _ h).0).0)

pub gets_are_serial : GetsAreSerial
gets_are_serial table commits made cap lines listings earlier later t e number line accepted =
    let start = opened table commits made cap in
    let run = earlier ++ t ∷ later in
    let is = turn_of_run start earlier later t (subst (IsRun start) e (turns_are_run start lines listings)) in
    let before : t.before ≡ state_at run start (length earlier) = ap (λ (u : Turn). u.before) is.1 in
    let now : (state_at run start (length earlier)).table ≡ table_before table earlier later t =
    subst (λ (r : List Turn). (state_at r start (length earlier)).table ≡ after_commits table r (commits_among (length earlier) (commit_marks r))) e
    (commits_make_the_table start lines listings (length earlier)).table in
    ap (λ (u : Turn). u.reply) is.1
    ∙ ap (λ (s : State). (turn s t.line is.0).reply) (sym before)
    ∙ ap (λ (l : Line). (turn t.before l is.0).reply) line
    ∙ get_answers t.before number is.0 accepted
    ∙ ap (λ (s : State). found (content_at s.table number)) before
    ∙ ap (λ (table : List Content). found (content_at table number)) now
