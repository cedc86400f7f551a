-- What each command answers, and what it leaves.
use Rattle.std.specs.Prelude.{ℕ, ◌+◌, ◌-◌, Bool, true, false, not, ◌&&◌, ◌||◌, nat_lt, nat_le, min, List, [], ◌∷◌, ◌++◌}
use Rattle.std.specs.Prelude.{length, map, filter_map, take, drop, slice_set, Option, Some, None, option_map, is_none}
use Rattle.std.specs.Prelude.{is_some, unwrap_or, if◌then◌else◌}
use Rattle.std.specs.List.{range_with_len}
use Rattle.byte_fields.specs.declared.TheConstants.{VALUE_MAX}
use Rattle.record_model.specs.declared.words.Command.{Command}
use Rattle.record_model.specs.declared.words.Command.TheVariants.{Begin, Read, Write, Erase, Scan, Commit, Abort, Get}
use Rattle.record_model.specs.declared.words.Command.TheVariants.{Set, Checkpoint, Cache, Stat, Quit, Mark, Back}
use Rattle.record_model.specs.declared.words.Why.TheVariants.{BadSession, NoRecord, TooLong, BadMark}
use Rattle.record_model.specs.declared.words.Item.{Item}
use Rattle.record_model.specs.declared.words.CacheLine.{CacheLine}
use Rattle.record_model.specs.declared.words.Reply.{Reply}
use Rattle.record_model.specs.declared.words.Reply.TheVariants as reply
use Rattle.record_model.specs.State.{Content, Session, State, session_count, content_at, table_with, session_at}
use Rattle.record_model.specs.State.{writes_of, seen, busy_read, busy_write, active_sessions, used, owed}
use Rattle.record_model.specs.State.{kept_by_checkpoint, is_due, page_room, page_of, need}
use Rattle.record_model.specs.State as state

-- Tests. Each gives the reply that refuses the command, or none where it is passed.

abbrev pub refuse_if : Bool → Reply → Option Reply
refuse_if test answer = if test then Some answer else None

abbrev pub first_refusal : List (Option Reply) → Option Reply
first_refusal [] = None
first_refusal (Some answer ∷ tests) = Some answer
first_refusal (None ∷ tests) = first_refusal tests

abbrev pub wants_free : State → ℕ → Option Reply
wants_free s n = refuse_if (nat_le session_count n || is_some (session_at s n)) (reply.Refused BadSession)

abbrev pub wants_active : State → ℕ → Option Reply
wants_active s n = refuse_if (is_none (session_at s n)) (reply.Refused BadSession)

abbrev pub wants_record : State → ℕ → Option Reply
wants_record s number = refuse_if (nat_le (length s.table) number) (reply.Refused NoRecord)

abbrev pub wants_short : List ℕ → Option Reply
wants_short value = refuse_if (nat_lt VALUE_MAX (length value)) (reply.Refused TooLong)

-- where a session goes back to a number of standing writes, that many stand
abbrev pub wants_standing : State → ℕ → Option ℕ → Option Reply
wants_standing s n None = None
wants_standing s n (Some standing) =
    refuse_if (nat_lt (length (writes_of (session_at s n))) standing) (reply.Refused BadMark)

abbrev pub may_read : State → Option ℕ → ℕ → Option Reply
may_read s own number = option_map reply.Busy (busy_read s own number)

abbrev pub may_write : State → Option ℕ → ℕ → Option Reply
may_write s own number = option_map reply.Busy (busy_write s own number)

-- The reply of the first test that fails, in the order of the tests.
abbrev pub refusal : State → Command → Option Reply
refusal s (Begin n) = wants_free s n
refusal s (Read n number) = first_refusal (wants_active s n ∷ wants_record s number ∷ may_read s (Some n) number ∷ [])
refusal s (Write n number value) =
    first_refusal (wants_active s n ∷ wants_record s number ∷ wants_short value ∷ may_write s (Some n) number ∷ [])
refusal s (Erase n number) = first_refusal (wants_active s n ∷ wants_record s number ∷ may_write s (Some n) number ∷ [])
refusal s (Scan n number count) = first_refusal (wants_active s n ∷ wants_record s (number + count - 1)
    ∷ map (may_read s (Some n)) (range_with_len number count))
refusal s (Commit n) = wants_active s n
refusal s (Abort n) = wants_active s n
refusal s (Mark n) = wants_active s n
refusal s (Back n standing) = first_refusal (wants_active s n ∷ wants_standing s n standing ∷ [])
refusal s (Get number) = first_refusal (wants_record s number ∷ may_read s None number ∷ [])
refusal s (Set number value) = first_refusal (wants_record s number ∷ wants_short value ∷ may_write s None number ∷ [])
refusal s Checkpoint = None
refusal s Cache = None
refusal s Stat = None
refusal s Quit = None

-- The log's budget. A begin and a set make a checkpoint first where it is due, and the command itself makes one.

abbrev pub asks_for_checkpoint : State → Command → Bool
asks_for_checkpoint s (Begin n) = is_due s
asks_for_checkpoint s (Read n number) = false
asks_for_checkpoint s (Write n number value) = false
asks_for_checkpoint s (Erase n number) = false
asks_for_checkpoint s (Scan n number count) = false
asks_for_checkpoint s (Commit n) = false
asks_for_checkpoint s (Abort n) = false
asks_for_checkpoint s (Mark n) = false
asks_for_checkpoint s (Back n standing) = false
asks_for_checkpoint s (Get number) = false
asks_for_checkpoint s (Set number value) = is_due s
asks_for_checkpoint s Checkpoint = true
asks_for_checkpoint s Cache = false
asks_for_checkpoint s Stat = false
asks_for_checkpoint s Quit = false

-- the state in which a command that its tests let through is carried out
abbrev pub ready : State → Command → State
ready s command = record s { kept = if asks_for_checkpoint s command then kept_by_checkpoint s else s.kept }

-- whether the cap has no room for the log records that a command may come to need
abbrev pub lacks_room : State → Command → Bool
lacks_room s (Begin n) = nat_lt s.cap (used s + owed s + 2)
lacks_room s (Read n number) = false
lacks_room s (Write n number value) = nat_lt s.cap (used s + owed s + 2)
lacks_room s (Erase n number) = nat_lt s.cap (used s + owed s + 2)
lacks_room s (Scan n number count) = false
lacks_room s (Commit n) = false
lacks_room s (Abort n) = false
lacks_room s (Mark n) = false
lacks_room s (Back n standing) = false
lacks_room s (Get number) = false
lacks_room s (Set number value) = nat_lt s.cap (used s + owed s + 4)
lacks_room s Checkpoint = false
lacks_room s Cache = false
lacks_room s Stat = false
lacks_room s Quit = false

abbrev pub full : State → Reply
full s = reply.Full (used s) (owed s) s.cap

-- The room in pages: the reply to a write whose page may come to have no room for it, or none where it has.

abbrev pub wants_page_room : State → ℕ → List ℕ → Option Reply
wants_page_room s number value = refuse_if (s.pages_fill && nat_lt page_room (need s number value))
    (reply.PageFull (page_of number) (need s number value))

abbrev pub fills_page : State → Command → Option Reply
fills_page s (Begin n) = None
fills_page s (Read n number) = None
fills_page s (Write n number value) = wants_page_room s number value
fills_page s (Erase n number) = None
fills_page s (Scan n number count) = None
fills_page s (Commit n) = None
fills_page s (Abort n) = None
fills_page s (Mark n) = None
fills_page s (Back n standing) = None
fills_page s (Get number) = None
fills_page s (Set number value) = wants_page_room s number value
fills_page s Checkpoint = None
fills_page s Cache = None
fills_page s Stat = None
fills_page s Quit = None

-- whether a command makes a checkpoint, whether its page is tested, being the last test, and whether it is carried out
abbrev pub makes_checkpoint : State → Command → Bool
makes_checkpoint s command = asks_for_checkpoint s command && is_none (refusal s command)

abbrev pub comes_to_page : State → Command → Bool
comes_to_page s command = is_none (refusal s command) && not (lacks_room (ready s command) command)

abbrev pub is_accepted : State → Command → Bool
is_accepted s command = comes_to_page s command && is_none (fills_page (ready s command) command)

abbrev pub is_page_full : State → Command → Bool
is_page_full s command = comes_to_page s command && is_some (fills_page (ready s command) command)

-- What an accepted command leaves.

abbrev pub making : ℕ → State → State
making count s = record s { made = s.made + count }

abbrev pub with_session : State → ℕ → Option Session → State
with_session s n session = record s { sessions = slice_set s.sessions n session }

abbrev pub having_read : List ℕ → Session → Session
having_read numbers session = record session { reads = session.reads ++ numbers }

abbrev pub having_written : state.Write → Session → Session
having_written write session =
    record session { writes = session.writes ++ write ∷ []; wrote = session.wrote ++ write.0 ∷ [] }

abbrev pub having_marked : Session → Session
having_marked session = record session { mark = length session.writes }

-- how many writes a session keeps where it goes back, those that it drops, and what is left of it
abbrev pub left_standing : Option ℕ → Session → ℕ
left_standing standing session = unwrap_or standing session.mark

abbrev pub dropped : Option ℕ → Option Session → List state.Write
dropped standing None = []
dropped standing (Some session) = drop (left_standing standing session) session.writes

abbrev pub going_back : Option ℕ → Session → Session
going_back standing session = record session {
  writes = take (left_standing standing session) session.writes;
  mark = min session.mark (left_standing standing session);
}

abbrev pub committed : State → List state.Write → State
committed s writes = record s { table = table_with s.table writes; commits = s.commits + 1 }

abbrev pub effect : State → Command → State
effect s (Begin n) = making 1 (with_session s n (Some (
    record { born = s.made; writes = []; mark = 0; wrote = []; reads = [] })))
effect s (Read n number) = with_session s n (option_map (having_read (number ∷ [])) (session_at s n))
effect s (Write n number value) =
    making 1 (with_session s n (option_map (having_written (number, Some value)) (session_at s n)))
effect s (Erase n number) = making 1 (with_session s n (option_map (having_written (number, None)) (session_at s n)))
effect s (Scan n number count) =
    with_session s n (option_map (having_read (range_with_len number count)) (session_at s n))
effect s (Commit n) = making 1 (with_session (committed s (writes_of (session_at s n))) n None)
effect s (Abort n) = making (length (writes_of (session_at s n)) + 1) (with_session s n None)
effect s (Mark n) = with_session s n (option_map having_marked (session_at s n))
effect s (Back n standing) = making (length (dropped standing (session_at s n)))
    (with_session s n (option_map (going_back standing) (session_at s n)))
effect s (Get number) = s
effect s (Set number value) = making 3 (committed s ((number, Some value) ∷ []))
effect s Checkpoint = s
effect s Cache = s
effect s Stat = s
effect s Quit = s

-- What an accepted command answers.

abbrev pub found : Content → Reply
found None = reply.Nothing
found (Some value) = reply.Value value

abbrev pub item : (ℕ → Content) → ℕ → Option Item
item view number = option_map (λ value. record { number = number; value = value }) (view number)

abbrev pub answer : State → Command → List CacheLine → Reply
answer s (Begin n) listing = reply.Done
answer s (Read n number) listing = found (seen s n number)
answer s (Write n number value) listing = reply.Done
answer s (Erase n number) listing = reply.Done
answer s (Scan n number count) listing = reply.Items (filter_map (item (seen s n)) (range_with_len number count))
answer s (Commit n) listing = reply.Committed (s.commits + 1)
answer s (Abort n) listing = reply.Aborted
answer s (Mark n) listing = reply.Done
answer s (Back n standing) listing = reply.Back (length (dropped standing (session_at s n)))
answer s (Get number) listing = found (content_at s.table number)
answer s (Set number value) listing = reply.Committed (s.commits + 1)
answer s Checkpoint listing = reply.Checked
answer s Cache listing = reply.Listing listing
answer s Stat listing = reply.Stat (
    record { commits = s.commits; used = used s; owed = owed s; cap = s.cap; active = length (active_sessions s) })
answer s Quit listing = reply.Bye

-- The step.

pub record Outcome : Type 0 where
  pub after : State
  pub reply : Reply

-- a command for which the log has room, with what the test of its page gives
abbrev pub carried_through : State → Command → List CacheLine → Option Reply → Outcome
carried_through s command listing (Some refused) = record { after = s; reply = refused }
carried_through s command listing None = record { after = effect s command; reply = answer s command listing }

-- a command that its tests let through
abbrev pub carried_out : State → Command → List CacheLine → Outcome
carried_out s command listing = if lacks_room s command then record { after = s; reply = full s }
    else carried_through s command listing (fills_page s command)

abbrev pub outcome : State → Command → List CacheLine → Option Reply → Outcome
outcome s command listing (Some refused) = record { after = s; reply = refused }
outcome s command listing None = carried_out (ready s command) command listing

-- What a command answers, and the state that it leaves, with this listing of the cache.
abbrev pub step : State → Command → List CacheLine → Outcome
step s command listing = outcome s command listing (refusal s command)
