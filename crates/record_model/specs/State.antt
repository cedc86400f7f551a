-- The record table, its sessions, and the budget of the log.
use Rattle.std.specs.Prelude.{ℕ, ◌+◌, ◌-◌, ◌*◌, ◌/◌, ◌==◌, Bool, true, not, ◌&&◌, ◌||◌, nat_le, min, max, List, [], ◌∷◌}
use Rattle.std.specs.Prelude.{length, fold, map, filter, flat_map, sum_by, find, filter_map, replicate, slice_index_or}
use Rattle.std.specs.Prelude.{slice_set, Option, Some, None, unwrap_or, if◌then◌else◌}
use Rattle.std.specs.List.{list_any, range_with_len}
use Rattle.std.specs.Option.{option_or}

-- what a record has: a value, or none
abbrev pub Content : Type 0
Content = Option (List ℕ)

-- a record's number, and what is written there
abbrev pub Write : Type 0
Write = ℕ × Content

-- an active session: how many log records were made before it, its writes that stand, the last one last, how many of
-- them stand in front of its mark, the record of each write that it ever made, dropped ones too, and the records that
-- it read
pub record Session : Type 0 where
  pub born : ℕ
  pub writes : List Write
  pub mark : ℕ
  pub wrote : List ℕ
  pub reads : List ℕ

-- the record database as one who types commands sees it; the last field says whether a page can be full
pub record State : Type 0 where
  pub table : List Content
  pub commits : ℕ
  pub sessions : List (Option Session)
  pub made : ℕ
  pub kept : ℕ
  pub cap : ℕ
  pub pages_fill : Bool

-- the sessions are numbered 0 to 7
abbrev pub session_count : ℕ
session_count = 8

-- A run begins with this table and this many commits, with no active session. So many log records count as made before
-- its first command, and it has so many blocks of the log to use.
abbrev pub opened : List Content → ℕ → ℕ → ℕ → State
opened table commits made cap = record {
  table = table;
  commits = commits;
  sessions = replicate session_count None;
  made = made;
  kept = 0;
  cap = cap;
  pages_fill = true;
}

-- what a record has in a table
abbrev pub content_at : List Content → ℕ → Content
content_at table number = slice_index_or table number None

-- a table after writes, the first of them first
abbrev pub table_with : List Content → List Write → List Content
table_with table [] = table
table_with table (write ∷ writes) = table_with (slice_set table write.0 write.1) writes

-- what the last of the writes on a record wrote there
abbrev pub last_write : List Write → ℕ → Option Content
last_write [] number = None
last_write (write ∷ writes) number =
    option_or (last_write writes number) (if write.0 == number then Some write.1 else None)

-- the session of a number, where it is active
abbrev pub session_at : State → ℕ → Option Session
session_at s n = slice_index_or s.sessions n None

-- the writes of a session that stand, none where it isn't active
abbrev pub writes_of : Option Session → List Write
writes_of None = []
writes_of (Some session) = session.writes

abbrev pub wrote_of : Option Session → List ℕ
wrote_of None = []
wrote_of (Some session) = session.wrote

abbrev pub reads_of : Option Session → List ℕ
reads_of None = []
reads_of (Some session) = session.reads

-- what a session sees at a record: its own last write that stands there, else the table's content
abbrev pub seen : State → ℕ → ℕ → Content
seen s n number = unwrap_or (last_write (writes_of (session_at s n)) number) (content_at s.table number)

-- whether a session has ever written a record, and whether it has read it
abbrev pub has_written : State → ℕ → ℕ → Bool
has_written s n number = list_any (λ wrote. wrote == number) (wrote_of (session_at s n))

abbrev pub has_read : State → ℕ → ℕ → Bool
has_read s n number = list_any (λ read. read == number) (reads_of (session_at s n))

-- whether a session is another one than the command's own, which has none where it comes from outside sessions
abbrev pub is_other : Option ℕ → ℕ → Bool
is_other None n = true
is_other (Some own) n = not (own == n)

-- the least other session that has written the record, and the least that has written or read it
abbrev pub busy_read : State → Option ℕ → ℕ → Option ℕ
busy_read s own number = find (λ n. is_other own n && has_written s n number) (range_with_len 0 session_count)

abbrev pub busy_write : State → Option ℕ → ℕ → Option ℕ
busy_write s own number = find (λ n. is_other own n
    && (has_written s n number || has_read s n number)) (range_with_len 0 session_count)

abbrev pub active_sessions : State → List Session
active_sessions s = filter_map (λ session. session) s.sessions

-- the log records that count against the cap, and those that the active sessions may still need
abbrev pub used : State → ℕ
used s = s.made - s.kept

abbrev pub owed : State → ℕ
owed s = sum_by (λ session. length session.writes + 1) (active_sessions s)

-- a checkpoint keeps the log records since the first active session began, and none where there is no active session
abbrev pub kept_by_checkpoint : State → ℕ
kept_by_checkpoint s = fold (λ least session. min least session.born) s.made (active_sessions s)

abbrev pub is_due : State → Bool
is_due s = nat_le (s.cap / 2) (used s)

-- Room in pages. A page has the values of 32 records, together at most so many octets.
abbrev pub page_room : ℕ
page_room = 3952

abbrev pub page_of : ℕ → ℕ
page_of number = number / 32

abbrev pub records_of : ℕ → List ℕ
records_of page = range_with_len (32 * page) 32

abbrev pub length_of : Content → ℕ
length_of None = 0
length_of (Some value) = length value

abbrev pub greatest : List ℕ → ℕ
greatest [] = 0
greatest (number ∷ numbers) = max number (greatest numbers)

-- the greatest length that the writes on a record have
abbrev pub longest_write : List Write → ℕ → ℕ
longest_write writes number = greatest (map (λ write. length_of write.1) (filter (λ write. write.0 == number) writes))

-- the writes of all active sessions that stand
abbrev pub standing_writes : State → List Write
standing_writes s = flat_map (λ session. session.writes) (active_sessions s)

-- the most octets that a record may come to have, whichever sessions commit, abort or go back: it may keep what the
-- table has there, or come to what any write that stands has
abbrev pub footprint : State → ℕ → ℕ
footprint s number = max (length_of (content_at s.table number)) (longest_write (standing_writes s) number)

-- the same, were this value written to one of the records
abbrev pub footprint_with : State → ℕ → List ℕ → ℕ → ℕ
footprint_with s written value number =
    if written == number then max (footprint s number) (length value) else footprint s number

-- what the records of a record's page may then come to need together
abbrev pub need : State → ℕ → List ℕ → ℕ
need s number value = sum_by (footprint_with s number value) (records_of (page_of number))
